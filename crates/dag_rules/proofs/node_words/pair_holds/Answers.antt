-- `row::pair_holds` meets its contract: the words are those of a parameter, or 0. Assumes nothing.
use mathlib.Core.Path.{sym}
use Rattle.job.proofs.Both.{both_is, either_is}
use Rattle.dag_rules.proofs.NodeWords.{pair-named, pair-unnamed}
use Rattle.dag_rules.proofs.node_words.pair_holds.Goals as goal

pub returns-then-named : goal.returns-then-named
returns-then-named c = rw (c.if-named.true, both_is, either_is) (sym (pair-named _ _ c.ranges.word.fits))

pub returns : goal.returns
returns c = rw (c.if-named.false, both_is) (sym (pair-unnamed _ _))
