-- The fold says whether the number is none of them.
use Rattle.std.proofs.Common.{◌∙◌, ◌&&◌, true, not, eqb, rules, tests}
use Rattle.std.proofs.lemmas.Iterator.{YieldsList-from_slice}
use Rattle.std.proofs.lemmas.Iterator.Consumers.{fold_from_yields_List}
use Rattle.job.proofs.Loop.{all-folded}
use Rattle.rules.proofs.handles.is_new.Goals as goal

pub returns : goal.returns
returns c =
    fold_from_yields_List _ (λ ok h. ok && not (eqb h c.args.handle)) true c.fold.result c.fold.ensures.ran
    (YieldsList-from_slice c.args.before.now c.iter.ensures.rest) (λ ok x b q k. search (rules, tests))
    ∙ all-folded (λ h. not (eqb h c.args.handle)) c.args.before.now
