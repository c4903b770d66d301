-- `sweep::keep_tokens` meets its contract: the stages are the tables of which the first rows are kept or blank. Assumes nothing.
use mathlib.Core.Bool.{true, false}
use mathlib.Core.Path.{subst, ◌∙◌}
use native.Mathlib.Omega.{arith}
use borrow.Author.Rules.{rules}
use Rattle.job.proofs.Lists.{get_d_any}
use Rattle.model.specs.Machine.Blank.{blank_token}
use Rattle.model.specs.Machine.Update.{put}
use Rattle.record.specs.Holds.{Holds}
use Rattle.sweep.proofs.SweepLaws.{tokens_kept, tokens-first, tokens-keep, tokens-idle, tokens-blank, tokens-last}
use Rattle.sweep.proofs.sweep.keep_tokens.Goals as goal

pub returns : goal.returns
returns c = λ m h v.
    let marks = c.args.marks.now in
    let used = c.args.used.now in
    let long = h.codes.shaped.tokens in
    subst (Holds _)
    (tokens-last used m c.args.end c.requires.1 long c.requires.2 (λ i from to. v i to (c.requires.3 i from to)))
    (c.keep_rows.ensures (tokens_kept used m) (subst (Holds _) (tokens-first used m) h)
    (λ p l e. tokens-keep used m p c.requires.1 long (omega arith) e)
    (λ p l e. tokens-idle used m p c.requires.1 long (omega arith) (v p (omega arith) (get_d_any marks p true false (omega arith) ∙ e)))
    (λ p x y l e k post.
    let after : Holds y.now (put p blank_token (tokens_kept used m p)) = search rules in
    subst (Holds y.now) (tokens-blank used m p c.requires.1 long (omega arith) e) after))
