-- `frame::is_caller` meets its contract: the search passes only tokens that have another caller. Assumes nothing.
use mathlib.Core.Path.{refl}
use native.Mathlib.Omega.{arith}
use borrow.Author.Rules.{rules}
use Rattle.acts.specs.SharedFrames.{NamesAsCaller}
use Rattle.std.proofs.Common.{tests}
use Rattle.std.proofs.lemmas.Iterator.{cases_from_any, YieldsList-from_range}
use Rattle.returns.proofs.FrameCallers.{searched, place_of, not-place}
use Rattle.returns.proofs.frame.is_caller.Goals as goal

pub returns : goal.returns
returns c = λ m h.
    let f = c.args.f in
    searched m f 64 _ (omega (arith, h.shaped.tokens))
    (cases_from_any _ _ _ (NamesAsCaller m f) (λ i. NamesAsCaller m f i → ⊥) c.any.ensures.ran (YieldsList-from_range 0 64 64 refl refl)
    (λ x q k. search (rules, tests, place_of)) (λ x q k. (search (rules, tests), search (rules, tests, not-place))))
