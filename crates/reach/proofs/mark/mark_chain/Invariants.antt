use mathlib.Core.Path.{◌≡◌}
use mathlib.Core.List.{List}
use Prim.Native.Nat.{ℕ, ◌-◌, ◌<◌}
use lib.ListN.{get_or}
use Rattle.model.specs.Machine.InUse.{mark_chain}
use Rattle.model.specs.Machine.Held.{Place}
use Rattle.record.specs.Layout.{place_number}
use Rattle.record.specs.LayoutDecoded.{place_from}
use Rattle.reach.proofs.mark.mark_chain.Given as goal

abbrev pub invariant-loop : goal.invariant-loop
invariant-loop g l = (links : List Place) (end : Place)
    → ((p r : ℕ) → p < l.end → goal.L-post g l.link p r → r ≡ place_number (get_or links p end))
    → mark_chain (λ (q : Place). q) end links l.end (place_from l.start) l.initial.marks
    ≡ mark_chain (λ (q : Place). q) end links (l.end - l.counter) (place_from l.q) l.marks
