use mathlib.Core.Path.{◌≡◌}
use mathlib.Core.List.{List, map}
use lib.ListN.{length}
use lib.Seq.{paste}
use Rattle.model.specs.Machine.Update.{put}
use Rattle.model.specs.declared.record.Machine.{Machine}
use Rattle.model.specs.declared.token.Slot.{Slot}
use Rattle.model.specs.declared.token.Token.{Token}
use Rattle.record.specs.Changes.{with_binds}
use Rattle.record.specs.Holds.{Holds}
use Rattle.record.specs.Layout.{slot_words}
use Rattle.tail_writes.proofs.passing.bind_slots.Given as goal

abbrev pub invariant-loop-x : goal.invariant-loop-x
invariant-loop-x l = (m : Machine) (t : Token) (bs : List Slot) → Holds l.initial.w (put l.p t m) → length bs ≡ 8
    → l.slots ≡ map slot_words bs → Holds l.w (put l.p (with_binds (paste t.binds 0 bs l.x) t) m)
