-- A clock move, accepted or not, leaves each token of the queue as it is and at its position: only tokens that are due later wake, and they
-- go to the back. Assumes nothing.
use mathlib.Core.Path.{◌≡◌, refl, ◌∙◌, ap}
use mathlib.Core.Bool.{true, false}
use mathlib.Core.List.{map}
use Prim.Native.Nat.{ℕ, ◌<◌}
use Rattle.job.specs.Node.{Dag}
use Rattle.model.specs.Machine.Limits.{Limits}
use Rattle.model.specs.Machine.State.{is_ready, is_due_by}
use Rattle.model.specs.Machine.Reply.{moves}
use Rattle.model.specs.Machine.Update.{with_tables, queue_of, waits_of}
use Rattle.model.specs.Machine.Clock.{woken_by, joining, staying, after_advance, advance}
use Rattle.model.specs.Run.Follow.{Stands}
use Rattle.model.specs.declared.token.State.{State}
use Rattle.model.specs.declared.token.State.TheVariants as states
use Rattle.model.specs.declared.token.Token.{Token}
use Rattle.model.specs.declared.record.Machine.{Machine}
use Rattle.job.proofs.Test.{clash}
use Rattle.model.proofs.Machine.Refused.{After, outcome-refused, advance-accepted}
use Rattle.model.proofs.Machine.Clock.{woken-at}
use Rattle.model.proofs.Run.Bystander.{Untouched, untouched-joined, untouched-timers, untouched-clock, queued-untouched}
use Rattle.model.proofs.Run.Bystander.{call-stands}

-- a ready token is not due
ready-not-due : (time : ℕ) (s : State) → is_ready s ≡ true → is_due_by time s ≡ false
unfolding is_ready is_due_by
ready-not-due time states.Blank e = refl
ready-not-due time states.Ready e = refl
ready-not-due time (states.Waiting c) e = refl
ready-not-due time (states.Called h) e = refl
ready-not-due time (states.Due d) e = clash e refl
ready-not-due time states.Frame e = refl

ready-not-woken : (time : ℕ) (t : Token) → is_ready t.state ≡ true → woken_by time t ≡ t
unfolding woken_by
ready-not-woken time t r = rw (ready-not-due time t.state r, woken_by)

module _ (time : ℕ) {u : Token} {p k : ℕ} (ready : is_ready u.state ≡ true) where
  untouched-woken : (m : Machine) → Untouched u p k m → Untouched u p k (with_tables (map (woken_by time) m.tokens) m.cells m)
  unfolding with_tables queue_of
  untouched-woken m h =
      record {
        queued = h.queued;
        place = h.place;
        unharmed =
            record {
              token = woken-at time m.tokens p ∙ (ap (woken_by time) h.unharmed.token ∙ ready-not-woken time u ready);
              clear = h.unharmed.clear;
            };
      }

  untouched-advanced : (m : Machine) → Untouched u p k m → After (Untouched u p k) (moves (after_advance m time))
  unfolding After after_advance with_tables queue_of
  untouched-advanced m h =
      untouched-clock time _ (untouched-timers (staying m time) _ (untouched-joined (joining m time) (waits_of m) _ (untouched-woken m h)))

pub advance-stands :
    (lim : Limits) (d : Dag) (m : Machine) (time k : ℕ)
    → k < m.queued
    → Stands m k (advance lim d m time).machine k
advance-stands lim d m time k l =
    call-stands lim d m k (advance lim d m time) (moves (after_advance m time)) l
    (λ e. unfold advance in outcome-refused m _ e)
    (λ ok. let a = advance-accepted lim d m time ok in (a.holds, a.does))
    (λ h. untouched-advanced time (h.ready k l) m (queued-untouched m h k l))
