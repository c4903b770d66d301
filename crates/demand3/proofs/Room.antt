-- With room for a token, a cell and a call, a step that takes a token of the queue is not refused: the tests of the instruction table hold,
-- and by the index rules the token has what its node asks for. Assumes nothing.
use mathlib.Core.Path.{◌≡◌, refl}
use mathlib.Core.Bool.{true, false}
use Prim.Native.Nat.{ℕ, ◌<◌}
use native.Mathlib.Omega.{arith}
use Rattle.job.specs.Node.{Dag}
use Rattle.model.specs.Machine.Limits.{Limits}
use Rattle.model.specs.Machine.Reply.{Effect, moves, waits, publishes, calls, refuses, accepted, outcome, is_refused}
use Rattle.model.specs.Machine.Rules.{rules_hold}
use Rattle.model.specs.Machine.Step.{has_token_place, has_cell_place, takes}
use Rattle.model.specs.declared.record.Machine.{Machine}
use Rattle.job.proofs.Test.{clash}
use Rattle.demand3.proofs.RefusesOnly.{RefusesOnly, takes-only}
use Rattle.demand3.proofs.NotRule.{lacks-nothing}

pub record Room (lim : Limits) (d : Dag) (m : Machine) : Type 0 where
  pub tokens : has_token_place lim m ≡ true
  pub cells : has_cell_place lim m ≡ true
  pub calls : m.calls < lim.calls

abbrev pub Accepted : Machine → Effect → Type 0
Accepted before e = is_refused (outcome before e).reply ≡ false

-- what no test refuses is accepted
none-refused : (before : Machine) (e : Effect) → RefusesOnly (λ r. ⊥) e → Accepted before e
unfolding RefusesOnly outcome accepted is_refused
none-refused before (moves m) x = refl
none-refused before (waits m) x = refl
none-refused before (publishes v m) x = refl
none-refused before (calls h s vs m) x = refl
none-refused before (refuses n) x = absurd x

pub takes-accepted : (lim : Limits) (d : Dag) (m : Machine) → Room lim d m → rules_hold lim d m ≡ true → (k : ℕ) → k < m.queued
    → Accepted m (takes lim d m k)
takes-accepted lim d m room holds k l =
    none-refused m _
    (takes-only (λ r. ⊥) lim d m k
    (record {
      token = λ full a. clash room.tokens full;
      cell = λ full a. clash room.cells full;
      call = λ full. let z : m.calls < lim.calls = room.calls in omega arith;
      rule = lacks-nothing lim d m holds k l;
    }))
