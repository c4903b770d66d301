-- A record that comes back: a call that is accepted and hands back the record that it was given can be made any number of times; and where
-- it is a house step that prints nothing, `orcrun` makes it up to the limit. By induction over the number of calls. Assumes nothing.
use mathlib.Core.Path.{◌≡◌, refl, ◌∙◌}
use mathlib.Core.Bool.{true, false}
use mathlib.Core.List.{List, [], ◌∷◌}
use Prim.Native.Nat.{ℕ, zero, suc, ◌+◌, ◌-◌, ◌<◌}
use native.Mathlib.Omega.{arith}
use lib.ListN.{length, replicate}
use lib.Dec.{ltb}
use Rattle.job.specs.Node.{Dag}
use Rattle.model.specs.Machine.Limits.{Limits}
use Rattle.model.specs.Machine.Reply.{is_refused}
use Rattle.model.specs.Machine.Step.{step}
use Rattle.model.specs.Output.Line.{end, limit}
use Rattle.model.specs.Output.Orcrun.{Standing, reported_lines, turn_lines, run_lines}
use Rattle.model.specs.Run.Call.{Call, runner, outcome_of, machine_after, none_refused, started}
use Rattle.model.specs.declared.record.Machine.{Machine}
use Rattle.job.proofs.Test.{ltb-lt}
use Rattle.model.proofs.Run.Printing.{turn-limit, turn_step}

module _ (lim : Limits) (d : Dag) where
  -- the call is accepted and hands back the record that it was given
  pub record ComesBack (m : Machine) (c : Call) : Type 0 where
    pub accepted : is_refused (outcome_of runner lim d m c).reply ≡ false
    pub same : (outcome_of runner lim d m c).machine ≡ m

  module _ {m : Machine} {c : Call} (back : ComesBack m c) where
    -- so does any number of such calls, none of them refused
    pub comes_back : (n : ℕ) → machine_after runner lim d m (replicate n c) ≡ m
    unfolding machine_after
    comes_back zero = refl
    comes_back (suc n) = rw (machine_after, back.same) (comes_back n)

    pub none-refused : (n : ℕ) → none_refused runner lim d m (replicate n c) ≡ true
    unfolding none_refused
    none-refused zero = refl
    none-refused (suc n) = rw (back.accepted, none_refused, back.same) (none-refused n)

  -- a token is ready, and the house step is accepted, prints nothing and hands back this record
  pub record QuietStep (m after : Machine) : Type 0 where
    pub ready : ltb 0 m.queued ≡ true
    pub accepted : is_refused (step lim d m 0).reply ≡ false
    pub quiet : reported_lines (step lim d m 0).reply (step lim d m 0).values ≡ []
    pub hands : (step lim d m 0).machine ≡ after

  module _ (most : ℕ) (rest : List ℕ) where
    -- where a run stands, after so many steps
    abbrev standing : Machine → (steps : ℕ) → Standing
    standing m s = record { machine = m; steps = s; rest = rest }

    -- it is one turn of a run below the limit
    quiet-turn : {m after : Machine} → QuietStep m after → (s fuel : ℕ) → s < most
        → turn_lines lim most d (suc fuel) (standing m s) ≡ turn_lines lim most d fuel (standing after (suc s))
    unfolding turn_lines
    quiet-turn {m} q s fuel l =
        let r = ltb-lt 0 m.queued q.ready in
        rw (turn_step lim most d (standing m s) (λ e. omega arith) l q.accepted, turn_lines, q.quiet, q.hands) refl

    -- "with 100,000 steps made and a token ready: `limit`, then `end`": there are k steps to go, and as many turns and one
    pub loops : {m : Machine} → QuietStep m m → (k s fuel : ℕ) → s + k ≡ most → k < fuel
        → turn_lines lim most d fuel (standing m s) ≡ limit ∷ end most ∷ []
    unfolding turn_lines
    loops q k s zero e l = absurd (omega arith)
    loops {m} q zero s (suc fuel) e l =
        let r = ltb-lt 0 m.queued q.ready in
        let z : s ≡ most = omega arith in
        rw (turn-limit lim most d (standing m s) (λ e. omega arith) (omega arith), turn_lines, z) refl
    loops q (suc k) s (suc fuel) e l =
        quiet-turn q s fuel (omega arith) ∙ loops q k (suc s) fuel (omega arith) (omega arith)

    -- a run whose record comes back after its first step
    pub run-loops : {m : Machine} → QuietStep (started runner lim d) m → QuietStep m m → 0 < most
        → run_lines lim most d rest ≡ limit ∷ end most ∷ []
    unfolding run_lines
    run-loops {m} first back l =
        let z : most + length rest + 1 ≡ suc (most + length rest) = omega arith in
        rw z (quiet-turn first 0 (most + length rest) l ∙ loops back (most - 1) 1 (most + length rest) (omega arith) (omega arith))
