-- The turns of a run: what each is, by the tests that lead to it. By the definition, test by test. Assumes nothing.
use mathlib.Core.Path.{◌≡◌, refl, sym, ◌∙◌, ap}
use mathlib.Core.Bool.{Bool, true, false}
use mathlib.Core.List.{List, [], ◌∷◌, ◌++◌}
use Prim.Native.Nat.{ℕ, suc, ◌+◌, ◌-◌, ◌<◌, ◌≤◌}
use native.Mathlib.Omega.{arith}
use lib.ListN.{length, take, drop, length-drop}
use lib.Seq.{drop-drop}
use lib.Dec.{eqb}
use Rattle.job.specs.Number.{number}
use Rattle.job.specs.Node.{Dag}
use Rattle.model.specs.Output.Line.{end, limit, short}
use Rattle.model.specs.Output.Orcrun.{Standing, Turn, on, over, delivered, step_turn, deliver_turn, last_turn, turn}
use Rattle.model.specs.Machine.Limits.{paper}
use Rattle.model.specs.Machine.Reply.{is_refused}
use Rattle.model.specs.Machine.Step as Step
use Rattle.model.specs.declared.record.Machine.{Machine}
use Rattle.model.specs.declared.reply.Outcome.{Outcome}
use Rattle.job.proofs.Test.{eq-eqb, ne_eqb, lt-ltb, le-not-ltb, le-leb, lt-not-leb}
use Rattle.lines.specs.LastLines.{last_lines}
use Rattle.house.specs.TurnLeaves.{lines_from}

-- where a run stands with the records from `at` on not delivered
abbrev pub standing : (rest : List ℕ) → Machine → (steps at : ℕ) → Standing
standing rest m steps at = record { machine = m; steps = steps; rest = drop at rest }

module _ (d : Dag) (rest : List ℕ) (m : Machine) (steps at : ℕ) where
  abbrev s : Standing
  s = standing rest m steps at

  left : length (drop at rest) ≡ length rest - at
  left = length-drop at rest

  last-lines : (n k : ℕ) (b : Bool) → b ≡ eqb n 0
      → ◌≡◌ {A = Turn} (elim b [ true ↦ over (end k ∷ []) | false ↦ over (short ∷ end k ∷ []) ]) (over (last_lines n k))
  unfolding last_lines
  last-lines n k true e = rw (sym e, last_lines) refl
  last-lines n k false e = rw (sym e, last_lines) refl

  pub turn_last : m.queued ≡ 0 → length rest - at < 8
      → turn paper 100000 d (standing rest m steps at) ≡ over (last_lines (length rest - at) steps)
  unfolding turn last_turn
  turn_last e l =
      rw (eq-eqb m.queued 0 e, lt-not-leb 8 (length (drop at rest)) (omega (arith, left)), turn, last_turn)
      (last-lines (length rest - at) steps _ (ap (λ n. eqb n 0) left))

  pub turn-deliver : (o : Outcome) → m.queued ≡ 0 → 8 ≤ length rest - at
      → o ≡ delivered paper d m (number (take 4 (drop at rest))) (number (take 4 (drop (at + 4) rest)))
      → turn paper 100000 d (standing rest m steps at) ≡ on (lines_from o) (standing rest o.machine steps (at + 8))
  unfolding turn deliver_turn
  turn-deliver o e l q =
      rw (
        eq-eqb m.queued 0 e,
        le-leb 8 (length (drop at rest)) (omega (arith, left)),
        turn,
        deliver_turn,
        drop-drop 4 at rest,
        drop-drop 8 at rest,
      )
      (ap (λ (u : Outcome). on (lines_from u) (standing rest u.machine steps (at + 8))) (sym q))

  pub turn-limit : (m.queued ≡ 0 → ⊥) → steps ≡ 100000 → turn paper 100000 d (standing rest m steps at) ≡ over (limit ∷ end steps ∷ [])
  unfolding turn step_turn
  turn-limit q e = rw (ne_eqb m.queued 0 q, le-not-ltb steps 100000 (omega arith), turn, step_turn) refl

  module _ (o : Outcome) (q : m.queued ≡ 0 → ⊥) (few : steps ≤ 100000) (l : steps ≡ 100000 → ⊥) (e : o ≡ Step.step paper d m 0) where
    under : steps ≤ 100000 → (steps ≡ 100000 → ⊥) → steps < 100000
    under a b = omega arith

    says : (b : Bool) → is_refused o.reply ≡ b → is_refused (Step.step paper d m 0).reply ≡ b
    says b r = ap (λ (u : Outcome). is_refused u.reply) (sym e) ∙ r

    pub turn-refused : is_refused o.reply ≡ true → turn paper 100000 d (standing rest m steps at) ≡ over (lines_from o ++ (end steps ∷ []))
    unfolding turn step_turn
    turn-refused r =
        rw (ne_eqb m.queued 0 q, lt-ltb steps 100000 (under few l), turn, step_turn, says true r)
        (ap (λ (u : Outcome). over (lines_from u ++ (end steps ∷ []))) (sym e))

    pub turn_step : is_refused o.reply ≡ false
        → turn paper 100000 d (standing rest m steps at) ≡ on (lines_from o) (standing rest o.machine (suc steps) at)
    unfolding turn step_turn
    turn_step r =
        rw (ne_eqb m.queued 0 q, lt-ltb steps 100000 (under few l), turn, step_turn, says false r)
        (ap (λ (u : Outcome). on (lines_from u) (standing rest u.machine (suc steps) at)) (sym e))
