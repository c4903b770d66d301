-- A run that is under way: what was printed and what the turns left will print are the run's lines. Each turn prints its lines and leaves
-- the rest, so the two together stay the same. Assumes nothing.
use mathlib.Core.Path.{◌≡◌, refl, sym, ◌∙◌, ap, subst}
use mathlib.Core.Logic.{◌⊎◌, inl, inr}
use mathlib.Core.Bool.{Bool, true, false}
use mathlib.Core.List.{List, [], ◌∷◌, ◌++◌, append_assoc}
use Prim.Native.Nat.{ℕ, zero, suc, ◌+◌, ◌-◌, ◌*◌, ◌<◌, ◌≤◌}
use native.Mathlib.Omega.{arith}
use lib.ListN.{length, take, drop}
use Rattle.job.specs.Number.{number}
use Rattle.job.specs.Words.{dag_of}
use Rattle.model.specs.Output.Line.{Line, text_of_all, end, limit}
use Rattle.model.specs.Output.Orcrun.{Standing, on, over, delivered, turn, turn_lines, run_lines}
use Rattle.model.specs.Machine.Limits.{paper}
use Rattle.model.specs.Machine.Start as Start
use Rattle.model.specs.Machine.Step as Step
use Rattle.model.specs.declared.record.Machine.{Machine}
use Rattle.model.specs.declared.reply.Outcome.{Outcome}
use Rattle.house.specs.LoadedDag.{Accepted}
use Rattle.house.specs.TurnLeaves.{lines_from}
use Rattle.lines.specs.LastLines.{last_lines}
use Rattle.lines.specs.Shown.{ShowsBytes}
use Rattle.turns.specs.Turn.{is_last, is_limit, is_over, turn_outcome, next_at, next_steps}
use Rattle.lines.proofs.ShownBytes.{shows-none, shows_then, shows-as}
use Rattle.model.proofs.Run.Grammar.{text-append}
use Rattle.house.proofs.HouseRecords.{Reached, reached-start, reached-by-step, reached-by-delivery}
use Rattle.turns.proofs.TurnCases.{empty-or-ready, last-is, not_last, limit_is, not-limit, over-is, not-over, turn-empty, turn-ready}
use Rattle.turns.proofs.TurnCases.{at-empty, at_ready, steps-empty, steps-ready}
use Rattle.house.proofs.HouseTurns.{standing, turn_last, turn-deliver, turn-limit, turn-refused, turn_step}

module _ (words rest before : List ℕ) (from : ℕ) where
  pub record Going (m : Machine) (steps at total : ℕ) (output : List ℕ) : Type 0 where
    pub accepted : Accepted words
    pub reached : Reached words accepted m
    pub printed : List ℕ
    pub left : ℕ
    pub whole :
        text_of_all (run_lines paper 100000 (dag_of words) rest)
        ≡ printed ++ text_of_all (turn_lines paper 100000 (dag_of words) left (standing rest m steps at))
    pub enough : (100000 - steps) + (length rest - at) < left
    pub few : steps ≤ 100000
    pub inside : at ≤ length rest
    pub shows : ShowsBytes before from 0 printed output total
    pub room : total + 80 * left ≤ 13242960

  pub going-begins : Accepted words → (m : Machine) → length rest ≤ 65536 → m ≡ (Start.start paper (dag_of words)).machine
      → Going m 0 0 0 before
  unfolding run_lines
  going-begins A m l e =
      record {
        accepted = A;
        reached = subst (Reached words A) (sym e) (reached-start words A);
        printed = [];
        left = 100000 + length rest + 1;
        whole = ap (λ (u : Machine). text_of_all (turn_lines paper 100000 (dag_of words) (100000 + length rest + 1) (standing rest u 0 0)))
            (sym e);
        enough = omega arith;
        few = omega arith;
        inside = omega arith;
        shows = shows-none before from 0;
        room = omega arith;
      }

  -- the run goes on
  turns-on : (n : ℕ) (s t : Standing) (ls : List Line) → turn paper 100000 (dag_of words) s ≡ on ls t
      → text_of_all (turn_lines paper 100000 (dag_of words) (suc n) s) ≡ text_of_all ls ++ text_of_all (turn_lines paper 100000 (dag_of
      words) n t)
  unfolding turn_lines
  turns-on n s t ls e = rw (e, turn_lines) (text-append ls (turn_lines paper 100000 (dag_of words) n t))

  turns-over : (n : ℕ) (s : Standing) (ls : List Line) → turn paper 100000 (dag_of words) s ≡ over ls
      → text_of_all (turn_lines paper 100000 (dag_of words) (suc n) s) ≡ text_of_all ls
  unfolding turn_lines
  turns-over n s ls e = rw (e, turn_lines) refl

  going_on : {m n : Machine} {steps at total steps' at' total' : ℕ} {output output' : List ℕ} (ls : List Line)
      → (G : Going m steps at total output) → Reached words G.accepted n
      → turn paper 100000 (dag_of words) (standing rest m steps at) ≡ on ls (standing rest n steps' at')
      → (100000 - steps') + (length rest - at') < (100000 - steps) + (length rest - at)
      → steps' ≤ 100000 → at' ≤ length rest
      → ShowsBytes output from total (text_of_all ls) output' total' → total' ≤ total + 80 → Going n steps' at' total' output'
  going_on {m} {n} {steps} {at} {total} {steps'} {at'} {total'} {output} {output'} ls G r e less few inside s small = go G.left refl
    where
      go : (k : ℕ) → G.left ≡ k → Going n steps' at' total' output'
      go zero z = let en = G.enough in absurd (omega arith)
      go (suc k) z =
          let en = G.enough in
          let ro = G.room in
          record {
            accepted = G.accepted;
            reached = r;
            printed = G.printed ++ text_of_all ls;
            left = k;
            whole =
                G.whole
                ∙ ap (λ (j : ℕ). G.printed ++ text_of_all (turn_lines paper 100000 (dag_of words) j (standing rest m steps at))) z
                ∙ ap (λ (u : List ℕ). G.printed ++ u) (turns-on k (standing rest m steps at) (standing rest n steps' at') ls e)
                ∙ sym (append_assoc G.printed (text_of_all ls)
                (text_of_all (turn_lines paper 100000 (dag_of words) k (standing rest n steps' at'))));
            enough = omega arith;
            few = few;
            inside = inside;
            shows = shows_then G.shows s;
            room = omega arith;
          }

  -- the run is over
  going-over : {m : Machine} {steps at total n : ℕ} {output after : List ℕ} (ls : List Line) → Going m steps at total output
      → turn paper 100000 (dag_of words) (standing rest m steps at) ≡ over ls
      → ShowsBytes output from total (text_of_all ls) after n
      → ShowsBytes before from 0 (text_of_all (run_lines paper 100000 (dag_of words) rest)) after n
  going-over {m} {steps} {at} ls G e s = shows-as (sym (go G.left refl)) (shows_then G.shows s)
    where
      go : (k : ℕ) → G.left ≡ k → text_of_all (run_lines paper 100000 (dag_of words) rest) ≡ G.printed ++ text_of_all ls
      go zero z = let en = G.enough in absurd (omega arith)
      go (suc k) z =
          G.whole
          ∙ ap (λ (j : ℕ). G.printed ++ text_of_all (turn_lines paper 100000 (dag_of words) j (standing rest m steps at))) z
          ∙ ap (λ (u : List ℕ). G.printed ++ u) (turns-over k (standing rest m steps at) ls e)

  -- each turn, by the tests that lead to it
  module _ {m : Machine} {steps at total : ℕ} {output : List ℕ} (G : Going m steps at total output) where
    pub going-last : {after : List ℕ} {n : ℕ} (b : Bool) → b ≡ is_last m.queued (length rest - at) → b ≡ true
        → ShowsBytes output from total (text_of_all (last_lines (length rest - at) steps)) after n
        → ShowsBytes before from 0 (text_of_all (run_lines paper 100000 (dag_of words) rest)) after n
    going-last b e t s =
        let is = last-is m.queued (length rest - at) (sym e ∙ t) in
        going-over _ G (turn_last (dag_of words) rest m steps at is.0 is.1) s

    module _ (l : Bool) (last : l ≡ is_last m.queued (length rest - at)) (more : l ≡ false) where
      there : m.queued ≡ 0 → 8 ≤ length rest - at
      there e = not_last m.queued (length rest - at) (sym last ∙ more) e

      pub going-limit : {after : List ℕ} {n : ℕ} (b : Bool) → b ≡ is_limit m.queued steps → b ≡ true
          → ShowsBytes output from total (text_of_all (limit ∷ end steps ∷ [])) after n
          → ShowsBytes before from 0 (text_of_all (run_lines paper 100000 (dag_of words) rest)) after n
      going-limit b e t s =
          let is = limit_is m.queued steps (sym e ∙ t) in
          going-over _ G (turn-limit (dag_of words) rest m steps at is.0 is.1) s

      module _ (k : Bool) (limited : k ≡ is_limit m.queued steps) (free : k ≡ false) (o : Outcome)
          (turned : o ≡ turn_outcome (dag_of words) m rest at) (b : Bool) (over-if : b ≡ is_over m.queued o.reply) where
        under : (m.queued ≡ 0 → ⊥) → steps ≡ 100000 → ⊥
        under f = not-limit m.queued steps (sym limited ∙ free) f

        stepped : (m.queued ≡ 0 → ⊥) → o ≡ Step.step paper (dag_of words) m 0
        stepped f = turned ∙ sym (turn-ready (dag_of words) m rest at _ f refl)

        answered : m.queued ≡ 0
            → o ≡ delivered paper (dag_of words) m (number (take 4 (drop at rest))) (number (take 4 (drop (at + 4) rest)))
        answered e = turned ∙ sym (turn-empty (dag_of words) m rest at _ e refl)

        -- "a refused step ends the run"
        pub going-ends : {output' after : List ℕ} {total' n : ℕ} → b ≡ true
            → ShowsBytes output from total (text_of_all (lines_from o)) output' total'
            → ShowsBytes output' from total' (text_of_all (end steps ∷ [])) after n
            → ShowsBytes before from 0 (text_of_all (run_lines paper 100000 (dag_of words) rest)) after n
        going-ends t s u =
            let is = over-is m.queued o.reply (sym over-if ∙ t) in
            going-over _ G (turn-refused (dag_of words) rest m steps at o is.0 G.few (under is.0) (stepped is.0) is.1)
            (shows-as (sym (text-append (lines_from o) (end steps ∷ []))) (shows_then s u))

        -- and else it goes on
        module _ (on-if : b ≡ false) (steps' at' : ℕ) (to : steps' ≡ next_steps m.queued steps)
            (behind : at' ≡ next_at m.queued at) where
          pub going_less : (100000 - steps') + (length rest - at') < (100000 - steps) + (length rest - at)
          going_less = go (empty-or-ready m.queued)
            where
              go : (m.queued ≡ 0) ⊎ (m.queued ≡ 0 → ⊥) → (100000 - steps') + (length rest - at') < (100000 - steps) + (length rest - at)
              go (inl e) =
                  let a = behind ∙ sym (at-empty m.queued e at) in
                  let b = to ∙ sym (steps-empty m.queued e steps) in
                  let left = there e in
                  omega arith
              go (inr f) =
                  let a = behind ∙ sym (at_ready m.queued f at) in
                  let b = to ∙ sym (steps-ready m.queued f steps) in
                  let few = G.few in
                  let some = under f in
                  omega arith

          pub going-turns : {output' : List ℕ} {total' : ℕ} → ShowsBytes output from total (text_of_all (lines_from o)) output' total'
              → total' ≤ total + 80 → Going o.machine steps' at' total' output'
          going-turns {output'} {total'} s small = go (empty-or-ready m.queued)
            where
              go : (m.queued ≡ 0) ⊎ (m.queued ≡ 0 → ⊥) → Going o.machine steps' at' total' output'
              go (inl e) =
                  let a = behind ∙ sym (at-empty m.queued e at) in
                  let b = to ∙ sym (steps-empty m.queued e steps) in
                  let left = there e in
                  let few = G.few in
                  going_on (lines_from o) G (reached-by-delivery words G.accepted m o _ _ G.reached (answered e))
                  (subst (λ (k : ℕ). turn paper 100000 (dag_of words) (standing rest m steps at)
                  ≡ on (lines_from o) (standing rest o.machine k at')) (sym b)
                  (subst (λ (k : ℕ). turn paper 100000 (dag_of words) (standing rest m steps at)
                  ≡ on (lines_from o) (standing rest o.machine steps k)) (sym a)
                  (turn-deliver (dag_of words) rest m steps at o e left (answered e))))
                  going_less (omega arith) (omega arith) s small
              go (inr f) =
                  let a = behind ∙ sym (at_ready m.queued f at) in
                  let b : steps' ≡ suc steps = (let z = to ∙ sym (steps-ready m.queued f steps) in omega arith) in
                  let few = G.few in
                  let some = under f in
                  let inside = G.inside in
                  going_on (lines_from o) G (reached-by-step words G.accepted m o G.reached (stepped f))
                  (subst (λ (k : ℕ). turn paper 100000 (dag_of words) (standing rest m steps at)
                  ≡ on (lines_from o) (standing rest o.machine k at')) (sym b)
                  (subst (λ (k : ℕ). turn paper 100000 (dag_of words) (standing rest m steps at)
                  ≡ on (lines_from o) (standing rest o.machine (suc steps) k)) (sym a)
                  (turn_step (dag_of words) rest m steps at o f few some (stepped f)
                  (not-over m.queued o.reply (sym over-if ∙ on-if) f))))
                  going_less (omega arith) (omega arith) s small
