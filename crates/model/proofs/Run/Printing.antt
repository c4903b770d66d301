-- What `orcrun` prints, by the calls that it makes: each turn that goes on is a call and its lines, and the last one is an end. Turn by
-- turn, since each takes a step or a record and there are turns enough. Assumes nothing.
use mathlib.Core.Path.{◌≡◌, refl, sym, ◌∙◌, ap, subst}
use mathlib.Core.Logic.{◌⊎◌, inl, inr}
use mathlib.Core.Bool.{true, false}
use mathlib.Core.List.{List, [], ◌∷◌, ◌++◌, append_assoc, append-nil}
use Prim.Native.Nat.{ℕ, zero, suc, ◌+◌, ◌-◌, ◌<◌, ◌≤◌}
use native.Mathlib.Decide.{dec_lt, ℕ_discrete}
use native.Mathlib.Omega.{arith}
use lib.ListN.{length, take, drop, length-drop}
use Rattle.job.specs.Number.{number, signed}
use Rattle.job.specs.Node.{Dag}
use Rattle.job.specs.Syntax.{Program}
use Rattle.job.specs.Entry.{table_length}
use Rattle.job.specs.Read.{accepted, declined, read_table}
use Rattle.job.specs.Construct.{construct}
use Rattle.model.specs.Machine.Limits.{Limits, paper}
use Rattle.model.specs.Machine.Reply.{is_refused}
use Rattle.model.specs.Machine.Step as Step
use Rattle.model.specs.Machine.Answer as Answer
use Rattle.model.specs.Machine.Clock as Clock
use Rattle.model.specs.Output.Line.{Line, end, limit, short, long, text_of_all}
use Rattle.model.specs.Output.Orcrun.{Standing, on, over, reported_lines, clock_handle, delivered, step_turn, deliver_turn}
use Rattle.model.specs.Output.Orcrun.{last_turn, turn, turn_lines, run_lines, table_lines, input_lines, orcrun}
use Rattle.model.specs.Output.Printed.{call_lines, accepted_steps, HouseCalls, Ends, Printed}
use Rattle.model.specs.Run.Call.{Call, step, answer, advance, runner, outcome_of, machine_after, started}
use Rattle.model.specs.declared.record.Machine.{Machine}
use Rattle.model.specs.declared.reply.Outcome.{Outcome}
use Rattle.job.proofs.Number.{signed-fits}
use Rattle.job.proofs.Test.{holds-or-fails, eq-eqb, ne_eqb, lt-ltb, le-not-ltb, le-leb, lt-not-leb}

-- a record: a clock move or an answer, by its handle
module _ (lim : Limits) (d : Dag) where
  pub moves-clock : (m : Machine) (h v : ℕ) → h ≡ clock_handle → delivered lim d m h v ≡ Clock.advance lim d m v
  unfolding delivered
  moves-clock m h v e = rw (eq-eqb h clock_handle e, delivered) refl

  pub answers : (m : Machine) (h v : ℕ) → (h ≡ clock_handle → ⊥) → delivered lim d m h v ≡ Answer.answer lim d m h (signed v)
  unfolding delivered
  answers m h v n = rw (ne_eqb h clock_handle n, delivered) refl

module _ (lim : Limits) (most : ℕ) (d : Dag) where
  -- the lines from a standing on, which has made some steps already
  record From (s : Standing) (lines : List Line) : Type 0 where
    calls : List Call
    left : List ℕ
    before : List Line
    made : HouseCalls lim d s.machine s.rest calls left
    few : s.steps + accepted_steps lim d s.machine calls ≤ most
    ends : Ends lim d most (machine_after runner lim d s.machine calls) (s.steps + accepted_steps lim d s.machine calls)
        (length left) before
    prints : lines ≡ call_lines lim d s.machine calls ++ (before ++ (end (s.steps + accepted_steps lim d s.machine calls) ∷ []))

  -- no call is made
  stops : (s : Standing) (before : List Line) → s.steps ≤ most → Ends lim d most s.machine s.steps (length s.rest) before
      → From s (before ++ (end s.steps ∷ []))
  unfolding call_lines accepted_steps machine_after
  stops s before few e =
      let z : s.steps + 0 ≡ s.steps = omega arith in
      record { calls = []; left = s.rest; before = before; made = HouseCalls.none; few = omega arith; ends = rw z e; prints = rw z refl }

  -- a turn, by its tests
  module _ (s : Standing) where
    abbrev o : Outcome
    o = Step.step lim d s.machine 0

    -- the record's handle and value, and what it does
    abbrev h : ℕ
    h = number (take 4 s.rest)

    abbrev v : ℕ
    v = number (take 4 (drop 4 s.rest))

    abbrev a : Outcome
    a = delivered lim d s.machine h v

    abbrev stepped : Standing
    stepped = record { machine = o.machine; steps = suc s.steps; rest = s.rest }

    pub turn-limit : (s.machine.queued ≡ 0 → ⊥) → most ≤ s.steps → turn lim most d s ≡ over (limit ∷ end s.steps ∷ [])
    unfolding turn step_turn
    turn-limit q l = rw (ne_eqb s.machine.queued 0 q, le-not-ltb s.steps most l, turn, step_turn) refl

    turn-refused : (s.machine.queued ≡ 0 → ⊥) → s.steps < most → is_refused o.reply ≡ true
        → turn lim most d s ≡ over (reported_lines o.reply o.values ++ (end s.steps ∷ []))
    unfolding turn step_turn
    turn-refused q l e = rw (ne_eqb s.machine.queued 0 q, lt-ltb s.steps most l, e, turn, step_turn) refl

    pub turn_step : (s.machine.queued ≡ 0 → ⊥) → s.steps < most → is_refused o.reply ≡ false
        → turn lim most d s ≡ on (reported_lines o.reply o.values) stepped
    unfolding turn step_turn
    turn_step q l e = rw (ne_eqb s.machine.queued 0 q, lt-ltb s.steps most l, e, turn, step_turn) refl

    abbrev recorded : Standing
    recorded = record { machine = a.machine; steps = s.steps; rest = drop 8 s.rest }

    turn-deliver : s.machine.queued ≡ 0 → 8 ≤ length s.rest → turn lim most d s ≡ on (reported_lines a.reply a.values) recorded
    unfolding turn deliver_turn
    turn-deliver q l = rw (eq-eqb s.machine.queued 0 q, le-leb 8 (length s.rest) l, turn) refl

    turn-short : s.machine.queued ≡ 0 → length s.rest < 8 → (length s.rest ≡ 0 → ⊥)
        → turn lim most d s ≡ over (short ∷ end s.steps ∷ [])
    unfolding turn last_turn
    turn-short q l n =
        rw (eq-eqb s.machine.queued 0 q, lt-not-leb 8 (length s.rest) l, ne_eqb (length s.rest) 0 n, turn, last_turn) refl

    turn_end : s.machine.queued ≡ 0 → length s.rest ≡ 0 → turn lim most d s ≡ over (end s.steps ∷ [])
    unfolding turn last_turn
    turn_end q n =
        rw (eq-eqb s.machine.queued 0 q, lt-not-leb 8 (length s.rest) (omega arith), eq-eqb (length s.rest) 0 n, turn, last_turn)
        refl

  -- the lines of a turn and of those behind it
  lines-over : (n : ℕ) (s : Standing) {ls : List Line} → turn lim most d s ≡ over ls → From s ls → From s (turn_lines lim most d (suc n) s)
  unfolding turn_lines
  lines-over n s e f = rw (e, turn_lines) f

  lines-on : (n : ℕ) (s : Standing) {ls : List Line} {s' : Standing} → turn lim most d s ≡ on ls s'
      → From s (ls ++ turn_lines lim most d n s') → From s (turn_lines lim most d (suc n) s)
  unfolding turn_lines
  lines-on n s e f = rw (e, turn_lines) f

  -- a call in front of the others
  after-step : (s : Standing) {ls : List Line} → 0 < s.machine.queued → is_refused (Step.step lim d s.machine 0).reply ≡ false
      → From (stepped s) ls → From s (reported_lines (o s).reply (o s).values ++ ls)
  unfolding call_lines accepted_steps machine_after outcome_of
  after-step s {ls} q ok f =
      let k : ℕ = accepted_steps lim d (o s).machine f.calls in
      let z : suc s.steps + k ≡ s.steps + suc k = omega arith in
      let lines = reported_lines (o s).reply (o s).values in
      record {
        calls = step 0 ∷ f.calls;
        left = f.left;
        before = f.before;
        made = HouseCalls.steps q ok f.made;
        few = rw (ok, accepted_steps, sym z) f.few;
        ends = rw (ok, accepted_steps, sym z) f.ends;
        prints = rw (ok, accepted_steps, sym z) (ap (λ xs. lines ++ xs) f.prints ∙ sym (append_assoc lines _ _));
      }

  after-delivery : (s : Standing) {ls : List Line} (c : Call) → a s ≡ outcome_of runner lim d s.machine c
      → ((cs : List Call)
      → accepted_steps lim d s.machine (c ∷ cs) ≡ accepted_steps lim d (outcome_of runner lim d s.machine c).machine cs)
      → ((cs : List Call) (left : List ℕ) → HouseCalls lim d (outcome_of runner lim d s.machine c).machine (drop 8 s.rest) cs left
      → HouseCalls lim d s.machine s.rest (c ∷ cs) left)
      → From (recorded s) ls → From s (reported_lines (a s).reply (a s).values ++ ls)
  unfolding call_lines machine_after
  after-delivery s {ls} c same no_step made f =
      let o : Outcome = outcome_of runner lim d s.machine c in
      let g : From (record { machine = o.machine; steps = s.steps; rest = drop 8 s.rest }) ls = rw same at f in
      let lines = reported_lines o.reply o.values in
      rw same
      (record {
        calls = c ∷ g.calls;
        left = g.left;
        before = g.before;
        made = made g.calls g.left g.made;
        few = rw (no_step g.calls) g.few;
        ends = rw (no_step g.calls) g.ends;
        prints = rw (no_step g.calls) (ap (λ xs. lines ++ xs) g.prints ∙ sym (append_assoc lines _ _));
      })

  after-record : (s : Standing) {ls : List Line} → s.machine.queued ≡ 0 → 8 ≤ length s.rest → Dec (h s ≡ clock_handle)
      → From (recorded s) ls → From s (reported_lines (a s).reply (a s).values ++ ls)
  unfolding accepted_steps outcome_of
  after-record s q l (yes e) f =
      after-delivery s (advance (v s)) (moves-clock lim d s.machine (h s) (v s) e) (λ cs. refl) (λ cs left g. HouseCalls.ticks q l e g) f
  after-record s q l (no n) f =
      after-delivery s (answer (h s) (signed (v s)) (signed-fits _)) (answers lim d s.machine (h s) (v s) n) (λ cs. refl)
      (λ cs left g. HouseCalls.delivers (signed-fits _) q l n g) f

  some-ready : (n : ℕ) → (n ≡ 0 → ⊥) → 0 < n
  some-ready zero q = absurd (q refl)
  some-ready (suc n) q = omega arith

  from : (n : ℕ) (s : Standing) → s.steps ≤ most → (most - s.steps) + length s.rest < n → From s (turn_lines lim most d n s)
  from zero s few l = absurd (omega arith)
  from (suc n) s few l = go (ℕ_discrete s.machine.queued 0) (dec_lt s.steps most) (dec_lt (length s.rest) 8)
      (ℕ_discrete (length s.rest) 0)
      (λ s' few' l'. from n s' few' l')
    where
      Further : Type 0
      Further = (s' : Standing) → s'.steps ≤ most → (most - s'.steps) + length s'.rest < n → From s' (turn_lines lim most d n s')

      step_by : (q : s.machine.queued ≡ 0 → ⊥) → s.steps < most
          → (is_refused (o s).reply ≡ true) ⊎ (is_refused (o s).reply ≡ false) → Further → From s (turn_lines lim most d (suc n) s)
      step_by q k (inl no') f =
          lines-over n s (turn-refused s q k no')
          (subst (λ xs. From s (xs ++ (end s.steps ∷ []))) one
          (stops s (call_lines lim d s.machine (step 0 ∷ [])) few (Ends.refused (some-ready _ q) k (unfold outcome_of in no'))))
        where
          one : call_lines lim d s.machine (step 0 ∷ []) ≡ reported_lines (o s).reply (o s).values
          one = unfold call_lines outcome_of in append-nil (reported_lines (o s).reply (o s).values)
      step_by q k (inr ok) f =
          lines-on n s (turn_step s q k ok) (after-step s (some-ready _ q) ok (f (stepped s) (omega arith) (omega arith)))

      go : Dec (s.machine.queued ≡ 0) → Dec (s.steps < most) → Dec (length s.rest < 8) → Dec (length s.rest ≡ 0)
          → Further → From s (turn_lines lim most d (suc n) s)
      go (no q) (yes k) x y f = step_by q k (holds-or-fails (is_refused (o s).reply)) f
      go (no q) (no k) x y f =
          lines-over n s (turn-limit s q (omega arith)) (stops s (limit ∷ []) few (Ends.limited (some-ready _ q) (omega arith)))
      go (yes q) k (yes x) (yes y) f = lines-over n s (turn_end s q y) (stops s [] few (Ends.finished q y))
      go (yes q) k (yes x) (no y) f = lines-over n s (turn-short s q x y) (stops s (short ∷ []) few (Ends.shortened q (some-ready _ y) x))
      go (yes q) k (no x) y f =
          let z = length-drop 8 s.rest in
          lines-on n s (turn-deliver s q (omega arith))
          (after-record s q (omega arith) (ℕ_discrete (h s) clock_handle) (f (recorded s) few (omega arith)))

-- the lines of a run from the start
pub run-prints : (lim : Limits) (most : ℕ) (d : Dag) (bytes : List ℕ)
    → Printed lim d most (started runner lim d) bytes (run_lines lim most d bytes)
unfolding run_lines
run-prints lim most d bytes = whole (from lim most d (most + length bytes + 1) first (omega arith) (omega arith))
  where
    first : Standing
    first = record { machine = started runner lim d; steps = 0; rest = bytes }

    whole : {ls : List Line} → From lim most d first ls → Printed lim d most (started runner lim d) bytes ls
    whole f =
        let k : ℕ = accepted_steps lim d (started runner lim d) f.calls in
        let z : 0 + k ≡ k = omega arith in
        record {
          calls = f.calls;
          left = f.left;
          before = f.before;
          made = f.made;
          few = let l = f.few in omega arith;
          ends = subst (λ n. Ends lim d most (machine_after runner lim d (started runner lim d) f.calls) n (length f.left) f.before)
              z f.ends;
          prints =
              f.prints
              ∙ ap (λ n. call_lines lim d (started runner lim d) f.calls ++ (f.before ++ (end n ∷ []))) z;
        }

-- the program: an input that is too long, a table that is declined, a run
module _ (input : List ℕ) where
  pub orcrun-declines : (n e : ℕ) → length input ≤ 65536 → read_table (take (table_length input) input) ≡ declined n e
      → orcrun input ≡ text_of_all (Line.table n e ∷ [])
  unfolding orcrun input_lines table_lines
  orcrun-declines n e l r = rw (le-leb (length input) 65536 l, r, input_lines, table_lines) refl

  -- what it prints of an accepted table is what a run prints
  pub orcrun-runs : (p : Program) → length input ≤ 65536 → read_table (take (table_length input) input) ≡ accepted p
      → orcrun input ≡ text_of_all (run_lines paper 100000 (construct p) (drop (table_length input) input))
  unfolding orcrun input_lines table_lines
  orcrun-runs p l r = rw (le-leb (length input) 65536 l, r, input_lines, table_lines) refl

  pub orcrun-prints : (p : Program) → length input ≤ 65536 → read_table (take (table_length input) input) ≡ accepted p
      → (lines : List Line)
      × Printed paper (construct p) 100000 (started runner paper (construct p)) (drop (table_length input) input) lines
      × (orcrun input ≡ text_of_all lines)
  orcrun-prints p l r = (
    run_lines paper 100000 (construct p) (drop (table_length input) input),
    run-prints paper 100000 (construct p) (drop (table_length input) input),
    orcrun-runs p l r,
  )

  pub orcrun-long : 65536 < length input → orcrun input ≡ text_of_all (long ∷ [])
  unfolding orcrun input_lines
  orcrun-long l = rw (lt-not-leb (length input) 65536 l, input_lines) refl
