-- The metronome beats as long as the clock lasts: from a record that rests until c + t, a clock move and three steps lead to the one that
-- rests until c + t + t, so that the ticks are counted. Each call is worked out once, at a time that is a variable. Assumes nothing.
use mathlib.Core.Path.{◌≡◌, refl, sym, ap, subst}
use mathlib.Core.Bool.{Bool, true}
use mathlib.Core.List.{List, [], ◌∷◌, ◌++◌}
use Prim.Native.Nat.{ℕ, zero, suc, ◌+◌, ◌*◌, ◌<◌, ◌≤◌}
use native.Mathlib.Omega.{arith}
use native.Mathlib.Nat.{suc-mul}
use lib.ListN.{replicate, length}
use lib.Dec.{ltb, leb}
use lib.IntN.{pos}
use Rattle.std.specs.Prelude.{Some, None}
use Rattle.job.specs.Test.{padded, select}
use Rattle.job.specs.Node.{Dag, dag_holds}
use Rattle.job.specs.Construct.{construct, construct_from, root, node_count, own}
use Rattle.job.specs.Site.{last_time, due_time}
use Rattle.calculus.specs.Event.{Event}
use Rattle.model.specs.Machine.Limits.{paper}
use Rattle.model.specs.Machine.Blank.{empty, unbound, blank_token, blank_cell}
use Rattle.model.specs.Machine.Start.{start_token, start_machine}
use Rattle.model.specs.Machine.Update.{with_state}
use Rattle.model.specs.Machine.InUse.{tokens_used, marked}
use Rattle.model.specs.Machine.Rules.{rules_hold}
use Rattle.model.specs.Machine.Reply.{is_refused, outcome, moves, unless, report_values}
use Rattle.model.specs.Machine.Clock as Clock
use Rattle.model.specs.Machine.Clock.{takes_time, after_advance, woken_by}
use Rattle.model.specs.Machine.Step as Step
use Rattle.model.specs.Run.Call.{Call, runner, outcome_of, events_of}
use Rattle.model.specs.declared.token.Slot.TheVariants as slots
use Rattle.model.specs.declared.token.Slot.{Slot}
use Rattle.model.specs.Machine.Held.{Held}
use Rattle.model.specs.declared.token.State.{State}
use Rattle.model.specs.declared.token.State.TheVariants as states
use Rattle.model.specs.declared.token.Token.{Token}
use Rattle.model.specs.declared.record.Machine.{Machine}
use Rattle.model.specs.declared.reply.Reply.TheVariants as replies
use Rattle.model.specs.declared.reply.Outcome.{Outcome}
use Rattle.marked_runs.specs.Metronome.{metronome_dag, metronome_started, ticks, moves_at, beats, Metronome}
use Rattle.job.proofs.Test.{le-leb, lt-ltb}
use Rattle.model.proofs.Machine.Refused.{start-begun}
use Rattle.model.proofs.Run.Computing.{computing}
use Rattle.model.proofs.Run.Passage.{Passage, none, accepted, passed, events_by}

-- M()'s token at place 1, over the goal's frame
abbrev token : (node : ℕ) → List Slot → Held → State → Token
token n bs v s = record { node = n; binds = bs; value = v; caller = Some 0; cell = None; state = s }

abbrev framed : Token → (queue timers : List ℕ) → (clock : ℕ) → Machine
framed u queue timers c =
    record {
      tokens = with_state states.Frame (start_token 6) ∷ u ∷ replicate 62 blank_token;
      cells = replicate 32 blank_cell;
      queue = padded 0 64 queue;
      queued = length queue;
      waits = replicate 64 0;
      waiting = 0;
      calls = 0;
      lasttoken = 1;
      lastcell = 31;
      timers = padded 0 64 timers;
      timed = length timers;
      clock = c;
    }

-- the records of a tick: called again; woken; x assigned; M() entered
module _ (c : ℕ) where
  abbrev resting : (due : ℕ) → Machine
  resting due = framed (token 0 unbound None (states.Due due)) [] (1 ∷ []) c

  abbrev woken : Machine
  woken = framed (token 0 unbound (Some (pos 0)) states.Ready) (1 ∷ []) [] c

  abbrev assigned : Machine
  assigned = framed (token 3 (slots.Value (pos 0) ∷ replicate 7 empty) (Some (pos 0)) states.Ready) (1 ∷ []) [] c

  abbrev entered : Machine
  entered = framed (token 2 unbound None states.Ready) (1 ∷ []) [] c

two : (c due : ℕ) → marked (tokens_used (resting c due)) ≡ 2
unfolding computing
two c due = refl

-- an accepted call that hands back this record
abbrev done : Machine → Outcome
done m = record { reply = replies.Done; values = report_values []; machine = m }

-- such a call in front of a passage
in-front : {d : Dag} {m after end : Machine} {k : Call} {cs : List Call} {es : List Event} {fine : Bool}
    → outcome_of runner paper d m k ≡ done after → Passage paper d after cs es fine end
    → Passage paper d m (k ∷ cs) (events_of k replies.Done (report_values []) ++ es) fine end
unfolding is_refused
in-front {d} {m} {after} {end} {k} {cs} {es} {fine} e p =
    subst (λ o. Passage paper d m (k ∷ cs) (events_by k o ++ es) fine end) e
    (accepted (ap (λ o. is_refused o.reply) e) (subst (λ o. Passage paper d o.machine cs es fine end) (sym e) p))

module _ (t : ℕ) (some : 0 < t) (fits : t ≤ last_time) where
  abbrev d : Dag
  d = metronome_dag t

  -- the start, and the goal's call
  small : ltb t 2147483648 ≡ true
  small = lt-ltb t 2147483648 (omega arith)

  dag-holds : dag_holds d ≡ true
  unfolding computing
  dag-holds = rw small refl

  begins : metronome_started t ≡ start_machine paper 5
  unfolding construct construct_from root node_count own
  begins = ap (λ o. o.machine) (start-begun paper d dag-holds)

  goal-calls : Step.step paper d (start_machine paper 5) 0 ≡ done (entered 0)
  unfolding computing
  goal-calls = rw (small, Step.step) refl

  -- the steps of a tick that ends at time c
  module _ (c : ℕ) where
    assigns : c ≤ last_time → Step.step paper d (woken c) 0 ≡ done (assigned c)
    unfolding computing
    assigns l = rw (small, le-leb c last_time l, Step.step) refl

    -- the call in tail position
    calls : c ≤ last_time → Step.step paper d (assigned c) 0 ≡ done (entered c)
    unfolding computing
    calls l = rw (small, le-leb c last_time l, Step.step) refl

    module _ (l : c + t ≤ last_time) where
      later : ltb c (c + t) ≡ true
      later = lt-ltb c (c + t) (omega arith)

      within : leb (c + t) last_time ≡ true
      within = le-leb (c + t) last_time l

      rests : Step.step paper d (entered c) 0 ≡ done (resting c (c + t))
      unfolding computing
      rests = rw (small, le-leb c last_time (omega arith), Step.step, within, due_time, later, Step.deferred) refl

      -- the clock move that begins the next
      rules : rules_hold paper d (resting c (c + t)) ≡ true
      unfolding computing
      rules = rw (small, le-leb c last_time (omega arith), later, within) refl

      takes : takes_time (resting c (c + t)) (c + t) ≡ true
      unfolding computing
      takes = rw (le-leb c (c + t) (omega arith), within) refl

      wakes : after_advance (resting c (c + t)) (c + t) ≡ woken (c + t)
      unfolding computing
      wakes = rw (le-leb (c + t) (c + t) (omega arith), woken_by, select) refl

      swept : outcome (resting c (c + t)) (moves (woken (c + t))) ≡ done (woken (c + t))
      unfolding computing
      swept = refl

      advances : Clock.advance paper d (resting c (c + t)) (c + t) ≡ done (woken (c + t))
      unfolding Clock.advance unless
      advances = rw (rules, takes, Clock.advance, unless, wakes) swept

  -- tick by tick
  pass : (n c : ℕ) → c + suc n * t ≤ last_time
      → Passage paper d (resting c (c + t)) (ticks t c n) (moves_at t c n) true (resting (c + n * t) (c + n * t + t))
  unfolding ticks moves_at outcome_of events_of is_refused
  pass zero c l = let z : c + 0 * t ≡ c = omega arith in rw z none
  pass (suc n) c l =
      let z = suc-mul (suc n) t in
      let y = suc-mul n t in
      let e : c + suc n * t ≡ c + t + n * t = omega arith in
      rw e
      (in-front (advances c (omega arith))
      (in-front (assigns (c + t) (omega arith))
      (in-front (calls (c + t) (omega arith))
      (in-front (rests (c + t) (omega arith)) (pass n (c + t) (omega arith))))))

  -- from the start on
  all : (n : ℕ) → suc n * t ≤ last_time
      → Passage paper d (metronome_started t) (beats t n) (moves_at t 0 n) true (resting (n * t) (n * t + t))
  unfolding outcome_of events_of
  all n l =
      let z : 0 + n * t ≡ n * t = omega arith in
      rw (begins, ← z)
      (in-front goal-calls (in-front (rests 0 (omega arith)) (pass n 0 (omega arith))))

pub metronome-beats : Metronome
metronome-beats t n some l =
    let z = suc-mul n t in
    let fits : t ≤ last_time = omega arith in
    let p = passed paper (metronome_dag t) (all t some fits n l) in
    record { none-refused = p.clear; moves-alone = p.shows; two-tokens = rw p.ends (two (n * t) (n * t + t)) }
