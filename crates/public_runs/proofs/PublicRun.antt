-- A host that loads an accepted table, starts, and makes any public calls on the words that it keeps makes the run of which demand 3
-- speaks: the words are at every moment those of the run's record, since that keeps the index rules and so is the one that they decode to;
-- replies and values are the run's. So its event list is allowed, house order starves nobody, and no call is refused with 14. Assumes
-- nothing.
use mathlib.Core.Path.{◌≡◌, refl, sym, ◌∙◌, ap, subst}
use mathlib.Core.Bool.{Bool, true, false}
use mathlib.Core.List.{List, [], ◌∷◌, ◌++◌}
use Prim.Native.Nat.{ℕ, ◌≤◌, ◌<◌}
use native.Mathlib.Omega.{arith}
use lib.ListN.{length}
use Rattle.job.specs.Syntax.{Program}
use Rattle.job.specs.Node.{Dag}
use Rattle.job.specs.Read.{read_table, accepted}
use Rattle.job.specs.WellFormed.{WellFormed}
use Rattle.job.specs.Construct.{construct}
use Rattle.job.specs.Words.{array_words, dag_of, written}
use Rattle.calculus.specs.Allowed.{Allowed}
use Rattle.calculus.specs.Meaning.{meaning}
use Rattle.model.specs.Machine.Answer.{answer}
use Rattle.model.specs.Machine.Clock.{advance}
use Rattle.model.specs.Machine.Limits.{paper}
use Rattle.model.specs.Machine.Reply.{is_refused, outcome, refuses, refusal_of}
use Rattle.model.specs.Machine.Rules.{rules_hold}
use Rattle.model.specs.Machine.Start.{start}
use Rattle.model.specs.Machine.Step.{step}
use Rattle.model.specs.Run.Call as Call
use Rattle.model.specs.Run.Call.{Call, runner, outcome_of, machine_after, events_from, events_of, started}
use Rattle.model.specs.Run.Follow.{House, Followed}
use Rattle.model.specs.declared.record.Machine.{Machine}
use Rattle.model.specs.declared.reply.Outcome.{Outcome}
use Rattle.model.specs.declared.reply.Reply.TheVariants as replies
use Rattle.job.proofs.Accepted.{accepted-well-formed}
use Rattle.model.proofs.Machine.StartAccepted.{words-construct}
use Rattle.model.proofs.Run.Passage.{refused-leaves}
use Rattle.demand3.proofs.Reached.{paper-roomy}
use Rattle.demand3.proofs.ProgramRuns.{OfRun, call-of-run, calls-of-run, rules-of-run}
use Rattle.demand3.proofs.NotRule.{not-rule}
use Rattle.demand3.proofs.LoadedDemand3.{loaded-first, loaded-last}
use Rattle.record.specs.Layout.{words_of}
use Rattle.record.specs.LayoutDecoded.{machine_of}
use Rattle.coded.proofs.RecordRead.{record-read, record_is}
use Rattle.machine.specs.PublicCalls.{Result, after, of_record, start_on, step_on, answer_on, advance_on}
use Rattle.public_runs.specs.PublicRun.{in_words, result_of, words_after, event_list}

-- an accepted call leaves the words of its record; a refused one leaves all words, and the record too
after-words : (m : Machine) (o : Outcome) → (is_refused o.reply ≡ true → o.machine ≡ m) → after (words_of m) o ≡ in_words o
unfolding after in_words
after-words m o leaves = ap (λ (ws : List ℕ). record { reply = o.reply; values = o.values; words = ws }) (go (is_refused o.reply) refl)
  where
    go : (b : Bool) → is_refused o.reply ≡ b
        → elim b as (λ _. List ℕ) [ true ↦ words_of m | false ↦ words_of o.machine ] ≡ words_of o.machine
    go true e = ap words_of (sym (leaves e))
    go false e = refl

-- a public call on the words of a record that keeps the rules
module _ (dag : List ℕ) (m : Machine) (holds : rules_hold paper (dag_of dag) m ≡ true) where
  of-record : (o : Outcome) → of_record (words_of m) o ≡ o
  unfolding of_record
  of-record o =
      ap (λ b. elim b as (λ _. Outcome) [ true ↦ o | false ↦ outcome (machine_of (words_of m)) (refuses 14) ]) (record_is (dag_of dag) m
      holds)

  -- by what is called on the record that the words decode to
  on-words : (f : Machine → Outcome) → (is_refused (f m).reply ≡ true → (f m).machine ≡ m)
      → after (words_of m) (of_record (words_of m) (f (machine_of (words_of m)))) ≡ in_words (f m)
  on-words f leaves =
      ap (λ (x : Machine). after (words_of m) (of_record (words_of m) (f x))) (record-read (dag_of dag) m holds)
      ∙ ap (after (words_of m)) (of-record (f m))
      ∙ after-words m (f m) leaves

  call-on-words : (c : Call) → result_of dag (words_of m) c ≡ in_words (outcome_of runner paper (dag_of dag) m c)
  unfolding result_of step_on answer_on advance_on outcome_of
  call-on-words (Call.step place) = on-words (λ x. step paper (dag_of dag) x place) (refused-leaves paper (dag_of dag) m (Call.step place))
  call-on-words (Call.answer h v fits) =
      on-words (λ x. answer paper (dag_of dag) x h v) (refused-leaves paper (dag_of dag) m (Call.answer h v fits))
  call-on-words (Call.advance time) =
      on-words (λ x. advance paper (dag_of dag) x time) (refused-leaves paper (dag_of dag) m (Call.advance time))

-- calls, one after another, from a record of a run
module _ (dag : List ℕ) (p : Program) (good : WellFormed p) (same : dag_of dag ≡ construct p) where
  abbrev Reached : Machine → Type 0
  Reached m = OfRun paper paper-roomy p good (dag_of dag) same m

  next : (m : Machine) (c : Call) → Reached m → Reached (outcome_of runner paper (dag_of dag) m c).machine
  next m c r = call-of-run paper paper-roomy p good (dag_of dag) same m c r

  lawful : {m : Machine} → Reached m → rules_hold paper (dag_of dag) m ≡ true
  lawful r = rules-of-run paper paper-roomy p good (dag_of dag) same r

  words-follow : (calls : List Call) (m : Machine) → Reached m
      → words_after dag (words_of m) calls ≡ words_of (machine_after runner paper (dag_of dag) m calls)
  unfolding words_after machine_after in_words
  words-follow [] m r = refl
  words-follow (c ∷ cs) m r =
      ap (λ (x : Result). words_after dag x.words cs) (call-on-words dag m (lawful r) c)
      ∙ words-follow cs (outcome_of runner paper (dag_of dag) m c).machine (next m c r)

  events-follow : (calls : List Call) (m : Machine) → Reached m
      → event_list dag (words_of m) calls ≡ events_from runner paper (dag_of dag) m calls
  unfolding event_list events_from in_words
  events-follow [] m r = refl
  events-follow (c ∷ cs) m r =
      let o : Outcome = outcome_of runner paper (dag_of dag) m c in
      ap (λ (x : Result). events_of c x.reply x.values ++ event_list dag x.words cs) (call-on-words dag m (lawful r) c)
      ∙ ap (λ es. events_of c o.reply o.values ++ es) (events-follow cs o.machine (next m c r))

-- An accepted table, loaded into an array of words, whatever that held; and the words that are lent for the record, whatever they hold
module _ (table : List ℕ) (p : Program) (read : read_table table ≡ accepted p) (array : List ℕ) (sized : length array ≡ array_words)
    (lent : List ℕ) where
  abbrev dag : List ℕ
  dag = written (construct p) array

  abbrev d : Dag
  d = dag_of dag

  good : WellFormed p
  good = accepted-well-formed table p read

  same : dag_of dag ≡ construct p
  same = words-construct p array good sized

  -- the record of the run after these calls
  abbrev record_after : List Call → Machine
  record_after calls = machine_after runner paper d (started runner paper d) calls

  reached : (calls : List Call) → Reached dag p good same (record_after calls)
  reached calls = calls-of-run paper paper-roomy p good d same calls

  -- the start is accepted, and leaves the words of the run's first record
  pub public-start : start_on dag lent ≡ in_words (start paper d)
  unfolding start_on after in_words
  public-start =
      ap
      (λ b.
      record {
        reply = (start paper d).reply;
        values = (start paper d).values;
        words = elim b as (λ _. List ℕ) [ true ↦ lent | false ↦ words_of (start paper d).machine ];
      })
      (loaded-last table p read array sized).0

  -- the words at any moment, the record that they decode to, and what a call gives and leaves
  pub public-words : (calls : List Call) → words_after dag (start_on dag lent).words calls ≡ words_of (record_after calls)
  unfolding in_words machine_after
  public-words calls =
      ap (λ (x : Result). words_after dag x.words calls) public-start
      ∙ words-follow dag p good same calls (started runner paper d) (reached [])

  pub public-record : (calls : List Call) → machine_of (words_after dag (start_on dag lent).words calls) ≡ record_after calls
  public-record calls =
      ap machine_of (public-words calls) ∙ record-read d (record_after calls) (lawful dag p good same (reached calls))

  pub public-call : (calls : List Call) (c : Call)
      → result_of dag (words_after dag (start_on dag lent).words calls) c ≡ in_words (outcome_of runner paper d (record_after calls) c)
  public-call calls c =
      ap (λ ws. result_of dag ws c) (public-words calls)
      ∙ call-on-words dag (record_after calls) (lawful dag p good same (reached calls)) c

  -- "First part: each run's event list is allowed for its table"
  pub public-first : (calls : List Call) → Allowed (meaning p) (event_list dag (start_on dag lent).words calls)
  unfolding in_words machine_after
  public-first calls =
      subst (Allowed (meaning p))
      (sym (ap (λ (x : Result). event_list dag x.words calls) public-start
      ∙ events-follow dag p good same calls (started runner paper d) (reached [])))
      ((loaded-first table p read array sized 64 32 1000000 (omega arith)).1 calls)

  -- "Last part: .. Take any moment of a run and a token then ready with k others before it in the queue, .."
  pub public-last : (earlier later : List Call) → House later
      → (k : ℕ) → k < (machine_of (words_after dag (start_on dag lent).words earlier)).queued
      → (n : ℕ) × Followed runner paper d (machine_of (words_after dag (start_on dag lent).words earlier)) k later n × (n ≤ k)
  public-last earlier later house k l =
      subst (λ (m : Machine). k < m.queued → (n : ℕ) × Followed runner paper d m k later n × (n ≤ k)) (sym (public-record earlier))
      ((loaded-last table p read array sized).1 earlier later house k) l

  -- 14 never comes
  pub public-never-14 : (calls : List Call) (c : Call)
      → (result_of dag (words_after dag (start_on dag lent).words calls) c).reply ≡ replies.Refused (refusal_of 14) → ⊥
  unfolding in_words
  public-never-14 calls c e =
      not-rule paper d (record_after calls) (lawful dag p good same (reached calls)) c
      (sym (ap (λ (x : Result). x.reply) (public-call calls c)) ∙ e)
