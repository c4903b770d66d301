-- The lock step the other way: what the abstract machine does, the concrete machine does by one call that shows the same and is not
-- refused, or without a call where a waiting token stays. Asked of the record: it keeps the rules, has room, and its waiting tokens are
-- blocked.
-- By the same agreement of effects as the lock step itself. Assumes nothing.
use mathlib.Core.Path.{◌≡◌, refl, sym, ◌∙◌, ap, subst}
use mathlib.Core.Bool.{true, false}
use mathlib.Core.List.{List, [], ◌∷◌, ◌++◌, map}
use mathlib.Core.Option.{Option}
use Prim.Native.Nat.{ℕ, suc, ◌<◌, ◌≤◌}
use native.Mathlib.Omega.{arith}
use lib.ListN.{length, get_or}
use lib.IntN.{ℤ}
use Rattle.std.specs.Prelude.{Some}
use Rattle.job.specs.Number.{Signed32}
use Rattle.job.specs.Test.{◌and◌}
use Rattle.job.specs.Site.{last_time}
use Rattle.job.specs.Syntax.{Param}
use Rattle.job.specs.Node.{Node, Dag, node_at}
use Rattle.model.specs.Machine.Limits.{Limits}
use Rattle.model.specs.Machine.Blank.{token_at}
use Rattle.model.specs.Machine.Rules.{rules_hold}
use Rattle.model.specs.Machine.Reply.{moves, accepted, outcome, unless, is_refused}
use Rattle.model.specs.Machine.Step as Step
use Rattle.model.specs.Machine.Step.{unset, look, takes}
use Rattle.model.specs.Machine.Answer as Answer
use Rattle.model.specs.Machine.Answer.{answered}
use Rattle.model.specs.Machine.Clock as Clock
use Rattle.model.specs.Machine.Clock.{takes_time, after_advance}
use Rattle.calculus.specs.Event.{Event, Label, silently, showing}
use Rattle.calculus.specs.Expression.{Exp}
use Rattle.calculus.specs.Allowed.{shown, next_handle}
use Rattle.model.specs.Run.Call.{Call, step, answer, advance, runner, events_of, outcome_of}
use Rattle.model.specs.declared.token.State.TheVariants as states
use Rattle.model.specs.declared.token.Token.{Token}
use Rattle.model.specs.declared.cell.Cell.{Cell}
use Rattle.model.specs.declared.record.Machine.{Machine}
use Rattle.model.specs.declared.reply.Outcome.{Outcome}
use Rattle.job.proofs.Test.{lt-ltb, le-leb}
use Rattle.simulation.proofs.AbstractMachine as Abstract
use Rattle.simulation.proofs.AbstractMachine.{Binding, Frame, at, running, Store, wake, state, label_of, after, effect, Move}
use Rattle.simulation.proofs.Shuffle.{Split, first, later}
use Rattle.lockstep.proofs.Labels.{Labels, node_meant, program_of, FlowAt, Flow}
use Rattle.lockstep.proofs.View.{World, Unset, PlaceSeen, TokenSeen, Kept, token-keep, tokens-map}
use Rattle.lockstep.proofs.Seen.{Core, world, Sees, seen_as, sweep-sees, UsedToken, UsedCell, used-closed, used-fits, token-used}
use Rattle.lockstep.proofs.Slots.{found, values_seen}
use Rattle.lockstep.proofs.Others.{Others, acting-inside, cell-later}
use Rattle.lockstep.proofs.Agrees.{Acting}
use Rattle.demand3.proofs.Room.{Room, takes-accepted}
use Rattle.lockstep.proofs.AnswerAgrees.{answered-becomes}
use Rattle.lockstep.proofs.ClockAgrees.{advanced-sees}
use Rattle.demand3.proofs.Counterpart.{Turn, is-ready, is-waiting, is-called, turn, queue-index, open-holder}
use Rattle.model.proofs.Run.Passage.{events_by}
use Rattle.lockstep.proofs.Lockstep.{Fitting, at-node, shown_by, takes-agrees}

-- the token at p is at a site call that finds an unset cell
pub record Blocked (d : Dag) (m : Machine) (p : ℕ) : Type 0 where
  pub site : ℕ
  pub params : List Param
  pub next : ℕ
  pub cell : ℕ
  pub node : node_at d (token_at m.tokens p).node ≡ Node.site site params next
  pub finds : look m.cells (token_at m.tokens p).binds params ≡ unset cell

-- what a record needs so that it can follow
pub record Ready (lim : Limits) (d : Dag) (m : Machine) : Type 0 where
  pub holds : rules_hold lim d m ≡ true
  pub room : Room lim d m
  pub blocked : (p c : ℕ) → (token_at m.tokens p).state ≡ states.Waiting c → Blocked d m p

-- the machine follows a step with this label to a state: it stays as it is, or a call that is not refused shows the label
pub data Followed (lim : Limits) (d : Dag) (M : Labels) (m : Machine) (a : Label) (s : Abstract.State) : Type 0 where
  stays : a ≡ silently → Sees M m s → Followed lim d M m a s
  calls : (c : Call) → is_refused (outcome_of runner lim d m c).reply ≡ false → events_by c (outcome_of runner lim d m c) ≡ shown a []
      → Sees M (outcome_of runner lim d m c).machine s → Followed lim d M m a s

split-whole : {x : Abstract.Token} {S L R : List Abstract.Token} → Split x S L R → S ≡ L ++ (x ∷ R)
split-whole first = refl
split-whole (later {y = y} s) = ap (◌∷◌ y) (split-whole s)

-- a name that is skipped changes nothing
skip-name : {M : Labels} {ts : List Token} {cs : List Cell} {name place : ℕ → ℕ} {σ : Store} {new : ℕ} {A : List ℕ}
    {S : List Abstract.Token}
    → Core M (world ts cs name place σ new) A S → Core M (world ts cs name place σ (suc new)) A S
skip-name {M} {ts} {cs} {name} {place} {σ} {new} K =
    record {
      seen = tokens-map (λ p x l v. token-keep kept (used-closed O) (used-fits O p (token-used O p v)) (λ c e. e) v) K.seen;
      each = K.each;
      clean = λ n l. K.clean n (omega arith);
    }
  where
    O : World
    O = world ts cs name place σ new

    kept : Kept (UsedToken O) (UsedCell O) O (world ts cs name place σ (suc new))
    kept = record { size = refl; frames = λ q u e. refl; cells = λ c n u s. cell-later s; parents = λ c u. refl }

module _ (lim : Limits) (d : Dag) (M : Labels) (bodies : ℕ → Exp) (fits : Fitting lim) (flow : Flow d M) (m : Machine) (ok : Ready lim d m)
    {name place : ℕ → ℕ} {σ : Store} {new : ℕ} {A : List ℕ} {S : List Abstract.Token}
    (K : Core M (world m.tokens m.cells name place σ new) A S) where
  abbrev W : World
  W = world m.tokens m.cells name place σ new

  abbrev G : Abstract.Program
  G = program_of d M bodies

  -- what the abstract machine's token does
  abbrev acts : Abstract.Place → ℤ → Abstract.Effect
  acts K v = Abstract.act G m.clock σ new m.calls K v

  flow-at : {n : ℕ} {B : List Binding} {F : List Frame} {U : List ℕ} (p : ℕ) → p < length m.tokens
      → PlaceSeen W M (token_at m.tokens p) n B F U → FlowAt d M n (node_at d n)
  flow-at {n} p l z = flow.at n (subst (λ i. i < length d.nodes) z.node (at-node lim d m ok.holds p l))

  -- a waiting token stays
  idle : {n : ℕ} {B : List Binding} {F : List Frame} {U : List ℕ} {v : ℤ} (p : ℕ) → p < length m.tokens → Blocked d m p
      → PlaceSeen W M (token_at m.tokens p) n B F U
      → acts (at n B F U) v ≡ Abstract.makes silently (running (at n B F U) v ∷ [])
  idle {n} {B} {F} {U} {v} p l b z = go (node_at d n) (ap (node_at d) (sym z.node) ∙ b.node) (flow-at p l z)
    where
      asks : Option (List ℤ) → Abstract.Effect
      asks o = Abstract.asks_site m.clock m.calls b.site (running (at n B F U) v) o (at b.next B F U)

      does : Node → Abstract.Effect
      does N = Abstract.acts_at G m.clock σ new m.calls (node_meant (M.scope n) N) (at n B F U) v

      at-site : FlowAt d M n (Node.site b.site b.params b.next)
          → does (Node.site b.site b.params b.next) ≡ Abstract.makes silently (running (at n B F U) v ∷ [])
      at-site (FlowAt.site e good f) = unfold node_meant in ap asks (values_seen z.binds.views good ∙ ap found b.finds)

      go : (N : Node) → N ≡ Node.site b.site b.params b.next → FlowAt d M n N
          → does N ≡ Abstract.makes silently (running (at n B F U) v ∷ [])
      go N e f = ap does e ∙ at-site (subst (FlowAt d M n) e f)

  abbrev FollowedBy : (L R : List Abstract.Token) → Abstract.Effect → Type 0
  FollowedBy L R x = Followed lim d M m (label_of x) (after L R m.clock σ new m.calls x)

  follow-waiting : {L R : List Abstract.Token} {n : ℕ} {B : List Binding} {F : List Frame} {U : List ℕ} {v : ℤ} (p : ℕ)
      → Split (running (at n B F U) v) S L R → p < length m.tokens → Blocked d m p → PlaceSeen W M (token_at m.tokens p) n B F U
      → FollowedBy L R (acts (at n B F U) v)
  unfolding next_handle
  follow-waiting {L} {R} {v = v} p split l b z =
      subst (FollowedBy L R) (sym (idle {v = v} p l b z))
      (stays refl
      (subst (λ S. Sees M m (state S σ (suc new) m.calls m.clock)) (split-whole split) (seen_as name place A (skip-name K))))

  step-does : (k : ℕ) → k < m.queued → Step.step lim d m k ≡ outcome m (takes lim d m k)
  unfolding Step.step unless
  step-does k l = rw (ok.holds, lt-ltb k m.queued l, unless) refl

  module _ {L R : List Abstract.Token} {n : ℕ} {B : List Binding} {F : List Frame} {U : List ℕ} {v : ℤ} where
    ready_at : (k : ℕ) → k < m.queued → Acting M W (get_or m.queue k 0) L R n B F U v
        → FollowedBy L R (acts (at n B F U) v)
    unfolding outcome_of
    ready_at k l acting =
        let o = step-does k l in
        let fine = takes-accepted lim d m ok.room ok.holds k l in
        let both =
        shown_by M W L R m.clock m.calls (acts (at n B F U) v) k m (takes lim d m k)
        (takes-agrees lim d M bodies fits flow m k ok.holds l acting) fine in
        calls (step k) (ap (λ (o : Outcome). is_refused o.reply) o ∙ fine) (ap (events_by (step k)) o ∙ both.0)
        (subst (λ (o : Outcome). Sees M o.machine (after L R m.clock σ new m.calls (acts (at n B F U) v))) (sym o)
        both.1)

    follow-ready : (p : ℕ) → Acting M W p L R n B F U v → FollowedBy L R (acts (at n B F U) v)
    follow-ready p acting =
        let i = queue-index lim d m ok.holds p (acting-inside acting.others) acting.state in
        ready_at i.0 i.1 (subst (λ p. Acting M W p L R n B F U v) (sym i.2) acting)

  answer-does : (h p : ℕ) (w : ℤ) → (token_at m.tokens p).state ≡ states.Called h
      → Answer.answer lim d m h w ≡ outcome m (answered m w (Some p))
  unfolding Answer.answer unless
  answer-does h p w e = rw (ok.holds, open-holder lim d m ok.holds h p e, unless) refl

  follow-called : {L R : List Abstract.Token} {n : ℕ} {B : List Binding} {F : List Frame} {U : List ℕ}
      (p h : ℕ) (w : ℤ) (signed : Signed32 w) → (token_at m.tokens p).state ≡ states.Called h
      → Others M W p L R → PlaceSeen W M (token_at m.tokens p) n B F U → Unset σ U
      → TokenSeen W M (token_at m.tokens p) (Abstract.called_out h (at n B F U))
      → FollowedBy L R (Abstract.makes (showing (Event.answer h w)) (running (at n B F U) w ∷ []))
  unfolding outcome_of answered outcome accepted is_refused events_of shown
  follow-called {L} {R} {n} {B} {F} {U} p h w signed e o z un seen =
      let does = answer-does h p w e in
      calls (answer h w signed) (ap (λ (o : Outcome). is_refused o.reply) does) (ap (events_by (answer h w signed)) does)
      (subst
      (λ (o : Outcome). Sees M o.machine
      (after L R m.clock σ new m.calls (Abstract.makes (showing (Event.answer h w)) (running (at n B F U) w ∷ []))))
      (sym does) (sweep-sees _ (answered-becomes m h w o z un seen).machine))

  follow : {L R : List Abstract.Token} {x : Abstract.Token} (move : Move x) → Split x S L R → Turn M W L R x
      → FollowedBy L R (effect G m.clock σ new m.calls x move)
  follow Move.acts split (is-ready {p = p} acting) = follow-ready p acting
  follow Move.acts split (is-waiting {p = p} {c = c} l e z) = follow-waiting p split l (ok.blocked p c e) z
  follow (Move.answered w signed) split (is-called {p = p} {h = h} e o z un seen) = follow-called p h w signed e o z un seen

  -- a clock move needs no room
  advance-does : (time : ℕ) → m.clock ≤ time → time ≤ last_time → Clock.advance lim d m time ≡ outcome m (moves (after_advance m time))
  unfolding Clock.advance unless takes_time ◌and◌
  advance-does time l k = rw (ok.holds, le-leb m.clock time l, le-leb time last_time k, unless) refl

  follow-clock : (time : ℕ) → m.clock ≤ time → time ≤ last_time
      → Followed lim d M m (showing (Event.move time)) (state (map (wake time) S) σ new m.calls time)
  unfolding outcome_of outcome accepted is_refused events_of shown
  follow-clock time l k =
      let does = advance-does time l k in
      calls (advance time) (ap (λ (o : Outcome). is_refused o.reply) does) (ap (events_by (advance time)) does)
      (subst (λ (o : Outcome). Sees M o.machine (state (map (wake time) S) σ new m.calls time)) (sym does)
      (sweep-sees _ (advanced-sees m time K)))

-- each step of the abstract machine is followed
pub step-followed : (lim : Limits) (d : Dag) (M : Labels) (bodies : ℕ → Exp) → Fitting lim → Flow d M
    → (m : Machine) {s s' : Abstract.State} {a : Label} → Ready lim d m → Sees M m s → Abstract.Step (program_of d M bodies) s a s'
    → Followed lim d M m a s'
step-followed lim d M bodies fits flow m ok (seen_as name place A K) (Abstract.step move split) =
    follow lim d M bodies fits flow m ok K move split (turn K split)
step-followed lim d M bodies fits flow m ok (seen_as name place A K) (Abstract.ticks {t = time} l k) =
    follow-clock lim d M bodies fits flow m ok K time l k
