-- Each step keeps one callee at most for a place that is not marked. By the clause of the node: no other row is written than those that it
-- names. Assumes nothing.
use mathlib.Core.Path.{◌≡◌, refl, sym, ◌∙◌, ap, subst}
use mathlib.Core.Logic.{◌⊎◌, inl, inr}
use mathlib.Core.Bool.{Bool, true, false}
use mathlib.Core.List.{List, [], ◌∷◌, map}
use Prim.Native.Nat.{ℕ, zero, suc, ◌+◌}
use native.Mathlib.Decide.{ℕ_discrete}
use native.Mathlib.Omega.{arith}
use lib.ListN.{get_or, set}
use lib.IntN.{ℤ}
use lib.Seq.{get_or-set_other}
use Rattle.std.specs.Prelude.{Some, None}
use Rattle.job.specs.Node.{Node, Dag}
use Rattle.job.specs.Syntax.{Param}
use Rattle.job.specs.Tail.{is_tail}
use Rattle.job.specs.Words.{dag_of}
use Rattle.model.specs.Machine.Blank.{blank_token, blank_machine, token_at}
use Rattle.model.specs.Machine.Limits.{paper}
use Rattle.model.specs.Machine.Reply.{Effect, moves, unless, outcome, accepted}
use Rattle.model.specs.Machine.Rules.{rules_hold}
use Rattle.model.specs.Machine.Answer as Answer
use Rattle.model.specs.Machine.Answer.{holder}
use Rattle.model.specs.Machine.Clock as Clock
use Rattle.model.specs.Machine.Start.{start_token, start_machine}
use Rattle.model.specs.Machine.Step as Step
use Rattle.model.specs.Machine.Update.{put, with_tables, with_orders, with_counts, enqueue, new_token, new_cell, with_node, with_binding}
use Rattle.model.specs.Machine.Update.{with_value, with_state, in_cell, with_timers, with_clock}
use Rattle.model.specs.Machine.Step.{act}
use Rattle.model.specs.Machine.Step.{choke_token, after_choke}
use Rattle.model.specs.declared.cell.Cell.{Cell}
use Rattle.model.specs.declared.record.Machine.{Machine}
use Rattle.model.specs.declared.reply.Outcome.{Outcome}
use Rattle.model.specs.Machine.Held.{Place}
use Rattle.model.specs.declared.token.State.TheVariants as states
use Rattle.model.specs.declared.token.Token.{Token}
use Rattle.model.proofs.Machine.Refused.{After}
use Rattle.model.proofs.Machine.Added.{unless_tail, tokens_added}
use Rattle.model.proofs.Machine.ActCases.{Anew, Does, act-does}
use Rattle.model.proofs.Machine.WrittenTokens.{Choked, ends, wakes, stays, choked-cases}
use Rattle.model.proofs.Machine.WrittenTokens.{Woken, woken-cases}
use Rattle.record.specs.Changes.{dequeued}
use Rattle.sites.specs.Row.{node_in}
use Rattle.acts.specs.Acting.{Acting}
use Rattle.acts.specs.SharedFrames.{NamesAsCaller, OneCallee, caller_shared}
use Rattle.reach.specs.declared.used.Marks.{Marks}
use Rattle.writes.specs.declared.actor.Actor.{Actor}
use Rattle.acts.proofs.Outcomes.{step_is}
use Rattle.acts.proofs.StepAtNode.{call_step, call-full}
use Rattle.acts.proofs.SharedFrames.{nowhere-at, blank-names, unshared, NoNewCallee, callees-kept, effect-callees}
use Rattle.acts.proofs.SharedFrames.{swept-callees, put-names, put-callees, blank-callees}
use Rattle.job.proofs.Test.{never}
use Rattle.job.proofs.Lists.{replicate-at}

-- a choked token has the caller that it had, or none
choked-names : (cs : List Cell) (c f : ℕ) (t : Token) → (choke_token cs c t).caller ≡ Some f → t.caller ≡ Some f
choked-names cs c f t e = go (choked-cases cs c t) e
  where
    go : {u : Token} → Choked c t u → u.caller ≡ Some f → t.caller ≡ Some f
    go ends e = absurd (nowhere-at f e)
    go (wakes w) e = unfold with_state in e
    go stays e = e

-- a woken token has the caller that it had
woken-names : (time f : ℕ) (t : Token) → (Clock.woken_by time t).caller ≡ Some f → t.caller ≡ Some f
woken-names time f t e = go (woken-cases time t) e
  where
    go : {u : Token} → Woken time t u → u.caller ≡ Some f → t.caller ≡ Some f
    go (Woken.wakes w) e = unfold with_state with_value in e
    go (Woken.stays w) e = e

mapped-names : (f : ℕ) (g : Token → Token) → ((t : Token) → (g t).caller ≡ Some f → t.caller ≡ Some f) → (ts : List Token) (i : ℕ)
    → (token_at (map g ts) i).caller ≡ Some f → (token_at ts i).caller ≡ Some f
unfolding token_at
mapped-names f g h [] i e = e
mapped-names f g h (t ∷ ts) zero e = h t e
mapped-names f g h (t ∷ ts) (suc i) e = mapped-names f g h ts i e

module _ (s : List Bool) {ws dag : List ℕ} {used : Marks} {actor : Actor} {k : ℕ} {m : Machine}
    (a : Acting ws used dag actor k m) where
  abbrev t : Token
  t = token_at m.tokens actor.token

  abbrev n : Machine
  n = dequeued m actor.place

  abbrev Kept : Type 0
  Kept = OneCallee s m → OneCallee s (Step.step paper (dag_of dag) m actor.place).machine

  stepped : After (NoNewCallee s m) (act paper (dag_of dag) m n actor.token t (node_in dag actor.row k)) → Kept
  stepped h one = subst (λ (o : Outcome). OneCallee s o.machine) (sym (step_is a)) (effect-callees s m _ h one)

  -- the token is written anew with its caller
  anew : (u : Token) → u.caller ≡ t.caller → NoNewCallee s m (put actor.token u n)
  unfolding with_orders
  anew u same = put-callees s m n refl actor.token u (λ f e. sym same ∙ e)

  gone : NoNewCallee s m (put actor.token blank_token n)
  unfolding with_orders
  gone = blank-callees s m n refl actor.token

  -- one more token with the caller of this one, which is marked
  abbrev CallerMarked : Type 0
  CallerMarked = (f : ℕ) → get_or s f true ≡ false → t.caller ≡ Some f → ⊥

  another : CallerMarked → (o : Machine) (q : ℕ) (v : Token) → v.caller ≡ t.caller → NoNewCallee s m o → NoNewCallee s m (put q v o)
  another marked o q v same h f i e b = go (put-names o q v f i b)
    where
      go : ((i ≡ q) × (v.caller ≡ Some f)) ⊎ ((i ≡ q → ⊥) × NamesAsCaller o f i) → NamesAsCaller m f i
      go (inl w) = absurd (marked f e (sym same ∙ w.1))
      go (inr w) = h f i e w.1

  -- no instruction gives a place that is not marked a callee, but a call that keeps a frame, and a return
  does-callees : {N : Node} {e : Effect} → Does paper (dag_of dag) m n actor.token t N e → (tokens_added (dag_of dag) N ≡ 1 → CallerMarked)
      → ((b : ℕ) (ps : List Param) (j : ℕ) → N ≡ Node.call b ps j → tokens_added (dag_of dag) N ≡ 0) → (N ≡ Node.return → ⊥)
      → After (NoNewCallee s m) e
  unfolding After tokens_added Step.ended Step.goes_on Step.waited Step.called_out Step.forked Step.split after_choke enqueue new_token new_cell
      with_tables with_orders with_counts with_timers with_node with_binding with_value with_state in_cell
  does-callees (Does.refused r) new call back = tt
  does-callees Does.ends new call back = gone
  does-callees Does.publishes new call back = gone
  does-callees (Does.goes_on (Anew.assigned e)) new call back = anew _ refl
  does-callees (Does.goes_on (Anew.removed e)) new call back = anew _ refl
  does-callees (Does.goes_on (Anew.replied e v)) new call back = anew _ refl
  does-callees (Does.goes_on (Anew.became e i)) new call back = anew _ refl
  does-callees (Does.goes_on (Anew.back e i)) new call back = absurd (back e)
  does-callees (Does.waits e i) new call back = anew _ refl
  does-callees (Does.due_later time e i l) new call back = anew _ refl
  does-callees (Does.calls_out e i l) new call back = anew _ refl
  does-callees (Does.forks e r) new call back = another (new (ap (tokens_added (dag_of dag)) e)) _ _ _ refl (anew _ refl)
  does-callees (Does.enters {e = b} {ps = ps} {k = j} e i r) new call back =
      let y = call b ps j e in let z = ap (tokens_added (dag_of dag)) e ∙ ap unless_tail i in absurd (omega arith)
  does-callees (Does.splits e r c) new call back = another (new (ap (tokens_added (dag_of dag)) e)) _ _ _ refl (anew _ refl)
  does-callees (Does.chokes {c = c} e i) new call back = λ f i e. mapped-names f _ (choked-names m.cells c f) m.tokens i

-- Steps that give no place a new callee
module _ (s : List Bool) (dag : List ℕ) (actor : Actor) (m : Machine) where
  abbrev pub StepKeeps : (k : ℕ) → Type 0
  StepKeeps k = (ws : List ℕ) (used : Marks) → Acting ws used dag actor k m → OneCallee s m
      → OneCallee s (Step.step paper (dag_of dag) m actor.place).machine

  -- a node that adds no token, and is no return
  keeps : (k : ℕ) → tokens_added (dag_of dag) (node_in dag actor.row k) ≡ 0 → (node_in dag actor.row k ≡ Node.return → ⊥) → StepKeeps k
  keeps k none other ws used a =
      stepped s a
      (does-callees s a (act-does paper (dag_of dag) m (dequeued m actor.place) actor.token (token_at m.tokens actor.token)
      (node_in dag actor.row k))
      (λ e. absurd (omega arith)) (λ b ps j e. none) other)

  pub stop-keeps : StepKeeps 0
  unfolding tokens_added
  stop-keeps = keeps 0 refl (λ e. never cc)

  pub site-keeps : StepKeeps 1
  unfolding tokens_added
  site-keeps = keeps 1 refl (λ e. never cc)

  pub assign-keeps : StepKeeps 4
  unfolding tokens_added
  assign-keeps = keeps 4 refl (λ e. never cc)

  pub remove-keeps : StepKeeps 5
  unfolding tokens_added
  remove-keeps = keeps 5 refl (λ e. never cc)

  pub choke-keeps : StepKeeps 7
  unfolding tokens_added
  choke-keeps = keeps 7 refl (λ e. never cc)

  pub publish-keeps : StepKeeps 9
  unfolding tokens_added
  publish-keeps = keeps 9 refl (λ e. never cc)

-- A fork and a where mark the caller first
module _ (s : List Bool) (dag : List ℕ) (actor : Actor) (m : Machine) where
  abbrev u : List Bool
  u = caller_shared (token_at m.tokens actor.token).caller s

  abbrev pub SplitKeeps : (k : ℕ) → Type 0
  SplitKeeps k = (ws : List ℕ) (used : Marks) → Acting ws used dag actor k m → OneCallee s m
      → OneCallee u (Step.step paper (dag_of dag) m actor.place).machine

  split-keeps : (k : ℕ) → ((b : ℕ) (ps : List Param) (j : ℕ) → node_in dag actor.row k ≡ Node.call b ps j → ⊥)
      → (node_in dag actor.row k ≡ Node.return → ⊥) → SplitKeeps k
  split-keeps k call other ws used a one =
      stepped u a
      (does-callees u a (act-does paper (dag_of dag) m (dequeued m actor.place) actor.token (token_at m.tokens actor.token)
      (node_in dag actor.row k))
      (λ new f e. (unshared (token_at m.tokens actor.token).caller s f e).0) (λ b ps j e. absurd (call b ps j e)) other)
      (callees-kept s u m m (λ f e. (unshared (token_at m.tokens actor.token).caller s f e).1) (λ f i e a. a) one)

  pub fork-keeps : SplitKeeps 3
  fork-keeps = split-keeps 3 (λ b ps j e. never cc) (λ e. never cc)

  pub where-keeps : SplitKeeps 6
  where-keeps = split-keeps 6 (λ b ps j e. never cc) (λ e. never cc)

-- A call: nobody named its frame, and the callee is the first to
module _ (s : List Bool) (m : Machine) (p : ℕ) (none : (i : ℕ) → NamesAsCaller m p i → ⊥) (one : OneCallee s m) where
  fresh : OneCallee (set s p false) m
  fresh f i j e a b = go (ℕ_discrete f p)
    where
      go : Dec (f ≡ p) → i ≡ j
      go (yes q) = absurd (none i (a ∙ ap Some q))
      go (no n) = one f i j (sym (get_or-set_other s p f false true n) ∙ e) a b

  abbrev From : (f q k : ℕ) → Type 0
  From f q k = ((k ≡ q) × (f ≡ p)) ⊎ NamesAsCaller m f k

  -- the callee at q names p, and the others whom they named
  called : (n : Machine) (q : ℕ) (v w : Token) → n.tokens ≡ m.tokens → v.caller ≡ Some p → w.caller ≡ (token_at m.tokens p).caller
      → OneCallee (set s p false) (enqueue q (new_token q v (put p w n)))
  unfolding enqueue with_orders new_token with_counts
  called n q v w same calls frame f i j e a b = go (from i a) (from j b)
    where
      from : (k : ℕ) → NamesAsCaller (put q v (put p w n)) f k → From f q k
      from k c = first (put-names (put p w n) q v f k c)
        where
          second : ((k ≡ p) × (w.caller ≡ Some f)) ⊎ ((k ≡ p → ⊥) × NamesAsCaller n f k) → From f q k
          second (inl x) = inr (ap (λ l. (token_at m.tokens l).caller) x.0 ∙ (sym frame ∙ x.1))
          second (inr x) = inr (ap (λ ts. (token_at ts k).caller) (sym same) ∙ x.1)

          first : ((k ≡ q) × (v.caller ≡ Some f)) ⊎ ((k ≡ q → ⊥) × NamesAsCaller (put p w n) f k) → From f q k
          first (inl x) = let w : Some p ≡ Some f = sym calls ∙ x.1 in inl (x.0, let z : f ≡ p = cc in z)
          first (inr x) = second (put-names n p w f k x.1)

      go : From f q i → From f q j → i ≡ j
      go (inl x) (inl y) = x.0 ∙ sym y.0
      go (inl x) (inr y) = absurd (none j (y ∙ ap Some x.1))
      go (inr x) (inl y) = absurd (none i (x ∙ ap Some y.1))
      go (inr x) (inr y) = fresh f i j e x y

-- in tail position the token keeps its caller, and nobody names it still
pub call-keeps : (s : List Bool) (dag : List ℕ) (actor : Actor) (m : Machine) (ws : List ℕ) (used : Marks)
    → Acting ws used dag actor 2 m → ((i : ℕ) → NamesAsCaller m actor.token i → ⊥) → OneCallee s m
    → OneCallee (set s actor.token false) (Step.step paper (dag_of dag) m actor.place).machine
unfolding tokens_added outcome accepted with_orders with_node with_state
call-keeps s dag actor m ws used a none one = go (is_tail (dag_of dag) k) refl (Step.has_token_place paper m) refl
  where
    k : ℕ
    k = get_or dag (actor.row + 2) 0

    go : (tail : Bool) → is_tail (dag_of dag) k ≡ tail → (room : Bool) → Step.has_token_place paper m ≡ room
        → OneCallee (set s actor.token false) (Step.step paper (dag_of dag) m actor.place).machine
    go true i room h = keeps (set s actor.token false) dag actor m 2 (ap unless_tail i) (λ e. never cc) ws used a
        (fresh s m actor.token none one)
    go false i true h =
        subst (λ (o : Outcome). OneCallee (set s actor.token false) o.machine) (sym (call_step dag actor m _ h refl i a))
        (swept-callees (set s actor.token false) _ (called s m actor.token none one (dequeued m actor.place) _ _ _ refl refl refl))
    go false i false h =
        subst (λ (o : Outcome). OneCallee (set s actor.token false) o.machine) (sym (call-full dag actor m h i a))
        (fresh s m actor.token none one)

-- An answer leaves each token its caller
pub answer_keeps : (s : List Bool) (d : Dag) (m : Machine) (h : ℕ) (v : ℤ) → OneCallee s m
    → OneCallee s (Answer.answer paper d m h v).machine
unfolding Answer.answer
answer_keeps s d m h v one = effect-callees s m _ (tested (rules_hold paper d m)) one
  where
    given : (q : Place) → After (NoNewCallee s m) (Answer.answered m v q)
    given None = unfold After Answer.answered in tt
    given (Some p) =
        unfold After Answer.answered enqueue with_orders in
        put-callees s m m refl p (with_state states.Ready (with_value (Some v) (token_at m.tokens p)))
        (λ f e. unfold with_state with_value in e)

    tested : (b : Bool) → After (NoNewCallee s m) (unless b 14 (Answer.answered m v (holder h 0 m.tokens)))
    tested true = unfold unless in given _
    tested false = unfold unless After in tt

-- and so does a clock move
pub advance-keeps : (s : List Bool) (d : Dag) (m : Machine) (time : ℕ) → OneCallee s m
    → OneCallee s (Clock.advance paper d m time).machine
unfolding Clock.advance
advance-keeps s d m time one = effect-callees s m _ (tested (rules_hold paper d m) (Clock.takes_time m time)) one
  where
    tested : (a b : Bool) → After (NoNewCallee s m) (unless a 14 (unless b 15 (moves (Clock.after_advance m time))))
    tested true true =
        unfold unless After Clock.after_advance with_clock with_timers with_orders with_tables in
        λ f i e. mapped-names f _ (woken-names time f) m.tokens i
    tested true false = unfold unless After in tt
    tested false b = unfold unless After in tt

-- and at a start nobody has one
pub start-callees : (s : List Bool) (goal : ℕ) → OneCallee s (start_machine paper goal)
unfolding put with_tables token_at
start-callees s goal f i j e a b = go (put-names (blank_machine paper) 0 (start_token goal) f i a)
  where
    go : ((i ≡ 0) × ((start_token goal).caller ≡ Some f)) ⊎ ((i ≡ 0 → ⊥) × NamesAsCaller (blank_machine paper) f i) → i ≡ j
    go (inl w) = absurd (nowhere-at f w.1)
    go (inr w) = absurd (blank-names (blank_machine paper) f i (replicate-at 64 i blank_token) w.1)
