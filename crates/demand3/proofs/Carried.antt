-- What is in use after an instruction, from what was in use before it: the same, the new places besides, or all but the place of a token
-- that ended; and blanking changes nothing. What was in use stays (Unblanked), what is in use is inside what was and what is new (Inside),
-- and marks that agree at each place are equal. Assumes nothing.
use mathlib.Core.Path.{◌≡◌, refl, sym, ◌∙◌, ap, subst}
use mathlib.Core.Bool.{Bool, true, false}
use mathlib.Core.List.{List}
use Prim.Native.Nat.{ℕ, ◌<◌}
use native.Mathlib.Decide.{ℕ_discrete}
use native.Mathlib.Omega.{arith}
use lib.ListN.{length, get_or, set, length-set, length-map}
use lib.Seq.{get_or-set_other}
use lib.IntN.{ℤ}
use Rattle.std.specs.Prelude.{Some, None}
use Rattle.job.specs.Test.{without}
use Rattle.job.specs.Syntax.{Param}
use Rattle.job.specs.Node.{Dag}
use Rattle.model.specs.Machine.Limits.{Limits}
use Rattle.model.specs.Machine.Blank.{empty, blank_token, token_at, slot_at, has_value}
use Rattle.model.specs.Machine.Active.{cell_is_set}
use Rattle.model.specs.Machine.State.{is_live}
use Rattle.model.specs.Machine.InUse.{tokens_used, cells_used, sweep}
use Rattle.model.specs.Machine.FreePlace.{next_place}
use Rattle.model.specs.Machine.Rules.{rules_hold}
use Rattle.model.specs.Machine.Update.{with_node, with_binding, with_value, in_cell, with_state, with_tables, with_orders, with_counts}
use Rattle.model.specs.Machine.Update.{with_timers, with_clock, queue_of, waits_of, put, enqueue, new_token, new_cell}
use Rattle.model.specs.Machine.Step.{callee, has_token_place, has_cell_place}
use Rattle.model.specs.Machine.Answer.{holder}
use Rattle.model.specs.Machine.Clock.{woken_by, after_advance}
use Rattle.model.specs.declared.token.Slot.{Slot}
use Rattle.model.specs.declared.token.Slot.TheVariants as slots
use Rattle.model.specs.declared.token.State.TheVariants as states
use Rattle.model.specs.declared.token.Token.{Token}
use Rattle.model.specs.declared.record.Machine.{Machine}
use Rattle.job.proofs.Test.{clash}
use Rattle.model.proofs.Machine.Marks.{Free, marks-same, marks-added, marks-removed}
use Rattle.model.proofs.Machine.Rules.{EachRuleHolds, each-rule-holds, ready-live}
use Rattle.model.proofs.Run.Queue.{queue-rules-hold}
use Rattle.model.proofs.Machine.Inside.{Fits, fits-blank, With, tokens-inside, cells-inside}
use Rattle.model.proofs.Machine.WrittenTokens.{fits-same, fits-binding, fits-callee, Woken, wakes, stays, woken-cases, woken-blank}
use Rattle.model.proofs.Machine.WrittenTokens.{due-live}
use Rattle.model.proofs.Machine.Clock.{woken-at}
use Rattle.model.proofs.Machine.Used.{Used, UsedCell, InsideUsed, used-fits, used-parent, tokens-size, cells-size, live-used}
use Rattle.model.proofs.Machine.ActingInside.{write-inside, fork-inside, call-inside, split-inside}
use Rattle.lockstep.proofs.AnswerAgrees.{holder-called}
use Rattle.lockstep.proofs.Lockstep.{Fitting, free-token, free-cell}
use Rattle.model.proofs.Keeps.Clean.{Clean, tokens_of, cells_of}
use Rattle.demand3.proofs.Unblanked.{Adds, token-stays, cell_stays, adds-clean, clean-whole, rules-clean}
use Rattle.demand3.proofs.Unblanked.{keep-adds, end-adds, fork-adds, call-adds, split-adds}
use Rattle.demand3.proofs.SameLinks.{Linked, SameLinks, links-tokens, links-cells, links-clean}
use Rattle.demand3.proofs.Framed.{Framed}
use Rattle.model.proofs.Machine.TableRows.{token-same, token-other, live_inside}

-- blanking changes nothing, and these tokens and cells are in use
pub record Carried (o : Machine) (used used_cells : List Bool) : Type 0 where
  pub whole : sweep o ≡ o
  pub tokens : tokens_used o ≡ used
  pub cells : cells_used o ≡ used_cells

-- no variable of a token is bound to a cell
abbrev pub BindsNoCell : Token → Type 0
BindsNoCell t = (x c : ℕ) → slot_at t.binds x ≡ slots.Cell c → ⊥

-- the machine with the token at a place of the queue taken out of it
abbrev pub taken : Machine → (place : ℕ) → Machine
taken m place = with_orders (without place (queue_of m)) (waits_of m) m

-- the machine with the token at p, which the queue has at a place, ended
abbrev pub stopped : Machine → (place p : ℕ) → Machine
stopped m place p = put p blank_token (taken m place)

-- The marks of a record that has what m has, and is inside what m uses and what is new
module _ {m o : Machine} {p : ℕ} (a : Adds m o p) where
  others-stay : (i : ℕ) → i < length (tokens_used m) → Used m i → (i ≡ p → ⊥) → Used o i
  others-stay i l u = token-stays a i (let z = (tokens_of m).size in omega arith) u

  all_stay : Used o p → (i : ℕ) → i < length (tokens_used m) → Used m i → Used o i
  all_stay here i l u = go (ℕ_discrete i p)
    where
      go : Dec (i ≡ p) → Used o i
      go (yes e) = subst (Used o) (sym e) here
      go (no n) = others-stay i l u n

  cells_stay : (c : ℕ) → c < length (cells_used m) → UsedCell m c → UsedCell o c
  cells_stay c l u = cell_stays a c (let z = (cells_of m).size in omega arith) u

  abbrev InsideNow : (Q R : ℕ → Type 0) → Type 0
  InsideNow Q R = InsideUsed m Q R o.tokens o.cells

  tokens-same : {R : ℕ → Type 0} → InsideNow (Used m) R → Used o p → tokens_used o ≡ tokens_used m
  tokens-same h here = marks-same (tokens_used o) (tokens_used m) (tokens-size m o a.tokens) (tokens-inside h) (all_stay here)

  tokens-added : {R : ℕ → Type 0} (q : ℕ) → InsideNow (With (Used m) q) R → Used o p → Used o q → tokens_used o ≡ set (tokens_used m) q true
  tokens-added q h here new =
      marks-added (tokens_used o) (tokens_used m) (tokens-size m o a.tokens) q (tokens-inside h) (all_stay here) new

  tokens-removed : {R : ℕ → Type 0} → InsideNow (λ i. Used m i × (i ≡ p → ⊥)) R → tokens_used o ≡ set (tokens_used m) p false
  tokens-removed h = marks-removed (tokens_used o) (tokens_used m) (tokens-size m o a.tokens) p (tokens-inside h) others-stay

  cells_same : {Q : ℕ → Type 0} → InsideNow Q (UsedCell m) → cells_used o ≡ cells_used m
  cells_same h = marks-same (cells_used o) (cells_used m) (cells-size m o a.cells) (cells-inside h) cells_stay

  cells-added : {Q : ℕ → Type 0} (c : ℕ) → InsideNow Q (With (UsedCell m) c) → UsedCell o c → cells_used o ≡ set (cells_used m) c true
  cells-added c h new = marks-added (cells_used o) (cells_used m) (cells-size m o a.cells) c (cells-inside h) cells_stay new

-- The same marks, a new token, a new token and a new cell
module _ {m o : Machine} {p : ℕ} (clean : Clean m) where
  same-carried : InsideUsed m (Used m) (UsedCell m) o.tokens o.cells → Adds m o p × Used o p → Carried o (tokens_used m) (cells_used m)
  same-carried h a =
      record { whole = clean-whole o (adds-clean a.0 clean); tokens = tokens-same a.0 h a.1; cells = cells_same a.0 h }

  new-carried : (q : ℕ) → InsideUsed m (With (Used m) q) (UsedCell m) o.tokens o.cells → Adds m o p × (Used o p × Used o q)
      → Carried o (set (tokens_used m) q true) (cells_used m)
  new-carried q h a =
      record {
        whole = clean-whole o (adds-clean a.0 clean);
        tokens = tokens-added a.0 q h a.1.0 a.1.1;
        cells = cells_same a.0 h;
      }

  both-carried : (q c : ℕ) → InsideUsed m (With (Used m) q) (With (UsedCell m) c) o.tokens o.cells
      → Adds m o p × (Used o p × (Used o q × UsedCell o c)) → Carried o (set (tokens_used m) q true) (set (cells_used m) c true)
  both-carried q c h a =
      record {
        whole = clean-whole o (adds-clean a.0 clean);
        tokens = tokens-added a.0 q h a.1.0 a.1.1.0;
        cells = cells-added a.0 c h a.1.1.1;
      }

-- a token that wakes keeps its links
woken-linked : (time : ℕ) (t : Token) → Linked t (woken_by time t)
unfolding with_state with_value is_live
woken-linked time t = go (woken-cases time t)
  where
    go : {u : Token} → Woken time t u → Linked t u
    go (wakes x) = record { live = sym (due-live time t.state x); caller = refl; cell = refl; binds = refl }
    go (stays x) = record { live = refl; caller = refl; cell = refl; binds = refl }

module _ (lim : Limits) (d : Dag) (m : Machine) (holds : rules_hold lim d m ≡ true) where
  rules : EachRuleHolds lim d m
  rules = each-rule-holds lim d m holds

  clean : Clean m
  clean = rules-clean lim d m holds

  -- tokens change in what is no link: the marks are the same
  linked-carried : (o : Machine) → SameLinks m o → ((i : ℕ) → token_at m.tokens i ≡ blank_token → token_at o.tokens i ≡ blank_token)
      → Carried o (tokens_used m) (cells_used m)
  linked-carried o h blank =
      record { whole = clean-whole o (links-clean h blank clean); tokens = links-tokens h; cells = links-cells h }

  -- a live token goes on as u, with the same links
  module _ (p : ℕ) (live : is_live (token_at m.tokens p).state ≡ true) where
    abbrev was : Token
    was = token_at m.tokens p

    in_use : Used m p
    in_use = live-used lim d m rules p live

    writes : (u : Token) → Fits (Used m) (UsedCell m) u → InsideUsed m (Used m) (UsedCell m) (set m.tokens p u) m.cells
    writes = write-inside lim d m rules p in_use

    links-carried : (o : Machine) (u : Token) → o.tokens ≡ set m.tokens p u → o.cells ≡ m.cells
        → is_live u.state ≡ true → u.caller ≡ was.caller → u.cell ≡ was.cell → u.binds ≡ was.binds
        → Carried o (tokens_used m) (cells_used m)
    unfolding is_live
    links-carried o u tokens cells alive caller cell binds =
        linked-carried o
        (record {
          tokens = ap length tokens ∙ length-set m.tokens p u;
          cells = cells;
          row = λ i. row i (ℕ_discrete i p);
        })
        (λ i e. other i (λ f. clash live (ap (λ (t : Token). is_live t.state) (ap (token_at m.tokens) (sym f) ∙ e))) ∙ e)
      where
        other : (i : ℕ) → (i ≡ p → ⊥) → token_at o.tokens i ≡ token_at m.tokens i
        other i n = ap (λ ts. token_at ts i) tokens ∙ token-other m.tokens p i u n

        here : token_at o.tokens p ≡ u
        here = ap (λ ts. token_at ts p) tokens ∙ token-same m.tokens p u (live_inside m.tokens p live)

        row : (i : ℕ) → Dec (i ≡ p) → Linked (token_at m.tokens i) (token_at o.tokens i)
        row i (yes e) =
            subst (λ j. Linked (token_at m.tokens j) (token_at o.tokens j)) (sym e)
            (subst (Linked was) (sym here) (record { live = alive ∙ sym live; caller = caller; cell = cell; binds = binds }))
        row i (no n) =
            subst (Linked (token_at m.tokens i)) (sym (other i n)) (record { live = refl; caller = refl; cell = refl; binds = refl })

  -- The instructions; the machines are those of Instructions
  module _ (place : ℕ) (queued : place < m.queued) (p : ℕ) (token : p ≡ get_or m.queue place 0) where
    abbrev t : Token
    t = token_at m.tokens p

    pub acting-live : is_live t.state ≡ true
    acting-live =
        subst (λ i. is_live (token_at m.tokens i).state ≡ true) (sym token)
        (ready-live _ ((queue-rules-hold lim d m holds).ready place queued))

    abbrev live : is_live t.state ≡ true
    live = acting-live

    used : Used m p
    used = in_use p live

    pub waited-carried : (c : ℕ) (queue waits : List ℕ)
        → Carried (with_orders queue waits (put p (with_state (states.Waiting c) t) (taken m place))) (tokens_used m) (cells_used m)
    unfolding with_orders put with_tables with_state is_live
    waited-carried c queue waits = links-carried p live _ (with_state (states.Waiting c) t) refl refl refl refl refl refl

    pub called-carried : (h next calls lasttoken lastcell : ℕ)
        → Carried (with_counts calls lasttoken lastcell (put p (with_node next (with_state (states.Called h) t)) (taken m place)))
        (tokens_used m) (cells_used m)
    unfolding with_orders with_counts put with_tables with_node with_state is_live
    called-carried h next calls lasttoken lastcell = links-carried p live _ (with_node next (with_state (states.Called h) t)) refl refl refl
        refl refl refl

    pub deferred-carried : (due next : ℕ) (timers : List ℕ)
        → Carried (with_timers timers (put p (with_node next (with_state (states.Due due) t)) (taken m place))) (tokens_used m)
        (cells_used m)
    unfolding with_orders with_timers put with_tables with_node with_state is_live
    deferred-carried due next timers = links-carried p live _ (with_node next (with_state (states.Due due) t)) refl refl refl refl refl refl

    pub replied-carried : (next : ℕ) (v : ℤ)
        → Carried (enqueue p (put p (with_node next (with_value (Some v) t)) (taken m place))) (tokens_used m) (cells_used m)
    unfolding with_orders put with_tables enqueue with_node with_value
    replied-carried next v = links-carried p live _ (with_node next (with_value (Some v) t)) refl refl live refl refl refl

    -- assign, remove: neither what x was bound to nor what it is bound to is a cell
    pub rebound-carried : (x : ℕ) (s : Slot) (next : ℕ)
        → ((c : ℕ) → slot_at t.binds x ≡ slots.Cell c → ⊥)
        → ((c : ℕ) → s ≡ slots.Cell c → ⊥)
        → Carried (enqueue p (put p (with_node next (with_binding x s t)) (taken m place))) (tokens_used m) (cells_used m)
    unfolding with_orders put with_tables enqueue with_node with_binding slot_at
    rebound-carried x s next old is =
        same-carried clean
        (writes p live u (fits-same refl refl refl (fits-binding x s (λ c e. absurd (is c e)) (used-fits m p used))))
        (keep-adds lim d m holds p live _ u refl refl live refl refl still)
      where
        u : Token
        u = with_node next (with_binding x s t)

        still : (y c : ℕ) → slot_at t.binds y ≡ slots.Cell c → slot_at (set t.binds x s) y ≡ slots.Cell c
        still y c e = go (ℕ_discrete y x)
          where
            go : Dec (y ≡ x) → slot_at (set t.binds x s) y ≡ slots.Cell c
            go (yes f) = absurd (old c (ap (slot_at t.binds) (sym f) ∙ e))
            go (no n) = get_or-set_other t.binds x y s empty n ∙ e

    -- a tail call: no variable was bound to a cell, so no formal is
    pub became-carried : (root : ℕ) (ps : List Param) → ((x c : ℕ) → slot_at t.binds x ≡ slots.Cell c → ⊥)
        → Carried (enqueue p (put p (callee t.caller t root ps) (taken m place))) (tokens_used m) (cells_used m)
    unfolding with_orders put with_tables enqueue is_live
    became-carried root ps none =
        same-carried clean
        (writes p live (callee t.caller t root ps)
        (fits-callee t.caller root ps (used-fits m p used).caller (used-fits m p used)))
        (keep-adds lim d m holds p live _ (callee t.caller t root ps) refl refl refl refl refl (λ y c e. absurd (none y c e)))

    -- with room for a token, at the place q
    module _ (fits : Fitting lim) (room : has_token_place lim m ≡ true) (q : ℕ) (new : q ≡ next_place (tokens_used m) m.lasttoken) where
      free : Free (tokens_used m) q
      free = subst (Free (tokens_used m)) (sym new) (free-token lim d m holds fits room)

      pub forked-carried : (left right : ℕ)
          → Carried (enqueue q (enqueue p (new_token q (with_node right t) (put p (with_node left t) (taken m place)))))
          (set (tokens_used m) q true) (cells_used m)
      unfolding with_orders with_counts put with_tables enqueue new_token with_node
      forked-carried left right =
          new-carried clean q (fork-inside lim d m rules p used q left right)
          (fork-adds lim d m holds p live _ q (with_node left t) (with_node right t) refl free refl live refl live refl refl refl)

      pub entered-carried : (root : ℕ) (ps : List Param) (next : ℕ)
          → Carried
          (enqueue q (new_token q (callee (Some p) t root ps) (put p (with_node next (with_state states.Frame t)) (taken m place))))
          (set (tokens_used m) q true) (cells_used m)
      unfolding with_orders with_counts put with_tables enqueue new_token with_node with_state is_live
      entered-carried root ps next =
          new-carried clean q (call-inside lim d m rules p used q root ps next)
          (call-adds lim d m holds p live _ q (with_node next (with_state states.Frame t))
          (callee (Some p) t root ps) refl free refl refl refl refl refl refl refl)

      pub split-carried : has_cell_place lim m ≡ true → (c : ℕ) → c ≡ next_place (cells_used m) m.lastcell → (x left right : ℕ)
          → Carried
          (enqueue q
          (enqueue p
          (new_cell c (record { parent = t.cell; value = None })
          (new_token q (in_cell c (with_node right t)) (put p (with_node left (with_binding x (slots.Cell c) t)) (taken m place))))))
          (set (tokens_used m) q true) (set (cells_used m) c true)
      unfolding with_orders with_counts put with_tables enqueue new_token new_cell with_node in_cell with_binding cell_is_set has_value
      split-carried below c cell x left right =
          both-carried clean q c (split-inside lim d m rules p used q c x left right)
          (split-adds lim d m holds p live _ q (with_node left (with_binding x (slots.Cell c) t)) (in_cell c (with_node right t)) refl
          free c
          (record { parent = t.cell; value = None }) refl vacant refl refl live refl live refl refl refl)
        where
          vacant : Free (cells_used m) c
          vacant = subst (Free (cells_used m)) (sym cell) (free-cell lim d m holds fits below)

    -- "the token ends": it names no caller and no cell
    module _ (caller : t.caller ≡ None) (cell : t.cell ≡ None) (binds : BindsNoCell t) where
      ends : Adds m (stopped m place p) p
      unfolding with_orders put with_tables
      ends = end-adds lim d m holds p live _ blank_token refl refl refl caller cell binds

      pub ended-whole : sweep (stopped m place p) ≡ stopped m place p
      ended-whole = clean-whole (stopped m place p) (adds-clean ends clean)

      pub ended-cells : cells_used (stopped m place p) ≡ cells_used m
      unfolding with_orders put with_tables
      ended-cells = cells_same ends (writes p live blank_token (fits-blank (Used m) (UsedCell m)))

      -- a ready token is no frame, so no token names it
      module _ (framed : Framed m) where
        Others : ℕ → Type 0
        Others i = Used m i × (i ≡ p → ⊥)

        named : (i : ℕ) → Used m i → Fits Others (UsedCell m) (token_at m.tokens i)
        unfolding Others is_live
        named i u =
            record {
              caller =
                  λ j e. (
                    (used-fits m i u).caller j e,
                    λ f. clash live (ap is_live (subst (λ k. (token_at m.tokens k).state ≡ states.Frame) f (framed i j u e))),
                  );
              cells = (used-fits m i u).cells;
            }

        within : InsideUsed m Others (UsedCell m) (stopped m place p).tokens (stopped m place p).cells
        unfolding with_orders put with_tables Others is_live
        within =
            record {
              tokens = length-set m.tokens p blank_token;
              cells = refl;
              live = λ i e. alive i e (ℕ_discrete i p);
              fits = λ i l q. subst (Fits Others (UsedCell m)) (sym (token-other m.tokens p i blank_token q.1)) (named i q.0);
              parent = λ c l r. used-parent m c r;
            }
          where
            alive : (i : ℕ) → is_live (token_at (set m.tokens p blank_token) i).state ≡ true → Dec (i ≡ p) → Used m i × (i ≡ p → ⊥)
            alive i e (yes f) =
                clash e
                (ap (λ (u : Token). is_live u.state)
                (ap (token_at (set m.tokens p blank_token)) f ∙ token-same m.tokens p blank_token (live_inside m.tokens p live)))
            alive i e (no n) =
                (live-used lim d m rules i (ap (λ (u : Token). is_live u.state) (sym (token-other m.tokens p i blank_token n)) ∙ e), n)

        pub ended-carried : Carried (stopped m place p) (set (tokens_used m) p false) (cells_used m)
        unfolding Others
        ended-carried = record { whole = ended-whole; tokens = tokens-removed ends within; cells = ended-cells }

  pub answered-carried : (handle : ℕ) (v : ℤ) (p : ℕ) → holder handle 0 m.tokens ≡ Some p
      → Carried (enqueue p (put p (with_state states.Ready (with_value (Some v) (token_at m.tokens p))) m)) (tokens_used m)
      (cells_used m)
  unfolding with_orders put with_tables enqueue with_state with_value is_live
  answered-carried handle v p found =
      links-carried p (ap is_live (holder-called handle m.tokens p found)) _
      (with_state states.Ready (with_value (Some v) (token_at m.tokens p))) refl refl refl refl refl refl

  -- a clock move: a token that wakes keeps its links
  pub advanced-carried : (time : ℕ) → Carried (after_advance m time) (tokens_used m) (cells_used m)
  unfolding after_advance with_clock with_timers with_orders with_tables
  advanced-carried time =
      linked-carried _
      (record {
        tokens = length-map m.tokens (woken_by time);
        cells = refl;
        row = λ i. subst (Linked (token_at m.tokens i)) (sym (woken-at time m.tokens i)) (woken-linked time (token_at m.tokens i));
      })
      (λ i e. woken-at time m.tokens i ∙ (ap (woken_by time) e ∙ woken-blank time))
