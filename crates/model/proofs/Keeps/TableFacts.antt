-- What is asked of the tables of tokens and cells beside their view: nodes in range, values signed 32-bit, open handles below the count of
-- calls and different, due times above the clock and no later than the last time, and a waiting token at a site call with a parameter bound
-- to the unset cell that it waits at. Each way to write the tables keeps it: one token, an unset cell, a choke, a clock move, blanking.
-- Assumes nothing.
use mathlib.Core.Path.{◌≡◌, refl, sym, ◌∙◌, ap, subst}
use mathlib.Core.Logic.{◌⊎◌, inl, inr}
use mathlib.Core.Bool.{Bool, true, false}
use mathlib.Core.List.{List, [], ◌∷◌, ◌++◌, map, Memᴰ}
use Prim.Native.Nat.{ℕ, zero, suc, ◌+◌, ◌<◌, ◌≤◌}
use native.Mathlib.Decide.{ℕ_discrete}
use native.Mathlib.Omega.{arith}
use lib.ListN.{length, get_or, set, drop, length-set}
use lib.Seq.{get_or-drop}
use lib.IntN.{ℤ}
use Rattle.std.specs.Prelude.{None}
use Rattle.job.specs.Test.{for_all}
use Rattle.job.specs.Number.{Signed32, fits}
use Rattle.job.specs.Site.{last_time}
use Rattle.job.specs.Syntax.{Param, variable, constant}
use Rattle.job.specs.Node.{Node, Dag, node_at, param_holds}
use Rattle.model.specs.Machine.Blank.{empty, unbound, blank_token, blank_cell, token_at, cell_at, slot_at}
use Rattle.model.specs.Machine.Active.{within}
use Rattle.model.specs.Machine.InUse.{rest_blanked}
use Rattle.model.specs.Machine.Rules.{held_in_range}
use Rattle.model.specs.Machine.Update.{with_value, with_state}
use Rattle.model.specs.Machine.Step.{passed, formals_bound, choke_token}
use Rattle.model.specs.Machine.Clock.{woken_by}
use Rattle.model.specs.Machine.State.{is_due_by, waits_at}
use Rattle.model.specs.declared.token.Slot.{Slot}
use Rattle.model.specs.declared.token.Slot.TheVariants as slots
use Rattle.model.specs.declared.token.State.{State}
use Rattle.model.specs.declared.token.State.TheVariants as states
use Rattle.model.specs.declared.token.Token.{Token}
use Rattle.model.specs.declared.cell.Cell.{Cell}
use Rattle.job.proofs.Test.{never, eqb-ne, not-leb-lt, all_head, all_tail}
use Rattle.model.proofs.Machine.Blanking.{length-kept, kept-cases}
use Rattle.model.proofs.Machine.Inside.{written}
use Rattle.model.proofs.Machine.WrittenTokens.{Choked, choked-cases, Woken, woken-cases}
use Rattle.model.proofs.Machine.InUse.{unbound-empty}
use Rattle.model.proofs.Machine.Choke.{choke-at}
use Rattle.model.proofs.Machine.Clock.{woken-at}
use Rattle.model.proofs.Machine.TableRows.{token-same, token-other, cell_same, cell_other}

-- the values that variables are bound to
abbrev pub BindsFit : List Slot → Type 0
BindsFit bs = (x : ℕ) (v : ℤ) → slot_at bs x ≡ slots.Value v → Signed32 v

pub unbound-fit : BindsFit unbound
unbound-fit x v e =
    let y : slots.Empty ≡ slots.Value v = sym (unbound-empty 8 x) ∙ e in never cc

pub binds-written : (bs : List Slot) (x : ℕ) (s : Slot) → ((v : ℤ) → s ≡ slots.Value v → Signed32 v) → BindsFit bs
    → BindsFit (set bs x s)
unfolding slot_at
binds-written bs x s g f y v = go (written bs x s empty y)
  where
    now : Slot
    now = get_or (set bs x s) y empty

    go : ((y ≡ x) × (now ≡ s)) ⊎ (now ≡ get_or bs y empty) → now ≡ slots.Value v → Signed32 v
    go (inl w) e = g v (sym w.1 ∙ e)
    go (inr w) e = f y v (sym w ∙ e)

passed-fits : (bs : List Slot) → BindsFit bs → (p : Param) → param_holds p ≡ true → (v : ℤ) → passed bs p ≡ slots.Value v
    → Signed32 v
unfolding passed param_holds
passed-fits bs f (variable x) k v e = f x v e
passed-fits bs f (constant w) k v e = subst Signed32 (let z : w ≡ v = cc in z) k

pub formals-fit : (bs : List Slot) (ps : List Param) → for_all param_holds ps ≡ true → BindsFit bs → BindsFit (formals_bound bs ps)
unfolding formals_bound slot_at
formals-fit bs ps k f y v e = go (length ps) ps k y e
  where
    go : (n : ℕ) (ps : List Param) → for_all param_holds ps ≡ true → (y : ℕ)
        → get_or (map (passed bs) ps ++ drop n unbound) y empty ≡ slots.Value v → Signed32 v
    go n [] k y e = unbound-fit (n + y) v (sym (get_or-drop n unbound y empty) ∙ e)
    go n (p ∷ ps) k zero e = passed-fits bs f p (all_head param_holds p ps k) v e
    go n (p ∷ ps) k (suc y) e = go n ps (all_tail param_holds p ps k) y e

-- a token that waits at the cell c
pub record Awaits (d : Dag) (cs : List Cell) (t : Token) (c : ℕ) : Type 0 where
  pub site : ℕ
  pub params : List Param
  pub next : ℕ
  pub name : ℕ
  pub node : node_at d t.node ≡ Node.site site params next
  pub asked : Memᴰ (variable name) params
  pub bound : slot_at t.binds name ≡ slots.Cell c
  pub inside : c < length cs
  pub unset : (cell_at cs c).value ≡ None

pub record TokenHolds (d : Dag) (cs : List Cell) (calls clock : ℕ) (t : Token) : Type 0 where
  pub node : t.node < length d.nodes
  pub value : held_in_range t.value ≡ true
  pub binds : BindsFit t.binds
  pub waits : (c : ℕ) → t.state ≡ states.Waiting c → Awaits d cs t c
  pub called : (h : ℕ) → t.state ≡ states.Called h → h < calls
  pub due : (time : ℕ) → t.state ≡ states.Due time → (clock < time) × (time ≤ last_time)

-- no handle is open twice
abbrev pub Apart : List Token → Type 0
Apart ts = (p q h : ℕ) → (token_at ts p).state ≡ states.Called h → (token_at ts q).state ≡ states.Called h → p ≡ q

pub record Tables (d : Dag) (ts : List Token) (cs : List Cell) (calls clock : ℕ) : Type 0 where
  pub tokens : (p : ℕ) → TokenHolds d cs calls clock (token_at ts p)
  pub cells : (c : ℕ) → held_in_range (cell_at cs c).value ≡ true
  pub apart : Apart ts

-- a token that neither waits nor is called out nor is due later
pub data Idle : State → Type 0 where
  blank : Idle states.Blank
  ready : Idle states.Ready
  frame : Idle states.Frame

not-waiting : {A : Type 0} {s : State} {c : ℕ} → Idle s → s ≡ states.Waiting c → A
not-waiting blank e = never cc
not-waiting ready e = never cc
not-waiting frame e = never cc

not-called : {A : Type 0} {s : State} {h : ℕ} → Idle s → s ≡ states.Called h → A
not-called blank e = never cc
not-called ready e = never cc
not-called frame e = never cc

not-due : {A : Type 0} {s : State} {time : ℕ} → Idle s → s ≡ states.Due time → A
not-due blank e = never cc
not-due ready e = never cc
not-due frame e = never cc

module _ {d : Dag} {cs : List Cell} {calls clock : ℕ} where
  pub idle-holds : {t : Token} → t.node < length d.nodes → held_in_range t.value ≡ true → BindsFit t.binds → Idle t.state
      → TokenHolds d cs calls clock t
  idle-holds n v b i =
      record {
        node = n;
        value = v;
        binds = b;
        waits = λ c e. not-waiting i e;
        called = λ h e. not-called i e;
        due = λ time e. not-due i e;
      }

  pub blank-holds : 0 < length d.nodes → TokenHolds d cs calls clock blank_token
  unfolding held_in_range
  blank-holds l = idle-holds l refl unbound-fit blank

-- the token's own fields but its state, the length of the cells and the cell's value are what matters
pub awaits-as : {d : Dag} {cs cs' : List Cell} {t u : Token} {c : ℕ} → u.node ≡ t.node → u.binds ≡ t.binds → length cs' ≡ length cs
    → (cell_at cs' c).value ≡ None → Awaits d cs t c → Awaits d cs' u c
awaits-as {d} n b l v k =
    record {
      site = k.site;
      params = k.params;
      next = k.next;
      name = k.name;
      node = ap (node_at d) n ∙ k.node;
      asked = k.asked;
      bound = ap (λ bs. slot_at bs k.name) b ∙ k.bound;
      inside = let z = k.inside in omega arith;
      unset = v;
    }

-- cells whose unset ones stay unset
pub token-cells : {d : Dag} {cs cs' : List Cell} {calls calls' clock : ℕ} {t : Token} → length cs' ≡ length cs → calls ≤ calls'
    → ((c : ℕ) → t.state ≡ states.Waiting c → c < length cs → (cell_at cs c).value ≡ None → (cell_at cs' c).value ≡ None)
    → TokenHolds d cs calls clock t → TokenHolds d cs' calls' clock t
token-cells l k f t =
    record {
      node = t.node;
      value = t.value;
      binds = t.binds;
      waits = λ c e. let b = t.waits c e in awaits-as refl refl l (f c e b.inside b.unset) b;
      called = λ h e. let z = t.called h e in omega arith;
      due = t.due;
    }

module _ {d : Dag} {ts : List Token} {cs : List Cell} {calls clock : ℕ} (T : Tables d ts cs calls clock) where
  -- one token is written
  module _ (p : ℕ) (u : Token) (i : p < length ts) where
    at-written : (P : Token → Type 0) (r : ℕ) → P u → ((r ≡ p → ⊥) → P (token_at ts r)) → P (token_at (set ts p u) r)
    at-written P r a b = go (ℕ_discrete r p)
      where
        go : Dec (r ≡ p) → P (token_at (set ts p u) r)
        go (yes e) = subst (λ x. P (token_at (set ts p u) x)) (sym e) (subst P (sym (token-same ts p u i)) a)
        go (no n) = subst P (sym (token-other ts p r u n)) (b n)

    -- no other token has its handle
    Alone : Type 0
    Alone = (h q : ℕ) → u.state ≡ states.Called h → (q ≡ p → ⊥) → (token_at ts q).state ≡ states.Called h → ⊥

    written_apart : Alone → Apart (set ts p u)
    unfolding Alone
    written_apart f r q h = go (ℕ_discrete r p) (ℕ_discrete q p)
      where
        here : (x : ℕ) → x ≡ p → (token_at (set ts p u) x).state ≡ states.Called h → u.state ≡ states.Called h
        here x e s = ap (λ (t : Token). t.state) (sym (ap (token_at (set ts p u)) e ∙ token-same ts p u i)) ∙ s

        there : (x : ℕ) → (x ≡ p → ⊥) → (token_at (set ts p u) x).state ≡ states.Called h → (token_at ts x).state ≡ states.Called h
        there x n s = ap (λ (t : Token). t.state) (sym (token-other ts p x u n)) ∙ s

        go : Dec (r ≡ p) → Dec (q ≡ p) → (token_at (set ts p u) r).state ≡ states.Called h → (token_at (set ts p u) q).state ≡
            states.Called h
            → r ≡ q
        go (yes a) (yes b) x y = a ∙ sym b
        go (yes a) (no b) x y = absurd (f h q (here r a x) b (there q b y))
        go (no a) (yes b) x y = absurd (f h r (here q b y) a (there r a x))
        go (no a) (no b) x y = T.apart r q h (there r a x) (there q b y)

    -- it is not called out
    tables-other : TokenHolds d cs calls clock u → ((h : ℕ) → u.state ≡ states.Called h → ⊥) → Tables d (set ts p u) cs calls clock
    unfolding Alone
    tables-other k s =
        record {
          tokens = λ r. at-written (TokenHolds d cs calls clock) r k (λ n. T.tokens r);
          cells = T.cells;
          apart = written_apart (λ h q e n f. s h e);
        }

    pub tables-write : TokenHolds d cs calls clock u → Idle u.state → Tables d (set ts p u) cs calls clock
    tables-write k s = tables-other k (λ h e. not-called s e)

    pub tables-wait : (c : ℕ) → u.state ≡ states.Waiting c → TokenHolds d cs calls clock u → Tables d (set ts p u) cs calls clock
    tables-wait c s k = tables-other k (λ h e. never cc)

    pub tables-later : (time : ℕ) → u.state ≡ states.Due time → TokenHolds d cs calls clock u → Tables d (set ts p u) cs calls clock
    tables-later time s k = tables-other k (λ h e. never cc)

    -- "an outside call takes the next handle"
    pub tables-call : u.state ≡ states.Called calls → TokenHolds d cs (suc calls) clock u → Tables d (set ts p u) cs (suc calls) clock
    unfolding Alone
    tables-call s k =
        record {
          tokens =
              λ r. at-written (TokenHolds d cs (suc calls) clock) r k (λ n. token-cells refl (omega arith) (λ c e l v. v) (T.tokens r));
          cells = T.cells;
          apart =
              written_apart
              (λ h q e n f. let z : calls ≡ h = cc in let y = (T.tokens q).called h f in omega arith);
        }

  -- an unset cell is written
  pub tables-cell : (c : ℕ) (k : Cell) → c < length cs → k.value ≡ None → Tables d ts (set cs c k) calls clock
  unfolding held_in_range
  tables-cell c k i e =
      record {
        tokens = λ p. token-cells (length-set cs c k) (omega arith) (λ b s l v. at-cell (λ (x : Cell). x.value ≡ None) b e v)
            (T.tokens p);
        cells = λ b. at-cell (λ (x : Cell). held_in_range x.value ≡ true) b (ap held_in_range e) (T.cells b);
        apart = T.apart;
      }
    where
      at-cell : (P : Cell → Type 0) (b : ℕ) → P k → P (cell_at cs b) → P (cell_at (set cs c k) b)
      at-cell P b x y = go (ℕ_discrete b c)
        where
          go : Dec (b ≡ c) → P (cell_at (set cs c k) b)
          go (yes f) = subst (λ j. P (cell_at (set cs c k) j)) (sym f) (subst P (sym (cell_same cs c k i)) x)
          go (no n) = subst P (sym (cell_other cs c b k n)) y

  -- blanking
  pub tables-swept : 0 < length d.nodes → (used cells : List Bool)
      → Tables d (rest_blanked blank_token used ts) (rest_blanked blank_cell cells cs) calls clock
  unfolding held_in_range
  tables-swept some used cells =
      record {
        tokens =
            λ p.
            token-now (λ t. TokenHolds d cs' calls clock t) p
            (token-cells (length-kept blank_cell cells cs) (omega arith) (λ c s l v. cell-now (λ x. x.value ≡ None) c v refl)
            (T.tokens p))
            (blank-holds some);
        cells = λ c. cell-now (λ x. held_in_range x.value ≡ true) c (T.cells c) refl;
        apart = λ p q h a b. T.apart p q h (called-before p h a) (called-before q h b);
      }
    where
      ts' : List Token
      ts' = rest_blanked blank_token used ts

      cs' : List Cell
      cs' = rest_blanked blank_cell cells cs

      token-now : (P : Token → Type 0) (p : ℕ) → P (token_at ts p) → P blank_token → P (token_at ts' p)
      token-now P p a b = unfold token_at in go (kept-cases blank_token used ts p)
        where
          go : (get_or ts' p blank_token ≡ get_or ts p blank_token) ⊎ (get_or ts' p blank_token ≡ blank_token) → P (token_at ts' p)
          go (inl e) = unfold token_at in subst P (sym e) a
          go (inr e) = unfold token_at in subst P (sym e) b

      cell-now : (P : Cell → Type 0) (c : ℕ) → P (cell_at cs c) → P blank_cell → P (cell_at cs' c)
      cell-now P c a b = unfold cell_at in go (kept-cases blank_cell cells cs c)
        where
          go : (get_or cs' c blank_cell ≡ get_or cs c blank_cell) ⊎ (get_or cs' c blank_cell ≡ blank_cell) → P (cell_at cs' c)
          go (inl e) = unfold cell_at in subst P (sym e) a
          go (inr e) = unfold cell_at in subst P (sym e) b

      called-before : (p h : ℕ) → (token_at ts' p).state ≡ states.Called h → (token_at ts p).state ≡ states.Called h
      called-before p h =
          token-now (λ t. t.state ≡ states.Called h → (token_at ts p).state ≡ states.Called h) p (λ e. e) (λ e. not-called blank e)

  -- a choke
  module _ (some : 0 < length d.nodes) (c : ℕ) (k : Cell) (i : c < length cs) (fit : held_in_range k.value ≡ true) where
    abbrev then : List Cell
    then = set cs c k

    waits-elsewhere : (b : ℕ) (s : State) → s ≡ states.Waiting b → waits_at c s ≡ false → b ≡ c → ⊥
    unfolding waits_at
    waits-elsewhere b s e f x = eqb-ne c b (ap (waits_at c) (sym e) ∙ f) (sym x)

    choked-holds : {t u : Token} → Choked c t u → (waits_at c u.state ≡ false) → TokenHolds d cs calls clock t
        → TokenHolds d then calls clock u
    unfolding with_state
    choked-holds Choked.ends w t = blank-holds some
    choked-holds (Choked.wakes x) w t = idle-holds t.node t.value t.binds ready
    choked-holds {t = s} Choked.stays w t =
        token-cells (length-set cs c k) (omega arith)
        (λ b e l v. ap (λ (x : Cell). x.value) (cell_other cs c b k (waits-elsewhere b s.state e w)) ∙ v) t

    -- nobody waits at the cell any more
    none-wait : (t : Token) → waits_at c (choke_token cs c t).state ≡ false
    unfolding choke_token with_state waits_at
    none-wait t = go (within cs c t.cell) (waits_at c t.state) refl
      where
        go : (a b : Bool) → waits_at c t.state ≡ b
            → waits_at c
            (elim a as (λ a. Token)
            [ true ↦ blank_token | false ↦ elim b as (λ b. Token) [ true ↦ with_state states.Ready t | false ↦ t ] ]).state ≡ false
        go true b e = refl
        go false true e = refl
        go false false e = e

    choked-called : {t u : Token} {h : ℕ} → Choked c t u → u.state ≡ states.Called h → t.state ≡ states.Called h
    unfolding with_state
    choked-called Choked.ends e = not-called blank e
    choked-called (Choked.wakes x) e = not-called ready e
    choked-called Choked.stays e = e

    pub tables-choke : Tables d (map (choke_token cs c) ts) then calls clock
    tables-choke =
        record {
          tokens =
              λ p.
              subst (TokenHolds d then calls clock) (sym (choke-at cs c ts p))
              (choked-holds (choked-cases cs c (token_at ts p)) (none-wait (token_at ts p)) (T.tokens p));
          cells = λ b. cell-now b (ℕ_discrete b c);
          apart = λ p q h a b. T.apart p q h (before p h a) (before q h b);
        }
      where
        cell-now : (b : ℕ) → Dec (b ≡ c) → held_in_range (cell_at then b).value ≡ true
        cell-now b (yes e) =
            subst (λ j. held_in_range (cell_at then j).value ≡ true) (sym e)
            (ap (λ (x : Cell). held_in_range x.value) (cell_same cs c k i) ∙ fit)
        cell-now b (no n) = ap (λ (x : Cell). held_in_range x.value) (cell_other cs c b k n) ∙ T.cells b

        before : (p h : ℕ) → (token_at (map (choke_token cs c) ts) p).state ≡ states.Called h → (token_at ts p).state ≡ states.Called h
        before p h e = choked-called (choked-cases cs c (token_at ts p)) (ap (λ (t : Token). t.state) (sym (choke-at cs c ts p)) ∙ e)

  -- a clock move: who is due by the time wakes with value 0, whoever stays due is due after it
  module _ (time : ℕ) where
    later-than : (due : ℕ) (s : State) → s ≡ states.Due due → is_due_by time s ≡ false → time < due
    unfolding is_due_by
    later-than due s e f = not-leb-lt due time (ap (is_due_by time) (sym e) ∙ f)

    woken-holds : {t u : Token} → Woken time t u → TokenHolds d cs calls clock t → TokenHolds d cs calls time u
    unfolding with_state with_value held_in_range fits
    woken-holds (Woken.wakes x) t = idle-holds t.node refl t.binds ready
    woken-holds {t = s} (Woken.stays x) t =
        record {
          node = t.node;
          value = t.value;
          binds = t.binds;
          waits = t.waits;
          called = t.called;
          due = λ due e. (later-than due s.state e x, (t.due due e).1);
        }

    woken-called : {t u : Token} {h : ℕ} → Woken time t u → u.state ≡ states.Called h → t.state ≡ states.Called h
    unfolding with_state
    woken-called (Woken.wakes x) e = not-called ready e
    woken-called (Woken.stays x) e = e

    pub tables-woken : Tables d (map (woken_by time) ts) cs calls time
    tables-woken =
        record {
          tokens =
              λ p.
              subst (TokenHolds d cs calls time) (sym (woken-at time ts p)) (woken-holds (woken-cases time (token_at ts p)) (T.tokens p));
          cells = T.cells;
          apart = λ p q h a b. T.apart p q h (before p h a) (before q h b);
        }
      where
        before : (p h : ℕ) → (token_at (map (woken_by time) ts) p).state ≡ states.Called h → (token_at ts p).state ≡ states.Called h
        before p h e = woken-called (woken-cases time (token_at ts p)) (ap (λ (t : Token). t.state) (sym (woken-at time ts p)) ∙ e)
