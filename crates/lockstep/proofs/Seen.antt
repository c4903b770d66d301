-- A machine is seen as a state of the abstract machine: each live token once, and a cell that has no name yet unset. The tokens that are
-- seen are active, so what they name is in use, and blanking the rest keeps the view. Assumes nothing.
use mathlib.Core.Path.{◌≡◌, refl, sym, ◌∙◌, ap, subst}
use mathlib.Core.Logic.{◌⊎◌, inl, inr}
use mathlib.Core.Bool.{Bool, true, false}
use mathlib.Core.List.Memᴰ
use mathlib.Core.List.{List}
use mathlib.Core.Option.{none}
use Prim.Native.Nat.{ℕ, zero, suc, ◌+◌, ◌<◌, ◌≤◌}
use native.Mathlib.Decide.{dec_lt}
use native.Mathlib.Omega.{arith}
use lib.ListN.{length, get_or}
use lib.Dec.{eqb}
use Rattle.std.specs.Prelude.{Some, None}
use Rattle.job.specs.Test.{occurrences, once}
use Rattle.model.specs.Machine.Blank.{blank_token, blank_cell, token_at, cell_at, has_value}
use Rattle.model.specs.Machine.Active.{cell_is_set, upward, under_set, is_active}
use Rattle.model.specs.Machine.State.{is_live}
use Rattle.model.specs.Machine.InUse.{used_tokens, used_cells, rest_blanked, sweep}
use Rattle.model.specs.Machine.Held.{Held, Place}
use Rattle.model.specs.declared.token.State.{State}
use Rattle.model.specs.declared.token.Token.{Token}
use Rattle.model.specs.declared.cell.Cell.{Cell}
use Rattle.model.specs.declared.record.Machine.{Machine}
use Rattle.job.proofs.Test.{never, eqb-eq}
use Rattle.model.proofs.Machine.Marks.{Marked}
use Rattle.model.proofs.Machine.InUse.{TokensUsed, tokens-used, CellsUsed, cells-used}
use Rattle.model.proofs.Machine.Inside.{Fits}
use Rattle.model.proofs.Machine.Blanking.{length-kept, kept-marked, kept-cases}
use Rattle.simulation.proofs.AbstractMachine as Abstract
use Rattle.simulation.proofs.AbstractMachine.{Store, state}
use Rattle.simulation.proofs.Store.{◌is-in◌}
use Rattle.lockstep.proofs.Labels.{Labels}
use Rattle.lockstep.proofs.View.{held, World, CellSeen, CellsSeen, root, below, StateSeen, ready, waiting, called, due, Unset}
use Rattle.lockstep.proofs.View.{TokenSeen, sees, TokensSeen, nobody, also, Kept, Closed, token-keep, tokens-map}

-- A: the places of the live tokens, in the order of S
pub record Core (M : Labels) (W : World) (A : List ℕ) (S : List Abstract.Token) : Type 0 where
  pub seen : TokensSeen W M A S
  pub each : (r : ℕ) → occurrences r A ≡ once (is_live (token_at W.tokens r).state)
  pub clean : (n : ℕ) → W.new ≤ n → W.store n ≡ none

abbrev pub world : List Token → List Cell → (name place : ℕ → ℕ) → Store → ℕ → World
world ts cs name place σ new = record { tokens = ts; cells = cs; name = name; place = place; store = σ; new = new }

pub data Sees (M : Labels) (m : Machine) : Abstract.State → Type 0 where
  seen_as : {S : List Abstract.Token} {σ : Store} {new : ℕ} (name place : ℕ → ℕ) (A : List ℕ)
      → Core M (world m.tokens m.cells name place σ new) A S → Sees M m (state S σ new m.calls m.clock)

-- a machine that is written out by its tables
pub sees-tables : {M : Labels} {m : Machine} {ts : List Token} {cs : List Cell} {S : List Abstract.Token} {σ : Store}
    {new h now : ℕ} (name place : ℕ → ℕ) (A : List ℕ) → m.tokens ≡ ts → m.cells ≡ cs → m.calls ≡ h → m.clock ≡ now
    → Core M (world ts cs name place σ new) A S → Sees M m (state S σ new h now)
sees-tables {M} {m} {ts} {cs} {S} {σ} {new} {h} name place A et ec eh en K =
    subst (λ now. Sees M m (state S σ new h now)) en
    (subst (λ h. Sees M m (state S σ new h m.clock)) eh
    (seen_as name place A
    (subst (λ ts. Core M (world ts m.cells name place σ new) A S) (sym et)
    (subst (λ cs. Core M (world ts cs name place σ new) A S) (sym ec) K))))

-- a token that is seen is active: it is live, and no cell above it is set
unset-cell : (c : Cell) → held c.value ≡ none → cell_is_set c ≡ false
unfolding cell_is_set has_value
unset-cell c e = go c.value e
  where
    go : (h : Held) → held h ≡ none → has_value h ≡ false
    go None e = refl
    go (Some v) e = never cc

module _ {W : World} where
  -- a test that fails at each cell from a place upward
  pub up-fails : (test : ℕ → Cell → Bool) (k : ℕ) {q : Place} {U : List ℕ}
      → ((c n : ℕ) → CellSeen W c n → n is-in U → test c (cell_at W.cells c) ≡ false)
      → CellsSeen W q U → upward test W.cells k q ≡ false
  unfolding upward
  up-fails test zero h v = refl
  up-fails test (suc k) h root = refl
  up-fails test (suc k) h (below {c = c} {n = n} s v) =
      rw (h c n s (Memᴰ.head refl), upward) (up-fails test k (λ b i t m. h b i t (Memᴰ.tail m)) v)

  pub not-under-set : {q : Place} {U : List ℕ} → Unset W.store U → CellsSeen W q U → under_set W.cells q ≡ false
  unfolding under_set
  not-under-set un v =
      up-fails (λ c k. cell_is_set k) (length W.cells) (λ c n s m. unset-cell (cell_at W.cells c) (sym s.value ∙ un n m)) v

pub state-live : {M : Labels} {n : ℕ} {K : Abstract.Place} {s : State} {w : Held} {x : Abstract.Token} → StateSeen M n K s w x
    → is_live s ≡ true
unfolding is_live
state-live (ready v) = refl
state-live (waiting e v) = refl
state-live called = refl
state-live due = refl

module _ {W : World} {M : Labels} where
  pub token-live : {t : Token} {x : Abstract.Token} → TokenSeen W M t x → is_live t.state ≡ true
  token-live (sees v un s) = state-live s

  pub token-active : {t : Token} {x : Abstract.Token} → TokenSeen W M t x → is_active W.cells t ≡ true
  unfolding is_active
  token-active (sees v un s) = rw (state-live s, not-under-set un v.cell, is_active) refl

-- in use, as the machine finds it
abbrev pub token_marks : World → List Bool
token_marks W = used_tokens W.tokens W.cells

abbrev pub cell_marks : World → List Bool
cell_marks W = used_cells (token_marks W) W.tokens W.cells

abbrev pub UsedToken : World → ℕ → Type 0
UsedToken W p = Marked (token_marks W) p

abbrev pub UsedCell : World → ℕ → Type 0
UsedCell W c = Marked (cell_marks W) c

module _ (W : World) where
  pub tokens-of : TokensUsed W.tokens W.cells (token_marks W)
  tokens-of = tokens-used W.tokens W.cells

  pub cells-of : CellsUsed (token_marks W) W.tokens W.cells (cell_marks W)
  cells-of = cells-used (token_marks W) W.tokens W.cells tokens-of.size

  pub used-fits : (p : ℕ) → UsedToken W p → Fits (UsedToken W) (UsedCell W) (token_at W.tokens p)
  used-fits p u = record { caller = tokens-of.caller p u; cells = cells-of.named p u }

  pub used-closed : {M : Labels} → Closed M (UsedToken W) (UsedCell W) W
  used-closed = record { token = λ p u v. used-fits p u; parent = λ c u. cells-of.parent c u }

  pub token-used : {M : Labels} (p : ℕ) {x : Abstract.Token} → TokenSeen W M (token_at W.tokens p) x → UsedToken W p
  token-used p v = tokens-of.active p (token-active v)

-- the token at a place of the list
pub token-at : {M : Labels} {W : World} (p : ℕ) {A : List ℕ} {S : List Abstract.Token} → 0 < occurrences p A → TokensSeen W M A S
    → (x : Abstract.Token) × TokenSeen W M (token_at W.tokens p) x
unfolding occurrences
token-at p l nobody = absurd (omega arith)
token-at {M} {W} p l (also {p = q} {x = x} {A = B} v r) = go (eqb p q) refl (λ k. token-at p k r)
  where
    Found : Type 0
    Found = (x : Abstract.Token) × TokenSeen W M (token_at W.tokens p) x

    go : (b : Bool) → eqb p q ≡ b → (0 < occurrences p B → Found) → Found
    go true e f = (x, subst (λ i. TokenSeen W M (token_at W.tokens i) x) (sym (eqb-eq p q e)) v)
    go false e f = f (let z : 0 < once (eqb p q) + occurrences p B = l in let y : once (eqb p q) ≡ 0 = rw e refl in omega arith)

-- each live token is listed
pub live-listed : {M : Labels} {W : World} {A : List ℕ} {S : List Abstract.Token} (p : ℕ)
    → Core M W A S → is_live (token_at W.tokens p).state ≡ true → 0 < occurrences p A
live-listed {W = W} p K e = let z = K.each p in let y : once (is_live (token_at W.tokens p).state) ≡ 1 = ap once e in omega arith

-- what is not in use made blank
abbrev pub swept : World → World
swept W =
    record {
      tokens = rest_blanked blank_token (token_marks W) W.tokens;
      cells = rest_blanked blank_cell (cell_marks W) W.cells;
      name = W.name;
      place = W.place;
      store = W.store;
      new = W.new;
    }

module _ (W : World) where
  pub swept-token : (p : ℕ) → UsedToken W p → token_at (swept W).tokens p ≡ token_at W.tokens p
  unfolding token_at
  swept-token p u = kept-marked blank_token (token_marks W) W.tokens p (tokens-of W).size u

  pub swept-cell : (c : ℕ) → UsedCell W c → cell_at (swept W).cells c ≡ cell_at W.cells c
  unfolding cell_at
  swept-cell c u = kept-marked blank_cell (cell_marks W) W.cells c (cells-of W).size u

  swept_kept : Kept (UsedToken W) (UsedCell W) W (swept W)
  swept_kept =
      record {
        size = length-kept blank_token (token_marks W) W.tokens;
        frames = λ q u e. swept-token q u;
        cells =
            λ c n u s.
            record {
              inside = let z = length-kept blank_cell (cell_marks W) W.cells in let l : c < length W.cells = s.inside in omega arith;
              old = s.old;
              name = s.name;
              place = s.place;
              value = s.value ∙ ap (λ (k : Cell). held k.value) (sym (swept-cell c u));
            };
        parents = λ c u. ap (λ (k : Cell). k.parent) (swept-cell c u);
      }

  swept-seen : {M : Labels} (p : ℕ) {x : Abstract.Token}
      → TokenSeen W M (token_at W.tokens p) x → TokenSeen (swept W) M (token_at (swept W).tokens p) x
  swept-seen {M} p {x} v =
      let u = token-used W p v in
      subst (λ t. TokenSeen (swept W) M t x) (sym (swept-token p u)) (token-keep swept_kept (used-closed W) (used-fits W p u) (λ c e. e) v)

  module _ {M : Labels} {A : List ℕ} {S : List Abstract.Token} (K : Core M W A S) where
    listed-used : (r : ℕ) → 0 < occurrences r A → UsedToken W r
    listed-used r l = token-used W r (token-at r l K.seen).1

    swept-each : (r : ℕ) → occurrences r A ≡ once (is_live (token_at (swept W).tokens r).state)
    unfolding token_at is_live
    swept-each r = go (dec_lt 0 (occurrences r A)) (kept-cases blank_token (token_marks W) W.tokens r)
      where
        live : Token → ℕ
        live t = once (is_live t.state)

        now : Token
        now = get_or (swept W).tokens r blank_token

        go : Dec (0 < occurrences r A) → (now ≡ get_or W.tokens r blank_token) ⊎ (now ≡ blank_token) → occurrences r A ≡ live now
        go (yes l) x = K.each r ∙ ap live (sym (swept-token r (listed-used r l)))
        go (no n) (inl e) = K.each r ∙ ap live (sym e)
        go (no n) (inr e) = let z : occurrences r A ≡ 0 = omega arith in z ∙ ap live (sym e)

    -- blanking keeps what is seen
    pub swept-core : Core M (swept W) A S
    swept-core =
        record {
          seen = tokens-map (λ p x l v. swept-seen p v) K.seen;
          each = swept-each;
          clean = K.clean;
        }

pub sweep-sees : {M : Labels} (m : Machine) {s : Abstract.State} → Sees M m s → Sees M (sweep m) s
unfolding sweep
sweep-sees m (seen_as name place A K) = seen_as name place A (swept-core _ K)
