-- Where tables are inside a set of token places and a set of cell places: live tokens stand at the first, and what they name by caller,
-- cell, binding and parent stays in them. Then all in use is inside; and writing a token or a cell, changing each token to one that is no
-- more alive and names no more, and blanking keep it so. Assumes nothing.
use mathlib.Core.Path.{◌≡◌, refl, sym, ◌∙◌, ap, subst}
use mathlib.Core.Logic.{◌⊎◌, inl, inr}
use mathlib.Core.Bool.{Bool, true, false, not}
use mathlib.Core.List.{List, map}
use Prim.Native.Nat.{ℕ, ◌<◌}
use native.Mathlib.Decide.{ℕ_discrete, dec_lt}
use native.Mathlib.Omega.{arith}
use lib.ListN.{length, get_or, set, length-set, length-map, get_or-map}
use lib.Seq.{get_or-set_same, get_or-set_other, set_out}
use Rattle.model.specs.Machine.Blank.{blank_token, blank_cell, token_at, cell_at}
use Rattle.model.specs.Machine.Active.{is_active, under_set}
use Rattle.model.specs.Machine.State.{is_live}
use Rattle.model.specs.Machine.InUse.{used_tokens, used_cells, tokens_used, cells_used, rest_blanked, sweep}
use Rattle.model.specs.declared.token.Token.{Token}
use Rattle.model.specs.declared.cell.Cell.{Cell}
use Rattle.model.specs.declared.record.Machine.{Machine}
use Rattle.job.proofs.Test.{clash}
use Rattle.model.proofs.Machine.Marks.{Marked}
use Rattle.model.proofs.Machine.Reach.{Names, names-nowhere}
use Rattle.model.proofs.Machine.InUse.{CellsIn, cells-in-blank, cells-in-map, tokens-used, cells-used}
use Rattle.model.proofs.Machine.Blanking.{kept-cases, length-kept}

-- a token names places of Q and cells of R only
pub record Fits (Q R : ℕ → Type 0) (t : Token) : Type 0 where
  pub caller : Names Q t.caller
  pub cells : CellsIn R t

pub fits-blank : (Q R : ℕ → Type 0) → Fits Q R blank_token
fits-blank Q R = record { caller = names-nowhere Q; cells = cells-in-blank R }

pub fits-map : {P Q R S : ℕ → Type 0} {t : Token} → ((i : ℕ) → P i → Q i) → ((c : ℕ) → R c → S c) → Fits P R t → Fits Q S t
fits-map f g h = record { caller = λ i e. f i (h.caller i e); cells = cells-in-map g h.cells }

-- tables of n and k places
pub record Inside (n k : ℕ) (Q R : ℕ → Type 0) (ts : List Token) (cs : List Cell) : Type 0 where
  pub tokens : length ts ≡ n
  pub cells : length cs ≡ k
  pub live : (i : ℕ) → is_live (token_at ts i).state ≡ true → Q i
  pub fits : (i : ℕ) → i < n → Q i → Fits Q R (token_at ts i)
  pub parent : (c : ℕ) → c < k → R c → Names R (cell_at cs c).parent

-- a live token under no set cell is active, and an active token is live
pub live-active : (cs : List Cell) (t : Token) → is_live t.state ≡ true → under_set cs t.cell ≡ false → is_active cs t ≡ true
unfolding is_active
live-active cs t e f = rw (e, f, is_active) refl

pub active-live : (cs : List Cell) (t : Token) → is_active cs t ≡ true → is_live t.state ≡ true
unfolding is_active
active-live cs t e = go (is_live t.state) e
  where
    go : (b : Bool) → elim b as (λ b. Bool) [ true ↦ not (under_set cs t.cell) | false ↦ false ] ≡ true → b ≡ true
    go true x = refl
    go false x = x

-- all in use is inside
module _ {n k : ℕ} {Q R : ℕ → Type 0} {ts : List Token} {cs : List Cell} (h : Inside n k Q R ts cs) where
  pub tokens-inside : (i : ℕ) → i < length (used_tokens ts cs) → Marked (used_tokens ts cs) i → Q i
  tokens-inside i l m =
      let z = (tokens-used ts cs).size in
      (tokens-used ts cs).least Q
      (λ j a. h.live j (active-live cs (token_at ts j) a))
      (λ j x q. (h.fits j (subst (λ n. j < n) h.tokens x) q).caller)
      i
      (omega arith)
      m

  pub cells-inside : (c : ℕ) → c < length (used_cells (used_tokens ts cs) ts cs) → Marked (used_cells (used_tokens ts cs) ts cs) c → R c
  cells-inside c l m =
      let s = (tokens-used ts cs).size in
      let z = (cells-used (used_tokens ts cs) ts cs s).size in
      (cells-used (used_tokens ts cs) ts cs s).least R
      (λ i x u. (h.fits i (subst (λ n. i < n) h.tokens x) (tokens-inside i (subst (λ n. i < n) (sym s) x) u)).cells)
      (λ b x r. h.parent b (subst (λ n. b < n) h.cells x) r)
      c
      (omega arith)
      m

-- tables that have, place by place, what the others have or a blank, are inside where the others are
inside-less :
    {n k : ℕ} {Q R : ℕ → Type 0} {ts : List Token} {cs : List Cell} (us : List Token) (ds : List Cell)
    → length us ≡ length ts
    → length ds ≡ length cs
    → ((i : ℕ) → (token_at us i ≡ token_at ts i) ⊎ (token_at us i ≡ blank_token))
    → ((c : ℕ) → (cell_at ds c ≡ cell_at cs c) ⊎ (cell_at ds c ≡ blank_cell))
    → Inside n k Q R ts cs
    → Inside n k Q R us ds
unfolding is_live
inside-less {n} {k} {Q} {R} {ts} {cs} us ds a b f g h =
    record {
      tokens = a ∙ h.tokens;
      cells = b ∙ h.cells;
      live = λ i e. live i (f i) e;
      fits = λ i l q. fits i (h.fits i l q) (f i);
      parent = λ c l r. parent c (h.parent c l r) (g c);
    }
  where
    live : (i : ℕ) → (token_at us i ≡ token_at ts i) ⊎ (token_at us i ≡ blank_token) → is_live (token_at us i).state ≡ true → Q i
    live i (inl e) x = h.live i (ap (λ (t : Token). is_live t.state) (sym e) ∙ x)
    live i (inr e) x = clash x (ap (λ (t : Token). is_live t.state) e)

    fits : (i : ℕ) → Fits Q R (token_at ts i) → (token_at us i ≡ token_at ts i) ⊎ (token_at us i ≡ blank_token) → Fits Q R (token_at us i)
    fits i x (inl e) = subst (Fits Q R) (sym e) x
    fits i x (inr e) = subst (Fits Q R) (sym e) (fits-blank Q R)

    parent :
        (c : ℕ)
        → Names R (cell_at cs c).parent
        → (cell_at ds c ≡ cell_at cs c) ⊎ (cell_at ds c ≡ blank_cell)
        → Names R (cell_at ds c).parent
    parent c x (inl e) = subst (λ (a : Cell). Names R a.parent) (sym e) x
    parent c x (inr e) = subst (λ (a : Cell). Names R a.parent) (sym e) (names-nowhere R)

pub inside-sweep :
    {n k : ℕ} {Q R : ℕ → Type 0} (m : Machine)
    → Inside n k Q R m.tokens m.cells
    → Inside n k Q R (sweep m).tokens (sweep m).cells
unfolding sweep token_at cell_at
inside-sweep m h =
    inside-less (rest_blanked blank_token (tokens_used m) m.tokens) (rest_blanked blank_cell (cells_used m) m.cells)
    (length-kept blank_token (tokens_used m) m.tokens)
    (length-kept blank_cell (cells_used m) m.cells)
    (kept-cases blank_token (tokens_used m) m.tokens)
    (kept-cases blank_cell (cells_used m) m.cells)
    h

-- what stands at a place after a write: what was written there, or what stood there
module _ {A : Type 0} (xs : List A) (q : ℕ) (x blank : A) (i : ℕ) where
  abbrev at : List A → A
  at ys = get_or ys i blank

  pub written : ((i ≡ q) × (at (set xs q x) ≡ x)) ⊎ (at (set xs q x) ≡ at xs)
  written = go (ℕ_discrete i q) (dec_lt q (length xs))
    where
      go : Dec (i ≡ q) → Dec (q < length xs) → ((i ≡ q) × (at (set xs q x) ≡ x)) ⊎ (at (set xs q x) ≡ at xs)
      go (yes e) (yes l) = inl (e, subst (λ j. get_or (set xs q x) j blank ≡ x) (sym e) (get_or-set_same xs q x blank l))
      go (yes e) (no f) = inr (ap at (set_out xs q x (omega arith)))
      go (no f) d = inr (get_or-set_other xs q i x blank f)

  written-inside : i < length xs → ((i ≡ q) × (at (set xs q x) ≡ x)) ⊎ ((i ≡ q → ⊥) × (at (set xs q x) ≡ at xs))
  written-inside l = go (ℕ_discrete i q)
    where
      go : Dec (i ≡ q) → ((i ≡ q) × (at (set xs q x) ≡ x)) ⊎ ((i ≡ q → ⊥) × (at (set xs q x) ≡ at xs))
      go (yes e) =
          inl (e, subst (λ j. get_or (set xs q x) j blank ≡ x) (sym e) (get_or-set_same xs q x blank (subst (λ j. j < length xs) e l)))
      go (no f) = inr (f, get_or-set_other xs q i x blank f)

-- a set of places, and one more
abbrev pub With : (ℕ → Type 0) → ℕ → ℕ → Type 0
With Q q i = Q i ⊎ (i ≡ q)

with-old : (Q : ℕ → Type 0) (q i : ℕ) → (i ≡ q → ⊥) → With Q q i → Q i
with-old Q q i f (inl x) = x
with-old Q q i f (inr e) = absurd (f e)

with_in : (Q : ℕ → Type 0) (q : ℕ) → Q q → (i : ℕ) → With Q q i → Q i
with_in Q q x i (inl y) = y
with_in Q q x i (inr e) = subst Q (sym e) x

-- a token written at any place q
module _ {n k : ℕ} {Q R : ℕ → Type 0} {ts : List Token} {cs : List Cell} (h : Inside n k Q R ts cs) where
  pub inside-token : (q : ℕ) (u : Token) → Fits (With Q q) R u → Inside n k (With Q q) R (set ts q u) cs
  unfolding token_at
  inside-token q u f =
      record {
        tokens = length-set ts q u ∙ h.tokens;
        cells = h.cells;
        live = λ i e. live i (written ts q u blank_token i) e;
        fits = λ i l w. fits i l w (written-inside ts q u blank_token i (subst (λ s. i < s) (sym h.tokens) l));
        parent = h.parent;
      }
    where
      now : ℕ → Token
      now i = get_or (set ts q u) i blank_token

      live : (i : ℕ) → ((i ≡ q) × (now i ≡ u)) ⊎ (now i ≡ get_or ts i blank_token) → is_live (now i).state ≡ true → With Q q i
      live i (inl x) e = inr x.0
      live i (inr x) e = inl (h.live i (ap (λ (t : Token). is_live t.state) (sym x) ∙ e))

      fits :
          (i : ℕ)
          → i < n
          → With Q q i
          → ((i ≡ q) × (now i ≡ u)) ⊎ ((i ≡ q → ⊥) × (now i ≡ get_or ts i blank_token))
          → Fits (With Q q) R (now i)
      fits i l w (inl x) = subst (Fits (With Q q) R) (sym x.1) f
      fits i l w (inr x) =
          subst (Fits (With Q q) R) (sym x.1) (fits-map (λ j y. inl y) (λ c y. y) (h.fits i l (with-old Q q i x.0 w)))

  -- a cell written at any place c
  pub inside-cell : (c : ℕ) (x : Cell) → Names (With R c) x.parent → Inside n k Q (With R c) ts (set cs c x)
  unfolding cell_at
  inside-cell c x f =
      record {
        tokens = h.tokens;
        cells = length-set cs c x ∙ h.cells;
        live = h.live;
        fits = λ i l q. fits-map (λ j y. y) (λ b y. inl y) (h.fits i l q);
        parent = λ b l w. parent b l w (written-inside cs c x blank_cell b (subst (λ s. b < s) (sym h.cells) l));
      }
    where
      now : ℕ → Cell
      now b = get_or (set cs c x) b blank_cell

      parent :
          (b : ℕ)
          → b < k
          → With R c b
          → ((b ≡ c) × (now b ≡ x)) ⊎ ((b ≡ c → ⊥) × (now b ≡ get_or cs b blank_cell))
          → Names (With R c) (now b).parent
      parent b l w (inl y) = subst (λ (a : Cell). Names (With R c) a.parent) (sym y.1) f
      parent b l w (inr y) =
          subst (λ (a : Cell). Names (With R c) a.parent) (sym y.1) (λ j e. inl (h.parent b l (with-old R c b y.0 w) j e))

  -- each token changed to one that is no more alive and names no more
  pub inside-map :
      (f : Token → Token)
      → f blank_token ≡ blank_token
      → ((t : Token) → is_live (f t).state ≡ true → is_live t.state ≡ true)
      → ((t : Token) → Fits Q R t → Fits Q R (f t))
      → Inside n k Q R (map f ts) cs
  unfolding token_at
  inside-map f b live fits =
      record {
        tokens = length-map ts f ∙ h.tokens;
        cells = h.cells;
        live = λ i e. h.live i (live (get_or ts i blank_token) (ap (λ (t : Token). is_live t.state) (sym (at_map i)) ∙ e));
        fits = λ i l q. subst (Fits Q R) (sym (at_map i)) (fits (get_or ts i blank_token) (h.fits i l q));
        parent = h.parent;
      }
    where
      at_map : (i : ℕ) → get_or (map f ts) i blank_token ≡ f (get_or ts i blank_token)
      at_map i = ap (get_or (map f ts) i) (sym b) ∙ get_or-map f ts i blank_token

-- one more place that is no more
inside-with-token :
    {n k q : ℕ} {Q R : ℕ → Type 0} {ts : List Token} {cs : List Cell}
    → Q q
    → Inside n k (With Q q) R ts cs
    → Inside n k Q R ts cs
inside-with-token {q = q} {Q} x h =
    record {
      tokens = h.tokens;
      cells = h.cells;
      live = λ i e. with_in Q q x i (h.live i e);
      fits = λ i l y. fits-map (with_in Q q x) (λ c z. z) (h.fits i l (inl y));
      parent = h.parent;
    }

inside-with-cell :
    {n k c : ℕ} {Q R : ℕ → Type 0} {ts : List Token} {cs : List Cell}
    → R c
    → Inside n k Q (With R c) ts cs
    → Inside n k Q R ts cs
inside-with-cell {c = c} {R = R} x h =
    record {
      tokens = h.tokens;
      cells = h.cells;
      live = h.live;
      fits = λ i l y. fits-map (λ j z. z) (with_in R c x) (h.fits i l y);
      parent = λ b l y j e. with_in R c x j (h.parent b l (inl y) j e);
    }

-- a token, or a cell, written at a place inside
module _ {n k : ℕ} {Q R : ℕ → Type 0} {ts : List Token} {cs : List Cell} (h : Inside n k Q R ts cs) where
  pub inside-put : (p : ℕ) (u : Token) → Q p → Fits Q R u → Inside n k Q R (set ts p u) cs
  inside-put p u x f = inside-with-token x (inside-token h p u (fits-map (λ i y. inl y) (λ c y. y) f))

  pub inside-set : (c : ℕ) (x : Cell) → R c → Names R x.parent → Inside n k Q R ts (set cs c x)
  inside-set c x r f = inside-with-cell r (inside-cell h c x (λ i e. inl (f i e)))
