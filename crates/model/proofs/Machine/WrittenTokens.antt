-- The tokens that a step, or a clock move, writes name nothing but what the token acted on names, and the cell that is bound: by their
-- definitions, field by field. Assumes nothing.
use mathlib.Core.Path.{◌≡◌, refl, sym, ◌∙◌, ap}
use mathlib.Core.Logic.{◌⊎◌, inl, inr}
use mathlib.Core.Bool.{Bool, true, false}
use mathlib.Core.List.{List, [], ◌∷◌, ◌++◌, map}
use Prim.Native.Nat.{ℕ, zero, suc, ◌+◌}
use lib.ListN.{length, get_or, set, drop}
use lib.Seq.{get_or-drop}
use lib.IntN.{ℤ, pos}
use Rattle.std.specs.Prelude.{Some}
use Rattle.job.specs.Syntax.{Param, variable, constant}
use Rattle.model.specs.Machine.Blank.{empty, unbound, blank_token, slot_at}
use Rattle.model.specs.Machine.Active.{within}
use Rattle.model.specs.Machine.State.{is_live, is_due_by, waits_at}
use Rattle.model.specs.Machine.Update.{with_binding, with_value, with_state}
use Rattle.model.specs.Machine.Step.{passed, formals_bound, callee, choke_token}
use Rattle.model.specs.Machine.Clock.{woken_by}
use Rattle.model.specs.declared.token.Slot.{Slot}
use Rattle.model.specs.declared.token.Slot.TheVariants as slots
use Rattle.model.specs.Machine.Held.{Place}
use Rattle.model.specs.declared.token.State.{State}
use Rattle.model.specs.declared.token.State.TheVariants as states
use Rattle.model.specs.declared.token.Token.{Token}
use Rattle.model.specs.declared.cell.Cell.{Cell}
use Rattle.job.proofs.Test.{never, clash}
use Rattle.model.proofs.Machine.InUse.{slot-unbound}
use Rattle.model.proofs.Machine.Reach.{Names}
use Rattle.model.proofs.Machine.Inside.{Fits, fits-blank, written}

-- only caller, cell and bindings name places
pub fits-same :
    {Q R : ℕ → Type 0} {t u : Token}
    → u.caller ≡ t.caller
    → u.cell ≡ t.cell
    → u.binds ≡ t.binds
    → Fits Q R t
    → Fits Q R u
fits-same a b c f =
    record {
      caller = λ i e. f.caller i (sym a ∙ e);
      cells =
          record {
            cell = λ i e. f.cells.cell i (sym b ∙ e);
            binds = λ x i e. f.cells.binds x i (ap (λ bs. slot_at bs x) (sym c) ∙ e);
          };
    }

pub fits-binding :
    {Q R : ℕ → Type 0} {t : Token} (x : ℕ) (s : Slot)
    → ((c : ℕ) → s ≡ slots.Cell c → R c)
    → Fits Q R t
    → Fits Q R (with_binding x s t)
unfolding with_binding slot_at
fits-binding {Q} {R} {t} x s g f =
    record {
      caller = f.caller;
      cells = record { cell = f.cells.cell; binds = λ y c e. bound y c (written t.binds x s empty y) e };
    }
  where
    now : ℕ → Slot
    now y = get_or (set t.binds x s) y empty

    bound :
        (y c : ℕ)
        → ((y ≡ x) × (now y ≡ s)) ⊎ (now y ≡ get_or t.binds y empty)
        → now y ≡ slots.Cell c
        → R c
    bound y c (inl w) e = g c (sym w.1 ∙ e)
    bound y c (inr w) e = f.cells.binds y c (sym w ∙ e)

pub fits-value : {Q R : ℕ → Type 0} {t : Token} (x : ℕ) (v : ℤ) → Fits Q R t → Fits Q R (with_binding x (slots.Value v) t)
fits-value x v f = fits-binding x (slots.Value v) (λ c e. never cc) f

pub fits-empty : {Q R : ℕ → Type 0} {t : Token} (x : ℕ) → Fits Q R t → Fits Q R (with_binding x slots.Empty t)
fits-empty x f = fits-binding x slots.Empty (λ c e. never cc) f

-- a formal is bound to a value, or as a variable was
passed-cell : (bs : List Slot) (p : Param) (c : ℕ) → passed bs p ≡ slots.Cell c → (x : ℕ) × (slot_at bs x ≡ slots.Cell c)
unfolding passed
passed-cell bs (variable x) c e = (x, e)
passed-cell bs (constant v) c e = never cc

pub formals-cell :
    (bs : List Slot) (ps : List Param) (y c : ℕ)
    → slot_at (formals_bound bs ps) y ≡ slots.Cell c
    → (x : ℕ) × (slot_at bs x ≡ slots.Cell c)
unfolding formals_bound slot_at
formals-cell bs ps y c e = go (length ps) ps y e
  where
    go :
        (n : ℕ) (ps : List Param) (y : ℕ)
        → slot_at (map (passed bs) ps ++ drop n unbound) y ≡ slots.Cell c
        → (x : ℕ) × (slot_at bs x ≡ slots.Cell c)
    go n [] y e = absurd (slot-unbound 8 (n + y) c (sym (get_or-drop n unbound y empty) ∙ e))
    go n (p ∷ ps) zero e = passed-cell bs p c e
    go n (p ∷ ps) (suc y) e = go n ps y e

-- a callee names its caller, and else what the token that calls names
pub fits-callee : {Q R : ℕ → Type 0} {t : Token} (q : Place) (root : ℕ) (ps : List Param)
    → Names Q q → Fits Q R t → Fits Q R (callee q t root ps)
fits-callee {t = t} q root ps n f =
    record {
      caller = n;
      cells =
          record {
            cell = f.cells.cell;
            binds = λ y c e. let x = formals-cell t.binds ps y c e in f.cells.binds x.0 c x.1;
          };
    }

-- a choked token is blank, woken, or as it was
pub data Choked (c : ℕ) (t : Token) : Token → Type 0 where
  ends : Choked c t blank_token
  wakes : waits_at c t.state ≡ true → Choked c t (with_state states.Ready t)
  stays : Choked c t t

pub choked-cases : (cs : List Cell) (c : ℕ) (t : Token) → Choked c t (choke_token cs c t)
unfolding choke_token
choked-cases cs c t = go (within cs c t.cell) (waits_at c t.state) refl
  where
    go :
        (a b : Bool)
        → waits_at c t.state ≡ b
        → Choked c t (elim a [ true ↦ blank_token | false ↦ elim b [ true ↦ with_state states.Ready t | false ↦ t ] ])
    go true b e = ends
    go false true e = wakes e
    go false false e = stays

pub waiting-live : (c : ℕ) (s : State) → waits_at c s ≡ true → is_live s ≡ true
unfolding waits_at is_live
waiting-live c states.Blank e = e
waiting-live c states.Ready e = refl
waiting-live c (states.Waiting b) e = refl
waiting-live c (states.Called h) e = refl
waiting-live c (states.Due d) e = refl
waiting-live c states.Frame e = e

pub choked-blank : (cs : List Cell) (c : ℕ) → choke_token cs c blank_token ≡ blank_token
unfolding choke_token waits_at
choked-blank cs c = go (within cs c blank_token.cell)
  where
    go : (b : Bool) → elim b as (λ b. Token) [ true ↦ blank_token | false ↦ blank_token ] ≡ blank_token
    go true = refl
    go false = refl

-- what was not alive is not alive after a choke
pub choked-live : {c : ℕ} {t u : Token} → Choked c t u → is_live u.state ≡ true → is_live t.state ≡ true
unfolding is_live
choked-live ends e = clash e refl
choked-live {c} {t} (wakes w) e = waiting-live c t.state w
choked-live stays e = e

pub choked-fits : {Q R : ℕ → Type 0} {c : ℕ} {t u : Token} → Choked c t u → Fits Q R t → Fits Q R u
unfolding with_state
choked-fits {Q} {R} ends f = fits-blank Q R
choked-fits (wakes w) f = fits-same refl refl refl f
choked-fits stays f = f

-- a token at a time: it wakes if it is due by then
pub data Woken (time : ℕ) (t : Token) : Token → Type 0 where
  wakes : is_due_by time t.state ≡ true → Woken time t (with_state states.Ready (with_value (Some (pos 0)) t))
  stays : is_due_by time t.state ≡ false → Woken time t t

pub woken-cases : (time : ℕ) (t : Token) → Woken time t (woken_by time t)
unfolding woken_by
woken-cases time t = go (is_due_by time t.state) refl
  where
    go :
        (b : Bool)
        → is_due_by time t.state ≡ b
        → Woken time t (elim b [ true ↦ with_state states.Ready (with_value (Some (pos 0)) t) | false ↦ t ])
    go true e = wakes e
    go false e = stays e

pub due-live : (time : ℕ) (s : State) → is_due_by time s ≡ true → is_live s ≡ true
unfolding is_due_by is_live
due-live time states.Blank e = e
due-live time states.Ready e = refl
due-live time (states.Waiting b) e = refl
due-live time (states.Called h) e = refl
due-live time (states.Due d) e = refl
due-live time states.Frame e = e

pub woken-blank : (time : ℕ) → woken_by time blank_token ≡ blank_token
unfolding woken_by is_due_by
woken-blank time = refl

-- what was not alive is not alive after a clock move
pub woken-live : (time : ℕ) (t : Token) → is_live (woken_by time t).state ≡ true → is_live t.state ≡ true
woken-live time t = go (woken-cases time t)
  where
    go : {u : Token} → Woken time t u → is_live u.state ≡ true → is_live t.state ≡ true
    go (wakes w) e = due-live time t.state w
    go (stays w) e = e

pub woken-fits : {Q R : ℕ → Type 0} (time : ℕ) (t : Token) → Fits Q R t → Fits Q R (woken_by time t)
unfolding with_state with_value
woken-fits {Q} {R} time t f = go (woken-cases time t)
  where
    go : {u : Token} → Woken time t u → Fits Q R u
    go (wakes w) = fits-same refl refl refl f
    go (stays w) = f
