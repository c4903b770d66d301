-- A run of stores may be cut anywhere: one run after another is the run of both. A run from the front is read back there. Runs at
-- different places may be made in either order. By induction over the words. Assumes nothing.
use Prim.Native.Nat.{ℕ, suc, ◌+◌, ◌<◌, ◌≤◌}
use mathlib.Core.Path.{◌≡◌, refl, ◌∙◌, ap}
use mathlib.Core.List.{List, [], ◌∷◌, ◌++◌}
use native.Mathlib.Nat.{add-zero}
use native.Mathlib.Omega.{arith}
use lib.ListN.{length, take, drop, set}
use lib.Seq.{sets, sets-eq, take_at, set_comm}

pub sets-append : (l : List ℕ) (i : ℕ) (a b : List ℕ) → sets l i (a ++ b) ≡ sets (sets l i a) (i + length a) b
sets-append l i [] b = rw add-zero
sets-append l i (x ∷ a) b =
    let e : suc i + length a ≡ i + suc (length a) = omega arith in
    sets-append (set l i x) (suc i) a b ∙ rw e

pub take-sets : (l ws : List ℕ) → length ws ≤ length l → take (length ws) (sets l 0 ws) ≡ ws
take-sets l ws h = ap (take (length ws)) (sets-eq ws l 0 (omega arith)) ∙ take_at ws (drop (0 + length ws) l) (length ws) refl

-- one store below a run of stores
set-sets : (l : List ℕ) (i j x : ℕ) (b : List ℕ) → i < j → set (sets l j b) i x ≡ sets (set l i x) j b
set-sets l i j x [] h = refl
set-sets l i j x (y ∷ b) h =
    set-sets (set l j y) i (suc j) x b (omega arith)
    ∙ ap (λ (m : List ℕ). sets m (suc j) b) (set_comm l j i y x (λ e. omega arith))

pub sets-swap : (l : List ℕ) (i j : ℕ) (a b : List ℕ) → i + length a ≤ j → sets (sets l j b) i a ≡ sets (sets l i a) j b
sets-swap l i j [] b h = refl
sets-swap l i j (x ∷ a) b h =
    ap (λ (m : List ℕ). sets m (suc i) a) (set-sets l i j x b (omega arith))
    ∙ sets-swap (set l i x) (suc i) j a b (omega arith)
