-- Words set in a list: those outside stay, and two runs that do not meet stand where they were set. By the laws of lists, index by index.
-- Assumes nothing.
use mathlib.Core.Path.{◌≡◌, refl, sym, ◌∙◌, ap}
use mathlib.Core.List.{List, [], ◌∷◌, ◌++◌, append_assoc}
use Prim.Native.Nat.{ℕ, suc, ◌+◌, ◌-◌, ◌≤◌, ◌<◌}
use native.Mathlib.Omega.{arith}
use lib.ListN.{length, get_or, take, drop, set, length-append, length-drop}
use lib.Seq.{sets, length-sets, sets-eq, get_or-set_other, take-append-add, length-take-le}

-- words outside of those that are set stay
pub get_d_sets_before : {A : Type 0} (vs l : List A) (i j : ℕ) (z : A) → j < i → get_or (sets l i vs) j z ≡ get_or l j z
get_d_sets_before [] l i j z h = refl
get_d_sets_before (v ∷ vs) l i j z h = get_d_sets_before vs (set l i v) (suc i) j z (omega arith) ∙ get_or-set_other l i j v z (omega arith)

pub get_or-sets-after : {A : Type 0} (vs l : List A) (i j : ℕ) (z : A) → i + length vs ≤ j → get_or (sets l i vs) j z ≡ get_or l j z
get_or-sets-after [] l i j z h = refl
get_or-sets-after (v ∷ vs) l i j z h = get_or-sets-after vs (set l i v) (suc i) j z (omega arith) ∙ get_or-set_other l i j v z (omega arith)

-- a list whose first words and whose words from i on were set: what stands between and after them
pub record Laid (vs us l : List ℕ) (i : ℕ) : Type 0 where
  pub between : List ℕ
  pub after : List ℕ
  pub seam : length (vs ++ between) ≡ i
  pub form : l ≡ (vs ++ between) ++ (us ++ after)

pub laid : (vs us l : List ℕ) (i : ℕ) → length vs ≤ i → i + length us ≤ length l → Laid vs us (sets (sets l 0 vs) i us) i
laid vs us l i h fit =
    let rest = drop (0 + length vs) l in
    let between = take (i - length vs) rest in
    let after = drop (i + length us) (sets l 0 vs) in
    let whole : length (sets l 0 vs) ≡ length l = length-sets l 0 vs in
    let left : length rest ≡ length l - (0 + length vs) = length-drop (0 + length vs) l in
    let taken : length between ≡ i - length vs = length-take-le (i - length vs) rest (omega arith) in
    let first : sets l 0 vs ≡ vs ++ rest = sets-eq vs l 0 (omega arith) in
    let middle : take (length vs + (i - length vs)) (vs ++ rest) ≡ vs ++ between = take-append-add vs rest (i - length vs) in
    let index : length vs + (i - length vs) ≡ i = omega arith in
    let second : sets (sets l 0 vs) i us ≡ take i (sets l 0 vs) ++ us ++ after = sets-eq us (sets l 0 vs) i (omega arith) in
    let front : take i (sets l 0 vs) ≡ vs ++ between = ap (take i) first ∙ ap (λ n. take n (vs ++ rest)) (sym index) ∙ middle in
    record {
      between = between;
      after = after;
      seam = simp length-append (omega arith);
      form = second ∙ append_assoc (take i (sets l 0 vs)) us after ∙ ap (λ p. p ++ (us ++ after)) front;
    }
