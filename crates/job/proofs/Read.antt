-- Readings in steps, both ways. `Says P Q r`: if r reads anything, then P holds of it, and if it refuses, then Q of number and entry;
-- `Yields P r`: the first alone. `Gives a rest r`: r reads a and leaves rest. Each follows a reading step by step, because each step
-- either refuses or hands on what it read. Assumes nothing.
use mathlib.Core.Path.{◌≡◌, refl, subst}
use mathlib.Core.Bool.{Bool, true, false}
use mathlib.Core.List.{List, []}
use Prim.Native.Nat.{ℕ}
use Rattle.job.specs.Entry.{Entry}
use Rattle.job.specs.Read.{Got, Read, got, refused, ◌>>=◌, need}
use Rattle.job.proofs.Test.{never}

-- what holds of all that is read, and of each refusal

pub data Says {A : Type 0} (P : Got A → Type 0) (Q : (number entry : ℕ) → Type 0) : Read A → Type 0 where
  reads : {g : Got A} → P g → Says P Q (got g)
  refuses : {n e : ℕ} → Q n e → Says P Q (refused n e)

module _ {A : Type 0} {P : Got A → Type 0} {Q : (number entry : ℕ) → Type 0} where
  pub says-need : (b : Bool) (n e : ℕ) (r : Read A) → (b ≡ false → Q n e) → (b ≡ true → Says P Q r) → Says P Q (need b n e >>= (λ _. r))
  unfolding need ◌>>=◌
  says-need true n e r f h = h refl
  says-need false n e r f h = refuses (f refl)

  pub says-bind : {B : Type 0} {R : Got B → Type 0} {r : Read B} (f : Got B → Read A)
      → Says R Q r → ((b : Got B) → R b → Says P Q (f b)) → Says P Q (r >>= f)
  unfolding ◌>>=◌
  says-bind f (reads {g = g} h) k = k g h
  says-bind f (refuses q) k = refuses q

  pub says_map : {P' : Got A → Type 0} {Q' : (number entry : ℕ) → Type 0} {r : Read A}
      → ((g : Got A) → P g → P' g) → ((n e : ℕ) → Q n e → Q' n e) → Says P Q r → Says P' Q' r
  says_map f h (reads {g = g} p) = reads (f g p)
  says_map f h (refuses {n = n} {e = e} q) = refuses (h n e q)

-- a test by itself
pub says-test : {P : Got (Unit {0}) → Type 0} {Q : (number entry : ℕ) → Type 0} (b : Bool) (n e : ℕ)
    → (b ≡ false → Q n e) → (b ≡ true → P (record { value = tt; next = e; rest = [] })) → Says P Q (need b n e)
unfolding need
says-test true n e f h = reads (h refl)
says-test false n e f h = refuses (f refl)

-- what holds of all that is read, whatever is refused

abbrev pub Yields : {A : Type 0} → (Got A → Type 0) → Read A → Type 0
Yields P r = Says P (λ n e. Unit {0}) r

module _ {A : Type 0} {P : Got A → Type 0} where
  pub yields-got : {r : Read A} {g : Got A} → Yields P r → r ≡ got g → P g
  yields-got {g = g} (reads {g = f} p) e = let z : f ≡ g = cc in subst P z p
  yields-got (refuses q) e = never cc

  pub yields-need : (b : Bool) (n e : ℕ) (r : Read A) → (b ≡ true → Yields P r) → Yields P (need b n e >>= (λ _. r))
  yields-need b n e r h = says-need b n e r (λ _. tt) h

pub yields-map : {A : Type 0} {P Q : Got A → Type 0} {r : Read A} → ((g : Got A) → P g → Q g) → Yields P r → Yields Q r
yields-map f h = says_map f (λ n e u. u) h

-- what is read is what is read
pub yields-itself : {A : Type 0} (r : Read A) → Yields (λ g. r ≡ got g) r
yields-itself (got g) = reads refl
yields-itself (refused n e) = refuses tt

-- a reading that succeeds

pub data Gives {A : Type 0} (a : A) (rest : List Entry) : Read A → Type 0 where
  given : {n : ℕ} → Gives a rest (got (record { value = a; next = n; rest = rest }))

module _ {A : Type 0} {a : A} {rest : List Entry} where
  pub gives-need : (b : Bool) (n e : ℕ) {r : Read A} → b ≡ true → Gives a rest r → Gives a rest (need b n e >>= (λ _. r))
  unfolding need ◌>>=◌
  gives-need b n e t h = rw t h

  pub gives-bind : {B : Type 0} {b : B} {mid : List Entry} {r : Read B} (f : Got B → Read A)
      → Gives b mid r → ((n : ℕ) → Gives a rest (f (record { value = b; next = n; rest = mid }))) → Gives a rest (r >>= f)
  unfolding ◌>>=◌
  gives-bind f (given {n = n}) h = h n
