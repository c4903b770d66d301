-- The answer for a reading, and for one that goes on. Assumes nothing.
use mathlib.Core.Path.{◌≡◌, refl, sym, ap}
use Prim.Native.Nat.{ℕ}
use Rattle.std.specs.Prelude.{Ok, Err}
use Rattle.job.specs.Read.{Got, Read, got, refused, ◌>>=◌, gives}
use Rattle.entries.specs.Checked.{answered, checked, checked_test}
use Rattle.entries.specs.Refusal.{refused_as}
use Rattle.entries.specs.declared.checked.Extent.{Extent}
use Rattle.entries.specs.declared.refusal.Refused.{Refused}
use Rattle.entries.proofs.RefusalNumbers.{clash, same-case}

-- a reading that goes on: its first part's refusal is its own, and where its first part was read, the second begins behind it
module _ {A B : Type 0} (f : Got A → B) (r : Read A) where
  pub bind-refused : {C D : Type 0} (g : Got C → D) (h : Got A → Read C) (x : Refused) → answered f r ≡ Err x
      → Err x ≡ answered g (r >>= h)
  unfolding answered ◌>>=◌
  bind-refused g h x = go r
    where
      go : (r : Read A) → answered f r ≡ Err x → Err x ≡ answered g (r >>= h)
      go (got a) q = clash q
      go (refused n e) q = ap Err (sym (same-case q))

  pub answered-refused : (x : Refused) → answered f r ≡ Err x → (n : ℕ) × (e : ℕ) × (r ≡ refused n e) × (refused_as n e ≡ x)
  unfolding answered
  answered-refused x = go r
    where
      go : (r : Read A) → answered f r ≡ Err x → (n : ℕ) × (e : ℕ) × (r ≡ refused n e) × (refused_as n e ≡ x)
      go (got a) q = clash q
      go (refused n e) q = (n, e, refl, same-case q)

  pub answered-read : (b : B) → answered f r ≡ Ok b → (a : Got A) × (r ≡ got a) × (f a ≡ b)
  unfolding answered
  answered-read b = go r
    where
      go : (r : Read A) → answered f r ≡ Ok b → (a : Got A) × (r ≡ got a) × (f a ≡ b)
      go (got a) q = (a, refl, (cc))
      go (refused n e) q = clash (sym q)

pub checked-next : {A : Type 0} (f : A → ℕ) (r : Read A) (x : Extent) → checked f r ≡ Ok x
    → (a : Got A) × (r ≡ got a) × (a.next ≡ x.next) × (f a.value ≡ x.nodes)
checked-next f r x q =
    let a = answered-read (λ g. record { next = g.next; nodes = f g.value }) r x q in
    (a.0, a.1, ap (λ (x : Extent). x.next) a.2, ap (λ (x : Extent). x.nodes) a.2)

-- a value made of what was read, up to the same entry
pub same-next : {A B : Type 0} (h : A → B) (r : Read A)
    → answered (λ g. g.next) (r >>= (λ a. gives (h a.value) a.next a.rest)) ≡ answered (λ g. g.next) r
unfolding answered ◌>>=◌
same-next h (got a) = refl
same-next h (refused n e) = refl

-- where a test holds, what stands behind it is read
pub passed : {A : Type 0} (r : Read (Unit {0})) (s : Read A) (u : Unit {0}) → checked_test r ≡ Ok u → (r >>= (λ _. s)) ≡ s
unfolding ◌>>=◌
passed r s u h = ap (λ r. r >>= (λ _. s)) (answered-read _ r u h).1
