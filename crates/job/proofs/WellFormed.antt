-- The reader's tests and the conditions of well-formed programs are the same: a variable is in scope, a site takes so many
-- parameters, a call names a definition with as many formals. Each is a test of numbers. Assumes nothing.
use mathlib.Core.Path.{◌≡◌, refl}
use mathlib.Core.Logic.{◌⊎◌, inl, inr}
use mathlib.Core.Bool.{true, not}
use mathlib.Core.List.{List, [], ◌∷◌, Memᴰ}
use Prim.Native.Nat.{ℕ, ◌<◌, ◌≤◌}
use native.Mathlib.Omega.{arith}
use lib.ListN.{length, get_or}
use lib.Dec.{eqb, ltb, leb}
use Rattle.job.specs.Test.{◌and◌, ◌or◌, for_all, for_some}
use Rattle.job.specs.Site.{builtin_counts, site_takes, is_builtin, is_outside}
use Rattle.job.specs.WellFormed.{SiteTakes, builtin, outside}
use Rattle.job.specs.Entry.{Entry, low, high}
use Rattle.job.specs.Read.{call_holds}
use Rattle.job.proofs.Test.{eqb-eq, eq-eqb, ltb-lt, lt-ltb, leb-le, le-leb}
use Rattle.job.proofs.Test.{all-at, and_left, and_right, and_both, or_left, or_right, or_cases, clash}

-- a variable in scope

pub some-member : (x : ℕ) (scope : List ℕ) → for_some (eqb x) scope ≡ true → Memᴰ x scope
unfolding for_some
some-member x [] e = clash e refl
some-member x (y ∷ scope) e = go (or_cases (eqb x y) (for_some (eqb x) scope) e) (some-member x scope)
  where
    go : (eqb x y ≡ true) ⊎ (for_some (eqb x) scope ≡ true) → (for_some (eqb x) scope ≡ true → Memᴰ x scope) → Memᴰ x (y ∷ scope)
    go (inl h) below = Memᴰ.head (eqb-eq x y h)
    go (inr h) below = Memᴰ.tail (below h)

pub member-some : {x : ℕ} {scope : List ℕ} → Memᴰ x scope → for_some (eqb x) scope ≡ true
unfolding for_some
member-some {x} (Memᴰ.head {x = y} {xs = scope} e) = or_left (for_some (eqb x) scope) (eq-eqb x y e)
member-some {x} (Memᴰ.tail {x = y} m) = or_right (eqb x y) (member-some m)

-- a site that takes n parameters

pub site-takes : (s n : ℕ) → site_takes s n ≡ true → SiteTakes s n
unfolding site_takes is_builtin is_outside
site-takes s n e = go (or_cases _ _ e)
  where
    go : ((ltb s 8 and eqb n (get_or builtin_counts s 0)) ≡ true) ⊎ (((leb 16 s and leb s 1023) and leb n 4) ≡ true) → SiteTakes s n
    go (inl h) = builtin (ltb-lt s 8 (and_left (ltb s 8) _ h)) (eqb-eq n (get_or builtin_counts s 0) (and_right (ltb s 8) _ h))
    go (inr h) =
        let range = and_left (leb 16 s and leb s 1023) (leb n 4) h in
        outside (leb-le 16 s (and_left (leb 16 s) (leb s 1023) range))
        (leb-le s 1023 (and_right (leb 16 s) (leb s 1023) range))
        (leb-le n 4 (and_right (leb 16 s and leb s 1023) (leb n 4) h))

pub takes-site : {s n : ℕ} → SiteTakes s n → site_takes s n ≡ true
unfolding site_takes is_builtin is_outside
takes-site {s} {n} (builtin l e) = or_left (is_outside s and leb n 4) (and_both (lt-ltb s 8 l) (eq-eqb n (get_or builtin_counts s 0) e))
takes-site {s} {n} (outside l m k) =
    or_right (is_builtin s and eqb n (get_or builtin_counts s 0)) (and_both (and_both (le-leb 16 s l) (le-leb s 1023 m)) (le-leb n 4 k))

-- a call has at most 4 parameters
pub site-few : {s n : ℕ} → SiteTakes s n → n ≤ 4
unfolding for_all ◌and◌
site-few {s} (builtin l e) =
    let few : get_or builtin_counts s 0 ≤ 4 = leb-le (get_or builtin_counts s 0) 4 (all-at (λ c. leb c 4) builtin_counts s 0 refl l) in
    omega arith
site-few (outside l u f) = f

-- a call of a definition

-- entry x, if it is a call, names a definition with as many formals
abbrev pub CallRuleHolds : List ℕ → Entry → Type 0
CallRuleHolds formals x = call_holds formals x ≡ true

pub record Names (formals : List ℕ) (d n : ℕ) : Type 0 where
  pub defined : d < length formals
  pub count : n ≡ get_or formals d 0

pub holds-names : (formals : List ℕ) (x : Entry) → x.kind ≡ 2 → CallRuleHolds formals x
    → Names formals (low x.operand) (high x.operand)
unfolding call_holds ◌or◌
holds-names formals x k e =
    let d = low x.operand in
    let n = high x.operand in
    let h : (ltb d (length formals) and eqb n (get_or formals d 0)) ≡ true = rw k at e in
    record { defined = ltb-lt d (length formals) (and_left _ _ h); count = eqb-eq n (get_or formals d 0) (and_right _ _ h) }

pub call-holds : (formals : List ℕ) (x : Entry) → Names formals (low x.operand) (high x.operand) → CallRuleHolds formals x
unfolding call_holds
call-holds formals x h =
    or_right (not (eqb x.kind 2)) (and_both (lt-ltb _ (length formals) h.defined) (eq-eqb (high x.operand) _ h.count))

pub other-holds : (formals : List ℕ) (x : Entry) → not (eqb x.kind 2) ≡ true → CallRuleHolds formals x
unfolding call_holds
other-holds formals x e = or_left _ e
