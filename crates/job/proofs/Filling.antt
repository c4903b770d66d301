-- A table is declined with one number and one entry, and not at all where its entries fill the positions and name their definitions:
-- going on from the first entry, each position and entry say whether one goes on and what comes next. Assumes nothing.
use mathlib.Core.Path.{◌≡◌, refl, sym, ap, subst}
use mathlib.Core.List.{List, [], ◌∷◌, ◌++◌, append-nil}
use Prim.Native.Nat.{ℕ, suc, ◌+◌, ◌≤◌, ◌<◌}
use native.Mathlib.Nat.{add-zero, suc-add, zero-add}
use native.Mathlib.Decide.{dec_lt}
use native.Mathlib.Omega.{arith}
use lib.ListN.{length}
use Rattle.job.specs.Entry.{Entry, size_d, table_entries}
use Rattle.job.specs.Declined.{Position, Breaks, Keeps, followed_by, Fills, none, next}
use Rattle.job.specs.Declined.{whole_table, formals_in, Undefined, FirstAt, here, later}
use Rattle.job.specs.Declined.{DeclinedEntries, runs-out, breaks, remain, undefined}
use Rattle.job.specs.Declined.{Declined, wrong-length, wrong-sizes, wrong-entries}
use Rattle.job.proofs.Sizes.{LengthAndSizes}
use Rattle.job.proofs.Faults.{fault-known}

-- the same number and entry
pub record Same (n e m f : ℕ) : Type 0 where
  pub number : n ≡ m
  pub entry : e ≡ f

-- an entry has one number

breaks-same : {p : Position} {x : Entry} {n m : ℕ} → Breaks p x n → Breaks p x m → n ≡ m
breaks-same {n = n} {m = m} a b = go (dec_lt n m) (dec_lt m n)
  where
    go : Dec (n < m) → Dec (m < n) → n ≡ m
    go (yes l) d = absurd (b.first n l a.fault)
    go (no f) (yes l) = absurd (a.first m l b.fault)
    go (no f) (no g) = omega arith

-- where filling positions ends, and with which number: 0 where all are filled by all entries
data Ends : (ps : List Position) (es : List Entry) (number entry : ℕ) → Type 0 where
  full : Ends [] [] 0 0
  short : {p : Position} {ps : List Position} → Ends (p ∷ ps) [] 5 0
  long : {x : Entry} {es : List Entry} → Ends [] (x ∷ es) 5 0
  broken : {p : Position} {ps : List Position} {x : Entry} {es : List Entry} {n : ℕ} → Breaks p x n → Ends (p ∷ ps) (x ∷ es) n 0
  kept : {p : Position} {ps : List Position} {x : Entry} {es : List Entry} {n e : ℕ}
      → Keeps p x → Ends (followed_by p x ++ ps) es n e → Ends (p ∷ ps) (x ∷ es) n (suc e)

ends_same : {ps : List Position} {es : List Entry} {n e m f : ℕ} → Ends ps es n e → Ends ps es m f → Same n e m f
ends_same full full = record { number = refl; entry = refl }
ends_same short short = record { number = refl; entry = refl }
ends_same long long = record { number = refl; entry = refl }
ends_same (broken b) (broken c) = record { number = breaks-same b c; entry = refl }
ends_same (broken {n = n} b) (kept k d) = absurd (k n b.fault)
ends_same (kept k d) (broken {n = n} b) = absurd (k n b.fault)
ends_same (kept k d) (kept j c) = let z = ends_same d c in record { number = z.number; entry = ap suc z.entry }

ends-after : {ps left : List Position} {es : List Entry} (rest : List Entry) {n e : ℕ} → Fills ps es left → Ends left rest n e
    → Ends ps (es ++ rest) n (length es + e)
ends-after rest none d = rw zero-add d
ends-after rest (next {es = es} k f) d = rw suc-add (kept k (ends-after rest f d))

fills-end : {ps : List Position} {es : List Entry} → Fills ps es [] → Ends ps es 0 (length es)
fills-end {ps} {es} f = rw (append-nil, add-zero) at (ends-after [] f full)

-- the first entry of which something holds is one
first-same : {P : Entry → Type 0} {es : List Entry} {i j : ℕ} → FirstAt P es i → FirstAt P es j → i ≡ j
first-same (here p) (here q) = refl
first-same (here p) (later f d) = absurd (f p)
first-same (later f d) (here q) = absurd (f q)
first-same (later f d) (later g c) = ap suc (first-same d c)

pub first-within : {P : Entry → Type 0} {es : List Entry} {i : ℕ} → FirstAt P es i → i < length es
first-within (here p) = omega arith
first-within (later f d) = let l = first-within d in omega arith

-- the entries of a table

-- they fill all positions, and each call names a definition with as many formals
pub record Complete (D : ℕ) (es : List Entry) : Type 0 where
  pub fills : Fills (whole_table D) es []
  pub defined : (e : ℕ) → FirstAt (Undefined (formals_in es)) es e → ⊥

module _ (D : ℕ) where
  -- declined while positions are filled, or behind that
  data Stage (es : List Entry) : (number entry : ℕ) → Type 0 where
    during : {n e : ℕ} → 0 < n → Ends (whole_table D) es n e → Stage es n e
    behind-all : {e : ℕ} → Ends (whole_table D) es 0 (length es) → FirstAt (Undefined (formals_in es)) es e → Stage es 8 e

  stopped : {before : List Entry} {left : List Position} (rest : List Entry) {n : ℕ} → Fills (whole_table D) before left
      → Ends left rest n 0
      → 0 < n → Stage (before ++ rest) n (length before)
  stopped {before} rest f d l = during l (rw add-zero at (ends-after rest f d))

  stage : {es : List Entry} {n e : ℕ} → DeclinedEntries D es n e → Stage es n e
  stage {es} (runs-out f) = rw append-nil at (stopped [] f short (omega arith))
  stage (breaks {before = before} {x = x} after {n = n} q f b) =
      let l : 3 ≤ n = fault-known b.fault in
      subst (λ (es : List Entry). Stage es n (length before)) (sym q) (stopped (x ∷ after) f (broken b) (omega arith))
  stage (remain {before = before} x after q f) =
      subst (λ (es : List Entry). Stage es 5 (length before)) (sym q) (stopped (x ∷ after) f long (omega arith))
  stage (undefined f d) = behind-all (fills-end f) d

  stage-same : {es : List Entry} {n e m f : ℕ} → Stage es n e → Stage es m f → Same n e m f
  stage-same (during l d) (during k c) = ends_same d c
  stage-same (during l d) (behind-all c _) = let z = (ends_same d c).number in absurd (omega arith)
  stage-same (behind-all d _) (during k c) = let z = (ends_same d c).number in absurd (omega arith)
  stage-same (behind-all _ d) (behind-all _ c) = record { number = refl; entry = first-same d c }

  complete-stage : {es : List Entry} {n e : ℕ} → Complete D es → Stage es n e → ⊥
  complete-stage c (during l d) = let z = (ends_same d (fills-end c.fills)).number in omega arith
  complete-stage c (behind-all {e = e} _ d) = c.defined e d

-- the bytes of a table

pub record Fits (b : List ℕ) : Type 0 where
  pub sized : LengthAndSizes b
  pub complete : Complete (size_d b) (table_entries b)

pub declined-same : {b : List ℕ} {n e m f : ℕ} → Declined b n e → Declined b m f → Same n e m f
declined-same (wrong-length bad) (wrong-length _) = record { number = refl; entry = refl }
declined-same (wrong-length bad) (wrong-sizes l _) = absurd (bad l)
declined-same (wrong-length bad) (wrong-entries l _ _) = absurd (bad l)
declined-same (wrong-sizes l bad) (wrong-length worse) = absurd (worse l)
declined-same (wrong-sizes l bad) (wrong-sizes _ _) = record { number = refl; entry = refl }
declined-same (wrong-sizes l bad) (wrong-entries _ s _) = absurd (bad s)
declined-same (wrong-entries l s d) (wrong-length worse) = absurd (worse l)
declined-same (wrong-entries l s d) (wrong-sizes _ worse) = absurd (worse s)
declined-same {b} (wrong-entries l s d) (wrong-entries _ _ c) = stage-same (size_d b) (stage (size_d b) d) (stage (size_d b) c)

pub fits-not-declined : {b : List ℕ} {n e : ℕ} → Fits b → Declined b n e → ⊥
fits-not-declined h (wrong-length bad) = bad h.sized.length-holds
fits-not-declined h (wrong-sizes _ bad) = bad h.sized.sizes-hold
fits-not-declined {b} h (wrong-entries _ _ d) = complete-stage (size_d b) h.complete (stage (size_d b) d)
