-- `Begins enc es rest`: the entries es are those of enc, and then rest; an entry of es whose operand has more than 4 bytes need
-- only stand where enc has one. So lengths agree for any entries, and entries of 4-byte operands are the same. Assumes nothing.
use mathlib.Core.Path.{◌≡◌, refl, ap₂}
use mathlib.Core.List.{List, [], ◌∷◌, ◌++◌}
use Prim.Native.Nat.{◌+◌}
use native.Mathlib.Omega.{arith}
use lib.ListN.{length}
use Rattle.job.specs.Test.{All, more}
use Rattle.job.specs.Entry.{Entry}
use Rattle.job.proofs.Entry.{Short}

pub data Begins : (enc es rest : List Entry) → Type 0 where
  done : {rest : List Entry} → Begins [] rest rest
  next : {x y : Entry} {enc es rest : List Entry} → (Short x → x ≡ y) → Begins enc es rest → Begins (y ∷ enc) (x ∷ es) rest

pub begins-one : {x y : Entry} {rest : List Entry} → (Short x → x ≡ y) → Begins (y ∷ []) (x ∷ rest) rest
begins-one h = next h done

pub begins-append : {a b es mid rest : List Entry} → Begins a es mid → Begins b mid rest → Begins (a ++ b) es rest
begins-append done second = second
begins-append (next h first) second = next h (begins-append first second)

pub begins-rest : {P : Entry → Type 0} {enc es rest : List Entry} → Begins enc es rest → All P es → All P rest
begins-rest done ps = ps
begins-rest (next h below) (more p ps) = begins-rest below ps

pub begins-length : {enc es rest : List Entry} → Begins enc es rest → length es ≡ length enc + length rest
begins-length {rest = rest} done = omega arith
begins-length (next h below) = let z = begins-length below in omega arith

pub begins-exact : {enc es rest : List Entry} → Begins enc es rest → All Short es → es ≡ enc ++ rest
begins-exact done ps = refl
begins-exact (next h below) (more p ps) = ap₂ ◌∷◌ (h p) (begins-exact below ps)
