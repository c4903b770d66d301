-- Bytes and signed numbers, there and back: a number below 256 ^ w is its w bytes, and a signed 32-bit number is its 32 bits,
-- because each step takes off one byte, and because both halves of the 32-bit numbers are counted from their lower end.
-- Assumes nothing.
use mathlib.Core.Path.{◌≡◌, refl, sym, ◌∙◌, ap, ap₂, subst}
use mathlib.Core.Bool.{true}
use mathlib.Core.List.{List, [], ◌∷◌}
use Prim.Native.Nat.{ℕ, zero, suc, ◌+◌, ◌-◌, ◌*◌, ◌/◌, ◌%◌, ◌^◌, ◌<◌, ◌≤◌}
use native.Mathlib.Nat.{pow-suc}
use native.Mathlib.Decide.{dec_lt}
use native.Mathlib.Omega.{arith}
use lib.ListN.{length, take}
use lib.Seq.{length-take-le}
use lib.IntN.{ℤ, pos, negsuc}
use Rattle.job.specs.Test.{All, none, more}
use Rattle.job.specs.Number.{number, bytes, signed, unsigned, fits, Signed32}
use Rattle.job.proofs.All.{All-take}
use Rattle.job.proofs.Test.{ltb-lt, lt-ltb, le-not-ltb}

-- "byte"
abbrev pub Byte : ℕ → Type 0
Byte b = b < 256

-- bytes

pub length-bytes : (w n : ℕ) → length (bytes w n) ≡ w
unfolding bytes
length-bytes zero n = refl
length-bytes (suc w) n = ap suc (length-bytes w (n / 256))

pub bytes-are : (w n : ℕ) → All Byte (bytes w n)
unfolding bytes
bytes-are zero n = none
bytes-are (suc w) n = let l : n % 256 < 256 = omega arith in more l (bytes-are w (n / 256))

pub number-bytes : (w n : ℕ) → n < 256 ^ w → number (bytes w n) ≡ n
unfolding number bytes
number-bytes zero n l = omega arith
number-bytes (suc w) n l =
    let s : 256 ^ suc w ≡ 256 ^ w * 256 = pow-suc 256 w in
    let h : number (bytes w (n / 256)) ≡ n / 256 = number-bytes w (n / 256) (omega arith) in
    omega arith

pub bytes-number : (bs : List ℕ) → All Byte bs → bytes (length bs) (number bs) ≡ bs
unfolding number bytes
bytes-number [] none = refl
bytes-number (b ∷ bs) (more l ls) =
    let low : (b + 256 * number bs) % 256 ≡ b = omega arith in
    let high : (b + 256 * number bs) / 256 ≡ number bs = omega arith in
    ap₂ ◌∷◌ low (ap (bytes (length bs)) high ∙ bytes-number bs ls)

pub number-below : (bs : List ℕ) → All Byte bs → number bs < 256 ^ length bs
unfolding number
number-below [] none = omega arith
number-below (b ∷ bs) (more l ls) =
    let s : 256 ^ suc (length bs) ≡ 256 ^ length bs * 256 = pow-suc 256 (length bs) in
    let h : number bs < 256 ^ length bs = number-below bs ls in
    omega arith

-- the same of the bytes in front of a list
pub bytes-front : (w : ℕ) (bs : List ℕ) → w ≤ length bs → All Byte bs → bytes w (number (take w bs)) ≡ take w bs
bytes-front w bs l all =
    ap (λ (n : ℕ). bytes n (number (take w bs))) (sym (length-take-le w bs l)) ∙ bytes-number (take w bs) (All-take w all)

pub front_below : (w : ℕ) (bs : List ℕ) → w ≤ length bs → All Byte bs → number (take w bs) < 256 ^ w
front_below w bs l all =
    subst (λ (n : ℕ). number (take w bs) < 256 ^ n) (length-take-le w bs l) (number-below (take w bs) (All-take w all))

-- signed numbers

signed_lower : (n : ℕ) → n < 2 ^ 31 → signed n ≡ pos n
unfolding signed
signed_lower n l = rw (lt-ltb n (2 ^ 31) l, signed)

signed-upper : (n : ℕ) → 2 ^ 31 ≤ n → signed n ≡ negsuc (2 ^ 32 - 1 - n)
unfolding signed
signed-upper n l = rw (le-not-ltb n (2 ^ 31) l, signed)

-- (of any number: one that is no 32-bit number is -1)
pub signed-fits : (n : ℕ) → Signed32 (signed n)
unfolding fits
signed-fits n = go (dec_lt n (2 ^ 31))
  where
    go : Dec (n < 2 ^ 31) → fits (signed n) ≡ true
    go (yes l) = ap fits (signed_lower n l) ∙ lt-ltb n (2 ^ 31) l
    go (no f) = ap fits (signed-upper n (omega arith)) ∙ lt-ltb (2 ^ 32 - 1 - n) (2 ^ 31) (omega arith)

pub unsigned_signed : (n : ℕ) → n < 2 ^ 32 → unsigned (signed n) ≡ n
unfolding unsigned
unsigned_signed n l = go (dec_lt n (2 ^ 31))
  where
    go : Dec (n < 2 ^ 31) → unsigned (signed n) ≡ n
    go (yes l) = ap unsigned (signed_lower n l)
    go (no f) = ap unsigned (signed-upper n (omega arith)) ∙ omega arith

pub unsigned-below : (v : ℤ) → Signed32 v → unsigned v < 2 ^ 32
unfolding unsigned fits
unsigned-below (pos n) e = let z : n < 2 ^ 31 = ltb-lt n (2 ^ 31) e in omega arith
unsigned-below (negsuc n) e = omega arith

pub signed-unsigned : (v : ℤ) → Signed32 v → signed (unsigned v) ≡ v
unfolding unsigned fits
signed-unsigned (pos n) e = signed_lower n (ltb-lt n (2 ^ 31) e)
signed-unsigned (negsuc n) e =
    let z : n < 2 ^ 31 = ltb-lt n (2 ^ 31) e in
    signed-upper (2 ^ 32 - 1 - n) (omega arith) ∙ ap negsuc (omega arith)
