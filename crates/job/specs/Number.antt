-- Numbers as document 01 writes them: "all are little-endian", "every value is signed 32-bit". Assumes nothing: these are definitions.
use Rattle.std.specs.Prelude.{◌≡◌, Bool, true, false, List, [], ◌∷◌, ℕ, zero, suc, ◌+◌, ◌-◌, ◌*◌, ◌/◌, ◌%◌, ◌^◌, ltb, eqb, ℤ, pos, negsuc}
use Rattle.std.specs.Int.Signed.{mag}

-- the number that these bytes are, the lowest first
unfoldable pub number : List ℕ → ℕ
number [] = 0
number (b ∷ bs) = b + 256 * number bs

-- the w lowest bytes of a number, the lowest first
unfoldable pub bytes : ℕ → ℕ → List ℕ
bytes zero n = []
bytes (suc w) n = n % 256 ∷ bytes w (n / 256)

-- 32 bits as a signed number, and a signed number as 32 bits
unfoldable pub signed : ℕ → ℤ
signed n = elim (ltb n (2 ^ 31)) [ true ↦ pos n | false ↦ negsuc (2 ^ 32 - 1 - n) ]

unfoldable pub unsigned : ℤ → ℕ
unsigned (pos n) = n
unsigned (negsuc n) = 2 ^ 32 - 1 - n

-- from -2147483648 to 2147483647: `mag` takes n and -1 - n to n
unfoldable pub fits : ℤ → Bool
fits v = ltb (mag v) (2 ^ 31)

-- "signed 32-bit"
abbrev pub Signed32 : ℤ → Type 0
Signed32 v = fits v ≡ true

unfoldable pub equal_z : ℤ → ℤ → Bool
equal_z (pos a) (pos b) = eqb a b
equal_z (pos a) (negsuc b) = false
equal_z (negsuc a) (pos b) = false
equal_z (negsuc a) (negsuc b) = eqb a b
