-- The sites: "each built-in site has a fixed parameter count". Assumes nothing: these are definitions.
use Rattle.std.specs.Prelude.{Bool, true, false, List, [], ◌∷◌, map, ℕ, ◌+◌, length, get_or, ltb, leb, eqb, ℤ, pos, negsuc, ◌+ℤ◌}
use Rattle.std.proofs.Math.Option.{Option, some, none}
use Rattle.std.specs.Int.Signed.{lt_z}
use Rattle.job.specs.Bounds.{parameter_limit}
use Rattle.job.specs.Test.{◌and◌, ◌or◌}
use Rattle.job.specs.Number.{fits, equal_z}

-- what a built-in site does with a call: it gives a value, it is silent, or it gives 0 later, at the present time plus t
pub data BuiltinReply : Type 0 where
  gives : ℤ → BuiltinReply
  silent : BuiltinReply
  later : (t : ℤ) → BuiltinReply

pub record Builtin : Type 0 where
  pub count : ℕ
  pub reply : List ℤ → BuiltinReply

-- the parameter's value at an index (a built-in has as many as it asks for: 4 of a table and 14 of a dag test its count)
abbrev pub at : List ℤ → ℕ → ℤ
at vs i = get_or vs i (pos 0)

-- "gives 0 if ..; else silent"
unfoldable pub zero_if : Bool → BuiltinReply
zero_if true = gives (pos 0)
zero_if false = silent

unfoldable pub not_zero : ℤ → Bool
not_zero v = elim (equal_z v (pos 0)) [ true ↦ false | false ↦ true ]

-- "1 or 0"
unfoldable pub truth : Bool → ℤ
truth true = pos 1
truth false = pos 0

-- "the sum, or is silent if it leaves signed 32 bits"
unfoldable pub sum_reply : ℤ → ℤ → BuiltinReply
sum_reply a b = let s = a +ℤ b in elim (fits s) [ true ↦ gives s | false ↦ silent ]

-- document 02, request 1: times are "0 to 2147483647"
abbrev pub last_time : ℕ
last_time = 2147483647

-- document 02, request 1: due time. "The call falls due at the present time plus t. With a sum above 2147483647 the call never falls due
-- ..; negative t is silent."
unfoldable pub due_time : (now : ℕ) → (t : ℤ) → Option ℕ
due_time now (pos t) = elim (leb (now + t) last_time) [ true ↦ some (now + t) | false ↦ none ]
due_time now (negsuc t) = none

-- "0 let (1), 1 ift (1), 2 iff (1), 3 signal (0), 4 add (2), 5 less (2), 6 equal (2)"; document 02: "site 7, one parameter, becomes
-- rwait(t)"
abbrev pub builtin_table : List Builtin
builtin_table =
    record { count = 1; reply = λ vs. gives (at vs 0) }
    ∷ record { count = 1; reply = λ vs. zero_if (not_zero (at vs 0)) }
    ∷ record { count = 1; reply = λ vs. zero_if (equal_z (at vs 0) (pos 0)) }
    ∷ record { count = 0; reply = λ vs. gives (pos 0) }
    ∷ record { count = 2; reply = λ vs. sum_reply (at vs 0) (at vs 1) }
    ∷ record { count = 2; reply = λ vs. gives (truth (lt_z (at vs 0) (at vs 1))) }
    ∷ record { count = 2; reply = λ vs. gives (truth (equal_z (at vs 0) (at vs 1))) }
    ∷ record { count = 1; reply = λ vs. later (at vs 0) }
    ∷ []

-- the parameter counts by site number
abbrev pub builtin_counts : List ℕ
builtin_counts = map (λ (b : Builtin). b.count) builtin_table

unfoldable pub is_builtin : ℕ → Bool
is_builtin s = ltb s (length builtin_table)

-- "16 to 1023 are outside sites"
unfoldable pub is_outside : ℕ → Bool
is_outside s = leb 16 s and leb s 1023

-- a site that a call with n parameters may name: "sites 7 to 15 are unknown" (8 to 15 since document 02, request 1), "counts are at most 4"
unfoldable pub site_takes : ℕ → ℕ → Bool
site_takes s n = (is_builtin s and eqb n (get_or builtin_counts s 0)) or (is_outside s and leb n parameter_limit)

-- what a built-in says to its parameters' values. (No other site is asked: `is_builtin` is tested first.)
unfoldable pub builtin : ℕ → List ℤ → BuiltinReply
builtin s vs = (get_or builtin_table s (record { count = 0; reply = λ vs. silent })).reply vs
