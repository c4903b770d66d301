-- What the built-in sites say, by example, at the edges: zero and not, below zero, and the two ends of signed 32 bits. Assumes nothing.
use mathlib.Core.Path.{◌≡◌, refl}
use mathlib.Core.List.{List, [], ◌∷◌}
use Prim.Native.Nat.{ℕ}
use lib.IntN.{ℤ, pos, negsuc}
use Rattle.job.specs.Test.{All, none, more}
use Rattle.job.specs.Site.{BuiltinReply, gives, silent, later, builtin}
use Rattle.calculus.proofs.Computing.{rewritten}

pub record Row : Type 0 where
  pub site : ℕ
  pub values : List ℤ
  pub says : BuiltinReply

abbrev pub row : ℕ → List ℤ → BuiltinReply → Row
row s vs r = record { site = s; values = vs; says = r }

-- `negsuc n` is -1 - n
abbrev pub least : ℤ
least = negsuc 2147483647

abbrev pub greatest : ℤ
greatest = pos 2147483647

abbrev pub rows : List Row
rows =
    -- let
    row 0 (least ∷ []) (gives least)
    -- "ift gives 0 if the parameter is nonzero, iff gives 0 if it is zero; else silent"
    ∷ row 1 (pos 0 ∷ []) silent
    ∷ row 1 (pos 2 ∷ []) (gives (pos 0))
    ∷ row 1 (negsuc 0 ∷ []) (gives (pos 0))
    ∷ row 2 (pos 0 ∷ []) (gives (pos 0))
    ∷ row 2 (negsuc 0 ∷ []) silent
    -- signal
    ∷ row 3 [] (gives (pos 0))
    -- "add gives the sum, or is silent if it leaves signed 32 bits"
    ∷ row 4 (negsuc 4 ∷ pos 3 ∷ []) (gives (negsuc 1))
    ∷ row 4 (least ∷ greatest ∷ []) (gives (negsuc 0))
    ∷ row 4 (greatest ∷ pos 0 ∷ []) (gives greatest)
    ∷ row 4 (greatest ∷ pos 1 ∷ []) silent
    ∷ row 4 (least ∷ negsuc 0 ∷ []) silent
    -- "less and equal give 1 or 0"
    ∷ row 5 (negsuc 0 ∷ pos 0 ∷ []) (gives (pos 1))
    ∷ row 5 (pos 0 ∷ negsuc 0 ∷ []) (gives (pos 0))
    ∷ row 5 (least ∷ negsuc 0 ∷ []) (gives (pos 1))
    ∷ row 5 (pos 3 ∷ pos 3 ∷ []) (gives (pos 0))
    ∷ row 6 (pos 3 ∷ pos 3 ∷ []) (gives (pos 1))
    ∷ row 6 (pos 0 ∷ negsuc 0 ∷ []) (gives (pos 0))
    -- rwait; when that is, and whether it comes, is said by `due_time`
    ∷ row 7 (pos 5 ∷ []) (later (pos 5))
    ∷ row 7 (negsuc 0 ∷ []) (later (negsuc 0))
    ∷ []

pub builtins-say : All (λ (r : Row). builtin r.site r.values ≡ r.says) rows
unfolding rewritten
builtins-say =
    more refl
    (more refl
    (more refl
    (more refl
    (more refl
    (more refl
    (more refl
    (more refl
    (more refl
    (more refl
    (more refl
    (more refl (more refl (more refl (more refl (more refl (more refl (more refl (more refl (more refl none)))))))))))))))))))
