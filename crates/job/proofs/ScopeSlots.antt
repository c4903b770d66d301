-- The variables in scope are below 8, since a binder's number is the length of the scope. Assumes nothing.
use mathlib.Core.Path.{◌≡◌, refl, ap}
use mathlib.Core.List.{List}
use Prim.Native.Nat.{ℕ, zero, suc, ◌≤◌, ◌<◌}
use native.Mathlib.Omega.{arith}
use lib.ListN.{length}
use Rattle.job.specs.Test.{All, none, more}
use Rattle.job.specs.Syntax.{Join, levels, scope_left, scope_right}
use Rattle.job.specs.WellFormed.{GoodJoin}

-- variables: "at most 8 are in scope"
abbrev pub Slots : List ℕ → Type 0
Slots scope = All (λ x. x < 8) scope

pub levels-slots : (n : ℕ) → n ≤ 8 → Slots (levels n)
unfolding levels
levels-slots zero l = none
levels-slots (suc n) l = more {x = n} (omega arith) (levels-slots n (omega arith))

pub left-slots : {scope : List ℕ} {j : Join} → GoodJoin scope j → Slots scope → Slots (scope_left j scope)
unfolding scope_left
left-slots GoodJoin.par s = s
left-slots (GoodJoin.seq l) s = s
left-slots (GoodJoin.prune l) s = more l s

pub right-slots : {scope : List ℕ} {j : Join} → GoodJoin scope j → Slots scope → Slots (scope_right j scope)
unfolding scope_right
right-slots GoodJoin.par s = s
right-slots (GoodJoin.seq l) s = more l s
right-slots (GoodJoin.prune l) s = s

pub levels-length : (n : ℕ) → length (levels n) ≡ n
unfolding levels
levels-length zero = refl
levels-length (suc n) = ap suc (levels-length n)
