-- Document 01's numbers and the enum's cases are one to one: the definitions refuse by number, the code hands back a case, and neither
-- loses anything. Assumes nothing.
use mathlib.Core.Path.{◌≡◌, refl, subst}
use Prim.Native.Nat.{ℕ, zero, suc, ◌+◌, ◌-◌, ◌≤◌}
use native.Mathlib.Omega.{arith}
use Rattle.model.specs.Machine.Reply.{number_of, refusal_of}
use Rattle.model.specs.declared.reply.Refusal.{Refusal}
use Rattle.model.specs.declared.reply.Refusal.TheVariants as refusals

pub case-of-number : (r : Refusal) → refusal_of (number_of r) ≡ r
unfolding number_of
case-of-number refusals.NoToken = refl
case-of-number refusals.TokenLimit = refl
case-of-number refusals.CellLimit = refl
case-of-number refusals.NotOpen = refl
case-of-number refusals.CallLimit = refl
case-of-number refusals.Rule = refl
case-of-number refusals.WrongTime = refl

-- counted from 9
from-nine : (k : ℕ) → k ≤ 6 → number_of (refusal_of (9 + k)) ≡ 9 + k
unfolding number_of
from-nine zero l = refl
from-nine (suc zero) l = refl
from-nine (suc (suc zero)) l = refl
from-nine (suc (suc (suc zero))) l = refl
from-nine (suc (suc (suc (suc zero)))) l = refl
from-nine (suc (suc (suc (suc (suc zero))))) l = refl
from-nine (suc (suc (suc (suc (suc (suc zero)))))) l = refl
from-nine (suc (suc (suc (suc (suc (suc (suc k))))))) l = absurd (omega arith)

pub number-of-case : (n : ℕ) → 9 ≤ n → n ≤ 15 → number_of (refusal_of n) ≡ n
number-of-case n l h =
    let z : 9 + (n - 9) ≡ n = omega arith in subst (λ k. number_of (refusal_of k) ≡ k) z (from-nine (n - 9) (omega arith))
