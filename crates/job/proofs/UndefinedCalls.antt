-- The reader's test of calls finds the first that is undefined, or that none is: each entry's test is whether it is. Assumes nothing.
use mathlib.Core.Path.{◌≡◌, ap}
use mathlib.Core.Logic.{◌⊎◌, inl, inr}
use mathlib.Core.Bool.{true, false, not}
use mathlib.Core.List.{List, [], ◌∷◌}
use Prim.Native.Nat.{ℕ, suc, ◌+◌, ◌<◌}
use native.Mathlib.Decide.{dec_lt}
use native.Mathlib.Omega.{arith}
use lib.ListN.{length}
use lib.Dec.{eqb}
use Rattle.job.specs.Entry.{Entry, low}
use Rattle.job.specs.Read.{need, call_holds, definitions_hold}
use Rattle.job.specs.Declined.{Undefined, missing, differs, FirstAt, here, later}
use Rattle.job.proofs.Test.{eqb-eq, holds-or-fails, clash}
use Rattle.job.proofs.Read.{Says, reads, says-need, says_map}
use Rattle.job.proofs.WellFormed.{holds-names, call-holds, other-holds}
use Rattle.job.proofs.Filling.{first-within}

module _ (formals : List ℕ) (x : Entry) where
  holds-defined : call_holds formals x ≡ true → Undefined formals x → ⊥
  holds-defined t (missing k l) = let z = (holds-names formals x k t).defined in omega arith
  holds-defined t (differs k l f) = f (holds-names formals x k t).count

  fails-undefined : call_holds formals x ≡ false → Undefined formals x
  fails-undefined f = go (holds-or-fails (eqb x.kind 2)) (dec_lt (low x.operand) (length formals))
    where
      go : (eqb x.kind 2 ≡ true) ⊎ (eqb x.kind 2 ≡ false) → Dec (low x.operand < length formals) → Undefined formals x
      go (inr t) d = clash (other-holds formals x (ap not t)) f
      go (inl t) (no g) = missing (eqb-eq x.kind 2 t) (omega arith)
      go (inl t) (yes l) =
          differs (eqb-eq x.kind 2 t) l (λ c. clash (call-holds formals x (record { defined = l; count = c })) f)

-- Q of the first call that is undefined, if there is one
pub calls-say : (formals : List ℕ) (Q : (number entry : ℕ) → Type 0) (e : ℕ) (es : List Entry)
    → ((i at : ℕ) → e + i ≡ at → FirstAt (Undefined formals) es i → Q 8 at)
    → Says (λ _. (i : ℕ) → FirstAt (Undefined formals) es i → ⊥) Q (definitions_hold formals e es)
unfolding definitions_hold need
calls-say formals Q e [] h = reads (λ i d. let l = first-within d in omega arith)
calls-say formals Q e (x ∷ es) h =
    says-need (call_holds formals x) _ _ _ (λ f. h 0 _ (omega arith) (here (fails-undefined formals x f))) λ t.
    let fine = holds-defined formals x t in
    says_map (λ _ rest. nowhere fine rest) (λ _ _ q. q)
    (calls-say formals Q (suc e) es (λ i at c d. h (suc i) at (omega arith) (later fine d)))
  where
    nowhere : (Undefined formals x → ⊥) → ((i : ℕ) → FirstAt (Undefined formals) es i → ⊥) → (i : ℕ)
        → FirstAt (Undefined formals) (x ∷ es) i → ⊥
    nowhere f rest i (here u) = f u
    nowhere f rest i (later {i = j} _ d) = rest j d
