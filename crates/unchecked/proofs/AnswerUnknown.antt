-- A handle that no call was given is not open: where the index rules hold, open handles are below the call count. Assumes nothing.
use mathlib.Core.Path.{◌≡◌, refl}
use mathlib.Core.Bool.{true, false}
use mathlib.Core.List.{List, [], ◌∷◌}
use Prim.Native.Nat.{ℕ, suc, ◌≤◌}
use native.Mathlib.Omega.{arith}
use lib.Dec.{eqb}
use Rattle.std.specs.Prelude.{None}
use Rattle.job.specs.Node.{Dag}
use Rattle.job.specs.Test.{◌or◌, for_all, for_some}
use Rattle.model.specs.Machine.Answer.{holder}
use Rattle.model.specs.Machine.Limits.{paper}
use Rattle.model.specs.Machine.Rules.{state_in_range, token_in_range, rules_hold}
use Rattle.model.specs.Machine.State.{handle_of}
use Rattle.model.specs.declared.record.Machine.{Machine}
use Rattle.model.specs.declared.token.State.{State}
use Rattle.model.specs.declared.token.State.TheVariants as states
use Rattle.model.specs.declared.token.Token.{Token}
use Rattle.job.proofs.Test.{and_right, all_head, all_tail, ltb-lt, ne_eqb}
use Rattle.model.proofs.Machine.Rules.{each-rule-holds}

not-open : (h calls : ℕ) (s : State) → state_in_range 32 calls s ≡ true → calls ≤ h → for_some (eqb h) (handle_of s) ≡ false
unfolding for_some handle_of state_in_range ◌or◌
not-open h calls states.Blank e l = refl
not-open h calls states.Ready e l = refl
not-open h calls (states.Waiting c) e l = refl
not-open h calls (states.Called k) e l = rw (ne_eqb h k (λ z. let y = ltb-lt k calls e in omega arith)) refl
not-open h calls (states.Due d) e l = refl
not-open h calls states.Frame e l = refl

module _ (d : Dag) (calls h : ℕ) (l : calls ≤ h) where
  state-range : (t : Token) → token_in_range paper d calls t ≡ true → state_in_range 32 calls t.state ≡ true
  unfolding token_in_range
  state-range t e = and_right _ _ (and_right _ _ (and_right _ _ (and_right _ _ (and_right _ _ (and_right _ _ e)))))

  none_open : (i : ℕ) (ts : List Token) → for_all (token_in_range paper d calls) ts ≡ true → holder h i ts ≡ None
  unfolding holder
  none_open i [] e = refl
  none_open i (t ∷ ts) e =
      rw (not-open h calls t.state (state-range t (all_head (token_in_range paper d calls) t ts e)) l, holder)
      (none_open (suc i) ts (all_tail (token_in_range paper d calls) t ts e))

pub unknown-handle : (d : Dag) (m : Machine) (h : ℕ) → rules_hold paper d m ≡ true → m.calls ≤ h → holder h 0 m.tokens ≡ None
unknown-handle d m h rules l = none_open d m.calls h l 0 m.tokens (each-rule-holds paper d m rules).tokens
