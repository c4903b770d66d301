-- Values stay signed 32-bit: what a call's parameters give is, if constants, bindings and cells' values are, and so is what a built-in
-- replies, since it replies a parameter, 0, 1 or a sum that it has tested; and a due time is tested too. Assumes nothing.
use mathlib.Core.Path.{◌≡◌, refl, sym, ◌∙◌, ap}
use mathlib.Core.Bool.{Bool, true, false}
use mathlib.Core.List.{List, [], ◌∷◌}
use mathlib.Core.Option.{Option, some, none}
use Prim.Native.Nat.{ℕ, zero, suc, ◌+◌, ◌≤◌}
use native.Mathlib.Omega.{arith}
use lib.Dec.{leb}
use lib.IntN.{ℤ, pos, negsuc, ◌+ℤ◌}
use Rattle.std.specs.Prelude.{Some, None}
use Rattle.job.specs.Test.{for_all, All, more}
use Rattle.job.specs.Number.{fits, Signed32}
use Rattle.job.specs.Site.{BuiltinReply, gives, silent, later, at, zero_if, truth, sum_reply, builtin, last_time, due_time}
use Rattle.job.specs.Syntax.{Param, variable, constant}
use Rattle.job.specs.Node.{param_holds}
use Rattle.model.specs.Machine.Blank.{cell_at, slot_at}
use Rattle.model.specs.Machine.Rules.{held_in_range}
use Rattle.model.specs.Machine.Step.{LookUpResult, values, unset, and_then, look, value_of}
use Rattle.model.specs.declared.token.Slot.{Slot}
use Rattle.model.specs.declared.token.Slot.TheVariants as slots
use Rattle.model.specs.Machine.Held.{Held}
use Rattle.model.specs.declared.cell.Cell.{Cell}
use Rattle.job.proofs.Test.{never, leb-le, all_head, all_tail}

pub zero-fits : Signed32 (pos 0)
unfolding fits
zero-fits = refl

pub held_fits : (w : Held) → held_in_range w ≡ true → Signed32 (value_of w)
unfolding held_in_range value_of
held_fits None e = zero-fits
held_fits (Some v) e = e

-- what is looked up
pub data LookUpFits : LookUpResult → Type 0 where
  found : {vs : List ℤ} → All Signed32 vs → LookUpFits (values vs)
  waiting : {c : ℕ} → LookUpFits (unset c)

pub found-signed : {vs : List ℤ} → LookUpFits (values vs) → All Signed32 vs
found-signed (found a) = a

then-fits : (v : ℤ) {l : LookUpResult} → Signed32 v → LookUpFits l → LookUpFits (and_then v l)
unfolding and_then
then-fits v e (found a) = found (more e a)
then-fits v e waiting = waiting

module _ (cs : List Cell) (bs : List Slot)
    (bound : (x : ℕ) (v : ℤ) → slot_at bs x ≡ slots.Value v → Signed32 v)
    (cells : (c : ℕ) → held_in_range (cell_at cs c).value ≡ true) where
  cell-fits : (c : ℕ) (w : Held) → (cell_at cs c).value ≡ w → (l : LookUpResult) → LookUpFits l
      → LookUpFits (elim w [ None ↦ unset c | Some v ↦ and_then v l ])
  unfolding held_in_range
  cell-fits c None e l f = waiting
  cell-fits c (Some v) e l f = then-fits v (ap held_in_range (sym e) ∙ cells c) f

  slot-fits : (x : ℕ) (s : Slot) → slot_at bs x ≡ s → (l : LookUpResult) → LookUpFits l
      → LookUpFits
      (elim s [
        | slots.Empty ↦ values []
        | slots.Value v ↦ and_then v l
        | slots.Cell c ↦ elim (cell_at cs c).value [ None ↦ unset c | Some v ↦ and_then v l ]
      ])
  slot-fits x slots.Empty e l f = found All.none
  slot-fits x (slots.Value v) e l f = then-fits v (bound x v e) f
  slot-fits x (slots.Cell c) e l f = cell-fits c (cell_at cs c).value refl l f

  pub look-fits : (ps : List Param) → for_all param_holds ps ≡ true → LookUpFits (look cs bs ps)
  unfolding look param_holds
  look-fits [] e = found All.none
  look-fits (constant v ∷ ps) e = then-fits v (all_head param_holds _ ps e) (look-fits ps (all_tail param_holds _ ps e))
  look-fits (variable x ∷ ps) e = slot-fits x (slot_at bs x) refl (look cs bs ps) (look-fits ps (all_tail param_holds _ ps e))

-- what a built-in replies
pub data ReplyFits : BuiltinReply → Type 0 where
  gives_fits : {v : ℤ} → Signed32 v → ReplyFits (gives v)
  nothing : ReplyFits silent
  later-fits : {t : ℤ} → ReplyFits (later t)

pub gives-signed : {v : ℤ} → ReplyFits (gives v) → Signed32 v
gives-signed (gives_fits e) = e

zero-if-fits : (b : Bool) → ReplyFits (zero_if b)
unfolding zero_if
zero-if-fits true = gives_fits zero-fits
zero-if-fits false = nothing

truth-fits : (b : Bool) → ReplyFits (gives (truth b))
unfolding truth fits
truth-fits true = gives_fits refl
truth-fits false = gives_fits refl

sum_fits : (a b : ℤ) → ReplyFits (sum_reply a b)
unfolding sum_reply
sum_fits a b = go (fits (a +ℤ b)) refl
  where
    go : (t : Bool) → fits (a +ℤ b) ≡ t → ReplyFits (elim t [ true ↦ gives (a +ℤ b) | false ↦ silent ])
    go true e = gives_fits e
    go false e = nothing

at-fits : {vs : List ℤ} → All Signed32 vs → (i : ℕ) → Signed32 (at vs i)
at-fits All.none i = zero-fits
at-fits (more e a) zero = e
at-fits (more e a) (suc i) = at-fits a i

pub builtin-fits : (s : ℕ) {vs : List ℤ} → All Signed32 vs → ReplyFits (builtin s vs)
unfolding builtin
builtin-fits zero a = gives_fits (at-fits a 0)
builtin-fits (suc zero) a = zero-if-fits _
builtin-fits (suc (suc zero)) a = zero-if-fits _
builtin-fits (suc (suc (suc zero))) a = gives_fits zero-fits
builtin-fits (suc (suc (suc (suc zero)))) a = sum_fits _ _
builtin-fits (suc (suc (suc (suc (suc zero))))) a = truth-fits _
builtin-fits (suc (suc (suc (suc (suc (suc zero)))))) a = truth-fits _
builtin-fits (suc (suc (suc (suc (suc (suc (suc zero))))))) a = later-fits
builtin-fits (suc (suc (suc (suc (suc (suc (suc (suc s)))))))) a = nothing

-- "With a sum above 2147483647 the call never falls due"
pub due-last : (now : ℕ) (t : ℤ) (due : ℕ) → due_time now t ≡ some due → due ≤ last_time
unfolding due_time
due-last now (pos t) due = go (leb (now + t) last_time) refl
  where
    go : (b : Bool) → leb (now + t) last_time ≡ b → elim b as (λ b. Option ℕ) [ true ↦ some (now + t) | false ↦ none ] ≡ some due
        → due ≤ last_time
    go true e f = let z : now + t ≡ due = cc in let y = leb-le (now + t) last_time e in omega arith
    go false e f = never cc
due-last now (negsuc t) due = λ e. never cc
