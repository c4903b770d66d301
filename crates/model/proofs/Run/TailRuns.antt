-- Runs with calls in tail position, by computation: which calls keep a frame, and what becomes of the token where none is kept. Each is
-- true because the checker works the run out, with small tables. Assumes nothing.
use mathlib.Core.Path.{◌≡◌, refl}
use mathlib.Core.Bool.{true}
use mathlib.Core.List.{List, [], ◌∷◌, map}
use Prim.Native.Nat.{ℕ}
use lib.ListN.{replicate}
use lib.IntN.{pos}
use Rattle.std.specs.Prelude.{Some, None}
use Rattle.job.specs.Syntax.{Program, stop}
use Rattle.job.specs.Construct.{construct}
use Rattle.job.specs.Notation.{◌>[◌]>◌, ◌<[◌]<◌, v, #, let', calling}
use Rattle.model.specs.Machine.Limits.{limits}
use Rattle.model.specs.Machine.Blank.{empty, token_at, cell_at}
use Rattle.model.specs.Machine.InUse.{tokens_used, marked}
use Rattle.model.specs.Run.Call.{runner, outcome_of, machine_after, none_refused, started}
use Rattle.model.specs.declared.token.Slot.TheVariants as slots
use Rattle.model.specs.Machine.Held.{Held}
use Rattle.model.specs.declared.token.State.TheVariants as states
use Rattle.model.specs.declared.token.Token.{Token}
use Rattle.model.specs.declared.record.Machine.{Machine}
use Rattle.calculus.proofs.Programs.{E, defining}
use Rattle.model.proofs.Run.Computing.{computing}
use Rattle.model.proofs.Run.Worked.{house}

-- the record after so many steps in house order, with 4 tokens and 2 cells; the token at a place of it, and how many are in use
abbrev after : Program → (steps : ℕ) → Machine
after p n =
    machine_after runner (limits 4 2 0) (construct p) (started runner (limits 4 2 0) (construct p)) (house n)

abbrev token_of : Program → (steps place : ℕ) → Token
token_of p n place = token_at (after p n).tokens place

abbrev in_use : Program → (steps : ℕ) → ℕ
in_use p n = marked (tokens_used (after p n))

-- "A goal's own calls still keep one": E() = E(), goal E(). "The token itself becomes the callee": the frame stays the only one, and the
-- place last given the callee's
abbrev pub calls_itself : Program
calls_itself = calling (E [])

pub goals-call-keeps-a-frame : ((token_of calls_itself 1 0).state ≡ states.Frame) × ((token_of calls_itself 1 1).caller ≡ Some 0)
unfolding computing outcome_of machine_after
goals-call-keeps-a-frame = (refl, refl)

pub tail-call-keeps-no-frame : (in_use calls_itself 5 ≡ 2) × ((after calls_itself 5).lasttoken ≡ 1)
unfolding computing outcome_of machine_after
tail-call-keeps-no-frame = (refl, refl)

-- "10 is then not given for such a call": with two tokens in all
pub tail-call-takes-no-place :
    none_refused runner (limits 2 1 0) (construct calls_itself) (started runner (limits 2 1 0) (construct calls_itself)) (house 5) ≡ true
unfolding computing outcome_of none_refused
tail-call-takes-no-place = refl

-- "nothing but remove nodes between it and its body's return": E() = let(1) >x> E(), where x is removed behind the call. The callee has
-- "no value and only its formals bound"
abbrev pub binds_and_calls : Program
binds_and_calls = calling (let' (# 1) >[ 0 ]> E [])

pub remove-is-passed :
    ((token_of binds_and_calls 3 1).value ≡ Some (pos 1))
    × (token_of binds_and_calls 4 1 ≡ token_of binds_and_calls 1 1)
    × (in_use binds_and_calls 4 ≡ 2)
unfolding computing outcome_of machine_after
remove-is-passed = (refl, refl, refl)

-- in front of assign and of choke a frame is kept: E() = E() >x> stop; E() = stop <x< E()
pub assign-keeps-a-frame : (token_of (calling (E [] >[ 0 ]> stop)) 2 1).state ≡ states.Frame
unfolding computing outcome_of machine_after
assign-keeps-a-frame = refl

pub choke-keeps-a-frame : (token_of (calling (stop <[ 0 ]< E [])) 4 2).state ≡ states.Frame
unfolding computing outcome_of machine_after
choke-keeps-a-frame = refl

-- "the callee inherits its caller", and stays in the token's cell. E() = E(), goal stop <x< E(): the frame is at place 1, in cell 0
abbrev pub calls_under_cell : Program
calls_under_cell = defining 0 (E []) (stop <[ 0 ]< E [])

pub callee-inherits : ((token_of calls_under_cell 5 2).caller ≡ Some 1) × ((token_of calls_under_cell 5 2).cell ≡ Some 0)
unfolding computing outcome_of machine_after
callee-inherits = (refl, refl)

-- the formals are bound all at once: E(x, y) = E(y, x), goal E(1, 2)
pub formals-change-places :
    (token_of (defining 2 (E (v 1 ∷ v 0 ∷ [])) (E (# 1 ∷ # 2 ∷ []))) 2 1).binds
    ≡ slots.Value (pos 2) ∷ slots.Value (pos 1) ∷ replicate 6 empty
unfolding computing outcome_of machine_after
formals-change-places = refl

-- "A variable's binding is passed on as it is". E(x) = (let(y) >z> E(y)) <y< let(7), goal E(1): before step 15 x is bound to cell 0 and y
-- to cell 1, both set. The callee has x alone, bound to cell 1; so cell 0 is out of use, and blank
abbrev pub passes_its_cell : Program
passes_its_cell = defining 1 ((let' (v 1) >[ 2 ]> E (v 1 ∷ [])) <[ 1 ]< let' (# 7)) (E (# 1 ∷ []))

pub cell-passed-on : (token_of passes_its_cell 15 1).binds ≡ slots.Cell 1 ∷ replicate 7 empty
unfolding computing outcome_of machine_after
cell-passed-on = refl

abbrev cell_values : (steps : ℕ) → List Held
cell_values n = map (λ c. (cell_at (after passes_its_cell n).cells c).value) (0 ∷ 1 ∷ [])

pub cell-goes-out-of-use :
    (cell_values 14 ≡ Some (pos 7) ∷ Some (pos 7) ∷ []) × (cell_values 15 ≡ None ∷ Some (pos 7) ∷ [])
unfolding computing outcome_of machine_after
cell-goes-out-of-use = (refl, refl)
