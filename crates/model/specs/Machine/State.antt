-- The tests on a token's state. Assumes nothing: these are definitions.
use Rattle.std.specs.Prelude.{Bool, true, false, List, [], ◌∷◌, ℕ, eqb, leb}
use Rattle.model.specs.declared.token.State.{State}
use Rattle.model.specs.declared.token.State.TheVariants as states

unfoldable pub is_blank_state : State → Bool
is_blank_state states.Blank = true
is_blank_state states.Ready = false
is_blank_state (states.Waiting c) = false
is_blank_state (states.Called h) = false
is_blank_state (states.Due d) = false
is_blank_state states.Frame = false

-- document 01: ready. The queue names each such token
unfoldable pub is_ready : State → Bool
is_ready states.Blank = false
is_ready states.Ready = true
is_ready (states.Waiting c) = false
is_ready (states.Called h) = false
is_ready (states.Due d) = false
is_ready states.Frame = false

-- document 01: waiting. The wait order names each such token
unfoldable pub is_waiting : State → Bool
is_waiting states.Blank = false
is_waiting states.Ready = false
is_waiting (states.Waiting c) = true
is_waiting (states.Called h) = false
is_waiting (states.Due d) = false
is_waiting states.Frame = false

-- document 01: frame. What a token becomes at a definition call
unfoldable pub is_frame : State → Bool
is_frame states.Blank = false
is_frame states.Ready = false
is_frame (states.Waiting c) = false
is_frame (states.Called h) = false
is_frame (states.Due d) = false
is_frame states.Frame = true

-- "ready, waiting or called-out"; document 02, request 1: "A token due later is active"
unfoldable pub is_live : State → Bool
is_live states.Blank = false
is_live states.Ready = true
is_live (states.Waiting c) = true
is_live (states.Called h) = true
is_live (states.Due d) = true
is_live states.Frame = false

-- does a token wait at the cell c
unfoldable pub waits_at : ℕ → State → Bool
waits_at c states.Blank = false
waits_at c states.Ready = false
waits_at c (states.Waiting b) = eqb c b
waits_at c (states.Called h) = false
waits_at c (states.Due d) = false
waits_at c states.Frame = false

-- document 01: open handle. The handle of a token that is called out
unfoldable pub handle_of : State → List ℕ
handle_of states.Blank = []
handle_of states.Ready = []
handle_of (states.Waiting c) = []
handle_of (states.Called h) = h ∷ []
handle_of (states.Due d) = []
handle_of states.Frame = []

-- document 02, request 1: due later. The order of call names each such token
unfoldable pub is_due : State → Bool
is_due states.Blank = false
is_due states.Ready = false
is_due (states.Waiting c) = false
is_due (states.Called h) = false
is_due (states.Due d) = true
is_due states.Frame = false

-- the due time of a token that is due later. (No other is asked.)
unfoldable pub due_time_of : State → ℕ
due_time_of states.Blank = 0
due_time_of states.Ready = 0
due_time_of (states.Waiting c) = 0
due_time_of (states.Called h) = 0
due_time_of (states.Due d) = d
due_time_of states.Frame = 0

-- is a token's due time at or before this time
unfoldable pub is_due_by : (time : ℕ) → State → Bool
is_due_by time states.Blank = false
is_due_by time states.Ready = false
is_due_by time (states.Waiting c) = false
is_due_by time (states.Called h) = false
is_due_by time (states.Due d) = leb d time
is_due_by time states.Frame = false
