-- The abstract machine. A token carries its bindings, its callers' frames and the cells that it is under; cells have names that are never
-- used again; a call that finds an unset cell stays as it is; a move of the clock wakes at once all that is due. No places, no garbage, no
-- limits, no queue.
-- Assumes nothing: these are definitions.
use mathlib.Core.Bool.{Bool, true, false, not}
use mathlib.Core.List.{List, [], ◌∷◌, ◌++◌, map, reverse, tail}
use mathlib.Core.Option.{Option, some, none}
use Prim.Native.Nat.{ℕ, suc, ◌≤◌}
use lib.ListN.{get_or}
use lib.Dec.{eqb, leb}
use lib.IntN.{ℤ, pos}
use Rattle.job.specs.Test.{for_some, select}
use Rattle.job.specs.Number.{Signed32}
use Rattle.job.specs.Site.{BuiltinReply, gives, silent, later, last_time, due_time, is_builtin, builtin}
use Rattle.calculus.specs.Event.{Event, Label, silently, showing}
use Rattle.calculus.specs.Expression.{Param, Exp}
use Rattle.calculus.specs.Allowed.{next_handle, shown}
use Rattle.simulation.proofs.Shuffle.{Split}

-- the ten instructions; a parameter's variable is its position in the bindings
pub data Node : Type 0 where
  stop : Node
  site : (s : ℕ) → List Param → (next : ℕ) → Node
  call : (d : ℕ) → List Param → (next : ℕ) → Node
  fork : (left right : ℕ) → Node
  assign : (next : ℕ) → Node
  remove : (next : ℕ) → Node
  where' : (left right : ℕ) → Node
  choke : Node
  return : Node
  publish : Node

-- what runs: the nodes, which of them lead to return by removes alone, where each definition's body begins, how many definitions there
-- are, and what their bodies mean
pub record Program : Type 0 where
  pub node : ℕ → Node
  pub tail : ℕ → Bool
  pub entry : ℕ → ℕ
  pub count : ℕ
  pub body : ℕ → Exp

pub data Binding : Type 0 where
  value : ℤ → Binding
  cell : ℕ → Binding

-- where a call returns to
pub data Frame : Type 0 where
  frame : (node : ℕ) → List Binding → (above : List ℕ) → Frame

-- where a token stands: its node, its bindings and callers, innermost first, and the cells that it is under, innermost first
pub data Place : Type 0 where
  at : (node : ℕ) → List Binding → List Frame → (above : List ℕ) → Place

-- running, called out with a handle, or due later
pub data Token : Type 0 where
  running : Place → ℤ → Token
  called_out : (handle : ℕ) → Place → Token
  due_later : (time : ℕ) → Place → Token

abbrev pub above : Place → List ℕ
above (at n B F U) = U

abbrev pub cells_of : Token → List ℕ
cells_of (running K v) = above K
cells_of (called_out h K) = above K
cells_of (due_later d K) = above K

-- the values of the cells that are set
abbrev pub Store : Type 0
Store = ℕ → Option ℤ

abbrev pub chosen : Bool → ℤ → Option ℤ → Option ℤ
chosen true v o = some v
chosen false v o = o

abbrev pub with_set : Store → ℕ → ℤ → Store
with_set σ c v b = chosen (eqb b c) v (σ b)

-- the tokens that are not under the cell
abbrev pub is_out_of : ℕ → Token → Bool
is_out_of c t = not (for_some (eqb c) (cells_of t))

abbrev pub out_of : ℕ → List Token → List Token
out_of c S = select (is_out_of c) S

-- a token that is due at d runs with 0 from then on
abbrev pub woken_if : Bool → (d : ℕ) → Place → Token
woken_if true d K = running K (pos 0)
woken_if false d K = due_later d K

-- the token at a time
abbrev pub wake : (now : ℕ) → Token → Token
wake now (running K v) = running K v
wake now (called_out h K) = called_out h K
wake now (due_later d K) = woken_if (leb d now) d K

-- the binding that a parameter names, and the values of parameters, where they have them
abbrev pub binding_at : List Binding → ℕ → Binding
binding_at B i = get_or B i (value (pos 0))

abbrev pub named : List Binding → Param → Binding
named B (Param.value v) = value v
named B (Param.variable i) = binding_at B i

abbrev pub value_in : Store → Binding → Option ℤ
value_in σ (value v) = some v
value_in σ (cell c) = σ c

abbrev pub in_front : Option ℤ → Option (List ℤ) → Option (List ℤ)
in_front none vs = none
in_front (some v) none = none
in_front (some v) (some vs) = some (v ∷ vs)

unfoldable pub values_in : Store → List Binding → List Param → Option (List ℤ)
values_in σ B [] = some []
values_in σ B (p ∷ ps) = in_front (value_in σ (named B p)) (values_in σ B ps)

-- what a token does: it becomes these tokens, or it sets a cell
pub data Effect : Type 0 where
  makes : Label → List Token → Effect
  sets : (cell : ℕ) → ℤ → Effect

abbrev pub ends : Effect
ends = makes silently []

abbrev pub goes_on : Place → ℤ → Effect
goes_on K v = makes silently (running K v ∷ [])

-- choke sets the innermost cell
abbrev pub chokes : List ℕ → ℤ → Effect
chokes [] v = ends
chokes (c ∷ U) v = sets c v

abbrev pub returns : List Frame → ℤ → Effect
returns [] v = ends
returns (frame k B U ∷ F) v = goes_on (at k B F U) v

-- a call keeps a frame, but for a tail call
abbrev pub callers : (tail : Bool) → Frame → List Frame → List Frame
callers true f F = F
callers false f F = f ∷ F

-- with t = 0 it is due at once
abbrev pub falls_due : (now : ℕ) → Option ℕ → Place → Effect
falls_due now none K = ends
falls_due now (some d) K = makes silently (wake now (due_later d K) ∷ [])

abbrev pub replies : (now : ℕ) → BuiltinReply → Place → Effect
replies now (gives v) K = goes_on K v
replies now silent K = ends
replies now (later t) K = falls_due now (due_time now t) K

-- `now` is the time, `h` the next handle
abbrev pub calls_site : (now h s : ℕ) → List ℤ → Bool → Place → Effect
calls_site now h s vs true K = replies now (builtin s vs) K
calls_site now h s vs false K = makes (showing (Event.call h s vs)) (called_out h K ∷ [])

-- without all values the token t stays
abbrev pub asks_site : (now h s : ℕ) → Token → Option (List ℤ) → Place → Effect
asks_site now h s t none K = makes silently (t ∷ [])
asks_site now h s t (some vs) K = calls_site now h s vs (is_builtin s) K

-- what a token can do: act, or take an answer. One that is due later can do nothing
pub data Move : Token → Type 0 where
  acts : {K : Place} {v : ℤ} → Move (running K v)
  answered : {h : ℕ} {K : Place} (v : ℤ) → Signed32 v → Move (called_out h K)

-- `new` is the next cell's name
module _ (G : Program) (now : ℕ) (σ : Store) (new h : ℕ) where
  abbrev pub acts_at : Node → Place → ℤ → Effect
  acts_at Node.stop K v = ends
  acts_at (Node.site s ps k) (at n B F U) v = asks_site now h s (running (at n B F U) v) (values_in σ B ps) (at k B F U)
  acts_at (Node.call d ps k) (at n B F U) v =
      goes_on (at (G.entry d) (map (named B) (reverse ps)) (callers (G.tail k) (frame k B U) F) U) v
  acts_at (Node.fork l r) (at n B F U) v = makes silently (running (at l B F U) v ∷ running (at r B F U) v ∷ [])
  acts_at (Node.assign k) (at n B F U) v = goes_on (at k (value v ∷ B) F U) v
  acts_at (Node.remove k) (at n B F U) v = goes_on (at k (tail B) F U) v
  acts_at (Node.where' l r) (at n B F U) v =
      makes silently (running (at l (cell new ∷ B) F U) v ∷ running (at r B F (new ∷ U)) v ∷ [])
  acts_at Node.choke (at n B F U) v = chokes U v
  acts_at Node.return (at n B F U) v = returns F v
  acts_at Node.publish K v = makes (showing (Event.publish v)) []

  abbrev pub act : Place → ℤ → Effect
  act (at n B F U) v = acts_at (G.node n) (at n B F U) v

  abbrev pub effect : (t : Token) → Move t → Effect
  effect (running K w) m = act K w
  effect (called_out k K) (answered v fits) = makes (showing (Event.answer k v)) (running K v ∷ [])
  effect (due_later d K) m = elim m [ ]

-- tokens, cells, the next cell's name, the next handle, the time
pub data State : Type 0 where
  state : List Token → Store → (new handle clock : ℕ) → State

abbrev pub handle_of : State → ℕ
handle_of (state S σ new h now) = h

abbrev pub clock_of : State → ℕ
clock_of (state S σ new h now) = now

-- the state after an effect of a token between L and R, and what the effect shows
abbrev pub after : (L R : List Token) → (now : ℕ) → Store → (new h : ℕ) → Effect → State
after L R now σ new h (makes a N) = state (L ++ (N ++ R)) σ (suc new) (next_handle a h) now
after L R now σ new h (sets c v) = state (out_of c (L ++ R)) (with_set σ c v) (suc new) h now

abbrev pub label_of : Effect → Label
label_of (makes a N) = a
label_of (sets c v) = silently

module _ (G : Program) where
  pub data Step : State → Label → State → Type 0 where
    step : {t : Token} {S L R : List Token} {now : ℕ} {σ : Store} {new h : ℕ} (m : Move t) → Split t S L R
        → Step (state S σ new h now) (label_of (effect G now σ new h t m)) (after L R now σ new h (effect G now σ new h t m))
    -- the clock is moved to t, and not back
    ticks : {S : List Token} {now t : ℕ} {σ : Store} {new h : ℕ} → now ≤ t → t ≤ last_time
        → Step (state S σ new h now) (showing (Event.move t)) (state (map (wake t) S) σ new h t)

  pub data Run : State → List Event → State → Type 0 where
    rests : {s : State} → Run s [] s
    then : {s t u : State} {a : Label} {es : List Event} → Step s a t → Run t es u → Run s (shown a es) u

-- a token alone at a node
abbrev pub start_at : ℕ → State
start_at n = state (running (at n [] [] []) (pos 0) ∷ []) (λ c. none) 0 0 0
