-- The concrete machine's records as the abstract machine has them: bindings by their position in the scope, callers and parents as lists,
-- cells by name. What is seen stays seen while the frames and cells that it reaches are kept, link by link. Assumes nothing.
use mathlib.Core.Path.{◌≡◌, refl, sym, ◌∙◌, ap, subst}
use mathlib.Core.Bool.{Bool, true, false}
use mathlib.Core.List.{List, [], ◌∷◌, ◌++◌}
use mathlib.Core.Option.{Option, some, none}
use Prim.Native.Nat.{ℕ, ◌<◌}
use native.Mathlib.Omega.{arith}
use lib.ListN.{length}
use lib.IntN.{ℤ}
use Rattle.std.specs.Prelude.{Some, None}
use Rattle.job.specs.Test.{occurrences}
use Rattle.model.specs.Machine.Blank.{token_at, cell_at, slot_at}
use Rattle.model.specs.declared.token.Slot.{Slot}
use Rattle.model.specs.declared.token.Slot.TheVariants as slots
use Rattle.model.specs.Machine.Held.{Held, Place}
use Rattle.model.specs.declared.token.State.{State}
use Rattle.model.specs.declared.token.State.TheVariants as states
use Rattle.model.specs.declared.token.Token.{Token}
use Rattle.model.specs.declared.cell.Cell.{Cell}
use Rattle.job.proofs.Test.{never, eqb_same}
use Rattle.model.proofs.Machine.Reach.{Names}
use Rattle.model.proofs.Machine.Inside.{Fits}
use Rattle.simulation.proofs.AbstractMachine as Abstract
use Rattle.simulation.proofs.AbstractMachine.{Binding, Frame, frame, at, running, Store}
use Rattle.simulation.proofs.Store.{◌is-in◌}
use Rattle.lockstep.proofs.Labels.{Labels, Fresh}

abbrev pub held : Held → Option ℤ
held None = none
held (Some v) = some v

-- tokens and cells of the machine; the name of a cell's place and the place of a name; the values of the named cells and the next name
pub record World : Type 0 where
  pub tokens : List Token
  pub cells : List Cell
  pub name : ℕ → ℕ
  pub place : ℕ → ℕ
  pub store : Store
  pub new : ℕ

-- the cells that the innermost caller is under, and whether there is one
abbrev pub cells_of_caller : List Frame → List ℕ
cells_of_caller [] = []
cells_of_caller (frame k B U ∷ F) = U

abbrev pub has_caller : List Frame → Bool
has_caller [] = false
has_caller (f ∷ F) = true

-- a token at node n is under as many cells of its own body as the node says, then under those of its caller
pub record Nested (M : Labels) (n : ℕ) (U : List ℕ) (F : List Frame) : Type 0 where
  pub own : List ℕ
  pub size : length own ≡ M.nest n
  pub parts : U ≡ own ++ cells_of_caller F
  pub body : M.body n ≡ has_caller F

-- the value that a token holds; a token that needs none may hold none
pub data HeldSeen (needed : Bool) : Held → ℤ → Type 0 where
  absent : {v : ℤ} → needed ≡ false → HeldSeen needed None v
  present : {v : ℤ} → HeldSeen needed (Some v) v

-- a token that is ready, waiting, called out or due later, at node n and place K
pub data StateSeen (M : Labels) (n : ℕ) (K : Abstract.Place) : State → Held → Abstract.Token → Type 0 where
  ready : {w : Held} {v : ℤ} → HeldSeen (M.value n) w v → StateSeen M n K states.Ready w (running K v)
  waiting : {c : ℕ} {w : Held} {v : ℤ} → M.value n ≡ false → HeldSeen false w v → StateSeen M n K (states.Waiting c) w (running K v)
  called : {h : ℕ} {w : Held} → StateSeen M n K (states.Called h) w (Abstract.called_out h K)
  due : {time : ℕ} {w : Held} → StateSeen M n K (states.Due time) w (Abstract.due_later time K)

abbrev pub Unset : Store → List ℕ → Type 0
Unset σ U = (c : ℕ) → c is-in U → σ c ≡ none

module _ (W : World) where
  -- the cell at place c has the name n
  pub record CellSeen (c n : ℕ) : Type 0 where
    pub inside : c < length W.cells
    pub old : n < W.new
    pub name : W.name c ≡ n
    pub place : W.place n ≡ c
    pub value : W.store n ≡ held (cell_at W.cells c).value

  -- the cells from a place upward
  pub data CellsSeen : Place → List ℕ → Type 0 where
    root : CellsSeen None []
    below : {c n : ℕ} {U : List ℕ} → CellSeen c n → CellsSeen (cell_at W.cells c).parent U → CellsSeen (Some c) (n ∷ U)

  pub data BindingSeen : Slot → Binding → Type 0 where
    valued : {v : ℤ} → BindingSeen (slots.Value v) (Binding.value v)
    celled : {c n : ℕ} {U : List ℕ} → CellsSeen (Some c) (n ∷ U) → BindingSeen (slots.Cell c) (Binding.cell n)

  -- the slots of the variables in scope, in the scope's order
  pub data BindingsSeen (bs : List Slot) : List ℕ → List Binding → Type 0 where
    nothing : BindingsSeen bs [] []
    binds : {x : ℕ} {scope : List ℕ} {b : Binding} {B : List Binding}
        → BindingSeen (slot_at bs x) b → BindingsSeen bs scope B → BindingsSeen bs (x ∷ scope) (b ∷ B)

  -- and all others are empty
  pub record SlotsSeen (bs : List Slot) (scope : List ℕ) (B : List Binding) : Type 0 where
    pub size : length bs ≡ 8
    pub views : BindingsSeen bs scope B
    pub rest : (x : ℕ) → Fresh x scope → slot_at bs x ≡ slots.Empty

  module _ (M : Labels) where
    -- the frames from a caller on
    pub data FramesSeen : Place → List Frame → Type 0 where
      outermost : FramesSeen None []
      called_by : {q : ℕ} {t : Token} {n : ℕ} {B : List Binding} {F : List Frame} {U : List ℕ}
          → q < length W.tokens → token_at W.tokens q ≡ t → t.state ≡ states.Frame
          → t.node ≡ n → SlotsSeen t.binds (M.scope n) B → FramesSeen t.caller F → CellsSeen t.cell U → Nested M n U F
          → FramesSeen (Some q) (frame n B U ∷ F)

    -- where a token stands
    pub record PlaceSeen (t : Token) (n : ℕ) (B : List Binding) (F : List Frame) (U : List ℕ) : Type 0 where
      pub node : t.node ≡ n
      pub binds : SlotsSeen t.binds (M.scope n) B
      pub caller : FramesSeen t.caller F
      pub cell : CellsSeen t.cell U
      pub nested : Nested M n U F

    pub data TokenSeen (t : Token) : Abstract.Token → Type 0 where
      sees : {n : ℕ} {B : List Binding} {F : List Frame} {U : List ℕ} {x : Abstract.Token}
          → PlaceSeen t n B F U → Unset W.store U → StateSeen M n (at n B F U) t.state t.value x → TokenSeen t x

    -- places, and the tokens that stand there
    pub data TokensSeen : List ℕ → List Abstract.Token → Type 0 where
      nobody : TokensSeen [] []
      also : {p : ℕ} {x : Abstract.Token} {A : List ℕ} {S : List Abstract.Token}
          → TokenSeen (token_at W.tokens p) x → TokensSeen A S → TokensSeen (p ∷ A) (x ∷ S)

-- the frame at a caller's place
pub data FrameSeen (W : World) (M : Labels) (q : ℕ) : List Frame → Type 0 where
  frame_at : {n : ℕ} {B : List Binding} {F : List Frame} {U : List ℕ}
      → q < length W.tokens → (token_at W.tokens q).state ≡ states.Frame → PlaceSeen W M (token_at W.tokens q) n B F U
      → FrameSeen W M q (frame n B U ∷ F)

pub frame-seen : {W : World} {M : Labels} {o : Place} {F : List Frame} (q : ℕ) → o ≡ Some q → FramesSeen W M o F → FrameSeen W M q F
frame-seen q e outermost = never cc
frame-seen {W} {M} q e (called_by {q = r} {t = t} {n = n} {B = B} {F = F} {U = U} l i s k b f u o) =
    subst (λ x. FrameSeen W M x (frame n B U ∷ F)) (let z : r ≡ q = cc in z)
    (frame_at l (ap (λ (t : Token). t.state) i ∙ s)
    (subst (λ t. PlaceSeen W M t n B F U) (sym i) (record { node = k; binds = b; caller = f; cell = u; nested = o })))

-- What may change while views stay: frames of Q, and cells of R with their parents, are kept
pub record Kept (Q R : ℕ → Type 0) (O W : World) : Type 0 where
  pub size : length W.tokens ≡ length O.tokens
  pub frames : (q : ℕ) → Q q → (token_at O.tokens q).state ≡ states.Frame → token_at W.tokens q ≡ token_at O.tokens q
  pub cells : (c n : ℕ) → R c → CellSeen O c n → CellSeen W c n
  pub parents : (c : ℕ) → R c → (cell_at W.cells c).parent ≡ (cell_at O.cells c).parent

-- what tokens of Q and cells of R name is of Q and of R
pub record Closed (M : Labels) (Q R : ℕ → Type 0) (O : World) : Type 0 where
  pub token : (p : ℕ) {n : ℕ} {B : List Binding} {F : List Frame} {U : List ℕ}
      → Q p → PlaceSeen O M (token_at O.tokens p) n B F U → Fits Q R (token_at O.tokens p)
  pub parent : (c : ℕ) → R c → Names R (cell_at O.cells c).parent

module _ {M : Labels} {Q R : ℕ → Type 0} {O W : World} (K : Kept Q R O W) (Z : Closed M Q R O) where
  pub cells-keep : {q : Place} {U : List ℕ} → Names R q → CellsSeen O q U → CellsSeen W q U
  cells-keep h root = root
  cells-keep h (below {c = c} {n = n} {U = U} s v) =
      below (K.cells c n (h c refl) s)
      (subst (λ q. CellsSeen W q U) (sym (K.parents c (h c refl))) (cells-keep (Z.parent c (h c refl)) v))

  binding-keep : {s : Slot} {b : Binding} → ((c : ℕ) → s ≡ slots.Cell c → R c) → BindingSeen O s b → BindingSeen W s b
  binding-keep h valued = valued
  binding-keep h (celled {c = c} u) = celled (cells-keep (λ b e. h b (ap slots.Cell (let z : c ≡ b = cc in z))) u)

  bindings-keep : {bs : List Slot} {scope : List ℕ} {B : List Binding}
      → ((x c : ℕ) → slot_at bs x ≡ slots.Cell c → R c) → BindingsSeen O bs scope B → BindingsSeen W bs scope B
  bindings-keep h nothing = nothing
  bindings-keep h (binds {x = x} b r) = binds (binding-keep (h x) b) (bindings-keep h r)

  slots-keep : {bs : List Slot} {scope : List ℕ} {B : List Binding}
      → ((x c : ℕ) → slot_at bs x ≡ slots.Cell c → R c) → SlotsSeen O bs scope B → SlotsSeen W bs scope B
  slots-keep h s = record { size = s.size; views = bindings-keep h s.views; rest = s.rest }

  frames-keep : {o : Place} {F : List Frame} → Names Q o → FramesSeen O M o F → FramesSeen W M o F
  frames-keep h outermost = outermost
  frames-keep h (called_by {q = q} {t = t} {n = n} {B = B} {F = F} {U = U} l i s k b f u o) =
      let view : PlaceSeen O M t n B F U = record { node = k; binds = b; caller = f; cell = u; nested = o } in
      let fits : Fits Q R t = subst (Fits Q R) i (Z.token q (h q refl) (subst (λ t. PlaceSeen O M t n B F U) (sym i) view)) in
      called_by {q = q} (let z : length W.tokens ≡ length O.tokens = K.size in omega arith)
      (K.frames q (h q refl) (ap (λ (t : Token). t.state) i ∙ s) ∙ i) s k
      (slots-keep fits.cells.binds b) (frames-keep fits.caller f) (cells-keep fits.cells.cell u) o

  -- a token whose references are kept
  pub place-keep : {t : Token} {n : ℕ} {B : List Binding} {F : List Frame} {U : List ℕ}
      → Fits Q R t → PlaceSeen O M t n B F U → PlaceSeen W M t n B F U
  place-keep h v =
      record {
        node = v.node;
        binds = slots-keep h.cells.binds v.binds;
        caller = frames-keep h.caller v.caller;
        cell = cells-keep h.cells.cell v.cell;
        nested = v.nested;
      }

  -- a token whose references are kept, under cells that stay unset
  pub token-keep : {t : Token} {x : Abstract.Token}
      → Fits Q R t → ((c : ℕ) → O.store c ≡ none → W.store c ≡ none) → TokenSeen O M t x → TokenSeen W M t x
  token-keep h f (sees v u s) = sees (place-keep h v) (λ c m. f c (u c m)) s

-- lists of tokens
occurrences-first : (p : ℕ) (A : List ℕ) → 0 < occurrences p (p ∷ A)
unfolding occurrences
occurrences-first p A = rw (eqb_same p) (omega arith)

occurrences-there : (r p : ℕ) (A : List ℕ) → 0 < occurrences r A → 0 < occurrences r (p ∷ A)
unfolding occurrences
occurrences-there r p A l = omega arith

module _ {M : Labels} {O W : World} where
  pub tokens-map : {A : List ℕ} {S : List Abstract.Token}
      → ((p : ℕ) (x : Abstract.Token) → 0 < occurrences p A → TokenSeen O M (token_at O.tokens p) x
      → TokenSeen W M (token_at W.tokens p) x)
      → TokensSeen O M A S → TokensSeen W M A S
  tokens-map h nobody = nobody
  tokens-map h (also {p = p} {x = x} {A = A} v r) =
      also (h p x (occurrences-first p A) v) (tokens-map (λ q y l. h q y (occurrences-there q p A l)) r)

pub tokens_append : {M : Labels} {W : World} {A B : List ℕ} {S T : List Abstract.Token}
    → TokensSeen W M A S → TokensSeen W M B T → TokensSeen W M (A ++ B) (S ++ T)
tokens_append nobody b = b
tokens_append (also v a) b = also v (tokens_append a b)
