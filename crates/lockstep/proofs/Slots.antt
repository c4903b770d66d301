-- What instructions do to bindings, seen as the abstract machine's list of them: a new binder's slot is its head, a variable is found at
-- its position in the scope, a call's formals are the parameters' bindings in reverse. By recursion on the scope or the parameters. Assumes
-- nothing.
use mathlib.Core.Path.{◌≡◌, refl, sym, ◌∙◌, ap, subst}
use mathlib.Core.Bool.{Bool, true, false}
use mathlib.Core.List.Memᴰ
use mathlib.Core.List.{List, [], ◌∷◌, ◌++◌, map, reverse, reverse_aux, tail}
use mathlib.Core.Option.{Option, some, none}
use Prim.Native.Nat.{ℕ, zero, suc, ◌+◌, ◌-◌, ◌<◌, ◌≤◌}
use native.Mathlib.Decide.{ℕ_discrete, dec_lt}
use native.Mathlib.Omega.{arith}
use lib.ListN.{length, set, drop, length-set, length-append, length-drop, length-map, get_or-append}
use lib.Seq.{get_or-set_same, get_or-set_other, get_or-append-add, get_or-drop}
use lib.Dec.{eqb}
use lib.IntN.{ℤ}
use Rattle.std.specs.Prelude.{Some, None}
use Rattle.job.specs.Test.{All, more}
use Rattle.job.specs.Syntax as Job
use Rattle.job.specs.Syntax.{levels}
use Rattle.job.specs.WellFormed.{GoodParam}
use Rattle.model.specs.Machine.Blank.{empty, unbound, cell_at, slot_at}
use Rattle.model.specs.Machine.Step.{LookUpResult, values, unset, and_then, look, passed, formals_bound}
use Rattle.calculus.specs.Meaning.{position, param_meant}
use Rattle.model.specs.declared.token.Slot.{Slot}
use Rattle.model.specs.declared.token.Slot.TheVariants as slots
use Rattle.model.specs.Machine.Held.{Held}
use Rattle.job.proofs.Test.{never, eqb-eq, eqb-ne}
use Rattle.model.proofs.Machine.InUse.{unbound-empty}
use Rattle.simulation.proofs.AbstractMachine.{Binding, binding_at, named, value_in, in_front, values_in}
use Rattle.simulation.proofs.Store.{◌is-in◌}
use Rattle.calculus.specs.Expression as Calculus
use Rattle.lockstep.proofs.Labels.{Fresh}
use Rattle.lockstep.proofs.View.{held, World, below, BindingSeen, valued, celled, BindingsSeen, nothing, binds, SlotsSeen}

-- one slot written
abbrev pub with_slot : List Slot → ℕ → Slot → List Slot
with_slot bs x s = set bs x s

pub slot_same : (bs : List Slot) (x : ℕ) (s : Slot) → x < length bs → slot_at (with_slot bs x s) x ≡ s
unfolding slot_at
slot_same bs x s l = get_or-set_same bs x s empty l

pub slot-other : (bs : List Slot) (x y : ℕ) (s : Slot) → (y ≡ x → ⊥) → slot_at (with_slot bs x s) y ≡ slot_at bs y
unfolding slot_at
slot-other bs x y s n = get_or-set_other bs x y s empty n

module _ {W : World} where
  bindings-write : {bs : List Slot} {scope : List ℕ} {B : List Binding} (x : ℕ) (s : Slot)
      → Fresh x scope → BindingsSeen W bs scope B → BindingsSeen W (with_slot bs x s) scope B
  bindings-write x s f nothing = nothing
  bindings-write {bs} x s f (binds {x = y} {b = b} v r) =
      binds (subst (λ i. BindingSeen W i b) (sym (slot-other bs x y s (λ e. f (Memᴰ.head (sym e))))) v)
      (bindings-write x s (λ m. f (Memᴰ.tail m)) r)

  -- a binder's slot
  pub slots-bind : {bs : List Slot} {scope : List ℕ} {B : List Binding} {x : ℕ} {s : Slot} {b : Binding}
      → x < 8 → Fresh x scope → BindingSeen W s b → SlotsSeen W bs scope B → SlotsSeen W (with_slot bs x s) (x ∷ scope) (b ∷ B)
  slots-bind {bs} {x = x} {s = s} {b = b} l f v z =
      record {
        size = length-set bs x s ∙ z.size;
        views =
            binds (subst (λ i. BindingSeen W i b) (sym (slot_same bs x s (let y : length bs ≡ 8 = z.size in omega arith))) v)
            (bindings-write x s f z.views);
        rest = λ y g. slot-other bs x y s (λ e. g (Memᴰ.head e)) ∙ z.rest y (λ m. g (Memᴰ.tail m));
      }

  bindings-tail : {bs : List Slot} {x : ℕ} {all scope : List ℕ} {B : List Binding}
      → all ≡ x ∷ scope → BindingsSeen W bs all B → BindingsSeen W bs scope (tail B)
  bindings-tail e nothing = never cc
  bindings-tail {bs} {scope = scope} e (binds {scope = ys} {B = B} v r) = subst (λ i. BindingsSeen W bs i B) (let z : ys ≡ scope = cc in
      z) r

  -- a binder's slot made empty
  pub slots-drop : {bs : List Slot} {x : ℕ} {all scope : List ℕ} {B : List Binding}
      → x < 8 → all ≡ x ∷ scope → Fresh x scope → SlotsSeen W bs all B → SlotsSeen W (with_slot bs x slots.Empty) scope (tail B)
  slots-drop {bs} {x} {all} {scope} {B} l e f z =
      record {
        size = length-set bs x empty ∙ z.size;
        views = bindings-write x slots.Empty f (bindings-tail e z.views);
        rest = λ y g. go y g (ℕ_discrete y x);
      }
    where
      other : (y : ℕ) → (y ≡ x → ⊥) → Fresh y scope → Fresh y (x ∷ scope)
      other y n g (Memᴰ.head p) = n p
      other y n g (Memᴰ.tail m) = g m

      go : (y : ℕ) → Fresh y scope → Dec (y ≡ x) → slot_at (with_slot bs x slots.Empty) y ≡ slots.Empty
      go y g (yes p) =
          ap (slot_at (with_slot bs x slots.Empty)) p ∙ slot_same bs x slots.Empty (let i : length bs ≡ 8 = z.size in omega arith)
      go y g (no n) = slot-other bs x y slots.Empty n ∙ z.rest y (subst (Fresh y) (sym e) (other y n g))

  -- a variable is at its position in the scope
  pub variable-seen : {bs : List Slot} {scope : List ℕ} {B : List Binding} (x : ℕ)
      → x is-in scope → BindingsSeen W bs scope B → BindingSeen W (slot_at bs x) (binding_at B (position x scope))
  unfolding position
  variable-seen x m nothing = absurd (Memᴰ.not-nil m)
  variable-seen {bs} x m (binds {x = y} {scope = scope} {b = b} {B = B} v r) = go (eqb x y) refl m (λ i. variable-seen x i r)
    where
      go : (t : Bool) → eqb x y ≡ t → x is-in (y ∷ scope)
          → (x is-in scope → BindingSeen W (slot_at bs x) (binding_at B (position x scope)))
          → BindingSeen W (slot_at bs x) (binding_at (b ∷ B) (elim t as (λ t. ℕ) [ true ↦ 0 | false ↦ suc (position x scope) ]))
      go true e i f = subst (λ z. BindingSeen W (slot_at bs z) b) (sym (eqb-eq x y e)) v
      go false e (Memᴰ.head p) f = absurd (eqb-ne x y e p)
      go false e (Memᴰ.tail i) f = f i

-- the values of parameters
abbrev pub found : LookUpResult → Option (List ℤ)
found (values vs) = some vs
found (unset c) = none

found-more : (v : ℤ) (l : LookUpResult) → in_front (some v) (found l) ≡ found (and_then v l)
unfolding and_then
found-more v (values vs) = refl
found-more v (unset c) = refl

module _ {W : World} {bs : List Slot} {scope : List ℕ} {B : List Binding} (views : BindingsSeen W bs scope B) where
  abbrev slot_case : Slot → LookUpResult → LookUpResult
  slot_case s l =
      elim s [
        | slots.Empty ↦ values []
        | slots.Value v ↦ and_then v l
        | slots.Cell c ↦ elim (cell_at W.cells c).value [ None ↦ unset c | Some v ↦ and_then v l ]
      ]

  cell-case : (h : Held) (c : ℕ) (l : LookUpResult)
      → in_front (held h) (found l) ≡ found (elim h as (λ h. LookUpResult) [ None ↦ unset c | Some v ↦ and_then v l ])
  cell-case None c l = refl
  cell-case (Some v) c l = found-more v l

  slot-case : {s : Slot} {b : Binding} (l : LookUpResult) → BindingSeen W s b
      → in_front (value_in W.store b) (found l) ≡ found (slot_case s l)
  slot-case l (valued {v = v}) = found-more v l
  slot-case l (celled {c = c} (below s v)) = rw s.value (cell-case (cell_at W.cells c).value c l)

  -- the machine finds the values that the abstract machine has, or an unset cell where it has none
  pub values_seen : {ps : List Job.Param} → All (GoodParam scope) ps
      → values_in W.store B (map (param_meant scope) ps) ≡ found (look W.cells bs ps)
  unfolding values_in look param_meant
  values_seen All.none = refl
  values_seen (more {xs = ps} (GoodParam.variable {x = x} i) a) =
      ap (in_front (value_in W.store (binding_at B (position x scope)))) (values_seen a)
      ∙ slot-case (look W.cells bs ps) (variable-seen x i views)
  values_seen (more {xs = ps} (GoodParam.constant {v = v} f) a) =
      ap (in_front (some v)) (values_seen a) ∙ found-more v (look W.cells bs ps)

  -- "A variable's binding is passed on as it is"
  passed-seen : {p : Job.Param} → GoodParam scope p → BindingSeen W (passed bs p) (named B (param_meant scope p))
  unfolding passed param_meant
  passed-seen (GoodParam.variable {x = x} i) = variable-seen x i views
  passed-seen (GoodParam.constant f) = valued

  -- the slots from n on are the parameters'
  formals_from : (full : List Slot) (n : ℕ) (acc : List Calculus.Param) {ps : List Job.Param}
      → BindingsSeen W full (levels n) (map (named B) acc)
      → ((i : ℕ) → i < length ps → slot_at full (n + i) ≡ slot_at (map (passed bs) ps) i)
      → All (GoodParam scope) ps
      → BindingsSeen W full (levels (n + length ps)) (map (named B) (reverse_aux (map (param_meant scope) ps) acc))
  unfolding levels slot_at
  formals_from full n acc v h All.none =
      subst (λ k. BindingsSeen W full (levels k) (map (named B) acc)) (let y : n ≡ n + 0 = omega arith in y) v
  formals_from full n acc v h (more {x = p} {xs = ps} g a) =
      subst (λ k. BindingsSeen W full (levels k) (map (named B) (reverse_aux (map (param_meant scope) ps) (param_meant scope p ∷ acc))))
      (let e : suc n + length ps ≡ n + suc (length ps) = omega arith in e)
      (formals_from full (suc n) (param_meant scope p ∷ acc)
      (binds (subst (λ s. BindingSeen W s (named B (param_meant scope p))) (sym first) (passed-seen g)) v)
      (λ i l. subst (λ k. slot_at full k ≡ slot_at (map (passed bs) ps) i) (let e : n + suc i ≡ suc n + i = omega arith in
      e) (h (suc i) (omega arith)))
      a)
    where
      first : slot_at full n ≡ passed bs p
      first = subst (λ k. slot_at full k ≡ passed bs p) (let e : n + 0 ≡ n = omega arith in e) (h 0 (omega arith))

levels-member : (n x : ℕ) → x < n → x is-in levels n
unfolding levels
levels-member zero x l = absurd (omega arith)
levels-member (suc n) x l = go (ℕ_discrete x n) (λ k. levels-member n x k)
  where
    go : Dec (x ≡ n) → (x < n → x is-in levels n) → x is-in (n ∷ levels n)
    go (yes e) f = Memᴰ.head e
    go (no e) f = Memᴰ.tail (f (omega arith))

levels-fresh : (n x : ℕ) → Fresh x (levels n) → n ≤ x
levels-fresh n x f = go (dec_lt x n)
  where
    go : Dec (x < n) → n ≤ x
    go (yes l) = absurd (f (levels-member n x l))
    go (no l) = omega arith

-- "only its formals bound"
pub formals-seen : {W : World} {bs : List Slot} {scope : List ℕ} {B : List Binding} (ps : List Job.Param)
    → BindingsSeen W bs scope B → All (GoodParam scope) ps → length ps ≤ 4
    → SlotsSeen W (formals_bound bs ps) (levels (length ps)) (map (named B) (reverse (map (param_meant scope) ps)))
unfolding formals_bound slot_at levels
formals-seen {W} {bs} {scope} {B} ps views good few =
    record {
      size = size;
      views =
          subst (λ k. BindingsSeen W bound (levels k) (map (named B) (reverse (map (param_meant scope) ps))))
          (let e : 0 + length ps ≡ length ps = omega arith in e)
          (formals_from views bound 0 [] nothing inside good);
      rest = λ x f. outside x (levels-fresh (length ps) x f);
    }
  where
    given : List Slot
    given = map (passed bs) ps

    bound : List Slot
    bound = given ++ drop (length ps) unbound

    many : length given ≡ length ps
    many = length-map ps (passed bs)

    size : length bound ≡ 8
    size =
        let a = length-append given (drop (length ps) unbound) in
        let b = length-drop (length ps) unbound in
        let c : length unbound ≡ 8 = refl in
        let e = many in
        omega arith

    inside : (i : ℕ) → i < length ps → slot_at bound (0 + i) ≡ slot_at given i
    inside i l =
        subst (λ k. slot_at bound k ≡ slot_at given i) (let e : i ≡ 0 + i = omega arith in e)
        (get_or-append given (drop (length ps) unbound) empty i (let e = many in omega arith))

    outside : (x : ℕ) → length ps ≤ x → slot_at bound x ≡ slots.Empty
    outside x l =
        subst (λ k. slot_at bound k ≡ slots.Empty) (let e = many in let y : length given + (x - length ps) ≡ x = omega arith in y)
        ((get_or-append-add given (drop (length ps) unbound) (x - length ps) empty ∙ get_or-drop (length ps) unbound (x - length ps) empty)
        ∙ unbound-empty 8 (length ps + (x - length ps)))
