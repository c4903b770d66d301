-- The rules of one token and of one cell: a blank one keeps them all, since a dag has a node and nothing else is named. Assumes nothing.
use mathlib.Core.Path.{◌≡◌, refl, sym, ◌∙◌, ap}
use mathlib.Core.Bool.{Bool, true, false, not}
use mathlib.Core.List.{List, [], ◌∷◌}
use Prim.Native.Nat.{ℕ, ◌<◌, ◌≤◌}
use native.Mathlib.Omega.{arith}
use lib.Dec.{ltb, leb, eqb}
use lib.ListN.{length}
use Rattle.std.specs.Prelude.{Some, None}
use Rattle.model.specs.declared.token.Slot.TheVariants as slots
use Rattle.job.specs.Test.{◌and◌, for_all}
use Rattle.job.specs.Node.{Dag, is_node, dag_holds}
use Rattle.model.specs.Machine.Limits.{paper}
use Rattle.model.specs.Machine.Blank.{is_bound, has_value, is_place, token_is_blank, cell_is_blank}
use Rattle.model.specs.Machine.State.{is_blank_state, is_live}
use Rattle.model.specs.Machine.Rules.{held_in_range, place_in_range, slot_in_range, state_in_range, token_in_range}
use Rattle.model.specs.Machine.Rules.{cell_in_range, at_node, not_under_set, waits_at_unset, due_in_range, chain_ends}
use Rattle.model.specs.declared.token.Slot.{Slot}
use Rattle.model.specs.Machine.Held.{Held, Place}
use Rattle.model.specs.declared.token.Token.{Token}
use Rattle.model.specs.declared.cell.Cell.{Cell}
use Rattle.model.specs.declared.record.Machine.{Machine}
use Rattle.job.proofs.Test.{clash, and_left, and_right, and_both, eqb-eq, ltb-lt, lt-ltb, le-not-ltb}
use Rattle.job.proofs.Lists.{same-when}
use Rattle.job.proofs.Both.{and-true, and_assoc}
use Rattle.row_rules.specs.RowRules.{token_rule, cell_rule}
use Rattle.row_rules.proofs.ChainLaws.{ends_nowhere}
use Rattle.model.proofs.Machine.Blanking.{state-blank}

-- fields that hold nothing are in range
slot-blank : (s : Slot) → not (is_bound s) ≡ true → slot_in_range 32 s ≡ true
unfolding is_bound slot_in_range
slot-blank slots.Empty e = refl
slot-blank (slots.Value v) e = clash e refl
slot-blank (slots.Cell c) e = clash e refl

slots-blank : (bs : List Slot) → for_all (λ (b : Slot). not (is_bound b)) bs ≡ true
    → for_all (slot_in_range 32) bs ≡ true
unfolding for_all
slots-blank [] e = refl
slots-blank (b ∷ bs) e = and_both (slot-blank b (and_left _ _ e)) (slots-blank bs (and_right _ _ e))

held-blank : (v : Held) → not (has_value v) ≡ true → held_in_range v ≡ true
unfolding has_value held_in_range
held-blank None e = refl
held-blank (Some v) e = clash e refl

place-blank : (n : ℕ) (q : Place) → not (is_place q) ≡ true → place_in_range n q ≡ true
unfolding is_place place_in_range
place-blank n None e = refl
place-blank n (Some p) e = clash e refl

ends-none : (cs : List Cell) (n : ℕ) (q : Place) → not (is_place q) ≡ true → chain_ends cs n q ≡ true
unfolding is_place
ends-none cs n None e = ends_nowhere cs n
ends-none cs n (Some p) e = clash e refl

-- a dag that keeps its rules has a node
pub some-node : (d : Dag) → dag_holds d ≡ true → 0 < length d.nodes
unfolding dag_holds is_node
some-node d e =
    let first = and_right (leb (length d.nodes) 1022) _ e in
    let second = and_right (leb (length d.bodies) 32) _ first in
    let l = ltb-lt d.goal (length d.nodes) (and_left (ltb d.goal (length d.nodes)) _ second) in
    omega arith

module _ (d : Dag) (m : Machine) (t : Token) (eight : length t.binds ≡ 8) where
  pub token-blank : dag_holds d ≡ true → token_is_blank t ≡ true → token_rule d m t ≡ true
  unfolding token_is_blank token_in_range is_node at_node not_under_set waits_at_unset state_in_range due_in_range is_live is_blank_state
  token-blank holds e =
      let rest1 = and_right (is_blank_state t.state) _ e in
      let rest2 = and_right (eqb t.node 0) _ rest1 in
      let rest3 = and_right (for_all (λ (b : Slot). not (is_bound b)) t.binds) _ rest2 in
      let rest4 = and_right (not (has_value t.value)) _ rest3 in
      let state = state-blank t.state (and_left (is_blank_state t.state) _ e) in
      let node : t.node ≡ 0 = eqb-eq t.node 0 (and_left (eqb t.node 0) _ rest1) in
      let some = some-node d holds in
      and_both
      (and_both (lt-ltb t.node (length d.nodes) (omega arith))
      (and_both (ap (λ n. eqb n 8) eight)
      (and_both (slots-blank t.binds (and_left _ _ rest2))
      (and_both (held-blank t.value (and_left _ _ rest3))
      (and_both (place-blank 64 t.caller (and_left _ _ rest4))
      (and_both (place-blank 32 t.cell (and_right _ _ rest4))
      (ap (state_in_range 32 m.calls) state)))))))
      (and_both (rw (state, at_node)) (and_both (rw (state, not_under_set))
      (and_both (ap (waits_at_unset m.cells) state) (ap (due_in_range m.clock) state))))

  pub node-past : {n : ℕ} → n ≡ t.node → length d.nodes ≤ n → false ≡ token_rule d m t
  unfolding token_in_range is_node ◌and◌
  node-past e l = rw (le-not-ltb t.node (length d.nodes) (omega arith))

  fields_in : {n : ℕ} → n ≡ t.node → n < length d.nodes → held_in_range t.value ≡ true
      → token_in_range paper d m.calls t
      ≡ (for_all (slot_in_range 32) t.binds
      and place_in_range 64 t.caller and place_in_range 32 t.cell and state_in_range 32 m.calls t.state)
  unfolding token_in_range is_node ◌and◌
  fields_in e l f = rw (lt-ltb t.node (length d.nodes) (omega arith), eight, f)

  -- the due time is tested with the fields
  pub node_in : {n : ℕ} → n ≡ t.node → n < length d.nodes → held_in_range t.value ≡ true
      → (for_all (slot_in_range 32) t.binds
      and place_in_range 64 t.caller
      and place_in_range 32 t.cell
      and state_in_range 32 m.calls t.state
      and due_in_range m.clock t.state)
      ≡ (token_in_range paper d m.calls t and due_in_range m.clock t.state)
  node_in e l f =
      sym (ap (λ b. b and due_in_range m.clock t.state) (fields_in e l f)
      ∙ and_assoc _ _ _
      ∙ ap (◌and◌ _) (and_assoc _ _ _ ∙ ap (◌and◌ _) (and_assoc _ _ _)))

pub due-last : (r u a n w : Bool) → ((r and u) and a and n and w) ≡ (r and a and n and w and u)
due-last r u a n w =
    same-when _ _ (λ e. search (and_left, and_right, and_both) depth 9) (λ e. search (and_left, and_right, and_both) depth 9)

module _ (cs : List Cell) (c : Cell) where
  pub cell-blank : cell_is_blank c ≡ true → cell_rule cs c ≡ true
  unfolding cell_is_blank cell_in_range
  cell-blank e =
      let none = and_left (not (is_place c.parent)) _ e in
      and_both
      (and_both (place-blank 32 c.parent none) (held-blank c.value (and_right (not (is_place c.parent)) _ e)))
      (ends-none cs 32 c.parent none)

  pub cell_in : held_in_range c.value ≡ true → place_in_range 32 c.parent ≡ cell_in_range paper c
  unfolding cell_in_range
  cell_in e = sym (ap (◌and◌ (place_in_range 32 c.parent)) e ∙ and-true _)
