-- The rules of a token at its node, from the words of the node's row. By the kind of the node, which chooses the rule. Assumes nothing.
use mathlib.Core.Path.{◌≡◌, refl, sym, ◌∙◌, ap}
use mathlib.Core.Bool.{Bool, true, false, ◌&&◌}
use mathlib.Core.List.{List, [], ◌∷◌}
use Prim.Native.Nat.{ℕ, zero, suc, ◌+◌, ◌-◌, ◌*◌, ◌<◌, ◌≤◌}
use native.Mathlib.Omega.{arith}
use lib.ListN.{length, get_or, take, drop, get_or-eq_default}
use lib.Dec.{leb, eqb}
use Rattle.std.specs.Prelude.{Some, None}
use Rattle.job.specs.Test.{◌and◌, for_all}
use Rattle.job.specs.Node.{dag_holds, node_at}
use Rattle.job.specs.Words.{node_by, param_of, params_from, dag_of}
use Rattle.model.specs.Machine.Blank.{empty, blank_token, slot_at, token_at, is_bound}
use Rattle.model.specs.Machine.Rules.{names_frame, not_empty, node_rule, at_node}
use Rattle.model.specs.Machine.State.{is_frame}
use Rattle.model.specs.declared.token.Slot.{Slot}
use Rattle.model.specs.Machine.Held.{Place}
use Rattle.model.specs.declared.token.Token.{Token}
use Rattle.job.proofs.Test.{and_left, leb-le, eq-eqb, ne_eqb}
use Rattle.record.specs.Layout.{place_number, state_kind}
use Rattle.job.specs.Rows.{words_in_rows}
use Rattle.std.specs.List.{list_all}
use Rattle.dag_rules.proofs.DagLaws.{node-by-kind, nodes-length}
use Rattle.row_rules.proofs.RangeLaws.{blank-is, frame_is}

-- past the eight slots nothing is bound
pub slot-past : (bs : List Slot) (x : ℕ) → length bs ≡ 8 → 8 ≤ x → false ≡ is_bound (slot_at bs x)
unfolding slot_at is_bound
slot-past bs x long l =
    let m : length bs ≤ x = omega arith in
    sym (ap is_bound (get_or-eq_default bs empty m))

-- a parameter's two words
module _ (bs : List Slot) (k w : ℕ) where
  pub bound-param : k ≡ 7 → is_bound (slot_at bs w) ≡ not_empty bs (param_of k w)
  unfolding param_of not_empty
  bound-param e = rw (eq-eqb k 7 e, param_of)

  pub free-param : (k ≡ 7 → ⊥) → true ≡ not_empty bs (param_of k w)
  unfolding param_of not_empty
  free-param f = rw (ne_eqb k 7 f, param_of)

-- the first c of the pairs of words are c parameters, or as many as there are
abbrev pub pair_bound : List Slot → List ℕ → Bool
pair_bound bs r = not_empty bs (param_of (get_or r 0 0) (get_or r 1 0))

pub params-bound : (bs : List Slot) (n c : ℕ) (ws : List ℕ) → length ws ≡ 2 * n
    → list_all (pair_bound bs) (take c (words_in_rows 2 n ws)) ≡ for_all (not_empty bs) (params_from c ws)
unfolding words_in_rows params_from for_all ◌and◌
params-bound bs zero zero ws l = refl
params-bound bs (suc n) zero ws l = refl
params-bound bs zero (suc c) [] l = refl
params-bound bs zero (suc c) (k ∷ ws) l = absurd (omega arith)
params-bound bs (suc n) (suc c) [] l = absurd (omega arith)
params-bound bs (suc n) (suc c) (k ∷ []) l = absurd (omega arith)
params-bound bs (suc n) (suc c) (k ∷ w ∷ ws) l =
    ap (λ b. not_empty bs (param_of k w) && b) (params-bound bs n c ws (omega arith))

-- the frame that a token names
module _ (ts : List Token) (long : length ts ≡ 64) (q : Place) {n : ℕ} (number : n ≡ place_number q) where
  pub no-caller : n ≡ 0 → false ≡ names_frame ts q
  unfolding names_frame
  no-caller e = go q number
    where
      go : (q : Place) → n ≡ place_number q → false ≡ names_frame ts q
      go None f = refl
      go (Some p) f = absurd (omega arith)

  pub caller-past : 64 < n → false ≡ names_frame ts q
  unfolding names_frame token_at is_frame
  caller-past l = go q number
    where
      go : (q : Place) → n ≡ place_number q → false ≡ names_frame ts q
      go None f = refl
      go (Some p) f =
          let m : length ts ≤ p = omega arith in
          sym (ap (λ (t : Token). is_frame t.state) (get_or-eq_default ts blank_token m))

  pub caller-read : (n ≡ 0 → ⊥) → {k : ℕ} → k ≡ state_kind (token_at ts (n - 1)).state → eqb k 5 ≡ names_frame ts q
  unfolding names_frame
  caller-read f {k} e = go q number
    where
      go : (q : Place) → n ≡ place_number q → eqb k 5 ≡ names_frame ts q
      go None g = absurd (f g)
      go (Some p) g =
          let same : n - 1 ≡ p = omega arith in
          ap (λ i. eqb i 5) e ∙ frame_is _ ∙ ap (λ i. is_frame (token_at ts i).state) same

-- a row of a kind past the last has no rule
pub rule-past : (ts : List Token) (t : Token) (ws : List ℕ) → 10 ≤ get_or ws 0 0 → true ≡ node_rule ts t (node_by ws)
unfolding node_by node_rule
rule-past ts t ws l = rw get_or-eq_default

-- the node's row
module _ (ws : List ℕ) (long : length ws ≡ 12331) (holds : dag_holds (dag_of ws) ≡ true) where
  pub nodes-few : get_or ws 0 0 ≤ 1022
  unfolding dag_holds
  nodes-few =
      let e = leb-le (length (dag_of ws).nodes) 1022 (and_left (leb (length (dag_of ws).nodes) 1022) _ holds) in
      omega (arith, nodes-length ws)

  module _ (ts : List Token) (t : Token) where
    pub at_none : {n : ℕ} → n ≡ state_kind t.state → n ≡ 0 → true ≡ at_node (dag_of ws) ts t
    unfolding at_node
    at_none e z = rw (sym (blank-is t.state) ∙ eq-eqb (state_kind t.state) 0 (sym e ∙ z), at_node)

    pub at_row : {node : ℕ} → node ≡ t.node → {n : ℕ} → n ≡ state_kind t.state → (n ≡ 0 → ⊥) → node < get_or ws 0 0
        → node_rule ts t (node_by (take 12 (drop (67 + 12 * node) ws))) ≡ at_node (dag_of ws) ts t
    unfolding at_node
    at_row {node} same e z l =
        rw (sym (blank-is t.state) ∙ ne_eqb (state_kind t.state) 0 (λ y. z (e ∙ y)), at_node)
        (ap (node_rule ts t) (sym (node-by-kind ws holds node l) ∙ ap (node_at (dag_of ws)) same))
