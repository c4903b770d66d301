-- A turn of the test for a tail call does what one look of `is_tail_within` does: the kind in a node's row says which node it is. Assumes
-- nothing.
use mathlib.Core.Path.{◌≡◌, refl, sym, ap, subst, ◌∙◌}
use mathlib.Core.Bool.{true, false}
use mathlib.Core.List.{List}
use Prim.Native.Nat.{ℕ, zero, suc, ◌+◌, ◌-◌, ◌<◌, ◌≤◌}
use native.Mathlib.Omega.{arith}
use lib.ListN.{length, get_or, drop}
use lib.Dec.{ltb}
use Rattle.job.specs.Node.{Dag, node_at, node_holds, is_node, params_hold}
use Rattle.job.specs.Syntax.{Param}
use Rattle.job.specs.Tail.{is_tail_within, is_tail}
use Rattle.job.specs.Words.{dag_of, head_words}
use Rattle.job.proofs.DagRules.{dag-rules}
use Rattle.job.proofs.Tail.{at_return, at-remove}
use Rattle.job.proofs.Test.{and_right, ltb-lt}
use Rattle.job.proofs.Words.{length-nodes_from}
use Rattle.sites.specs.Row.{row_of, params_at, NodeRow, node_in, node_of_kind}
use Rattle.sites.proofs.RowKinds.{node-is, node-holds}
use Rattle.tail_writes.specs.Tail.{NodeInside}

-- how many nodes there are
pub node-count : (ws : List ℕ) → get_or ws 0 0 ≡ length (dag_of ws).nodes
unfolding dag_of
node-count ws = sym (length-nodes_from (get_or ws 0 0) (drop head_words ws))

-- a node that is no remove and no return
other-kind : (d : Dag) (looks n a b c : ℕ) (ps : List Param) (k : ℕ) → (k ≡ 5 → ⊥) → (k ≡ 8 → ⊥) → node_at d n ≡ node_of_kind a b c ps k
    → is_tail_within d (suc looks) n ≡ false
unfolding is_tail_within
other-kind d looks n a b c ps zero f g e = rw (e, is_tail_within)
other-kind d looks n a b c ps (suc zero) f g e = rw (e, is_tail_within)
other-kind d looks n a b c ps (suc (suc zero)) f g e = rw (e, is_tail_within)
other-kind d looks n a b c ps (suc (suc (suc zero))) f g e = rw (e, is_tail_within)
other-kind d looks n a b c ps (suc (suc (suc (suc zero)))) f g e = rw (e, is_tail_within)
other-kind d looks n a b c ps (suc (suc (suc (suc (suc zero))))) f g e = absurd (f refl)
other-kind d looks n a b c ps (suc (suc (suc (suc (suc (suc zero)))))) f g e = rw (e, is_tail_within)
other-kind d looks n a b c ps (suc (suc (suc (suc (suc (suc (suc zero))))))) f g e = rw (e, is_tail_within)
other-kind d looks n a b c ps (suc (suc (suc (suc (suc (suc (suc (suc zero)))))))) f g e = absurd (g refl)
other-kind d looks n a b c ps (suc (suc (suc (suc (suc (suc (suc (suc (suc zero))))))))) f g e = rw (e, is_tail_within)
other-kind d looks n a b c ps (suc (suc (suc (suc (suc (suc (suc (suc (suc (suc k)))))))))) f g e = rw (e, is_tail_within)

module _ (ws : List ℕ) (node : ℕ) (o : NodeInside ws node) where
  pub row_within : row_of node + 12 ≤ 12331
  row_within =
      let f : length (dag_of ws).nodes ≤ 1022 = (dag-rules (dag_of ws) o.dag).nodes-few in
      let l : node < length (dag_of ws).nodes = o.inside in
      omega arith

  abbrev the_row : NodeRow ws (row_of node) (get_or ws (row_of node) 0)
  the_row = record { size = o.size; dag = o.dag; node = node; inside = o.inside; row = refl; kind = refl }

  the-node : (k : ℕ) → get_or ws (row_of node) 0 ≡ k → node_at (dag_of ws) node ≡ node_in ws (row_of node) k
  the-node k e = node-is ws (row_of node) _ the_row ∙ ap (node_in ws (row_of node)) e

  next-inside : get_or ws (row_of node) 0 ≡ 5 → NodeInside ws (get_or ws (row_of node + 2) 0)
  unfolding node_holds is_node
  next-inside e =
      record {
        size = o.size;
        dag = o.dag;
        inside =
            ltb-lt _ _ (and_right (ltb (get_or ws (row_of node + 1) 0) 8) _
            (subst (λ k. node_holds (dag_of ws) (node_in ws (row_of node) k) ≡ true) e (node-holds ws (row_of node) _ the_row)));
      }

-- the next node of a definition call
pub call_next : (ws : List ℕ) (at : ℕ) {next : ℕ} → NodeRow ws at 2 → next ≡ get_or ws (at + 2) 0 → NodeInside ws next
unfolding node_holds is_node
call_next ws at o e =
    subst (NodeInside ws) (sym e)
    (record {
      size = o.size;
      dag = o.dag;
      inside =
          ltb-lt _ _
          (and_right (params_hold (params_at ws at)) _
          (and_right (ltb (get_or ws (at + 1) 0) (length (dag_of ws).bodies)) _ (node-holds ws at 2 o)));
    })

-- the test's turns: so many looks of those that are allowed are done
pub record Looking (ws : List ℕ) (next count node looks : ℕ) : Type 0 where
  pub here : NodeInside ws node
  pub row : row_of node + 12 ≤ 12331
  pub nodes : count ≡ length (dag_of ws).nodes
  pub done : looks ≤ count
  pub left : is_tail (dag_of ws) next ≡ is_tail_within (dag_of ws) (count - looks) node

pub looking-begins : (ws : List ℕ) (next count : ℕ) → NodeInside ws next → count ≡ get_or ws 0 0 → Looking ws next count next 0
unfolding is_tail
looking-begins ws next count o e =
    let n = e ∙ node-count ws in
    let z : length (dag_of ws).nodes ≡ count - 0 = omega arith in
    record { here = o; row = row_within ws next o; nodes = n; done = omega arith; left = ap (λ k. is_tail_within (dag_of ws) k next) z }

pub looked-at-all : (ws : List ℕ) (next count node looks : ℕ) → Looking ws next count node looks → count ≤ looks
    → false ≡ is_tail (dag_of ws) next
unfolding is_tail_within
looked-at-all ws next count node looks l f =
    let d : looks ≤ count = l.done in
    let z : count - looks ≡ 0 = omega arith in
    sym (l.left ∙ ap (λ k. is_tail_within (dag_of ws) k node) z)

module _ (ws : List ℕ) (next count node looks : ℕ) (more : looks < count) (l : Looking ws next count node looks) where
  one_left : is_tail (dag_of ws) next ≡ is_tail_within (dag_of ws) (suc (count - (looks + 1))) node
  one_left =
      let e : count - looks ≡ suc (count - (looks + 1)) = omega arith in
      l.left ∙ ap (λ k. is_tail_within (dag_of ws) k node) e

  pub found-return : get_or ws (row_of node) 0 ≡ 8 → true ≡ is_tail (dag_of ws) next
  found-return e = sym (one_left ∙ at_return (dag_of ws) _ node (the-node ws node l.here 8 e))

  pub found-other : (get_or ws (row_of node) 0 ≡ 8 → ⊥) → (get_or ws (row_of node) 0 ≡ 5 → ⊥) → false ≡ is_tail (dag_of ws) next
  found-other g f = sym (one_left ∙ other-kind (dag_of ws) _ node _ _ _ _ _ f g (the-node ws node l.here _ refl))

  pub found-remove : (k : ℕ) → get_or ws (row_of node) 0 ≡ 5 → k ≡ get_or ws (row_of node + 2) 0 → Looking ws next count k (looks + 1)
  found-remove k e f =
      let o = next-inside ws node l.here e in
      subst (λ k. Looking ws next count k (looks + 1)) (sym f)
      (record {
        here = o;
        row = row_within ws _ o;
        nodes = l.nodes;
        done = omega arith;
        left = one_left ∙ at-remove (dag_of ws) _ node (the-node ws node l.here 5 e);
      })

-- the first look: there is one, since there is a node
module _ (ws : List ℕ) (next : ℕ) (o : NodeInside ws next) where
  begins : Looking ws next (length (dag_of ws).nodes) next 0
  begins = looking-begins ws next (length (dag_of ws).nodes) o (sym (node-count ws))

  some : 0 < length (dag_of ws).nodes
  some = let l : next < length (dag_of ws).nodes = o.inside in omega arith

  pub first-return : get_or ws (row_of next) 0 ≡ 8 → true ≡ is_tail (dag_of ws) next
  first-return = found-return ws next (length (dag_of ws).nodes) next 0 some begins

  pub first-other : (get_or ws (row_of next) 0 ≡ 8 → ⊥) → (get_or ws (row_of next) 0 ≡ 5 → ⊥) → false ≡ is_tail (dag_of ws) next
  first-other = found-other ws next (length (dag_of ws).nodes) next 0 some begins
