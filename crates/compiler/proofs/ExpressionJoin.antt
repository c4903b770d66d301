-- A join's nodes are its own, then f's, then g's: what is stored and given for a join, whose sides are compiled first, is that of the join
-- which is read. Assumes nothing.
use Prim.Native.Nat.{ℕ, suc, ◌+◌, ◌*◌, ◌-◌, ◌≤◌}
use mathlib.Core.Path.{◌≡◌, refl, sym, ap, ap₂, ◌∙◌}
use mathlib.Core.List.{List, ◌++◌, append_assoc}
use native.Mathlib.Numerals.{add-one}
use native.Mathlib.Omega.{arith}
use lib.ListN.{length, drop}
use lib.Seq.{sets}
use Rattle.job.specs.Entry.{entries}
use Rattle.job.specs.Syntax.{Join, par, seq, prune, Exp, join, scope_left, scope_right}
use Rattle.job.specs.Construct.{own, node_count, root, first_left, first_right, next_left, next_right, own_nodes, nodes_of}
use Rattle.job.specs.Words.{head_words, rows_of_nodes}
use Rattle.job.specs.Read.{got, read_exp}
use Rattle.job.proofs.Stores.{sets-append, sets-swap}
use Rattle.job.proofs.NodeRows.{own-rows-length, rows_append, rows-length}
use Rattle.job.proofs.Position.{exp-from, reread}
use Rattle.job.proofs.Size.{own-some, size-some}
use Rattle.entries.specs.NamedKind.{join_of}
use Rattle.entries.specs.declared.table_kind.JoinKind.{JoinKind}
use Rattle.entries.specs.declared.table_kind.TableKind.TheVariants as kinds
use Rattle.compiler.specs.PlanSides.{PlansLeft, PlansRight}
use Rattle.compiler.specs.JoinRoot.{join_root}
use Rattle.compiler.specs.ExpressionCompiled.{reading, Accepted, compiled, stored}
use Rattle.compiler.specs.declared.plan.ExpressionPlan.{ExpressionPlan}
use Rattle.compiler.specs.declared.expression.Compiled.{Compiled}
use Rattle.compiler.proofs.ExpressionHeads.{Joined, joined}
use Rattle.compiler.proofs.ExpressionTaking.{accept, same, Taken, Done, done}

root-join : (j : Join) (f g : Exp) (n : ℕ) → root (join j f g) n ≡ join_root j n (root f (first_left j n))
unfolding root join_root own
root-join par f g n = refl
root-join (seq x) f g n = refl
root-join (prune x) f g n = refl

-- f's rows, then g's, then the join's own
join-rows : (j : Join) (f g : Exp) (n k : ℕ) (d : List ℕ) →
    sets
    (sets (sets d (head_words + 12 * first_left j n) (rows_of_nodes (nodes_of f (first_left j n) (next_left j n k))))
    (head_words + 12 * first_right j f n) (rows_of_nodes (nodes_of g (first_right j f n) (next_right j n k))))
    (head_words + 12 * n) (rows_of_nodes (own_nodes j (root f (first_left j n)) (root g (first_right j f n)) k))
    ≡ sets d (head_words + 12 * n) (rows_of_nodes (nodes_of (join j f g) n k))
unfolding nodes_of
join-rows j f g n k d =
    let F : List ℕ = rows_of_nodes (nodes_of f (first_left j n) (next_left j n k)) in
    let G : List ℕ = rows_of_nodes (nodes_of g (first_right j f n) (next_right j n k)) in
    let H : List ℕ = rows_of_nodes (own_nodes j (root f (first_left j n)) (root g (first_right j f n)) k) in
    let at : ℕ = head_words + 12 * n in
    let h : length H ≡ 12 * own j = own-rows-length j _ _ k in
    let l : length F ≡ 12 * node_count f = rows-length f _ _ in
    let a : head_words + 12 * first_left j n ≡ at + length H = omega arith in
    let b : head_words + 12 * first_right j f n ≡ at + length H + length F = omega arith in
    let e : rows_of_nodes (nodes_of (join j f g) n k) ≡ H ++ (F ++ G) = simp (rows_append, append_assoc) in
    sets-swap _ at (head_words + 12 * first_right j f n) H G (omega arith)
    ∙ ap (λ (m : List ℕ). sets m (head_words + 12 * first_right j f n) G) (sets-swap d at (head_words + 12 * first_left j n) H F (omega
    arith))
    ∙ sym (ap (λ (w : List ℕ). sets d at w) e
    ∙ sets-append d at H (F ++ G)
    ∙ sets-append _ (at + length H) F G
    ∙ rw (← b, ← a))

module _ {left : ℕ} {ks os scope : List ℕ} {at n : ℕ} (t : Taken left ks os scope at n) (jk : JoinKind) (ek : t.kind ≡ kinds.Join jk) where
  abbrev the-join : Join
  the-join = join_of jk (length scope)

  -- the variables in scope in its sides
  abbrev in_left : List ℕ
  in_left = scope_left the-join scope

  abbrev in_right : List ℕ
  in_right = scope_right the-join scope

  -- its two sides, as they are read
  sides : Joined (read_exp (left - 1)) scope (suc at) (drop (suc at) (entries ks os)) t.it the-join
  sides = joined jk t.head ek

  whole : node_count t.it.value ≡ own the-join + node_count sides.left.value + node_count sides.right.value
  unfolding node_count
  whole = ap node_count sides.value

  pub own_room : n + 3 ≤ 1022
  own_room =
      let a = own-some the-join in
      let b = size-some sides.left.value in
      let c = size-some sides.right.value in
      let w = whole in
      let f = t.fits in
      omega arith

  module _ (k : ℕ) {l : ExpressionPlan} (el : PlansLeft the-join scope n k l) where
    read_left : reading (left - 1) ks os in_left (at + 1) ≡ got sides.left
    read_left =
        let e = sym (add-one at) in
        reread (read_exp (left - 1)) refl e (ap (λ m. drop m (entries ks os)) e) sides.read_left

    pub accept-left : Accepted (left - 1) ks os l.scope (at + 1) l.first in_left
    accept-left =
        let c = el.begins in
        let w = whole in
        let f = t.fits in
        accept (left - 1) ks os l.scope (at + 1) l.first in_left sides.left el.scoped read_left (omega arith)

    module _ {c : Compiled} (ec : c ≡ compiled (reading (left - 1) ks os in_left (at + 1)) l.first) where
      given : c ≡ compiled (got sides.left) (first_left the-join n)
      given = ec ∙ ap₂ (λ r m. compiled r m) read_left el.begins

      node-left : c.node ≡ first_right the-join sides.left.value n
      node-left = ap (λ (x : Compiled). x.node) given

      root-left : c.root ≡ root sides.left.value (first_left the-join n)
      root-left = ap (λ (x : Compiled). x.root) given

      module _ {r : ExpressionPlan} (er : PlansRight the-join scope n c.node k r) where
        read_right : reading (left - 1) ks os in_right c.at ≡ got sides.right
        read_right =
            let rest = (exp-from (entries ks os) (left - 1) _ (suc at) _ sides.left refl sides.read_left).rest in
            let e = sym (ap (λ (x : Compiled). x.at) given) in
            reread (read_exp (left - 1)) refl e (rest ∙ ap (λ m. drop m (entries ks os)) e) sides.read_right

        pub accept-right : Accepted (left - 1) ks os r.scope c.at r.first in_right
        accept-right =
            let e = er.begins in
            let h = node-left in
            let w = whole in
            let f = t.fits in
            accept (left - 1) ks os r.scope c.at r.first in_right sides.right er.scoped read_right (omega arith)

        module _ {q : Compiled} (eq : q ≡ compiled (reading (left - 1) ks os in_right c.at) r.first) where
          last : q ≡ compiled (got sides.right) (first_right the-join sides.left.value n)
          last = eq ∙ ap₂ (λ r m. compiled r m) read_right (er.begins ∙ node-left)

          result : (x : ℕ) → x ≡ join_root the-join n c.root
              → ◌≡◌ {A = Compiled} (record { at = q.at; node = q.node; root = x }) (compiled (got t.it) n)
          result x e =
              let a : q.node ≡ first_right the-join sides.left.value n + node_count sides.right.value =
              ap (λ (y : Compiled). y.node) last in
              let w = whole in
              same (ap (λ (y : Compiled). y.at) last ∙ sym sides.next) (omega arith)
              (e ∙ ap (λ m. join_root the-join n m) root-left ∙ sym (root-join the-join sides.left.value sides.right.value n)
              ∙ ap (λ y. root y n) (sym sides.value))

          pub join-done : (y : ℕ) → y ≡ length scope → (x : ℕ) (d d1 d2 d3 : List ℕ) → x ≡ join_root (join_of jk y) n c.root
              → d1 ≡ stored (reading (left - 1) ks os in_left (at + 1)) l.first l.next d
              → d2 ≡ stored (reading (left - 1) ks os in_right c.at) r.first r.next d1
              → d3 ≡ sets d2 (head_words + 12 * n) (rows_of_nodes (own_nodes (join_of jk y) c.root q.root k))
              → Done left ks os scope at n k (record { at = q.at; node = q.node; root = x }) d d3
          join-done y ey x d d1 d2 d3 ex e1 e2 e3 =
              let j = the-join in
              let f = sides.left.value in
              let g = sides.right.value in
              let a : d1 ≡ sets d (head_words + 12 * first_left j n) (rows_of_nodes (nodes_of f (first_left j n) (next_left j n k))) =
              e1 ∙ ap (λ r. stored r l.first l.next d) read_left
              ∙ ap₂ (λ m i. sets d (head_words + 12 * m) (rows_of_nodes (nodes_of f m i))) el.begins el.goes in
              let b : d2 ≡ sets d1 (head_words + 12 * first_right j f n) (rows_of_nodes (nodes_of g (first_right j f n) (next_right j n
              k))) =
              e2 ∙ ap (λ r'. stored r' r.first r.next d1) read_right
              ∙ ap₂ (λ m i. sets d1 (head_words + 12 * m) (rows_of_nodes (nodes_of g m i))) (er.begins ∙ node-left) er.goes in
              let o : d3 ≡ sets d2 (head_words + 12 * n) (rows_of_nodes (own_nodes j (root f (first_left j n)) (root g (first_right j f
              n)) k)) =
              e3 ∙ ap (λ y. sets d2 (head_words + 12 * n) (rows_of_nodes (own_nodes (join_of jk y) c.root q.root k))) ey
              ∙ ap₂ (λ m i. sets d2 (head_words + 12 * n) (rows_of_nodes (own_nodes j m i k))) root-left
              (ap (λ (y : Compiled). y.root) last) in
              done t k _ d d3 (result x (ex ∙ ap (λ y. join_root (join_of jk y) n c.root) ey))
              (o ∙ rw (b, a) (join-rows j f g n k d)
              ∙ ap (λ y. sets d (head_words + 12 * n) (rows_of_nodes (nodes_of y n k))) (sym sides.value))
