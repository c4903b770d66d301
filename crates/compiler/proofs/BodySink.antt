-- A body's rows and its sink's row behind them. Assumes nothing.
use Prim.Native.Nat.{ℕ, suc, ◌+◌, ◌*◌}
use mathlib.Core.Path.{◌≡◌, refl, sym, ap, ◌∙◌}
use mathlib.Core.List.{List, [], ◌∷◌, ◌++◌, append-nil}
use native.Mathlib.Numerals.{add-one}
use native.Mathlib.Omega.{arith}
use lib.ListN.{length}
use lib.Seq.{sets}
use Rattle.job.specs.Syntax.{Exp}
use Rattle.job.specs.Construct.{node_count, nodes_of}
use Rattle.job.specs.Words.{head_words, node_words, rows_of_nodes}
use Rattle.job.specs.Read.{Got, Read, got, refused}
use Rattle.job.proofs.Stores.{sets-append}
use Rattle.job.proofs.NodeRows.{rows_append, rows-length}
use Rattle.entries.specs.declared.scope.Scope.{Scope}
use Rattle.compiler.specs.ExpressionCompiled.{reading, Accepted, compiled, stored}
use Rattle.compiler.specs.Body.{sink_of, Sunk, sunk, BodyAccepted, compiled_with_sink, stored_body}
use Rattle.compiler.specs.declared.body.SinkKind.{SinkKind}
use Rattle.compiler.specs.declared.expression.Compiled.{Compiled}
use Rattle.compiler.proofs.ExpressionTaking.{accept, same}

-- what is read
record Read-body (ks os scope : List ℕ) (at n sink : ℕ) : Type 0 where
  it : Got Exp
  read : reading 24 ks os scope at ≡ got it
  ends : sink ≡ n + node_count it.value

view : (p : Read Exp) (n sink : ℕ) → Sunk p n sink → (g : Got Exp) × (p ≡ got g) × (sink ≡ n + node_count g.value)
view (got g) n sink (sunk e) = (g, refl, e)
view (refused number entry) n sink x' = elim x' [ ]

module _ {ks os : List ℕ} {s : Scope} {at n sink : ℕ} {scope : List ℕ} (b : BodyAccepted ks os s at n sink scope) where
  taken : Read-body ks os scope at n sink
  taken = let v = view (reading 24 ks os scope at) n sink b.sinks in record { it = v.0; read = v.1; ends = v.2 }

  pub body-accepted : Accepted 24 ks os s at n scope
  body-accepted =
      let e = taken.ends in
      let l = b.below in
      accept 24 ks os s at n scope taken.it b.means taken.read (omega arith)

  pub body-done : (c : Compiled) (toward : SinkKind) (d d1 d2 : List ℕ) → c ≡ compiled (reading 24 ks os scope at) n
      → d1 ≡ stored (reading 24 ks os scope at) n sink d → d2 ≡ sets d1 (head_words + 12 * sink) (node_words (sink_of toward))
      → (◌≡◌ {A = Compiled} (record { at = c.at; node = sink + 1; root = c.root }) (compiled_with_sink (reading 24 ks os scope at) n))
      × (d2 ≡ stored_body (reading 24 ks os scope at) toward n d)
  unfolding rows_of_nodes
  body-done c toward d d1 d2 ec e1 e2 =
      let g = taken.it in
      let rows : ℕ → List ℕ = λ k. rows_of_nodes (nodes_of g.value n k) in
      let a : c ≡ compiled (got g) n = ec ∙ ap (λ r. compiled r n) taken.read in
      let f : d1 ≡ sets d (head_words + 12 * n) (rows sink) = e1 ∙ ap (λ r. stored r n sink d) taken.read in
      let z : head_words + 12 * sink ≡ head_words + 12 * n + length (rows sink) =
      (let l = rows-length g.value n sink in let e = taken.ends in omega arith) in
      let h : d2 ≡ sets d (head_words + 12 * n) (rows sink ++ node_words (sink_of toward)) =
      e2 ∙ rw (f, z) (sym (sets-append d (head_words + 12 * n) (rows sink) (node_words (sink_of toward)))) in
      let i : rows_of_nodes (nodes_of g.value n sink ++ (sink_of toward ∷ [])) ≡ rows sink ++ node_words (sink_of toward) =
      rows_append (nodes_of g.value n sink) (sink_of toward ∷ []) ∙ ap (λ w. rows sink ++ w) (append-nil (node_words (sink_of toward))) in (
        same (ap (λ (y : Compiled). y.at) a) (add-one sink ∙ ap suc taken.ends) (ap (λ (y : Compiled). y.root) a)
            ∙ ap (λ r. compiled_with_sink r n) (sym taken.read),
        h ∙ ap (λ w. sets d (head_words + 12 * n) w) (sym i)
            ∙ ap (λ k. sets d (head_words + 12 * n) (rows_of_nodes (nodes_of g.value n k ++ (sink_of toward ∷ [])))) taken.ends
            ∙ ap (λ r. stored_body r toward n d) (sym taken.read),
      )
