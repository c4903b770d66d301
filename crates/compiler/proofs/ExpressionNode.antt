-- Stop and a call are one node: what is stored and given for them is that of the expression which is read. Assumes nothing.
use Prim.Native.Nat.{ℕ, suc, ◌+◌, ◌*◌, ◌<◌, ◌≤◌}
use mathlib.Core.Path.{◌≡◌, refl, sym, ap, ◌∙◌}
use mathlib.Core.Logic.{◌⊎◌, inl, inr}
use mathlib.Core.List.{List, [], ◌∷◌, append-nil}
use native.Mathlib.Numerals.{add-one}
use native.Mathlib.Omega.{arith}
use lib.ListN.{length, get_or, drop}
use lib.Seq.{sets}
use Rattle.job.specs.Entry.{entries, low, high, kind_of, operand_at}
use Rattle.job.specs.Syntax.{Param, Exp, stop, site, call}
use Rattle.job.specs.Node.{Node}
use Rattle.job.specs.Construct.{node_count, root, nodes_of}
use Rattle.job.specs.Words.{head_words, param_words, node_words, rows_of_nodes}
use Rattle.job.proofs.Entry.{kind_number, kind-number}
use Rattle.job.proofs.Position.{operand_small}
use Rattle.entries.specs.NamedKind.{kind_meant}
use Rattle.entries.specs.declared.table_kind.TableKind.{TableKind}
use Rattle.entries.specs.declared.table_kind.TableKind.TheVariants as kinds
use Rattle.entries.proofs.KindNames.{named-meant}
use Rattle.std.specs.Prelude.{Ok}
use Rattle.compiler.specs.CallNodeWords.{call_node_words}
use Rattle.compiler.specs.declared.expression.Compiled.{Compiled}
use Rattle.compiler.proofs.CallNode.{Ended, params-end, site-words, call-words}
use Rattle.compiler.proofs.JoinLaws.{words}
use Rattle.compiler.proofs.ExpressionHeads.{stops, Called, called}
use Rattle.compiler.proofs.ExpressionTaking.{same, Taken, Done, done}

-- an expression that is the one node x, toward k
record Single (e : Exp) (n k : ℕ) (x : Node) : Type 0 where
  size-one : node_count e ≡ 1
  root-first : root e n ≡ n
  nodes-one : nodes_of e n k ≡ x ∷ []

module _ {e : Exp} (n k : ℕ) where
  single-stop : e ≡ stop → Single e n k Node.stop
  unfolding node_count root nodes_of
  single-stop p = record { size-one = ap node_count p; root-first = ap (λ x. root x n) p; nodes-one = ap (λ x. nodes_of x n k) p }

  single-site : {s : ℕ} {ps : List Param} → e ≡ site s ps → Single e n k (Node.site s ps k)
  unfolding node_count root nodes_of
  single-site p = record { size-one = ap node_count p; root-first = ap (λ x. root x n) p; nodes-one = ap (λ x. nodes_of x n k) p }

  single-call : {d : ℕ} {ps : List Param} → e ≡ call d ps → Single e n k (Node.call d ps k)
  unfolding node_count root nodes_of
  single-call p = record { size-one = ap node_count p; root-first = ap (λ x. root x n) p; nodes-one = ap (λ x. nodes_of x n k) p }

row-alone : (e : Exp) (n k : ℕ) (x : Node) → nodes_of e n k ≡ x ∷ [] → node_words x ≡ rows_of_nodes (nodes_of e n k)
unfolding rows_of_nodes
row-alone e n k x p = sym (append-nil (node_words x)) ∙ ap rows_of_nodes (sym p)

module _ {left : ℕ} {ks os scope : List ℕ} {at n : ℕ} (t : Taken left ks os scope at n) where
  single-done : {x : Node} (k a : ℕ) (c : Compiled) (w d d' : List ℕ) → Single t.it.value n k x → a ≡ t.it.next → w ≡ node_words x
      → c ≡ record { at = a; node = n + 1; root = n } → d' ≡ sets d (head_words + 12 * n) w → Done left ks os scope at n k c d d'
  single-done {x = x} k a c w d d' i q ew ec ed =
      done t k c d d' (ec ∙ same q (ap (λ m. n + m) (sym i.size-one)) (sym i.root-first))
      (ed ∙ ap (λ v. sets d (head_words + 12 * n) v) (ew ∙ row-alone t.it.value n k x i.nodes-one))

  pub stop-done : (k : ℕ) (c : Compiled) (d d' : List ℕ) → t.kind ≡ kinds.Stop → c ≡ record { at = at + 1; node = n + 1; root = n }
      → d' ≡ sets d (head_words + 12 * n) (words 0 0 0 0) → Done left ks os scope at n k c d d'
  unfolding node_words param_words
  stop-done k c d d' z ec ed =
      let v = stops t.head z in
      single-done k (at + 1) c _ d d' (single-stop n k v.0) (add-one at ∙ sym v.1) refl ec ed

  module _ (small : (i : ℕ) → get_or os i 0 < 256) (w : (t.kind ≡ kinds.Site) ⊎ (t.kind ≡ kinds.Call)) where
    its : Called scope (operand_at os at) (suc at) (drop (suc at) (entries ks os)) t.it t.kind
    its = called t.head w

    ended : Ended ks os (operand_small os small) scope (high (operand_at os at)) (suc at) its.params
    ended = params-end ks os (operand_small os small) scope (high (operand_at os at)) (suc at) its.params t.here its.read

    pub call-room : at + 1 + high (operand_at os at) ≤ length ks
    call-room = let e = ended.inside in omega arith

    pub call-done : (k o : ℕ) (c : Compiled) (d d' : List ℕ) → o ≡ operand_at os at
        → c ≡ record { at = at + 1 + high o; node = n + 1; root = n } → d' ≡ sets d (head_words + 12 * n) (call_node_words ks os at k)
        → Done left ks os scope at n k c d d'
    unfolding kind_meant
    call-done k o c d d' eo ec ed = go its.which
      where
        behind : at + 1 + high o ≡ t.it.next
        behind =
            let e = ended.next in
            let i = its.next in
            let z : at + 1 + high o ≡ suc at + high (operand_at os at) = ap (λ m. at + 1 + high m) eo ∙ omega arith in
            omega arith

        number : (k : TableKind) → t.kind ≡ k → get_or ks at 0 ≡ kind_number (kind_meant k) (get_or ks at 0)
        number k e = kind-number (get_or ks at 0) (kind_meant k) (named-meant (kind_of (get_or ks at 0)) k (t.named ∙ ap Ok e))

        go : ((t.kind ≡ kinds.Site) × (t.it.value ≡ site (low (operand_at os at)) its.params.value))
            ⊎ ((t.kind ≡ kinds.Call) × (t.it.value ≡ call (low (operand_at os at)) its.params.value))
            → Done left ks os scope at n k c d d'
        go (inl v) =
            let e = site-words ks os (operand_small os small) scope at k its.params its.read t.here (number kinds.Site v.0) in
            single-done k _ c _ d d' (single-site n k v.1) behind (sym e) ec ed
        go (inr v) =
            let e = call-words ks os (operand_small os small) scope at k its.params its.read t.here (number kinds.Call v.0) in
            single-done k _ c _ d d' (single-call n k v.1) behind (sym e) ec ed
