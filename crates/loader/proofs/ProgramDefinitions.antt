-- The loop over the definitions: the words of those that are done are stored, and the others are still to be read. Assumes nothing.
use Prim.Native.Nat.{ℕ, suc, ◌+◌, ◌*◌, ◌-◌, ◌<◌, ◌≤◌}
use mathlib.Core.Path.{◌≡◌, refl, sym, ap, ap₂, subst, ◌∙◌}
use mathlib.Core.List.{List, [], ◌∷◌, ◌++◌, map, append_assoc, append-nil}
use native.Mathlib.Numerals.{add-one}
use native.Mathlib.Nat.{sub-zero}
use native.Mathlib.Omega.{arith}
use lib.ListN.{length, get_or, drop, length-append, length-map}
use lib.Seq.{sets, get_or-take}
use Rattle.job.specs.Syntax.{Definition, levels}
use Rattle.job.specs.Entry.{entries, operand_at}
use Rattle.job.specs.Construct.{node_count}
use Rattle.job.specs.Words.{rows_of_nodes, body_words}
use Rattle.job.specs.Read.{Got, Read, got, gives, read_exp, read_definition, refused}
use Rattle.job.proofs.Position.{bind-got, reread}
use Rattle.entries.specs.Parts.{entries_from}
use Rattle.entries.specs.Scope.{Means}
use Rattle.entries.specs.declared.scope.Scope.{Scope}
use Rattle.reader.specs.Definition.{read_definition_list, definition_nodes, definition_list_nodes, definition_sizes}
use Rattle.reader.proofs.DefinitionLoop.{Defined, defined}
use Rattle.compiler.specs.ExpressionCompiled.{reading}
use Rattle.compiler.specs.declared.body.SinkKind.TheVariants as sinks
use Rattle.compiler.specs.Body.{Sunk, sunk, BodyAccepted, compiled_with_sink, stored_body}
use Rattle.compiler.specs.declared.expression.Compiled.{Compiled}
use Rattle.loader.specs.ProgramStored.{Leads, DefinitionsRead, definitions, nodes_before, bodies_before, place_behind, words_before}
use Rattle.loader.specs.ProgramStored.{stored_definitions}
use Rattle.loader.specs.declared.program.Place.{Place}
use Rattle.loader.proofs.ProgramWords.{definition-list-nodes-append, one_more}

-- the loop's invariant: `done` are stored, `left` is read from entry `at` on, and both are all
pub record Writing (count : ℕ) (ks os ws ss l : List ℕ) (at node i : ℕ) : Type 0 where
  pub all : Got (List Definition)
  pub read_all : read_definition_list count 0 (entries ks os) ≡ got all
  pub fits : definition_list_nodes all.value < 1022
  pub sized : Leads (definition_sizes all.value) ss
  pub done : List Definition
  pub left : Got (List Definition)
  pub read_left : read_definition_list (count - i) at (entries_from ks os at) ≡ got left
  pub whole : done ++ left.value ≡ all.value
  pub ends : left.next ≡ all.next
  pub many : length done ≡ i
  pub most : i ≤ count
  pub placed : node ≡ definition_list_nodes done
  pub words : l ≡ words_before done ws

view : (r : Read (List Definition)) (ss : List ℕ) → DefinitionsRead r ss
    → (g : Got (List Definition)) × (r ≡ got g) × (definition_list_nodes g.value < 1022) × Leads (definition_sizes g.value) ss
view (got g) ss (definitions h k) = (g, refl, h, k)
view (refused number entry) ss x' = elim x' [ ]

pub writing_start : (count : ℕ) (ks os ws ss : List ℕ) → DefinitionsRead (read_definition_list count 0 (entries ks os)) ss
    → Writing count ks os ws ss ws 0 0 0
unfolding definition_list_nodes words_before nodes_before bodies_before rows_of_nodes body_words
writing_start count ks os ws ss d =
    let v = view (read_definition_list count 0 (entries ks os)) ss d in
    record {
      all = v.0;
      read_all = v.1;
      fits = v.2;
      sized = v.3;
      done = [];
      left = v.0;
      read_left = rw sub-zero v.1;
      whole = refl;
      ends = refl;
      many = refl;
      most = omega arith;
      placed = refl;
      words = refl;
    }

-- what stands behind a list
at-end : (f : Definition → ℕ) (a b : List Definition) (d : Definition) → get_or (map f (a ++ (d ∷ b))) (length a) 0 ≡ f d
at-end f [] b d = refl
at-end f (x ∷ a) b d = at-end f a b d

module _ (count : ℕ) (ks os ws ss l : List ℕ) (at node i : ℕ) (g : Writing count ks os ws ss l at node i) where
  pub writing-end : count ≤ i
      → (◌≡◌ {A = Place} (record { at = at; node = node }) (place_behind (read_definition_list count 0 (entries ks os))))
      × (l ≡ stored_definitions (read_definition_list count 0 (entries ks os)) ws)
  unfolding read_definition_list
  writing-end h =
      let z : count - i ≡ 0 = omega (arith, g.most) in
      let e : gives [] at (entries_from ks os at) ≡ got g.left =
      ap (λ n. read_definition_list n at (entries_from ks os at)) (sym z) ∙ g.read_left in
      let none : g.left.value ≡ [] = cc in
      let here : g.left.next ≡ at = cc in
      let same : g.all.value ≡ g.done = sym g.whole ∙ ap (λ ds. g.done ++ ds) none ∙ append-nil g.done in
      let next : g.all.next ≡ at = sym g.ends ∙ here in
      (rw (g.read_all, next, same, ← g.placed), rw (g.read_all, same) g.words)

  module _ (more : i < count) where
    -- the next definition, and those behind it
    record Turn : Type 0 where
      new : Got Definition
      others : Got (List Definition)
      read-new : read_definition at (entries_from ks os at) ≡ got new
      read-others : read_definition_list (count - (i + 1)) new.next new.rest ≡ got others
      value : g.left.value ≡ new.value ∷ others.value
      next : g.left.next ≡ others.next

    turn : Turn
    unfolding read_definition_list
    turn =
        let z : count - i ≡ suc (count - (i + 1)) = omega arith in
        let r : read_definition_list (suc (count - (i + 1))) at (entries_from ks os at) ≡ got g.left =
        ap (λ n. read_definition_list n at (entries_from ks os at)) (sym z) ∙ g.read_left in
        let d = bind-got (read_definition at (entries_from ks os at)) _ g.left r in
        let ds = bind-got (read_definition_list (count - (i + 1)) d.0.next d.0.rest) _ g.left d.2 in
        record { new = d.0; others = ds.0; read-new = d.1; read-others = ds.1; value = cc; next = cc }

    facts : Defined ks os at turn.new
    facts = defined ks os at turn.new turn.read-new

    -- its size, off the array: its nodes and its sink
    size : get_or ss i 0 ≡ 1 + node_count facts.body.value
    size =
        let all : definition_sizes g.all.value ≡ definition_sizes (g.done ++ (turn.new.value ∷ turn.others.value)) =
        ap definition_sizes (sym g.whole ∙ ap (λ ds. g.done ++ ds) turn.value) in
        let long : i < length (definition_sizes g.all.value) =
        rw (all, length-map, length-append, g.many) (omega arith) in
        sym (get_or-take (length (definition_sizes g.all.value)) ss i 0 long)
        ∙ ap (λ ns. get_or ns i 0) (g.sized ∙ all)
        ∙ ap (λ m. get_or (definition_sizes (g.done ++ (turn.new.value ∷ turn.others.value))) m 0) (sym g.many)
        ∙ at-end definition_nodes g.done turn.others.value turn.new.value
        ∙ ap definition_nodes facts.value

    pub turn-here : at < length ks
    turn-here = facts.here

    pub turn-next : length ks ≤ 512 → at + 1 < 4096
    turn-next k = let x = facts.here in omega arith

    room : node + node_count facts.body.value < 1022
    unfolding definition_list_nodes
    room =
        let a = definition-list-nodes-append g.done g.left.value in
        let b = ap definition_list_nodes g.whole in
        let c = ap definition_list_nodes turn.value in
        let d = ap (λ (d : Definition). node_count d.body) facts.value in
        let p = g.placed in
        let f = g.fits in
        omega arith

    pub turn-sum : node + get_or ss i 0 < 4096
    turn-sum = let k = size in let r = room in omega arith

    pub turn-size : get_or ss i 0 < 4096
    turn-size = let k = turn-sum in omega arith

    pub turn-some : 1 ≤ node + get_or ss i 0
    turn-some = let k = size in omega arith

    module _ (o : ℕ) (eo : o ≡ operand_at os at) where
      read : reading 24 ks os (levels o) (at + 1) ≡ got facts.body
      read =
          let e = sym (add-one at) in
          reread (read_exp 24) (ap levels (sym eo)) e (ap (λ m. drop m (entries ks os)) e) facts.read

      pub turn-formals : o ≤ 8
      turn-formals = let s = facts.small in omega arith

      pub turn-read : (s : Scope) → Means s (levels o)
          → BodyAccepted ks os s (at + 1) node (node + get_or ss i 0 - 1) (levels o)
      turn-read s m =
          let k = size in
          let r = room in
          record {
            means = m;
            below = omega arith;
            sinks = subst (λ r. Sunk r node (node + get_or ss i 0 - 1)) (sym read) (sunk (omega arith));
          }

      pub turn_more : count ≤ 32 → (c : Compiled) (l1 l2 : List ℕ) → c ≡ compiled_with_sink (reading 24 ks os (levels o) (at + 1)) node
          → l1 ≡ stored_body (reading 24 ks os (levels o) (at + 1)) sinks.Return node l → l2 ≡ sets l1 (3 + 2 * i) (c.root ∷ o ∷ [])
          → Writing count ks os ws ss l2 c.at c.node (i + 1)
      unfolding definition_list_nodes
      turn_more k c l1 l2 ec e1 e2 =
          let d : Definition = record { formals = o; body = facts.body.value } in
          let b = facts.body in
          let same : turn.new.value ≡ d = facts.value ∙ ap (λ m. record { formals = m; body = b.value }) (sym eo) in
          let given : c ≡ compiled_with_sink (got b) node = ec ∙ ap (λ r. compiled_with_sink r node) read in
          let e : turn.new.next ≡ c.at = facts.next ∙ sym (ap (λ (x : Compiled). x.at) given) in
          let n : c.node ≡ suc (node + node_count b.value) = ap (λ (x : Compiled). x.node) given in
          let p = g.placed in
          record {
            all = g.all;
            read_all = g.read_all;
            fits = g.fits;
            sized = g.sized;
            done = g.done ++ (d ∷ []);
            left = turn.others;
            read_left = ap₂ (λ m es. read_definition_list (count - (i + 1)) m es) (sym e)
                (sym (facts.rest ∙ ap (λ m. entries_from ks os m) e)) ∙ turn.read-others;
            whole = append_assoc g.done (d ∷ []) turn.others.value
                ∙ ap (λ ds. g.done ++ ds) (ap (λ x. x ∷ turn.others.value) (sym same) ∙ sym turn.value) ∙ g.whole;
            ends = sym turn.next ∙ g.ends;
            many = simp length-append (omega (arith, g.many));
            most = omega arith;
            placed = omega (arith, definition-list-nodes-append g.done (d ∷ []));
            words = one_more g.done d ws l l1 l2 i node g.many g.placed (omega arith) g.words
                (e1 ∙ ap (λ r. stored_body r sinks.Return node l) read)
                (e2 ∙ ap (λ m. sets l1 (3 + 2 * i) (m ∷ o ∷ [])) (ap (λ (x : Compiled). x.root) given));
          }
