-- The dag of an accepted program: the words of its definitions, the rows of its goal behind theirs, and the head's first three words.
-- Assumes nothing.
use Prim.Native.Nat.{ℕ, ◌+◌, ◌-◌, ◌<◌, ◌≤◌}
use mathlib.Core.Path.{◌≡◌, refl, sym, ap, subst, ◌∙◌}
use mathlib.Core.List.{List, [], ◌∷◌}
use native.Mathlib.Omega.{arith}
use lib.ListN.{length}
use lib.Seq.{sets}
use Rattle.job.specs.Syntax.{Program, levels}
use Rattle.job.specs.Entry.{entries}
use Rattle.job.specs.Construct.{node_count, construct}
use Rattle.job.specs.Words.{written}
use Rattle.job.specs.Read.{Got, Read, got, read_exp, read_entries, refused}
use Rattle.job.proofs.EncodeRead.{entries-well-formed}
use Rattle.job.proofs.Size.{nodes-few}
use Rattle.job.proofs.Position.{reread}
use Rattle.job.proofs.Entry.{length-entries}
use Rattle.entries.specs.Parts.{Parts, entries_from}
use Rattle.entries.specs.Scope.{Means}
use Rattle.entries.specs.declared.scope.Scope.{Scope}
use Rattle.reader.specs.Definition.{read_definition_list, definition_list_nodes, definition_sizes}
use Rattle.reader.proofs.ProgramNodes.{construct-length}
use Rattle.reader.proofs.ProgramParts.{AllDefined, all-defined, Parted, parted}
use Rattle.compiler.specs.ExpressionCompiled.{reading}
use Rattle.compiler.specs.declared.body.SinkKind.TheVariants as sinks
use Rattle.compiler.specs.Body.{Sunk, sunk, BodyAccepted, WhereBodyAccepted, compiled_with_sink, stored_body}
use Rattle.compiler.specs.declared.expression.Compiled.{Compiled}
use Rattle.loader.specs.ProgramStored.{Leads, DefinitionsRead, definitions, Accepts, accepts, place_behind, stored_definitions}
use Rattle.loader.specs.ProgramStored.{stored_program}
use Rattle.loader.specs.declared.program.Place.{Place}
use Rattle.loader.proofs.ProgramWords.{all_words}

view : (r : Read Program) (nodes : ℕ) (ss : List ℕ) → Accepts r nodes ss
    → (p : Got Program) × (r ≡ got p) × (nodes ≡ length (construct p.value).nodes) × Leads (definition_sizes p.value.definitions) ss
view (got p) nodes ss (accepts h k) = (p, refl, h, k)
view (refused number entry) nodes ss x' = elim x' [ ]

module _ (ks os : List ℕ) (n nodes : ℕ) (ss : List ℕ) (ok : Accepts (read_entries n (entries ks os)) nodes ss) (parts : Parts ks os)
    (many : n ≤ 32) where
  it : (p : Got Program) × (read_entries n (entries ks os) ≡ got p) × (nodes ≡ length (construct p.value).nodes)
      × Leads (definition_sizes p.value.definitions) ss
  it = view (read_entries n (entries ks os)) nodes ss ok

  its : Parted n (entries ks os) it.0.value
  its = parted n (entries ks os) it.0 it.1

  facts : AllDefined ks os n 0 its.definitions
  facts = all-defined ks os n 0 (entries ks os) refl its.definitions its.read-definitions

  counted : length (construct it.0.value).nodes ≡ definition_list_nodes its.definitions.value + (node_count its.goal.value + 1)
  counted =
      construct-length it.0.value ∙ ap (λ (p : Program). definition_list_nodes p.definitions + (node_count p.goal + 1)) its.value

  most : definition_list_nodes its.definitions.value + (node_count its.goal.value + 1) ≤ 1022
  most =
      let few = length-entries ks os in
      let read = parts.few in
      let w = entries-well-formed n (entries ks os) it.0 many (omega arith) it.1 in
      let a = nodes-few it.0.value w in
      let b = counted in
      omega arith

  all : nodes ≡ definition_list_nodes its.definitions.value + (node_count its.goal.value + 1)
  all = it.2 ∙ counted

  pub some-nodes : 1 ≤ nodes
  some-nodes = let a = all in omega arith

  pub definitions-read : DefinitionsRead (read_definition_list n 0 (entries ks os)) ss
  definitions-read =
      subst (λ r. DefinitionsRead r ss) (sym its.read-definitions)
      (definitions (let m = most in omega arith)
      (subst (λ (p : Program). Leads (definition_sizes p.definitions) ss) its.value it.3))

  module _ (r : Place) (er : r ≡ place_behind (read_definition_list n 0 (entries ks os))) where
    given : r ≡ place_behind (got its.definitions)
    given = er ∙ ap (λ q. place_behind q) its.read-definitions

    at : r.at ≡ its.definitions.next
    at = ap (λ (p : Place). p.at) given

    first : r.node ≡ definition_list_nodes its.definitions.value
    first = ap (λ (p : Place). p.node) given

    read : reading 24 ks os (levels 0) r.at ≡ got its.goal
    unfolding levels
    read = reread (read_exp 24) refl (sym at) (facts.rest ∙ ap (λ m. entries_from ks os m) (sym at)) its.read-goal

    module _ (s : Scope) (mean : Means s (levels 0)) where
      pub goal-read : BodyAccepted ks os s r.at r.node (nodes - 1) (levels 0)
      goal-read =
          let h = most in
          let f = first in
          let a = all in
          record {
            means = mean;
            below = omega arith;
            sinks = subst (λ q. Sunk q r.node (nodes - 1)) (sym read) (sunk (omega arith));
          }

      -- the goal, compiled
      module _ (c : Compiled) (l1 l2 : List ℕ)
          (w : WhereBodyAccepted ks os s r.at r.node (nodes - 1)
          (λ e. (c ≡ compiled_with_sink e r.node) × (l2 ≡ stored_body e sinks.Publish r.node l1))) where
        goal : c ≡ compiled_with_sink (got its.goal) r.node
        goal = (w (levels 0) goal-read).0 ∙ ap (λ q. compiled_with_sink q r.node) read

        ends : c.node ≡ definition_list_nodes its.definitions.value + (node_count its.goal.value + 1)
        ends = let e = ap (λ (x : Compiled). x.node) goal in let f = first in omega arith

        pub nodes-fit : c.node < 4096
        nodes-fit = let e = ends in let m = most in omega arith

        pub program-done : (ws l3 : List ℕ) → l1 ≡ stored_definitions (read_definition_list n 0 (entries ks os)) ws
            → l3 ≡ sets l2 0 (c.node ∷ n ∷ c.root ∷ []) → l3 ≡ stored_program (read_entries n (entries ks os)) ws
        unfolding construct
        program-done ws l3 e1 e3 =
            let same = its.value in
            all_words its.definitions.value its.goal.value ws l1 l2 l3 r.node c.node n c.root first
            (e1 ∙ ap (λ q. stored_definitions q ws) its.read-definitions)
            ((w (levels 0) goal-read).1 ∙ ap (λ q. stored_body q sinks.Publish r.node l1) read) e3
            (ends ∙ sym counted ∙ ap (λ p. length (construct p).nodes) same) (sym facts.many) (ap (λ (x : Compiled). x.root) goal)
            ∙ sym (ap (λ q. stored_program q ws) it.1 ∙ ap (λ p. written (construct p) ws) same)
