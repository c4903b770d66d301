-- The loop over the definitions: those that are done stand in front of what is left to read, and what is kept of them at the front of the
-- arrays. Assumes nothing.
use mathlib.Core.Path.{◌≡◌, refl, sym, ◌∙◌, ap, ap₂}
use mathlib.Core.List.{List, [], ◌∷◌, ◌++◌, map, append_assoc, append-nil}
use Prim.Native.Nat.{ℕ, suc, ◌+◌, ◌*◌, ◌-◌, ◌<◌, ◌≤◌}
use native.Mathlib.Nat.{zero-add}
use native.Mathlib.Omega.{arith}
use native.Mathlib.Decide.{dec_lt}
use lib.ListN.{length, get_or, drop, set, length-append, length-map}
use lib.Seq.{sets}
use Rattle.job.specs.Syntax.{Exp, Definition, levels, formals_of}
use Rattle.job.specs.Entry.{entries, operand_at, EntryKind, kind_of, row_holds}
use Rattle.job.specs.Read.{Got, Read, got, refused, ◌>>=◌, gives, need, entry_at, read_exp, is_definition, read_definition}
use Rattle.job.proofs.Test.{leb-le}
use Rattle.job.proofs.Stores.{sets-append}
use Rattle.job.proofs.Position.{entries-end, entries_at, bind-got, refused-got, same-got, test-holds, exp-from}
use Rattle.job.proofs.Entry.{length-entries}
use Rattle.entries.specs.Parts.{entries_from}
use Rattle.entries.specs.Checked.{answered, Checked}
use Rattle.reader.specs.Definition.{read_definition_list, definition_nodes, definition_list_nodes, definition_sizes, checked_definition}
use Rattle.reader.specs.Definition.{checked_definition_list, and_then, definitions_found, DefinitionsHold}
use Rattle.std.specs.Prelude.{Ok, Err}
use Rattle.entries.specs.declared.checked.Extent.{Extent}
use Rattle.entries.specs.declared.refusal.Refused.{Refused}
use Rattle.entries.proofs.CheckedLaws.{answered-refused, checked-next}
use Rattle.entries.proofs.ExpressionNodes.{read-few}

-- a definition that was read from entry `at` on, and its body
pub record Defined (ks os : List ℕ) (at : ℕ) (g : Got Definition) : Type 0 where
  pub body : Got Exp
  pub read : read_exp 24 (levels (operand_at os at)) (suc at) (entries_from ks os (suc at)) ≡ got body
  pub value : g.value ≡ record { formals = operand_at os at; body = body.value }
  pub next : g.next ≡ body.next
  pub rest : g.rest ≡ entries_from ks os g.next
  pub last : g.next ≤ length ks
  pub here : at < length ks
  pub small : operand_at os at ≤ 4
  pub few : definition_nodes g.value + 2 + 2 * at ≤ 2 * g.next

body-defined : (ks os : List ℕ) (at : ℕ) (b : Got Exp) → at < length ks → operand_at os at ≤ 4
    → read_exp 24 (levels (operand_at os at)) (suc at) (entries_from ks os (suc at)) ≡ got b
    → Defined ks os at (record { value = record { formals = operand_at os at; body = b.value }; next = b.next; rest = b.rest })
body-defined ks os at b l m r =
    let scope = levels (operand_at os at) in
    let f = exp-from (entries ks os) 24 scope (suc at) (entries_from ks os (suc at)) b refl r in
    let few = (read-few ks os 24 scope (suc at) b r).few in
    let last = f.last in
    record {
      body = b;
      read = r;
      value = refl;
      next = refl;
      rest = f.rest;
      last = omega (arith, length-entries ks os);
      here = l;
      small = m;
      few = omega arith;
    }

pub defined : (ks os : List ℕ) (at : ℕ) (g : Got Definition) → read_definition at (entries_from ks os at) ≡ got g → Defined ks os at g
unfolding read_definition entry_at row_holds ◌>>=◌
defined ks os at g r = go (dec_lt at (length ks))
  where
    go : Dec (at < length ks) → Defined ks os at g
    go (no f) = refused-got (ap (read_definition at) (sym (entries-end ks os at (omega arith))) ∙ r)
    go (yes l) =
        let o = operand_at os at in
        let a =
        bind-got (need (is_definition (kind_of (get_or ks at 0))) 3 at) _ g (ap (read_definition at) (sym (entries_at ks os at l)) ∙ r) in
        let b = bind-got (need (row_holds EntryKind.definition o) 4 at) _ g a.2 in
        let c = bind-got (read_exp 24 (levels o) (suc at) (drop (suc at) (entries ks os))) _ g b.2 in
        same-got (Defined ks os at) _ g c.2 (body-defined ks os at c.0 l (leb-le o 4 (test-holds _ 4 at b.0 b.1)) c.1)

-- definitions in front of those that a reading gives
pub prefixed : List Definition → Read (List Definition) → Read (List Definition)
prefixed ds r = r >>= (λ g. gives (ds ++ g.value) g.next g.rest)

prefixed-none : (r : Read (List Definition)) → r ≡ prefixed [] r
unfolding prefixed ◌>>=◌
prefixed-none (got g) = refl
prefixed-none (refused n e) = refl

prefixed-more : (ds : List Definition) (d : Definition) (r : Read (List Definition))
    → prefixed ds (r >>= (λ g. gives (d ∷ g.value) g.next g.rest)) ≡ prefixed (ds ++ (d ∷ [])) r
unfolding prefixed ◌>>=◌
prefixed-more ds d (got g) = rw append_assoc
prefixed-more ds d (refused n e) = refl

nodes-more : (ds : List Definition) (d : Definition) → definition_list_nodes (ds ++ (d ∷ [])) ≡ definition_list_nodes ds +
    definition_nodes d
unfolding definition_list_nodes
nodes-more [] d = omega arith
nodes-more (x ∷ ds) d = omega (arith, nodes-more ds d)

map_more : (f : Definition → ℕ) (ds : List Definition) (d : Definition) → map f (ds ++ (d ∷ [])) ≡ map f ds ++ (f d ∷ [])
map_more f [] d = refl
map_more f (x ∷ ds) d = ap (λ l. f x ∷ l) (map_more f ds d)

-- one more number is kept behind those that are done
kept_more : (f : Definition → ℕ) (ds : List Definition) (d : Definition) (l₀ l : List ℕ) (i x : ℕ) → length ds ≡ i
    → l ≡ sets l₀ 0 (map f ds)
    → x ≡ f d → set l i x ≡ sets l₀ 0 (map f (ds ++ (d ∷ [])))
kept_more f ds d l₀ l i x many e ex =
    ap₂ (λ l x. set l i x) e ex
    ∙ sym (ap (sets l₀ 0) (map_more f ds d)
    ∙ sets-append l₀ 0 (map f ds) (f d ∷ [])
    ∙ ap (λ k. sets (sets l₀ 0 (map f ds)) k (f d ∷ [])) (zero-add (length (map f ds)) ∙ length-map ds f ∙ many))

-- the loop's invariant: i definitions are done, and what is left is read from entry `at` on
pub record Reading (count : ℕ) (ks os fs₀ ss₀ fs ss : List ℕ) (at nodes i : ℕ) : Type 0 where
  pub done : List Definition
  pub many : length done ≡ i
  pub most : i ≤ count
  pub rest : read_definition_list count 0 (entries ks os) ≡ prefixed done (read_definition_list (count - i) at (entries_from ks os at))
  pub found : definitions_found count 0 (entries ks os) ≡ done ++ definitions_found (count - i) at (entries_from ks os at)
  pub placed : nodes ≡ definition_list_nodes done
  pub few : nodes ≤ 2 * at
  pub last : at ≤ length ks
  pub counts : fs ≡ sets fs₀ 0 (formals_of done)
  pub counted : ss ≡ sets ss₀ 0 (definition_sizes done)

pub reading-start : (count : ℕ) (ks os fs ss : List ℕ) → Reading count ks os fs ss fs ss 0 0 0
unfolding definition_list_nodes
reading-start count ks os fs ss =
    let z : count ≡ count - 0 = omega arith in
    record {
      done = [];
      many = refl;
      most = omega arith;
      rest =
          prefixed-none (read_definition_list count 0 (entries ks os))
          ∙ ap (λ n. prefixed [] (read_definition_list n 0 (entries ks os))) z;
      found = ap (λ n. definitions_found n 0 (entries ks os)) z;
      placed = refl;
      few = omega arith;
      last = omega arith;
      counts = refl;
      counted = refl;
    }

-- the definitions behind the first
tail : ℕ → Got Definition → Read (List Definition)
tail n d = read_definition_list n d.next d.rest >>= (λ ds. gives (d.value ∷ ds.value) ds.next ds.rest)

module _ (count : ℕ) (ks os fs₀ ss₀ fs ss : List ℕ) (at nodes i : ℕ) (g : Reading count ks os fs₀ ss₀ fs ss at nodes i) where
  -- the code's answer, and what it keeps
  abbrev Answers : Checked → Type 0
  Answers r = DefinitionsHold count (entries ks os) r fs₀ fs ss₀ ss

  -- where no definition is found behind those that are done
  kept : (r : Checked) → r ≡ checked_definition_list (read_definition_list count 0 (entries ks os))
      → definitions_found (count - i) at (entries_from ks os at) ≡ [] → Answers r
  kept r e none =
      let all : g.done ≡ definitions_found count 0 (entries ks os) =
      sym (g.found ∙ ap (λ ds. g.done ++ ds) none ∙ append-nil g.done) in
      record {
        answers = e;
        counts = g.counts ∙ ap (λ ds. sets fs₀ 0 (formals_of ds)) all;
        counted = g.counted ∙ ap (λ ds. sets ss₀ 0 (definition_sizes ds)) all;
      }

  pub reading-end : count ≤ i → Answers (Ok (record { next = at; nodes = nodes }))
  unfolding read_definition_list definitions_found prefixed ◌>>=◌ answered
  reading-end l =
      let z : count - i ≡ 0 = omega (arith, g.most) in
      let e : read_definition_list count 0 (entries ks os) ≡ gives g.done at (entries_from ks os at) =
      g.rest
      ∙ ap (λ k. prefixed g.done (read_definition_list k at (entries_from ks os at))) z
      ∙ ap (λ ds. gives ds at (entries_from ks os at)) (append-nil g.done) in
      kept _ (rw e (ap (λ n. Ok (record { next = at; nodes = n })) g.placed)) (ap (λ k. definitions_found k at (entries_from ks os at)) z)

  module _ (l : i < count) (q : Checked) (eq : q ≡ checked_definition (read_definition at (entries_from ks os at))) where
    left : count - i ≡ suc (count - (i + 1))
    left = omega arith

    opened : read_definition_list count 0 (entries ks os)
        ≡ prefixed g.done (read_definition at (entries_from ks os at) >>= tail (count - (i + 1)))
    unfolding read_definition_list tail
    opened = g.rest ∙ ap (λ k. prefixed g.done (read_definition_list k at (entries_from ks os at))) left

    found-next : (r : Read Definition) → read_definition at (entries_from ks os at) ≡ r
        → definitions_found (count - i) at (entries_from ks os at)
        ≡ and_then r (λ d. definitions_found (count - (i + 1)) d.next d.rest)
    unfolding definitions_found
    found-next r e =
        ap (λ k. definitions_found k at (entries_from ks os at)) left
        ∙ ap (λ r. and_then r (λ d. definitions_found (count - (i + 1)) d.next d.rest)) e

    pub reading-refused : (x : Refused) → q ≡ Err x → Answers (Err x)
    unfolding prefixed ◌>>=◌ answered and_then
    reading-refused x h =
        let r = answered-refused _ (read_definition at (entries_from ks os at)) x (sym eq ∙ h) in
        let all = opened ∙ ap (λ r. prefixed g.done (r >>= tail (count - (i + 1)))) r.2 in
        kept (Err x) (rw all (ap Err (sym r.3))) (found-next (refused r.0 r.1) r.2)

    module _ (x : Extent) (h : q ≡ Ok x) where
      first : (a : Got Definition) × (read_definition at (entries_from ks os at) ≡ got a) × (a.next ≡ x.next)
          × (definition_nodes a.value ≡ x.nodes)
      first = checked-next definition_nodes (read_definition at (entries_from ks os at)) x (sym eq ∙ h)

      facts : Defined ks os at first.0
      facts = defined ks os at first.0 first.1

      pub reading-here : at < length ks
      reading-here = facts.here

      pub reading-fits : length ks ≤ 512 → nodes + x.nodes < 4096
      reading-fits k =
          let f = facts.few in
          let y = facts.last in
          let u = first.2 in
          let v = first.3 in
          let w = g.few in
          omega arith

      pub reading-size : length ks ≤ 512 → x.nodes < 4096
      reading-size k = let f = reading-fits k in omega arith

      pub reading-more : (o : ℕ) → o ≡ operand_at os at → count ≤ 32
          → Reading count ks os fs₀ ss₀ (set fs i o) (set ss i x.nodes) x.next (nodes + x.nodes) (i + 1)
      unfolding tail ◌>>=◌ and_then
      reading-more o eo k =
          let n = count - (i + 1) in
          let new = first.0.value in
          let f = facts.few in
          let y = facts.last in
          let u = first.2 in
          let v = first.3 in
          let w = g.few in
          let behind = facts.rest ∙ ap (λ k. entries_from ks os k) u in
          record {
            done = g.done ++ (new ∷ []);
            many = simp length-append (omega (arith, g.many));
            most = omega arith;
            rest =
                opened
                ∙ ap (λ r. prefixed g.done (r >>= tail n)) first.1
                ∙ prefixed-more g.done new (read_definition_list n first.0.next first.0.rest)
                ∙ ap₂ (λ k l. prefixed (g.done ++ (new ∷ [])) (read_definition_list n k l)) u behind;
            found =
                g.found
                ∙ ap (λ ds. g.done ++ ds) (found-next (got first.0) first.1)
                ∙ sym (append_assoc g.done (new ∷ []) (definitions_found n first.0.next first.0.rest))
                ∙ ap₂ (λ k l. (g.done ++ (new ∷ [])) ++ definitions_found n k l) u behind;
            placed = omega (arith, nodes-more g.done new, g.placed);
            few = omega arith;
            last = omega arith;
            counts =
                kept_more (λ d. d.formals) g.done new fs₀ fs i o g.many g.counts
                (eo ∙ sym (ap (λ (d : Definition). d.formals) facts.value));
            counted = kept_more definition_nodes g.done new ss₀ ss i x.nodes g.many g.counted (sym v);
          }
