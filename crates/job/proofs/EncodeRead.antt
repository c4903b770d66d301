-- A program that the reader reads is well-formed, and the bytes that it read are its encoding. For lists that are not bytes the
-- first still holds: a list's numbers count only by the operands that they make. Assumes nothing.
use mathlib.Core.Path.{◌≡◌, refl, sym, ◌∙◌, ap, ap₂}
use mathlib.Core.Bool.{true}
use mathlib.Core.List.{List, [], ◌∷◌, ◌++◌, append_assoc, append-nil}
use Prim.Native.Nat.{ℕ, zero, suc, ◌+◌, ◌*◌, ◌≤◌}
use native.Mathlib.Omega.{arith}
use lib.ListN.{length, drop, length-drop}
use lib.Seq.{length-take-le}
use Rattle.job.specs.Test.{All, none, more}
use Rattle.job.specs.Number.{bytes}
use Rattle.job.specs.Syntax.{Definition, Program, formals_of, levels}
use Rattle.job.specs.Entry.{Entry, entry, entries, EntryKind, kind_of, row_holds, size_d, size_n, table_length}
use Rattle.job.specs.Encode.{encode_exp, encode_definitions, encode_entries, operand_bytes, encode}
use Rattle.job.specs.WellFormed.{Good, GoodDefinition, WellFormed}
use Rattle.job.specs.Read.{Got, got, ◌>>=◌, entry_at, need, is_definition, read_definition, read_program, leftovers}
use Rattle.job.specs.Read.{call_holds, definitions_hold}
use Rattle.job.specs.Read.{read_entries, read_bytes}
use Rattle.job.proofs.All.{All-drop}
use Rattle.job.proofs.Test.{leb-le, clash}
use Rattle.job.proofs.Number.{Byte}
use Rattle.job.proofs.Entry.{entry_of, kind-number, kind_bytes}
use Rattle.job.proofs.Entry.{length-entries, kind-bytes-entries, operand-bytes-entries, entries-short}
use Rattle.job.proofs.Read.{Yields, reads, refuses, says-bind, yields-got, yields-need, yields-map, yields-itself}
use Rattle.job.proofs.WellFormed.{CallRuleHolds}
use Rattle.job.proofs.Prefix.{Begins, next, begins-append, begins-rest, begins-length, begins-exact}
use Rattle.job.proofs.Table.{kind_part, operand_part, table-parts}
use Rattle.job.proofs.Sizes.{sizes-found}
use Rattle.job.proofs.FoundExpression.{exp-found}

-- definitions and programs

record FoundDefinition (formals : List ℕ) (es : List Entry) (g : Got Definition) : Type 0 where
  good : GoodDefinition formals g.value
  begins : Begins (entry 6 g.value.formals ∷ encode_exp g.value.body) es g.rest

pub definition-kind : (n : ℕ) → is_definition (kind_of n) ≡ true → n ≡ 6
unfolding is_definition
definition-kind n t = go (kind_of n) refl t
  where
    go : (k : EntryKind) → kind_of n ≡ k → is_definition k ≡ true → n ≡ 6
    go EntryKind.stop q t = clash t refl
    go EntryKind.site q t = clash t refl
    go EntryKind.call q t = clash t refl
    go EntryKind.par q t = clash t refl
    go EntryKind.seq q t = clash t refl
    go EntryKind.prune q t = clash t refl
    go EntryKind.definition q t = kind-number n EntryKind.definition q
    go EntryKind.variable q t = clash t refl
    go EntryKind.constant q t = clash t refl
    go EntryKind.unknown q t = clash t refl

definition-found : (formals : List ℕ) (e : ℕ) (es : List Entry) → All (CallRuleHolds formals) es
    → Yields (FoundDefinition formals es) (read_definition e es)
unfolding read_definition ◌>>=◌ entry_at row_holds
definition-found formals e [] holds = (refuses tt)
definition-found formals e (x ∷ rest) (more _ holds) =
    yields-need _ _ e _ λ k.
    yields-need (row_holds EntryKind.definition x.operand) _ e _ λ l.
    says-bind _ (exp-found formals 24 (levels x.operand) (suc e) rest holds) λ b h.
    reads (record {
      good = record { count = leb-le _ 4 l; body = h.good };
      begins = next (λ s. entry_of x 6 _ (definition-kind _ k) refl) h.begins;
    })

pub record FoundProgram (formals : List ℕ) (n : ℕ) (es : List Entry) (g : Got Program) : Type 0 where
  pub count : length g.value.definitions ≡ n
  pub bodies : All (GoodDefinition formals) g.value.definitions
  pub goal : Good formals 24 [] g.value.goal
  pub begins : Begins (encode_entries g.value) es g.rest

pub program-found : (formals : List ℕ) (n e : ℕ) (es : List Entry) → All (CallRuleHolds formals) es
    → Yields (FoundProgram formals n es) (read_program n e es)
unfolding read_program encode_entries encode_definitions
program-found formals zero e es holds =
    says-bind _ (exp-found formals 24 [] e es holds) λ g h.
    reads (record { count = refl; bodies = none; goal = h.good; begins = h.begins })
program-found formals (suc n) e es holds =
    says-bind _ (definition-found formals e es holds) λ d h.
    says-bind _ (program-found formals n d.next d.rest (begins-rest h.begins holds)) λ p hs.
    reads (record {
      count = ap suc hs.count;
      bodies = more h.good hs.bodies;
      goal = hs.goal;
      begins = rw append_assoc (begins-append h.begins hs.begins);
    })

-- the entries and the bytes of a table

leftovers-found : (e : ℕ) (es : List Entry) → Yields (λ _. es ≡ []) (leftovers e es)
unfolding leftovers need
leftovers-found e [] = reads refl
leftovers-found e (x ∷ es) = (refuses tt)

holds-found : (formals : List ℕ) (e : ℕ) (es : List Entry) → Yields (λ _. All (CallRuleHolds formals) es) (definitions_hold formals e es)
unfolding definitions_hold need
holds-found formals e [] = reads none
holds-found formals e (x ∷ es) =
    yields-need (call_holds formals x) _ _ _ λ t.
    yields-map (λ _ ts. more t ts) (holds-found formals (suc e) es)

record FoundEntries (n : ℕ) (es : List Entry) (g : Got Program) : Type 0 where
  program : FoundProgram (formals_of g.value.definitions) n es g
  ends : g.rest ≡ []

entries-found : (n : ℕ) (es : List Entry) → Yields (FoundEntries n es) (read_entries n es)
unfolding read_entries
entries-found n es =
    says-bind _ (yields-itself (read_program n 0 es)) λ p is.
    says-bind _ (leftovers-found p.next p.rest) λ _ ends.
    says-bind _ (holds-found (formals_of p.value.definitions) 0 es) λ _ holds.
    reads (record { program = yields-got (program-found _ n 0 es holds) is; ends = ends })

module _ {n : ℕ} {es : List Entry} {g : Got Program} (found : FoundEntries n es g) where
  entries-exact : length (encode_entries g.value) ≡ length es
  entries-exact =
      let begun = begins-length found.program.begins in
      let ended : length g.rest ≡ 0 = ap length found.ends in
      omega arith

  found-well-formed : n ≤ 32 → length es ≤ 512 → WellFormed g.value
  found-well-formed d m =
      let D = found.program.count in
      let N = entries-exact in
      record { definitions = omega arith; entries = omega arith; bodies = found.program.bodies; goal = found.program.goal }

pub entries-well-formed : (n : ℕ) (es : List Entry) (g : Got Program) → n ≤ 32 → length es ≤ 512 → read_entries n es ≡ got g
    → WellFormed g.value
entries-well-formed n es g d m r = found-well-formed (yields-got (entries-found n es) r) d m

pub record FoundBytes (b : List ℕ) (g : Got Program) : Type 0 where
  pub well-formed : WellFormed g.value
  pub exact : All Byte b → b ≡ encode g.value

module _ (b : List ℕ) (four : 4 ≤ length b) (total : length b ≡ table_length b) where
  length-kind-part : length (kind_part b) ≡ size_n b
  length-kind-part = length-take-le (size_n b) (drop 4 b) (rw length-drop (omega arith))

  length-operand-part : length (operand_part b) ≡ 4 * length (kind_part b)
  length-operand-part = let z = length-kind-part in length-drop (4 + size_n b) b ∙ omega arith

  -- entries read from the parts of a table whose sizes are in range
  module _ (g : Got Program) (found : FoundEntries (size_d b) (entries (kind_part b) (operand_part b)) g) where
    entry-count : length (encode_entries g.value) ≡ size_n b
    entry-count =
        let read = length-entries (kind_part b) (operand_part b) in
        let kinds = length-kind-part in
        let exact = entries-exact found in
        omega arith

    found_here : size_d b ≤ 32 → size_n b ≤ 512 → WellFormed g.value
    found_here d n =
        let read = length-entries (kind_part b) (operand_part b) in
        let kinds = length-kind-part in
        found-well-formed found d (omega arith)

    found-exact : All Byte b → b ≡ encode g.value
    unfolding encode
    found-exact all =
        let es = encode_entries g.value in
        let ks = kind_part b in
        let os = operand_part b in
        let operands = All-drop (4 + size_n b) all in
        let short = entries-short ks os operands length-operand-part in
        let same = begins-exact found.program.begins short ∙ ap (◌++◌ es) found.ends ∙ append-nil es in
        let D : size_d b ≡ length g.value.definitions = sym found.program.count in
        let N : size_n b ≡ length es = sym entry-count in
        let K : ks ≡ kind_bytes es = sym (kind-bytes-entries ks os) ∙ ap kind_bytes same in
        let O : os ≡ operand_bytes es = sym (operand-bytes-entries ks os operands length-operand-part) ∙ ap operand_bytes same in
        sym (table-parts b all four) ∙ ap₂ ◌++◌ (ap₂ ◌++◌ (ap₂ ◌++◌ (ap (bytes 2) D) (ap (bytes 2) N)) K) O

pub bytes-found : (b : List ℕ) → Yields (FoundBytes b) (read_bytes b)
unfolding read_bytes
bytes-found b =
    says-bind _ (sizes-found b) λ _ sized.
    let four = sized.length-holds.sizes in
    let total = sized.length-holds.total in
    let d = sized.sizes-hold.definitions in
    let n = sized.sizes-hold.entries in
    yields-map
    (λ g h. record { well-formed = found_here b four total g h d n; exact = found-exact b four total g h })
    (entries-found (size_d b) (entries (kind_part b) (operand_part b)))
