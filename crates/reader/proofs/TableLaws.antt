-- A table: its two sizes are four bytes and its parts stand behind them, so each test of the code is one of the definitions', and what is
-- left is the answer for its entries. Assumes nothing.
use Prim.Native.Nat.{ℕ, zero, suc, ◌+◌, ◌*◌, ◌-◌, ◌<◌, ◌≤◌}
use mathlib.Core.Path.{◌≡◌, refl, sym, ap, ap₂, ◌∙◌}
use mathlib.Core.List.{List, [], ◌∷◌, ◌++◌}
use native.Mathlib.Numerals.{add-one}
use native.Mathlib.Omega.{arith}
use lib.ListN.{length, get_or, set, take, drop, length-drop, length-map}
use lib.Seq.{sets, drop-cons, take_all, length-take-le}
use Rattle.std.proofs.lemmas.List.{take-append-drop, set-append_left, length-set}
use lib.Dec.{leb}
use Rattle.std.specs.Prelude.{Result, Ok, Err}
use Rattle.job.specs.Test.{◌and◌}
use Rattle.job.specs.Number.{number}
use Rattle.job.specs.Syntax.{Definition, Program}
use Rattle.job.specs.Entry.{Entry, entries, size_d, size_n, table_length, table_entries}
use Rattle.job.specs.Construct.{construct}
use Rattle.job.specs.Read.{Got, Read, got, refused, ◌>>=◌, gives, need, read_definition, read_entries, read_sizes, read_bytes, Answer}
use Rattle.job.specs.Read.{accepted, declined, reader_answer, read_table}
use Rattle.job.proofs.Test.{eq-eqb, ne_eqb, le-leb, lt-not-leb}
use Rattle.job.proofs.Read.{Yields, reads, says-bind, yields-map, yields-itself}
use Rattle.job.proofs.Sizes.{sizes-found, sizes-pass}
use Rattle.entries.specs.Checked.{Checked, checked_program}
use Rattle.entries.specs.Refusal.{refused_as}
use Rattle.entries.specs.declared.checked.Extent.{Extent}
use Rattle.entries.specs.declared.refusal.Refused.{Refused}
use Rattle.entries.specs.declared.refusal.TableRefusal.TheVariants as refusals
use Rattle.reader.specs.Definition.{definition_nodes, definition_sizes, and_then, definitions_found}
use Rattle.reader.specs.Table.{tested, where_sized, sizes_kept}
use Rattle.entries.proofs.CheckedLaws.{answered-refused, checked-next}
use Rattle.entries.proofs.RefusalNumbers.{clash, same-case}
use Rattle.reader.proofs.ProgramParts.{parted, all_found}

-- two bytes at an index
pub half_at : (s : List ℕ) (i : ℕ) → i + 2 ≤ length s → number (take 2 (drop i s)) ≡ get_or s i 0 + 256 * get_or s (i + 1) 0
unfolding number
half_at s i l = rw (add-one, drop-cons s i 0 (omega arith), drop-cons s (suc i) 0 (omega arith)) (omega arith)

-- stores in the first of two parts
sets-append_left : (xs ys : List ℕ) (i : ℕ) (ws : List ℕ) → i + length ws ≤ length xs → sets (xs ++ ys) i ws ≡ sets xs i ws ++ ys
sets-append_left xs ys i [] h = refl
sets-append_left xs ys i (w ∷ ws) h =
    ap (λ l. sets l (suc i) ws) (set-append_left xs ys i w (omega arith))
    ∙ sets-append_left (set xs i w) ys (suc i) ws (omega (arith, length-set xs i w))

-- no more are found than are asked for
found_few : (n e : ℕ) (es : List Entry) → length (definitions_found n e es) ≤ n
unfolding definitions_found and_then
found_few zero e es = omega arith
found_few (suc n) e es = go (read_definition e es) (found_few n)
  where
    go : (r : Read Definition) → ((e : ℕ) (es : List Entry) → length (definitions_found n e es) ≤ n)
        → length (and_then r (λ d. definitions_found n d.next d.rest)) ≤ suc n
    go (got d) few = omega (arith, few d.next d.rest)
    go (refused k i) few = omega arith

-- the two sizes, and the parts that the code takes by them
module _ (t : List ℕ) where
  pub definition-count : 4 ≤ length t → (d : ℕ) → d ≡ get_or t 0 0 + 256 * get_or t 1 0 → size_d t ≡ d
  definition-count l d e = half_at t 0 (omega arith) ∙ sym e

  pub entry-count : 4 ≤ length t → (n : ℕ) → n ≡ get_or t 2 0 + 256 * get_or t 3 0 → size_n t ≡ n
  entry-count l n e = half_at t 2 (omega arith) ∙ sym e

  pub part-entries : (n : ℕ) → size_n t ≡ n
      → entries (take (4 + n - 4) (drop 4 t)) (take (length t - (4 + n)) (drop (4 + n) t)) ≡ table_entries t
  part-entries n e =
      let a : 4 + n - 4 ≡ n = omega arith in
      ap₂ (λ k os. entries (take k (drop 4 t)) os) a (take_all (length t - (4 + n)) (drop (4 + n) t) (omega (arith, length-drop (4 + n) t)))
      ∙ ap (λ n. entries (take n (drop 4 t)) (drop (4 + n) t)) (sym e)

module _ (t s : List ℕ) where
  -- the code's answer, and what it keeps
  abbrev Tests : Result ℕ Refused → List ℕ → Type 0
  Tests r s1 = (r ≡ tested (read_table t)) × (s1 ≡ sets s 0 (sizes_kept t))

  -- a table that is declined by its sizes
  decline : (k : ℕ) → read_sizes t ≡ refused k 0 → Tests (Err (refused_as k 0)) s
  unfolding read_table read_bytes reader_answer tested sizes_kept where_sized ◌>>=◌
  decline k h = (rw h, rw h)

  pub table-short : length t < 4 → Tests (Err (record { why = refusals.Length; entry = 0 })) s
  unfolding read_sizes need ◌>>=◌
  table-short h = decline 1 (rw (lt-not-leb 4 (length t) h))

  module _ (n : ℕ) (l : 4 ≤ length t) (en : n ≡ get_or t 2 0 + 256 * get_or t 3 0) where
    pub table-uneven : (length t ≡ 4 + 5 * n → ⊥) → Tests (Err (record { why = refusals.Length; entry = 0 })) s
    unfolding read_sizes need ◌>>=◌
    table-uneven h = decline 1 (rw (le-leb 4 (length t) l, entry-count t l n en, ne_eqb (length t) (4 + 5 * n) h))

    module _ (c : ℕ) (ec : c ≡ get_or t 0 0 + 256 * get_or t 1 0) (e : length t ≡ 4 + 5 * n) where
      -- the last test
      ranges : read_sizes t ≡ need (leb c 32 and leb 1 n and leb n 512) 2 0
      unfolding read_sizes need ◌>>=◌
      ranges = rw (le-leb 4 (length t) l, entry-count t l n en, eq-eqb (length t) (4 + 5 * n) e, definition-count t l c ec)

      pub table-definitions : 32 < c → Tests (Err (record { why = refusals.Sizes; entry = 0 })) s
      unfolding need ◌and◌
      table-definitions h = decline 2 (ranges ∙ rw (lt-not-leb c 32 h))

      module _ (f : c ≤ 32) where
        pub table_empty : n < 1 → Tests (Err (record { why = refusals.Sizes; entry = 0 })) s
        unfolding need ◌and◌
        table_empty h = decline 2 (ranges ∙ rw (le-leb c 32 f, lt-not-leb 1 n h))

        module _ (z : 1 ≤ n) where
          pub table-long : 512 < n → Tests (Err (record { why = refusals.Sizes; entry = 0 })) s
          unfolding need ◌and◌
          table-long h = decline 2 (ranges ∙ rw (le-leb c 32 f, le-leb 1 n z, lt-not-leb n 512 h))

          -- the sizes that are lent, one for each definition, and those that stay behind them
          module _ (m : n ≤ 512) (long : 32 ≤ length s) (q : Checked)
              (eq : q ≡ checked_program (read_entries (length (take c s))
              (entries (take (4 + n - 4) (drop 4 t)) (take (length t - (4 + n)) (drop (4 + n) t)))))
              (lent : List ℕ)
              (es : lent ≡ sets (take c s) 0 (definition_sizes (definitions_found (length (take c s)) 0
              (entries (take (4 + n - 4) (drop 4 t)) (take (length t - (4 + n)) (drop (4 + n) t)))))) where
            sized : read_sizes t ≡ gives tt 0 []
            unfolding need ◌and◌
            sized = ranges ∙ rw (le-leb c 32 f, le-leb 1 n z, le-leb n 512 m)

            read : read_bytes t ≡ read_entries (size_d t) (table_entries t)
            unfolding read_bytes ◌>>=◌
            read = rw sized

            counted : length (take c s) ≡ size_d t
            counted = length-take-le c s (omega arith) ∙ sym (definition-count t l c ec)

            answer : q ≡ checked_program (read_entries (size_d t) (table_entries t))
            answer = eq ∙ ap₂ (λ c es. checked_program (read_entries c es)) counted (part-entries t n (entry-count t l n en))

            kept : lent ++ drop c s ≡ sets s 0 (sizes_kept t)
            unfolding sizes_kept where_sized
            kept =
                let ds = definitions_found (size_d t) 0 (table_entries t) in
                let few = found_few (size_d t) 0 (table_entries t) in
                let same = definition-count t l c ec in
                let room = length-take-le c s (omega arith) in
                let many = length-map ds definition_nodes in
                ap (λ l. l ++ drop c s)
                (es ∙ ap₂ (λ c' es. sets (take c s) 0 (definition_sizes (definitions_found c' 0 es))) counted
                (part-entries t n (entry-count t l n en)))
                ∙ sym (sets-append_left (take c s) (drop c s) 0 (definition_sizes ds) (omega arith))
                ∙ ap (λ l. sets l 0 (definition_sizes ds)) (take-append-drop c s)
                ∙ sym (rw sized)

            pub table-refused : (x : Refused) → q ≡ Err x → Tests (Err x) (lent ++ drop c s)
            unfolding read_table reader_answer tested
            table-refused x h =
                let r = answered-refused _ (read_entries (size_d t) (table_entries t)) x (sym answer ∙ h) in
                (sym (ap (λ b. tested (reader_answer b)) (read ∙ r.2) ∙ ap Err r.3), kept)

            pub table-accepted : (x : Extent) → q ≡ Ok x → Tests (Ok x.nodes) (lent ++ drop c s)
            unfolding read_table reader_answer tested
            table-accepted x h =
                let r = checked-next (λ p. length (construct p).nodes) (read_entries (size_d t) (table_entries t)) x (sym answer ∙ h) in
                (ap Ok (sym r.3) ∙ sym (ap (λ b. tested (reader_answer b)) (read ∙ r.1)), kept)

-- what an accepted table has
pub record Accepts (t : List ℕ) (p : Got Program) : Type 0 where
  pub long : 4 ≤ length t
  pub even : length t ≡ table_length t
  pub definitions : size_d t ≤ 32
  pub few : size_n t ≤ 512
  pub read : read_entries (size_d t) (table_entries t) ≡ got p
  pub kept : sizes_kept t ≡ definition_sizes p.value.definitions

kept-all : (t : List ℕ) (u : Got (Unit {0})) (p : Got Program) → read_sizes t ≡ got u → read_entries (size_d t) (table_entries t) ≡ got p
    → sizes_kept t ≡ definition_sizes p.value.definitions
unfolding sizes_kept where_sized
kept-all t u p s r =
    let parts = parted (size_d t) (table_entries t) p r in
    rw s (ap definition_sizes (all_found (size_d t) 0 (table_entries t) parts.definitions parts.read-definitions
    ∙ ap (λ (p : Program). p.definitions) (sym parts.value)))

bytes-accepted : (t : List ℕ) → Yields (Accepts t) (read_bytes t)
unfolding read_bytes
bytes-accepted t =
    says-bind _ (sizes-found t) λ _ sized.
    yields-map
    (λ p r. record {
      long = sized.length-holds.sizes;
      even = sized.length-holds.total;
      definitions = sized.sizes-hold.definitions;
      few = sized.sizes-hold.entries;
      read = r;
      kept = kept-all t _ p (sizes-pass t sized) r;
    })
    (yields-itself (read_entries (size_d t) (table_entries t)))

-- what the answer says
module _ (t : List ℕ) (r : Result ℕ Refused) (er : r ≡ tested (read_table t)) where
  pub table-declined : (x : Refused) → r ≡ Err x → (k : ℕ) × (e : ℕ) × (read_table t ≡ declined k e) × (refused_as k e ≡ x)
  unfolding tested
  table-declined x h = go (read_table t) (sym er ∙ h)
    where
      go : (a : Answer) → tested a ≡ Err x → (k : ℕ) × (e : ℕ) × (a ≡ declined k e) × (refused_as k e ≡ x)
      go (accepted p) q = clash q
      go (declined k e) q = (k, e, refl, same-case q)

  pub table-read : (k : ℕ) → r ≡ Ok k
      → (p : Got Program) × (read_table t ≡ accepted p.value) × (length (construct p.value).nodes ≡ k) × Accepts t p
  unfolding read_table reader_answer tested
  table-read k h = go (read_bytes t) refl (bytes-accepted t) (sym er ∙ h)
    where
      go : (b : Read Program) → read_bytes t ≡ b → Yields (Accepts t) b → tested (reader_answer b) ≡ Ok k
          → (p : Got Program) × (read_table t ≡ accepted p.value) × (length (construct p.value).nodes ≡ k) × Accepts t p
      go (got p) e (reads a) q = (p, ap reader_answer e, (cc), a)
      go (refused n i) e y q = clash (sym q)
