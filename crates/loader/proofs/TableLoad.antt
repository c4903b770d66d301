-- A table that was tested: a refusal writes nothing; where it is accepted, its two parts and the sizes that were kept are what compiling
-- its program asks for. Assumes nothing.
use Prim.Native.Nat.{ℕ, ◌+◌, ◌*◌, ◌-◌, ◌<◌, ◌≤◌}
use mathlib.Core.Path.{◌≡◌, refl, sym, ap, ap₂, subst, ◌∙◌}
use mathlib.Core.List.{List}
use native.Mathlib.Omega.{arith}
use native.Mathlib.Decide.{dec_lt}
use Rattle.std.proofs.lemmas.List.{length-take}
use lib.ListN.{length, get_or, take, drop, length-map, get_or-eq_default}
use lib.Seq.{sets, get_or-take, get_or-drop, length-sets, length-take-le, take_all}
use Rattle.entries.specs.Parts.{AllBytes}
use Rattle.job.specs.Syntax.{Program}
use Rattle.job.specs.Entry.{entries}
use Rattle.job.specs.Construct.{construct}
use Rattle.job.specs.Read.{Got, got, read_entries, read_table, accepted}
use Rattle.job.proofs.Stores.{take-sets}
use Rattle.reader.specs.Definition.{definition_nodes, definition_sizes}
use Rattle.reader.specs.Table.{tested, sizes_kept}
use Rattle.std.specs.Prelude.{Result, Ok, Err}
use Rattle.entries.specs.declared.refusal.Refused.{Refused}
use Rattle.reader.proofs.ProgramParts.{all-defined, parted}
use Rattle.reader.proofs.TableLaws as tables
use Rattle.reader.proofs.TableLaws.{definition-count, entry-count, part-entries, table-declined, table-read}
use Rattle.loader.specs.TableLoaded.{loaded, loaded_words}
use Rattle.loader.specs.ProgramStored.{Accepts, accepts, stored_program}

-- a part of bytes is bytes
pub part-bytes : (t : List ℕ) → AllBytes t → (n m : ℕ) → AllBytes (take n (drop m t))
part-bytes t b n m i = go (dec_lt i n)
  where
    go : Dec (i < n) → get_or (take n (drop m t)) i 0 < 256
    go (yes l) = rw (get_or-take n (drop m t) i 0 l, get_or-drop m t i 0) (b (m + i))
    go (no f) =
        let s = length-take n (drop m t) in rw (get_or-eq_default (take n (drop m t)) 0 {n = i} (omega arith)) (omega arith)

module _ (t : List ℕ) (r : Result ℕ Refused) (er : r ≡ tested (read_table t)) where
  module _ (x : Refused) (h : r ≡ Err x) where
    pub refused-answer : Err x ≡ loaded (read_table t)
    unfolding loaded
    refused-answer = let d = table-declined t r er x h in ap Err (sym d.3) ∙ sym (ap loaded d.2)

    -- "A refusal leaves machine and dag as before the call"
    pub refused-words : (d : List ℕ) → d ≡ loaded_words (read_table t) d
    unfolding loaded_words
    refused-words d = rw ((table-declined t r er x h).2)

  module _ (k : ℕ) (h : r ≡ Ok k) where
    it : (p : Got Program) × (read_table t ≡ accepted p.value) × (length (construct p.value).nodes ≡ k) × tables.Accepts t p
    it = table-read t r er k h

    pub load-long : 4 ≤ length t
    load-long = it.3.long

    module _ (n : ℕ) (en : n ≡ get_or t 2 0 + 256 * get_or t 3 0) where
      pub load-even : length t ≡ 4 + 5 * n
      load-even = it.3.even ∙ ap (λ n. 4 + 5 * n) (entry-count t load-long n en)

      pub load-few : n ≤ 512
      load-few = let f = it.3.few in let e = entry-count t load-long n en in omega arith

      module _ (c : ℕ) (ec : c ≡ get_or t 0 0 + 256 * get_or t 1 0) where
        pub load-definitions : c ≤ 32
        load-definitions = let f = it.3.definitions in let e = definition-count t load-long c ec in omega arith

        read : (m : ℕ) → m ≡ c
            → read_entries m (entries (take (4 + n - 4) (drop 4 t)) (take (length t - (4 + n)) (drop (4 + n) t))) ≡ got it.0
        read m e =
            ap₂ read_entries (e ∙ sym (definition-count t load-long c ec)) (part-entries t n (entry-count t load-long n en)) ∙ it.3.read

        module _ (s s1 : List ℕ) (l : length s ≡ 32) (e : s1 ≡ sets s 0 (sizes_kept t)) where
          pub load-room : c ≤ length s1
          load-room =
              let long = ap length e ∙ length-sets s 0 (sizes_kept t) in
              let few = load-definitions in
              omega arith

          -- the sizes that are lent: one for each definition
          pub load-counted : length (take c s1) ≡ c
          load-counted = length-take-le c s1 load-room

          sizes : take c s1 ≡ definition_sizes it.0.value.definitions
          sizes =
              let es = entries (take (4 + n - 4) (drop 4 t)) (take (length t - (4 + n)) (drop (4 + n) t)) in
              let its = parted c es it.0 (read c refl) in
              let facts = all-defined _ _ c 0 es refl its.definitions its.read-definitions in
              let few = load-definitions in
              let ds = it.0.value.definitions in
              let many : length (definition_sizes ds) ≡ c =
              length-map ds definition_nodes ∙ ap (λ (p : Program). length p.definitions) its.value ∙ facts.many in
              ap₂ take (sym many) (e ∙ ap (sets s 0) it.3.kept) ∙ take-sets s (definition_sizes ds) (omega arith)

          pub load-accepts : Accepts
              (read_entries (length (take c s1)) (entries (take (4 + n - 4) (drop 4 t)) (take (length t - (4 + n)) (drop (4 + n) t)))) k
              (take c s1)
          load-accepts =
              subst (λ r. Accepts r k (take c s1)) (sym (read (length (take c s1)) load-counted))
              (accepts (sym it.2) (ap (λ ss. take (length ss) (take c s1)) (sym sizes) ∙ take_all _ (take c s1) (omega arith) ∙ sizes))

        pub load-done : (m : ℕ) → m ≡ c → (d d1 : List ℕ)
            → d1 ≡ stored_program (read_entries m (entries (take (4 + n - 4) (drop 4 t)) (take (length t - (4 + n)) (drop (4 + n) t)))) d
            → (Ok k ≡ loaded (read_table t)) × (d1 ≡ loaded_words (read_table t) d)
        unfolding loaded loaded_words
        load-done m em d d1 e = (
          sym (ap loaded it.1 ∙ ap Ok it.2),
          e ∙ ap (λ p. stored_program p d) (read m em) ∙ sym (ap (λ a. loaded_words a d) it.1),
        )
