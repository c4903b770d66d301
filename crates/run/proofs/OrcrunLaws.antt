-- The whole output, by the tests that lead to it: `long`, a declined table, or the run of an accepted one. Assumes nothing.
use mathlib.Core.Path.{◌≡◌, refl, sym, ◌∙◌, ap, ap₂}
use mathlib.Core.Bool.{Bool, true, false}
use mathlib.Core.List.{List, [], ◌∷◌}
use Prim.Native.Nat.{ℕ, ◌-◌, ◌<◌, ◌≤◌}
use native.Mathlib.Omega.{arith}
use lib.ListN.{length, take, drop, drop_of_length-le, length-drop}
use lib.Seq.{take_all}
use lib.Dec.{leb}
use Rattle.job.specs.Syntax.{Program}
use Rattle.job.specs.Entry.{table_length}
use Rattle.job.specs.Read.{Answer, accepted, declined, read_table}
use Rattle.job.specs.Construct.{construct}
use Rattle.job.specs.Words.{dag_of}
use Rattle.model.specs.Output.Line.{text_of_all, table, long}
use Rattle.model.specs.Output.Orcrun.{run_lines, table_lines, input_lines, orcrun}
use Rattle.model.specs.Machine.Limits.{paper}
use Rattle.job.proofs.Test.{leb-le, le-leb, not-leb-lt, lt-not-leb}
use Rattle.job.proofs.Accepted.{accepted-well-formed}
use Rattle.model.proofs.Machine.StartAccepted.{words-construct}
use Rattle.job.proofs.DeclinedAt.{declined-at}
use Rattle.loader.specs.TableLoaded.{loaded, loaded_words}
use Rattle.std.specs.Prelude.{Ok, Err}
use Rattle.entries.specs.Refusal.{number_of, refused_as}
use Rattle.entries.specs.declared.refusal.Refused.{Refused}
use Rattle.entries.proofs.RefusalNumbers.{clash, same-case, numbered}
use Rattle.run.specs.Input.{table_end, dag_after}
use Rattle.house.specs.LoadedDag.{Accepted}

-- what was loaded is the reader's answer
declined-of : (a : Answer) (x : Refused) → Err x ≡ loaded a → (n : ℕ) × (e : ℕ) × (a ≡ declined n e) × (x ≡ refused_as n e)
unfolding loaded
declined-of (accepted p) x q = clash (sym q)
declined-of (declined n e) x q = (n, e, refl, same-case q)

accepted-of : (a : Answer) (k : ℕ) → Ok k ≡ loaded a → (p : Program) × (a ≡ accepted p)
unfolding loaded
accepted-of (accepted p) k q = (p, refl)
accepted-of (declined n e) k q = clash q

module _ (s : List ℕ) where
  -- "the first 4 + 5N bytes, or all if there are fewer"
  cut : (b : Bool) → leb (table_length s) (length s) ≡ b
      → (take (table_end s) s ≡ take (table_length s) s) × (drop (table_end s) s ≡ drop (table_length s) s)
  unfolding table_end
  cut true e = rw (e, table_end) (refl, refl)
  cut false e =
      let l = not-leb-lt (table_length s) (length s) e in
      rw (e, table_end) (
        take_all (length s) s (omega arith) ∙ sym (take_all (table_length s) s (omega arith)),
        drop_of_length-le s {i = length s} (omega arith) ∙ sym (drop_of_length-le s {i = table_length s} (omega arith)),
      )

  end-inside : (b : Bool) → leb (table_length s) (length s) ≡ b → table_end s ≤ length s
  unfolding table_end
  end-inside true e = rw (e, table_end) (leb-le (table_length s) (length s) e)
  end-inside false e = rw (e, table_end) (omega arith)

module _ (s : List ℕ) (end : ℕ) (is : end ≡ table_end s) where
  front : take (end - 0) s ≡ take (table_length s) s
  front = let z : end - 0 ≡ table_end s = omega arith in ap (λ (n : ℕ). take n s) z ∙ (cut s _ refl).0

  back : take (length s - end) (drop end s) ≡ drop (table_length s) s
  back =
      take_all (length s - end) (drop end s) (let z = length-drop end s in omega arith)
      ∙ ap (λ (n : ℕ). drop n s) is
      ∙ (cut s _ refl).1

  pub inside : end ≤ length s
  inside = let z = end-inside s _ refl in omega arith

  -- a declined table
  pub entry-small : (x : Refused) → Err x ≡ loaded (read_table (take (end - 0) s)) → x.entry ≤ 512
  entry-small x q =
      let d = declined-of _ x q in
      let l = declined-at _ d.0 d.1 d.2 in
      let e : x.entry ≡ d.1 = ap (λ (x : Refused). x.entry) d.3 in
      omega arith

  module _ (short : length s ≤ 65536) where
    lines_are : input_lines paper 100000 s ≡ table_lines paper 100000 (drop (table_length s) s) (read_table (take (table_length s) s))
    unfolding input_lines
    lines_are = rw (le-leb (length s) 65536 short, input_lines) refl

    text-is : (a : Answer) → read_table (take (end - 0) s) ≡ a → text_of_all (table_lines paper 100000 (drop (table_length s) s) a) ≡
        orcrun s
    unfolding orcrun
    text-is a e =
        ap (λ (u : Answer). text_of_all (table_lines paper 100000 (drop (table_length s) s) u)) (sym (ap read_table (sym front) ∙ e))
        ∙ ap text_of_all (sym lines_are)

    pub whole-table : (x : Refused) → Err x ≡ loaded (read_table (take (end - 0) s)) → (n : ℕ) → n ≡ number_of x.why
        → text_of_all (table n x.entry ∷ []) ≡ orcrun s
    unfolding table_lines
    whole-table x q n en =
        let d = declined-of _ x q in
        let e : x.entry ≡ d.1 = ap (λ (x : Refused). x.entry) d.3 in
        let m : n ≡ d.0 = en ∙ ap (λ (x : Refused). number_of x.why) d.3 ∙ numbered _ d.0 d.1 d.2 in
        ap₂ (λ n e. text_of_all (table n e ∷ [])) m e ∙ text-is (declined d.0 d.1) d.2

    pub dag-loaded : (d after : List ℕ) → after ≡ loaded_words (read_table (take (end - 0) s)) d → after ≡ dag_after s d
    unfolding dag_after
    dag-loaded d after e =
        e ∙ ap (λ (t : List ℕ). loaded_words (read_table t) d) front ∙ rw (le-leb (length s) 65536 short, dag_after) refl

    -- an accepted one
    module _ (words before : List ℕ) (k : ℕ) (size : length before ≡ 12331) (q : Ok k ≡ loaded (read_table (take (end - 0) s)))
        (w : words ≡ loaded_words (read_table (take (end - 0) s)) before) where
      read : (p : Program) × (read_table (take (end - 0) s) ≡ accepted p)
      read = accepted-of _ k q

      holds : dag_of words ≡ construct read.0
      unfolding loaded_words
      holds =
          ap dag_of (w ∙ ap (λ (a : Answer). loaded_words a before) read.1)
          ∙ words-construct read.0 before (accepted-well-formed _ read.0 read.1) size

      pub run-accepted : Accepted words
      run-accepted = record { table = take (end - 0) s; program = read.0; read = read.1; holds = holds }

      pub whole_run : text_of_all (run_lines paper 100000 (dag_of words) (take (length s - end) (drop end s))) ≡ orcrun s
      unfolding table_lines
      whole_run =
          ap (λ d. text_of_all (run_lines paper 100000 d (take (length s - end) (drop end s)))) holds
          ∙ ap (λ (r : List ℕ). text_of_all (run_lines paper 100000 (construct read.0) r)) back
          ∙ text-is (accepted read.0) read.1

pub whole_long : (s : List ℕ) → 65536 < length s → text_of_all (long ∷ []) ≡ orcrun s
unfolding orcrun input_lines
whole_long s l = rw (lt-not-leb (length s) 65536 l, input_lines) refl

pub dag-long : (s d : List ℕ) → 65536 < length s → d ≡ dag_after s d
unfolding dag_after
dag-long s d l = rw (lt-not-leb (length s) 65536 l, dag_after) refl
