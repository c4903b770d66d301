-- Where an input's table ends. By the definition of the length that N gives. Assumes nothing.
use mathlib.Core.Path.{◌≡◌, refl, sym, ◌∙◌}
use mathlib.Core.List.{List}
use Prim.Native.Nat.{ℕ, ◌+◌, ◌*◌, ◌<◌, ◌≤◌, min}
use native.Mathlib.Decide.{dec_lt}
use native.Mathlib.Omega.{arith}
use lib.ListN.{length, get_or}
use Rattle.job.specs.Entry.{table_length}
use Rattle.job.proofs.Test.{le-leb, lt-not-leb}
use Rattle.reader.proofs.TableLaws.{half_at}
use Rattle.run.specs.Input.{table_end}

ends-all : (s : List ℕ) → length s < table_length s → length s ≡ table_end s
unfolding table_end
ends-all s l = rw (lt-not-leb (table_length s) (length s) l, table_end) refl

pub table-all : (s : List ℕ) → length s < 4 → length s ≡ table_end s
table-all s l = ends-all s (omega arith)

module _ (s : List ℕ) (n e : ℕ) (l : 4 ≤ length s) (h : n ≡ get_or s 2 0 + 256 * get_or s 3 0) (q : e ≡ 4 + 5 * n) where
  sized : table_length s ≡ e
  sized = let z = half_at s 2 (omega arith) in omega arith

  pub table-cut : length s < e → length s ≡ table_end s
  table-cut f = ends-all s (omega (arith, sized))

  pub table-there : e ≤ length s → e ≡ table_end s
  unfolding table_end
  table-there f = rw (le-leb (table_length s) (length s) (omega (arith, sized)), table_end) (sym sized)

  pub table-least : min e (length s) ≡ table_end s
  table-least = go (dec_lt (length s) e)
    where
      go : Dec (length s < e) → min e (length s) ≡ table_end s
      go (yes f) = let all : min e (length s) ≡ length s = omega arith in all ∙ table-cut f
      go (no f) = let part : min e (length s) ≡ e = omega arith in part ∙ table-there (omega arith)
