-- The words of a start: all of them cleared, then four written. The others are those of a blank record, which are 0. Assumes nothing.
use mathlib.Core.Path.{◌≡◌, ap, ◌∙◌}
use mathlib.Core.List.{List}
use Prim.Native.Nat.{ℕ}
use lib.ListN.{set, replicate}
use Rattle.model.specs.Machine.Blank.{slot_at}
use Rattle.model.specs.Machine.Limits.{paper}
use Rattle.model.specs.Machine.Start.{start_machine}
use Rattle.record.specs.Layout.{row_of, cell_row, table_words, count_words, clock_words, parts, words_of}

pub started : (ws : List ℕ) (goal n : ℕ) → n ≡ 1863 → ws ≡ replicate n 0
    → set (set (set (set ws 0 1) 2 goal) 1792 1) 1796 31 ≡ words_of (start_machine paper goal)
unfolding words_of parts table_words row_of cell_row count_words clock_words slot_at
started ws goal n l e = ap (λ r. set (set (set (set r 0 1) 2 goal) 1792 1) 1796 31) (e ∙ ap (λ k. replicate k 0) l)
