-- The counts of a record and its clock: what their words say, and what writing one makes of it. Each stands at its own index behind the
-- tables. Assumes nothing.
use mathlib.Core.Path.{◌≡◌, ap, ◌∙◌}
use mathlib.Core.List.{List}
use Prim.Native.Nat.{ℕ, ◌+◌, ◌-◌, ◌<◌}
use native.Mathlib.Omega.{arith}
use lib.ListN.{length, get_or, set}
use Rattle.model.specs.Machine.Update.{with_counts, with_clock}
use Rattle.model.specs.declared.record.Machine.{Machine}
use Rattle.record.specs.Layout.{words_of, count_words, clock_words, parts}
use Rattle.record.specs.Holds.{Codes, Holds}
use Rattle.record.proofs.LayoutPart.{part-get, part-set}
use Rattle.record.proofs.LayoutParts.{sized, counts-stand, clock-stands, parts-long}
use Rattle.record.proofs.HoldsShape.{shaped, counts-hold, clock-holds}

module _ {ws : List ℕ} {m : Machine} (h : Codes ws m) where
  count_word : (i : ℕ) → i < 5 → get_or ws (1792 + i) 0 ≡ get_or (count_words m) i 0
  unfolding words_of
  count_word i l =
      ap (λ r. get_or r (1792 + i) 0) h.words
      ∙ part-get (counts-stand (sized h.shaped)) (count_words m) 5 (sized h.shaped).counts i l

  clock-word-at : (i : ℕ) → i < 2 → get_or ws (1861 + i) 0 ≡ get_or (clock_words m) i 0
  unfolding words_of
  clock-word-at i l =
      ap (λ r. get_or r (1861 + i) 0) h.words
      ∙ part-get (clock-stands (sized h.shaped)) (clock_words m) 2 (sized h.shaped).clock i l

  pub queued-word : get_or ws 1792 0 ≡ m.queued
  unfolding count_words
  queued-word = count_word 0 (omega arith)

  pub waiting-word : get_or ws 1793 0 ≡ m.waiting
  unfolding count_words
  waiting-word = count_word 1 (omega arith)

  pub calls-word : get_or ws 1794 0 ≡ m.calls
  unfolding count_words
  calls-word = count_word 2 (omega arith)

  pub last-token-word : get_or ws 1795 0 ≡ m.lasttoken
  unfolding count_words
  last-token-word = count_word 3 (omega arith)

  pub last-cell-word : get_or ws 1796 0 ≡ m.lastcell
  unfolding count_words
  last-cell-word = count_word 4 (omega arith)

  pub timed-word : get_or ws 1861 0 ≡ m.timed
  unfolding clock_words
  timed-word = clock-word-at 0 (omega arith)

  pub clock-word : get_or ws 1862 0 ≡ m.clock
  unfolding clock_words
  clock-word = clock-word-at 1 (omega arith)

  -- how many words there are
  pub words_long : length ws ≡ 1863
  unfolding words_of
  words_long = ap length h.words ∙ parts-long (sized h.shaped)

module _ {ws : List ℕ} {m : Machine} (h : Holds ws m) where
  count-put : (i v : ℕ) → i < 5
      → set ws (1792 + i) v
      ≡ parts m.tokens m.cells m.queue m.waits (set (count_words m) i v) m.timers (clock_words m)
  unfolding words_of
  count-put i v l =
      ap (λ r. set r (1792 + i) v) h.codes.words
      ∙ part-set (counts-stand (sized (shaped h))) (count_words m) 5 (sized (shaped h)).counts i v l

  pub calls-put : (n : ℕ) → Holds (set ws 1794 n) (with_counts n m.lasttoken m.lastcell m)
  unfolding count_words
  calls-put n = counts-hold h n m.lasttoken m.lastcell (count-put 2 n (omega arith))

  pub last-token-put : (p : ℕ) → Holds (set ws 1795 p) (with_counts m.calls p m.lastcell m)
  unfolding count_words
  last-token-put p = counts-hold h m.calls p m.lastcell (count-put 3 p (omega arith))

  pub last-cell-put : (c : ℕ) → Holds (set ws 1796 c) (with_counts m.calls m.lasttoken c m)
  unfolding count_words
  last-cell-put c = counts-hold h m.calls m.lasttoken c (count-put 4 c (omega arith))

  pub clock-put : (t : ℕ) → Holds (set ws 1862 t) (with_clock t m)
  unfolding words_of clock_words
  clock-put t =
      clock-holds h t
      (ap (λ r. set r 1862 t) h.codes.words
      ∙ part-set (clock-stands (sized (shaped h))) (clock_words m) 2 (sized (shaped h)).clock 1 t (omega arith))
