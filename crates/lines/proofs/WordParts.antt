-- A word in its place, and values one by one: those that were put and the next behind them are the front of the values with one more.
-- Assumes nothing.
use mathlib.Core.Path.{◌≡◌, sym, ap, ◌∙◌}
use mathlib.Core.List.{List, [], ◌∷◌, ◌++◌, map, append_assoc, append-nil}
use Prim.Native.Nat.{ℕ, ◌+◌, ◌-◌, ◌*◌, ◌<◌, ◌≤◌}
use native.Mathlib.Numerals.{add-one}
use native.Mathlib.Omega.{arith}
use lib.IntN.{ℤ}
use lib.ListN.{length, take, drop, get_or}
use lib.Seq.{sets, sets-eq, take-suc, drop-drop}
use borrow.Rule.Slice.PartMut.{put_mid}
use Rattle.job.specs.Decimal.{signed_decimal}
use Rattle.decimal.specs.Written.{Written}
use Rattle.decimal.proofs.Written.{then-written, written_as}
use Rattle.lines.specs.WordBytes.{spaced, all_spaced}

-- a word in the place of as many bytes
pub word-placed : (word copy before : List ℕ) (at : ℕ) → copy ≡ word → at + length word ≤ length before
    → put_mid at (at + length word - at) before copy ≡ sets before at word
word-placed word copy before at e l =
    let k : at + length word - at ≡ length word = omega arith in
    let rest : drop (length word) (drop at before) ≡ drop (at + length word) before = drop-drop (length word) at before in
    let whole : put_mid at (length word) before word ≡ take at before ++ (word ++ drop (at + length word) before) =
    ap (λ (bytes : List ℕ). take at before ++ (word ++ bytes)) rest in
    ap (put_mid at (at + length word - at) before) e ∙ ap (λ (n : ℕ). put_mid at n before word) k ∙ whole
    ∙ sym (sets-eq word before at l ∙ append_assoc (take at before) word _)

-- one value more
values-more : (vs : List ℤ) (v : ℤ)
    → all_spaced (map signed_decimal vs) ++ spaced (signed_decimal v) ≡ all_spaced (map signed_decimal (vs ++ (v ∷ [])))
unfolding all_spaced
values-more [] v = sym (append-nil (spaced (signed_decimal v)))
values-more (u ∷ vs) v =
    append_assoc (spaced (signed_decimal u)) (all_spaced (map signed_decimal vs)) (spaced (signed_decimal v))
    ∙ ap (λ (l : List ℕ). spaced (signed_decimal u) ++ l) (values-more vs v)

pub values-written : (values : List ℤ) (d : ℤ) (before middle after : List ℕ) (at to next i : ℕ) → i < length values
    → Written (12 * i) before at (all_spaced (map signed_decimal (take i values))) middle to
    → Written 12 middle to (spaced (signed_decimal (get_or values i d))) after next
    → Written (12 * (i + 1)) before at (all_spaced (map signed_decimal (take (i + 1) values))) after next
values-written values d before middle after at to next i h f w =
    written_as (then-written f w) (values-more (take i values) (get_or values i d) ∙ rw (add-one, take-suc values i d)) (omega arith)
