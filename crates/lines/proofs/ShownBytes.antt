-- An output that is written byte by byte shows what it has room for of all bytes. Assumes nothing.
use mathlib.Core.Path.{◌≡◌, refl, sym, ◌∙◌, ap, subst}
use mathlib.Core.Bool.{Bool, true, false}
use mathlib.Core.List.{List, [], ◌∷◌, ◌++◌, append_assoc, append-nil}
use Prim.Native.Nat.{ℕ, suc, ◌+◌, ◌-◌, ◌<◌, ◌≤◌}
use native.Mathlib.Nat.{add-zero}
use native.Mathlib.Numerals.{add-one}
use native.Mathlib.Decide.{dec_lt}
use native.Mathlib.Omega.{arith}
use lib.ListN.{length, get_or, take, drop, set, length-append, length-drop, length-set, replicate, length-replicate, drop_of_length-le}
use lib.Dec.{leb}
use lib.Seq.{sets, sets-eq, set_out, length-sets, length-take-le}
use lib.Seq.{take_all, take_at, take-nil, take-suc, take-append-le, drop-nil, drop-append-le}
use Rattle.job.proofs.Test.{le-leb, lt-not-leb}
use Rattle.decimal.specs.Written.{Written}
use Rattle.job.proofs.Stores.{sets-append}
use Rattle.lines.specs.Shown.{shown, with_byte, showing, ShowsBytes}

-- one byte: before the part that is shown, in it, behind it
pub placed-before : (o : List ℕ) (from total b : ℕ) → total < from → o ≡ with_byte o from total b
unfolding with_byte
placed-before o from total b l = rw (lt-not-leb from total l, with_byte) refl

pub placed-inside : (o : List ℕ) (from total b : ℕ) → from ≤ total → set o (total - from) b ≡ with_byte o from total b
unfolding with_byte
placed-inside o from total b l = rw (le-leb from total l, with_byte) refl

pub placed-behind : (o : List ℕ) (from total b : ℕ) → from ≤ total → length o ≤ total - from → o ≡ with_byte o from total b
placed-behind o from total b l h = sym (set_out o (total - from) b h) ∙ placed-inside o from total b l

-- one part behind another
showing-append : (o : List ℕ) (from total : ℕ) (xs ys : List ℕ)
    → showing o from total (xs ++ ys) ≡ showing (showing o from total xs) from (total + length xs) ys
unfolding showing
showing-append o from total [] ys = rw (add-zero total) refl
showing-append o from total (x ∷ xs) ys =
    let e : suc total + length xs ≡ total + suc (length xs) = omega arith in
    showing-append (with_byte o from total x) from (suc total) xs ys
    ∙ ap (λ (n : ℕ). showing (showing (with_byte o from total x) from (suc total) xs) from n ys) e

pub showing-length : (o : List ℕ) (from total : ℕ) (xs : List ℕ) → length (showing o from total xs) ≡ length o
unfolding showing with_byte
showing-length o from total [] = refl
showing-length o from total (x ∷ xs) = showing-length (with_byte o from total x) from (suc total) xs ∙ placed-length (leb from total)
  where
    placed-length : (b : Bool) → length {A = ℕ} (elim b [ true ↦ set o (total - from) x | false ↦ o ]) ≡ length o
    placed-length true = length-set o (total - from) x
    placed-length false = refl

-- where the part that is shown has begun, bytes are stored as they are
showing-at : (o : List ℕ) (from total : ℕ) (bs : List ℕ) → from ≤ total → sets o (total - from) bs ≡ showing o from total bs
unfolding showing
showing-at o from total [] l = refl
showing-at o from total (b ∷ bs) l =
    let e : suc (total - from) ≡ suc total - from = omega arith in
    ap (λ (n : ℕ). sets (set o (total - from) b) n bs) e
    ∙ ap (λ (u : List ℕ). sets u (suc total - from) bs) (placed-inside o from total b l)
    ∙ showing-at (with_byte o from total b) from (suc total) bs (omega arith)

-- a line that was put there at once
pub shows-put : {o r : List ℕ} {from total n : ℕ} {bytes : List ℕ} → Written 80 o (total - from) bytes r n → from ≤ total
    → ShowsBytes o from total bytes r (from + n)
shows-put {o} {from = from} {total = total} {bytes = bytes} w l =
    let e = w.behind in
    record { stored = w.stored ∙ showing-at o from total bytes l; behind = omega arith }

pub shows-none : (o : List ℕ) (from total : ℕ) → ShowsBytes o from total [] o total
unfolding showing
shows-none o from total = record { stored = refl; behind = omega arith }

pub shows_then : {o m r : List ℕ} {from total middle next : ℕ} {xs ys : List ℕ}
    → ShowsBytes o from total xs m middle → ShowsBytes m from middle ys r next → ShowsBytes o from total (xs ++ ys) r next
shows_then {o} {m} {r} {from} {total} {middle} {next} {xs} {ys} f s =
    let l = length-append xs ys in
    let a = f.behind in
    let b = s.behind in
    record {
      stored =
          s.stored
          ∙ ap (λ (n : ℕ). showing m from n ys) a
          ∙ ap (λ (u : List ℕ). showing u from (total + length xs) ys) f.stored
          ∙ sym (showing-append o from total xs ys);
      behind = omega arith;
    }

pub shows-as : {o r : List ℕ} {from total next : ℕ} {xs ys : List ℕ} → xs ≡ ys
    → ShowsBytes o from total xs r next → ShowsBytes o from total ys r next
shows-as {o} {r} {from} {total} {next} e s = subst (λ (bytes : List ℕ). ShowsBytes o from total bytes r next) e s

-- a loop's turn: one more byte of a line
pub line-more : (line o m r : List ℕ) (from total i : ℕ) → i < length line → m ≡ showing o from total (take i line)
    → r ≡ with_byte m from (total + i) (get_or line i 0) → r ≡ showing o from total (take (i + 1) line)
unfolding showing
line-more line o m r from total i l f s =
    let n : length (take i line) ≡ i = length-take-le i line (omega arith) in
    s
    ∙ ap (λ (u : List ℕ). with_byte u from (total + i) (get_or line i 0)) f
    ∙ ap (λ (k : ℕ). with_byte (showing o from total (take i line)) from (total + k) (get_or line i 0)) (sym n)
    ∙ sym (showing-append o from total (take i line) (get_or line i 0 ∷ []))
    ∙ ap (showing o from total) (sym (take-suc line i 0 l) ∙ ap (λ (k : ℕ). take k line) (sym (add-one i)))

-- one more byte of the text
shown-more : (o : List ℕ) (from : ℕ) (w : List ℕ) (b : ℕ) → with_byte (shown o from w) from (length w) b ≡ shown o from (w ++ (b ∷ []))
unfolding shown
shown-more o from w b = go (dec_lt (length w) from)
  where
    more : length (w ++ (b ∷ [])) ≡ length w + 1
    more = length-append w (b ∷ [])

    early : length w < from → shown o from w ≡ shown o from (w ++ (b ∷ []))
    early l =
        ap (λ (u : List ℕ). sets o 0 (take (length o) u))
        (drop_of_length-le w {i = from} (omega arith) ∙ sym (drop_of_length-le (w ++ (b ∷ [])) {i = from} (omega (arith, more))))

    go : Dec (length w < from) → with_byte (shown o from w) from (length w) b ≡ shown o from (w ++ (b ∷ []))
    go (yes l) = sym (placed-before (shown o from w) from (length w) b l) ∙ early l
    go (no f) = later (dec_lt (length w - from) (length o))
      where
        inside : from ≤ length w
        inside = omega arith

        part : drop from (w ++ (b ∷ [])) ≡ drop from w ++ (b ∷ [])
        part = drop-append-le from w (b ∷ []) inside

        size : length (drop from w) ≡ length w - from
        size = length-drop from w

        place : length w - from ≡ 0 + length (drop from w)
        place = omega (arith, size)

        same : length (shown o from w) ≡ length o
        same = length-sets o 0 (take (length o) (drop from w))

        later : Dec (length w - from < length o) → with_byte (shown o from w) from (length w) b ≡ shown o from (w ++ (b ∷ []))
        later (no g) =
            sym (placed-behind (shown o from w) from (length w) b inside (omega (arith, same)))
            ∙ ap (sets o 0) (sym (take-append-le (length o) (drop from w) (b ∷ []) (omega (arith, size))) ∙ ap (take (length o)) (sym part))
        later (yes l) =
            sym (placed-inside (shown o from w) from (length w) b inside)
            ∙ ap (λ (u : List ℕ). set (sets o 0 u) (length w - from) b) (take_all (length o) (drop from w) (omega (arith, size)))
            ∙ ap (λ (n : ℕ). set (sets o 0 (drop from w)) n b) place
            ∙ sym (sets-append o 0 (drop from w) (b ∷ []))
            ∙ ap (sets o 0) (sym (take_all (length o) (drop from w ++ (b ∷ [])) (omega (arith, size, length-append (drop from w) (b ∷ []))))
            ∙ ap (take (length o)) (sym part))

shown-on : (o : List ℕ) (from : ℕ) (w bs : List ℕ) → showing (shown o from w) from (length w) bs ≡ shown o from (w ++ bs)
unfolding showing
shown-on o from w [] = ap (shown o from) (sym (append-nil w))
shown-on o from w (b ∷ bs) =
    ap (λ (u : List ℕ). showing u from (suc (length w)) bs) (shown-more o from w b)
    ∙ ap (λ (n : ℕ). showing (shown o from (w ++ (b ∷ []))) from n bs) (omega (arith, length-append w (b ∷ [])))
    ∙ shown-on o from (w ++ (b ∷ [])) bs
    ∙ ap (shown o from) (append_assoc w (b ∷ []) bs)

-- all bytes, from the first
pub shown-all : {o r : List ℕ} {from n : ℕ} {bytes : List ℕ} → ShowsBytes o from 0 bytes r n → (n ≡ length bytes) × (r ≡ shown o from bytes)
unfolding shown
shown-all {o} {r} {from} {n} {bytes} s = (
  (let e = s.behind in omega arith),
  s.stored ∙ ap (λ (u : List ℕ). showing u from 0 bytes) nothing ∙ shown-on o from [] bytes,
)
  where
    nothing : o ≡ shown o from []
    nothing = ap (sets o 0) (sym (ap (take (length o)) (drop-nil from) ∙ take-nil (length o)))

-- what was written to the front of a buffer is its front
written-front : {m n : ℕ} {before after bytes : List ℕ} → Written m before 0 bytes after n → length bytes ≤ length before
    → take n after ≡ bytes
written-front {n = n} {before = before} {bytes = bytes} w l =
    let e = w.behind in
    ap (take n) (w.stored ∙ sets-eq bytes before 0 (omega arith)) ∙ take_at bytes (drop (0 + length bytes) before) n (omega arith)

-- the front of a line's buffer, as the line that was written there
pub shows-line : {n k : ℕ} {before after bytes o r : List ℕ} {from total : ℕ} → Written 80 before 0 bytes after n → length before ≡ 80
    → ShowsBytes o from total (take n after) r k → ShowsBytes o from total bytes r k
shows-line w e s = let f = w.few in shows-as (written-front w (omega arith)) s

-- an empty buffer for a line
pub blank-line : length {A = ℕ} (replicate 80 0) ≡ 80
blank-line = length-replicate {A = ℕ} 80 0
