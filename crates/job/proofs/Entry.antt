-- Entries and their bytes, there and back, and the parts of an operand: each entry is its kind byte and the 4 bytes of its
-- operand, and an operand is its low and its high 16 bits. Assumes nothing.
use mathlib.Core.Path.{◌≡◌, refl, sym, ◌∙◌, ap, ap₂}
use mathlib.Core.List.{List, [], ◌∷◌, ◌++◌, map}
use Prim.Native.Nat.{ℕ, zero, suc, ◌+◌, ◌-◌, ◌*◌, ◌^◌, ◌<◌}
use native.Mathlib.Omega.{arith}
use lib.ListN.{length, drop, length-append, length-drop, take-append-drop}
use lib.Seq.{take_at, drop_at}
use lib.Dec.{ltb}
use Rattle.job.specs.Test.{All, none, more}
use Rattle.job.specs.Number.{number, bytes}
use Rattle.job.specs.Entry.{Entry, entry, entries, low, high, EntryKind, kind_of, is_expression}
use Rattle.job.specs.Encode.{operand_bytes}
use Rattle.job.proofs.All.{All-drop}
use Rattle.job.proofs.Test.{le-not-ltb}
use Rattle.job.proofs.Number.{Byte, length-bytes, number-bytes, bytes-front, front_below}

-- an entry of this kind and operand
pub entry_of : (x : Entry) (k o : ℕ) → x.kind ≡ k → x.operand ≡ o → x ≡ entry k o
entry_of x k o p q = ap₂ entry p q

-- the kind of a number

-- the number of a kind: an unknown one has any from 9 on
abbrev pub kind_number : EntryKind → ℕ → ℕ
kind_number EntryKind.stop n = 0
kind_number EntryKind.site n = 1
kind_number EntryKind.call n = 2
kind_number EntryKind.par n = 3
kind_number EntryKind.seq n = 4
kind_number EntryKind.prune n = 5
kind_number EntryKind.definition n = 6
kind_number EntryKind.variable n = 7
kind_number EntryKind.constant n = 8
kind_number EntryKind.unknown n = 9 + (n - 9)

own-number : (n : ℕ) → n ≡ kind_number (kind_of n) n
unfolding kind_of
own-number zero = refl
own-number (suc zero) = refl
own-number (suc (suc zero)) = refl
own-number (suc (suc (suc zero))) = refl
own-number (suc (suc (suc (suc zero)))) = refl
own-number (suc (suc (suc (suc (suc zero))))) = refl
own-number (suc (suc (suc (suc (suc (suc zero)))))) = refl
own-number (suc (suc (suc (suc (suc (suc (suc zero))))))) = refl
own-number (suc (suc (suc (suc (suc (suc (suc (suc zero)))))))) = refl
own-number (suc (suc (suc (suc (suc (suc (suc (suc (suc n))))))))) = omega arith

pub kind-number : (n : ℕ) (k : EntryKind) → kind_of n ≡ k → n ≡ kind_number k n
kind-number n k e = own-number n ∙ ap (λ (k : EntryKind). kind_number k n) e

-- the kinds of expressions are 0 to 5
pub expression-number : (n : ℕ) → is_expression (kind_of n) ≡ ltb n 6
unfolding kind_of is_expression
expression-number zero = refl
expression-number (suc zero) = refl
expression-number (suc (suc zero)) = refl
expression-number (suc (suc (suc zero))) = refl
expression-number (suc (suc (suc (suc zero)))) = refl
expression-number (suc (suc (suc (suc (suc zero))))) = refl
expression-number (suc (suc (suc (suc (suc (suc zero)))))) = refl
expression-number (suc (suc (suc (suc (suc (suc (suc zero))))))) = refl
expression-number (suc (suc (suc (suc (suc (suc (suc (suc zero)))))))) = refl
expression-number (suc (suc (suc (suc (suc (suc (suc (suc (suc n))))))))) =
    sym (le-not-ltb (suc (suc (suc (suc (suc (suc (suc (suc (suc n))))))))) 6 (omega arith))

-- the two halves of an operand

pub low_of : (s n : ℕ) → s < 65536 → low (s + 65536 * n) ≡ s
low_of s n l = omega arith

pub high-of : (s n : ℕ) → s < 65536 → high (s + 65536 * n) ≡ n
high-of s n l = omega arith

pub halves : (o n : ℕ) → n ≡ high o → o ≡ low o + 65536 * n
halves o n e = omega arith

-- entries and bytes

-- an operand of 4 bytes
abbrev pub Short : Entry → Type 0
Short x = x.operand < 2 ^ 32

abbrev pub kind_bytes : List Entry → List ℕ
kind_bytes es = map (λ (x : Entry). x.kind) es

pub length-operand-bytes : (es : List Entry) → length (operand_bytes es) ≡ 4 * length es
unfolding operand_bytes
length-operand-bytes [] = refl
length-operand-bytes (x ∷ es) =
    let a = length-append (bytes 4 x.operand) (operand_bytes es) in
    let b = length-bytes 4 x.operand in
    let c = length-operand-bytes es in
    omega arith

pub entries-encoded : (es : List Entry) → All Short es → entries (kind_bytes es) (operand_bytes es) ≡ es
unfolding entries operand_bytes
entries-encoded [] none = refl
entries-encoded (x ∷ es) (more l ls) =
    let os = bytes 4 x.operand in
    let w : length os ≡ 4 = length-bytes 4 x.operand in
    let n : number os ≡ x.operand = number-bytes 4 x.operand (omega arith) in
    let front = take_at os (operand_bytes es) 4 w in
    let back = drop_at os (operand_bytes es) 4 w in
    ap₂ ◌∷◌ (ap (entry x.kind) (ap number front ∙ n)) (ap (entries (kind_bytes es)) back ∙ entries-encoded es ls)

pub length-entries : (ks os : List ℕ) → length (entries ks os) ≡ length ks
unfolding entries
length-entries [] os = refl
length-entries (k ∷ ks) os = ap suc (length-entries ks (drop 4 os))

pub kind-bytes-entries : (ks os : List ℕ) → kind_bytes (entries ks os) ≡ ks
unfolding entries
kind-bytes-entries [] os = refl
kind-bytes-entries (k ∷ ks) os = ap (◌∷◌ k) (kind-bytes-entries ks (drop 4 os))

-- 4 bytes for each entry
tail-length : (n : ℕ) (os : List ℕ) → length os ≡ 4 * suc n → length (drop 4 os) ≡ 4 * n
tail-length n os e = length-drop 4 os ∙ omega arith

pub operand-bytes-entries : (ks os : List ℕ) → All Byte os → length os ≡ 4 * length ks → operand_bytes (entries ks os) ≡ os
unfolding entries operand_bytes
operand-bytes-entries [] [] bs e = refl
operand-bytes-entries [] (o ∷ os) bs e = absurd (omega arith)
operand-bytes-entries (k ∷ ks) os bs e =
    let front = bytes-front 4 os (omega arith) bs in
    let back = operand-bytes-entries ks (drop 4 os) (All-drop 4 bs) (tail-length (length ks) os e) in
    ap₂ ◌++◌ front back ∙ take-append-drop 4 os

pub entries-short : (ks os : List ℕ) → All Byte os → length os ≡ 4 * length ks → All Short (entries ks os)
unfolding entries
entries-short [] os bs e = none
entries-short (k ∷ ks) os bs e =
    more (front_below 4 os (omega arith) bs) (entries-short ks (drop 4 os) (All-drop 4 bs) (tail-length (length ks) os e))
