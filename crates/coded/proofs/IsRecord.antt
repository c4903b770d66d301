-- Words pass the tests exactly when they are those of the record that they decode to: each test of a field is passed by the words of every
-- value of the field, and words that pass it are those of the value that they decode to. Assumes nothing.
use mathlib.Core.Path.{◌≡◌, refl, sym, ap, ap₂, subst, ◌∙◌}
use mathlib.Core.Bool.{Bool, true}
use mathlib.Core.List.{List, [], ◌∷◌, ◌++◌}
use Prim.Native.Nat.{ℕ, zero, suc, ◌+◌, ◌*◌, ◌^◌, ◌<◌, ◌≤◌}
use native.Mathlib.Nat.{mul-zero, mul-suc}
use native.Mathlib.Numerals.{add-one}
use native.Mathlib.Omega.{arith}
use lib.Dec.{eqb}
use lib.ListN.{length, get_or, take, drop, length-drop, take-append-drop, drop_of_length-le}
use lib.Seq.{get_or-drop, drop-drop, drop-cons, take-add, length-take-le, take_at, drop_at}
use Rattle.std.specs.Prelude.{Some, None}
use Rattle.model.specs.declared.token.Slot.TheVariants as slots
use Rattle.model.specs.declared.token.State.TheVariants as states
use Rattle.job.specs.Test.{same}
use Rattle.model.specs.Machine.Blank.{blank_token, token_at, slot_at}
use Rattle.model.specs.declared.token.Slot.{Slot}
use Rattle.model.specs.Machine.Held.{Held}
use Rattle.model.specs.declared.token.State.{State}
use Rattle.model.specs.declared.token.Token.{Token}
use Rattle.model.specs.declared.cell.Cell.{Cell}
use Rattle.model.specs.declared.record.Machine.{Machine}
use Rattle.job.proofs.Test.{clash, eqb-eq, and_left, and_right, and_both, same-eq, same_refl}
use Rattle.job.proofs.Number.{unsigned_signed}
use Rattle.record.specs.Layout.{row_of, cell_row, table_words, words_of, parts, count_words, clock_words}
use Rattle.record.specs.Layout.{slot_kind, slot_number, state_kind, state_number, place_number, held_kind, held_number}
use Rattle.record.specs.LayoutDecoded.{machine_of, table_from, token_from, cell_from, binds_from}
use Rattle.record.specs.LayoutDecoded.{place_from, held_from, slot_from, state_from}
use Rattle.record.specs.Holds.{Codes, Shaped}
use Rattle.record.proofs.LayoutParts.{row-wide, cell-wide}
use Rattle.record.proofs.LayoutTable.{rows-length}
use Rattle.coded.specs.WordTests.{state_coded, held_coded, slot_coded, binds_coded, row_coded, cell_coded, table_coded, record_coded}
use Rattle.coded.specs.IsRecord.{is_record}
use Rattle.job.proofs.Lists.{table, listed, same-when}

abbrev pub Small : List ℕ → Type 0
Small ws = (i : ℕ) → get_or ws i 0 < 2 ^ 32

small-drop : (n : ℕ) (ws : List ℕ) → Small ws → Small (drop n ws)
small-drop n ws s i = let e = get_or-drop n ws i 0 in let l = s (n + i) in omega arith

small-take : (n : ℕ) (ws : List ℕ) → Small ws → Small (take n ws)
small-take zero ws s i = omega arith
small-take (suc n) [] s i = omega arith
small-take (suc n) (x ∷ ws) s zero = s 0
small-take (suc n) (x ∷ ws) s (suc i) = small-take n ws (λ j. s (suc j)) i

-- fields: words that pass, there and back
place-forth : (n : ℕ) → place_number (place_from n) ≡ n
unfolding place_from
place-forth zero = refl
place-forth (suc n) = add-one n

state-back : (k n : ℕ) → state_coded k n ≡ true → (state_kind (state_from k n) ≡ k) × (state_number (state_from k n) ≡ n)
unfolding state_from
state-back zero n e = (refl, sym (eqb-eq n 0 e))
state-back (suc zero) n e = (refl, sym (eqb-eq n 0 e))
state-back (suc (suc zero)) n e = (refl, refl)
state-back (suc (suc (suc zero))) n e = (refl, refl)
state-back (suc (suc (suc (suc zero)))) n e = (refl, refl)
state-back (suc (suc (suc (suc (suc zero))))) n e = (refl, sym (eqb-eq n 0 e))
state-back (suc (suc (suc (suc (suc (suc k)))))) n e = clash e refl

held_back : (k n : ℕ) → n < 2 ^ 32 → held_coded k n ≡ true → (held_kind (held_from k n) ≡ k) × (held_number (held_from k n) ≡ n)
unfolding held_from
held_back zero n l e = (refl, sym (eqb-eq n 0 e))
held_back (suc zero) n l e = (refl, unsigned_signed n l)
held_back (suc (suc k)) n l e = clash e refl

slot-back : (k n : ℕ) → n < 2 ^ 32 → slot_coded k n ≡ true → (slot_kind (slot_from k n) ≡ k) × (slot_number (slot_from k n) ≡ n)
unfolding slot_from
slot-back zero n l e = (refl, sym (eqb-eq n 0 e))
slot-back (suc zero) n l e = (refl, unsigned_signed n l)
slot-back (suc (suc zero)) n l e = (refl, refl)
slot-back (suc (suc (suc k))) n l e = clash e refl

-- fields: the words of every value pass
state-passes : (s : State) → state_coded (state_kind s) (state_number s) ≡ true
state-passes states.Blank = refl
state-passes states.Ready = refl
state-passes (states.Waiting c) = refl
state-passes (states.Called h) = refl
state-passes (states.Due d) = refl
state-passes states.Frame = refl

held-passes : (v : Held) → held_coded (held_kind v) (held_number v) ≡ true
held-passes None = refl
held-passes (Some v) = refl

slot-passes : (s : Slot) → slot_coded (slot_kind s) (slot_number s) ≡ true
slot-passes slots.Empty = refl
slot-passes (slots.Value v) = refl
slot-passes (slots.Cell c) = refl

-- rows
pair : {a b k n : ℕ} {xs ys : List ℕ} → (a ≡ k) × (b ≡ n) → xs ≡ ys → a ∷ b ∷ xs ≡ k ∷ n ∷ ys
pair e f = ap₂ ◌∷◌ e.0 (ap₂ ◌∷◌ e.1 f)

module _ (r : List ℕ) (small : Small r) where
  abbrev at : ℕ → ℕ
  at i = get_or r i 0

  abbrev Slots : ℕ → Type 0
  Slots x =
      (slot_kind (slot_from (at (8 + 2 * x)) (at (9 + 2 * x))) ≡ at (8 + 2 * x))
      × (slot_number (slot_from (at (8 + 2 * x)) (at (9 + 2 * x))) ≡ at (9 + 2 * x))

  slots-passed : (n x : ℕ) → binds_coded n (drop (8 + 2 * x) r) ≡ true → (i : ℕ) → i < n → Slots (x + i)
  unfolding binds_coded
  slots-passed zero x e i l = absurd (omega arith)
  slots-passed (suc n) x e zero l =
      let z : x + 0 ≡ x = omega arith in
      let y : 8 + 2 * x + 0 ≡ 8 + 2 * x = omega arith in
      let v : 8 + 2 * x + 1 ≡ 9 + 2 * x = omega arith in
      let k : get_or (drop (8 + 2 * x) r) 0 0 ≡ at (8 + 2 * x) = get_or-drop (8 + 2 * x) r 0 0 ∙ ap at y in
      let u : get_or (drop (8 + 2 * x) r) 1 0 ≡ at (9 + 2 * x) = get_or-drop (8 + 2 * x) r 1 0 ∙ ap at v in
      subst Slots (sym z)
      (slot-back (at (8 + 2 * x)) (at (9 + 2 * x)) (small (9 + 2 * x))
      (ap₂ slot_coded (sym k) (sym u) ∙ and_left (slot_coded (get_or (drop (8 + 2 * x) r) 0 0) (get_or (drop (8 + 2 * x) r) 1 0)) _ e))
  slots-passed (suc n) x e (suc i) l =
      let z : x + 1 + i ≡ x + suc i = omega arith in
      let y : 8 + 2 * x + 2 ≡ 8 + 2 * (x + 1) = omega arith in
      subst Slots z
      (slots-passed n (x + 1)
      (ap (binds_coded n) (sym (drop-drop 2 (8 + 2 * x) r ∙ ap (λ k. drop k r) y))
      ∙ and_right (slot_coded (get_or (drop (8 + 2 * x) r) 0 0) (get_or (drop (8 + 2 * x) r) 1 0)) _ e) i (omega arith))

row_back : (r : List ℕ) → length r ≡ 24 → Small r → row_coded r ≡ true → row_of (token_from r) ≡ r
unfolding row_of token_from row_coded binds_from slot_at table
row_back r l s z =
    let g : ℕ → ℕ = λ i. get_or r i 0 in
    let rest = and_right (state_coded (g 0) (g 1)) _ z in
    let rest2 = and_right (held_coded (g 5) (g 6)) _ rest in
    let st = state-back (g 0) (g 1) (and_left (state_coded (g 0) (g 1)) _ z) in
    let va = held_back (g 5) (g 6) (s 6) (and_left (held_coded (g 5) (g 6)) _ rest) in
    let sp : g 7 ≡ 0 = eqb-eq (g 7) 0 (and_left (eqb (g 7) 0) _ rest2) in
    let sl = slots-passed r s 8 0 (and_right (eqb (g 7) 0) (binds_coded 8 (drop 8 r)) rest2) in
    ap (λ x. row_of (token_from x)) (listed 0 24 r l)
    ∙ ap₂ ◌∷◌ st.0
    (ap₂ ◌∷◌ st.1 (ap (◌∷◌ (g 2)) (ap₂ ◌∷◌ (place-forth (g 3)) (ap₂ ◌∷◌ (place-forth (g 4)) (ap₂ ◌∷◌ va.0 (ap₂ ◌∷◌ va.1
    (ap₂ ◌∷◌ (sym sp)
    (pair (sl 0 (omega arith)) (pair (sl 1 (omega arith)) (pair (sl 2 (omega arith)) (pair (sl 3 (omega arith))
    (pair (sl 4 (omega arith)) (pair (sl 5 (omega arith)) (pair (sl 6 (omega arith)) (pair (sl 7 (omega arith)) refl)))))))))))))))
    ∙ sym (listed 0 24 r l)

cell-back : (r : List ℕ) → length r ≡ 4 → Small r → cell_coded r ≡ true → cell_row (cell_from r) ≡ r
unfolding cell_row cell_from cell_coded table
cell-back r l s z =
    let g : ℕ → ℕ = λ i. get_or r i 0 in
    let va = held_back (g 1) (g 2) (s 2) (and_left (held_coded (g 1) (g 2)) (eqb (g 3) 0) z) in
    let sp : g 3 ≡ 0 = eqb-eq (g 3) 0 (and_right (held_coded (g 1) (g 2)) (eqb (g 3) 0) z) in
    ap (λ x. cell_row (cell_from x)) (listed 0 4 r l)
    ∙ ap₂ ◌∷◌ (place-forth (g 0)) (ap₂ ◌∷◌ va.0 (ap₂ ◌∷◌ va.1 (ap₂ ◌∷◌ (sym sp) refl)))
    ∙ sym (listed 0 4 r l)

row-passes : (t : Token) → row_coded (row_of t) ≡ true
unfolding row_of row_coded binds_coded
row-passes t =
    let s : (x : ℕ) → slot_coded (slot_kind (slot_at t.binds x)) (slot_number (slot_at t.binds x)) ≡ true = λ x. slot-passes
    (slot_at t.binds x) in
    and_both (state-passes t.state) (and_both (held-passes t.value) (and_both refl
    (and_both (s 0)
    (and_both (s 1) (and_both (s 2) (and_both (s 3) (and_both (s 4) (and_both (s 5) (and_both (s 6) (and_both (s 7) refl))))))))))

cell-passes : (c : Cell) → cell_coded (cell_row c) ≡ true
unfolding cell_row cell_coded
cell-passes c = and_both (held-passes c.value) refl

-- tables
module _ {A : Type 0} (f : A → List ℕ) (g : List ℕ → A) (ok : List ℕ → Bool) (w : ℕ)
    (back : (r : List ℕ) → length r ≡ w → Small r → ok r ≡ true → f (g r) ≡ r) where
  table-back : (n : ℕ) (ws : List ℕ) → w * n ≤ length ws → Small ws → table_coded ok w n ws ≡ true
      → table_words f (table_from g w n ws) ≡ take (w * n) ws
  unfolding table_words table_from table_coded
  table-back zero ws l s e = ap (λ k. take k ws) (sym (mul-zero w))
  table-back (suc n) ws l s e =
      let m : w * suc n ≡ w + w * n = omega (arith, mul-suc w n) in
      let long : length (take w ws) ≡ w = length-take-le w ws (omega arith) in
      let rest : w * n ≤ length (drop w ws) = omega (arith, length-drop w ws) in
      ap₂ (λ a b. a ++ b)
      (back (take w ws) long (small-take w ws s) (and_left (ok (take w ws)) _ e))
      (table-back n (drop w ws) rest (small-drop w ws s) (and_right (ok (take w ws)) _ e))
      ∙ sym (take-add w (w * n) ws)
      ∙ ap (λ k. take k ws) (sym m)

module _ {A : Type 0} (f : A → List ℕ) (ok : List ℕ → Bool) (w : ℕ) (wide : (x : A) → length (f x) ≡ w)
    (passes : (x : A) → ok (f x) ≡ true) where
  table-passes : (xs : List A) (n : ℕ) (rest : List ℕ) → length xs ≡ n → table_coded ok w n (table_words f xs ++ rest) ≡ true
  unfolding table_words table_coded
  table-passes [] zero rest e = refl
  table-passes [] (suc n) rest e = absurd (omega arith)
  table-passes (x ∷ xs) zero rest e = absurd (omega arith)
  table-passes (x ∷ xs) (suc n) rest e =
      rw mathlib.Core.List.append_assoc
      (and_both (ap ok (take_at (f x) (table_words f xs ++ rest) w (wide x)) ∙ passes x)
      (ap (table_coded ok w n) (drop_at (f x) (table_words f xs ++ rest) w (wide x)) ∙ table-passes xs n rest (omega arith)))

module _ {A : Type 0} (g : List ℕ → A) (w : ℕ) where
  pub table-length : (n : ℕ) (ws : List ℕ) → length (table_from g w n ws) ≡ n
  unfolding table_from
  table-length zero ws = refl
  table-length (suc n) ws = ap suc (table-length n (drop w ws))

  -- what is read of a table is the decoding of some words, or the default
  pub table-all : (P : A → Type 0) (d : A) → P d → ((r : List ℕ) → P (g r)) → (n : ℕ) (ws : List ℕ) (p : ℕ)
      → P (get_or (table_from g w n ws) p d)
  unfolding table_from
  table-all P d z f zero ws p = z
  table-all P d z f (suc n) ws zero = f (take w ws)
  table-all P d z f (suc n) ws (suc p) = table-all P d z f n (drop w ws) p

-- all words: the counts, and the number of names in the order of call with the clock
counts-are : (ws : List ℕ) → length ws ≡ 1863
    → drop 1792 ws ≡ get_or ws 1792 0 ∷ get_or ws 1793 0 ∷ get_or ws 1794 0 ∷ get_or ws 1795 0 ∷ get_or ws 1796 0 ∷ drop 1797 ws
counts-are ws l =
    drop-cons ws 1792 0 (omega arith)
    ∙ ap (◌∷◌ (get_or ws 1792 0)) (drop-cons ws 1793 0 (omega arith)
    ∙ ap (◌∷◌ (get_or ws 1793 0)) (drop-cons ws 1794 0 (omega arith)
    ∙ ap (◌∷◌ (get_or ws 1794 0)) (drop-cons ws 1795 0 (omega arith)
    ∙ ap (◌∷◌ (get_or ws 1795 0)) (drop-cons ws 1796 0 (omega arith)))))

clock-is : (ws : List ℕ) → length ws ≡ 1863 → drop 1861 ws ≡ get_or ws 1861 0 ∷ get_or ws 1862 0 ∷ []
clock-is ws l =
    drop-cons ws 1861 0 (omega arith)
    ∙ ap (◌∷◌ (get_or ws 1861 0)) (drop-cons ws 1862 0 (omega arith)
    ∙ ap (◌∷◌ (get_or ws 1862 0)) (drop_of_length-le ws {i = 1863} (omega arith)))

joined : (n k : ℕ) (ws : List ℕ) → take k (drop n ws) ++ drop (n + k) ws ≡ drop n ws
joined n k ws = ap (λ r. take k (drop n ws) ++ r) (sym (drop-drop k n ws)) ∙ take-append-drop k (drop n ws)

words_back : (ws : List ℕ) → length ws ≡ 1863 → Small ws → record_coded ws ≡ true → words_of (machine_of ws) ≡ ws
unfolding words_of machine_of parts count_words clock_words record_coded
words_back ws l s e =
    let a = table-back row_of token_from row_coded 24 row_back 64 ws (omega arith) s (and_left (table_coded row_coded 24 64 ws) _ e) in
    let b = table-back cell_row cell_from cell_coded 4 cell-back 32 (drop 1536 ws) (omega (
      arith,
      length-drop 1536 ws,
    )) (small-drop 1536 ws s)
    (and_right (table_coded row_coded 24 64 ws) _ e) in
    let q = take 64 (drop 1664 ws) in
    let w = take 64 (drop 1728 ws) in
    let g : ℕ → ℕ = λ i. get_or ws i 0 in
    let counts : List ℕ → List ℕ = λ r. g 1792 ∷ g 1793 ∷ g 1794 ∷ g 1795 ∷ g 1796 ∷ r in
    let k = ap counts (ap (λ r. take 64 (drop 1797 ws) ++ r) (sym (clock-is ws l)) ∙ joined 1797 64 ws) ∙ sym (counts-are ws l) in
    ap₂ (λ x y. x ++ y) a
    (ap₂ (λ x y. x ++ y) b (ap (λ r. q ++ (w ++ r)) k ∙ ap (λ r. q ++ r) (joined 1728 64 ws) ∙ joined 1664 64 ws)
    ∙ joined 1536 128 ws)
    ∙ take-append-drop 1536 ws

-- the words of a record pass
pub words-pass : (m : Machine) → length m.tokens ≡ 64 → length m.cells ≡ 32 → record_coded (words_of m) ≡ true
unfolding words_of parts record_coded
words-pass m t c =
    let long : length (table_words row_of m.tokens) ≡ 1536 = rows-length row_of 24 row-wide m.tokens ∙ ap (λ n. 24 * n) t in
    and_both (table-passes row_of row_coded 24 row-wide row-passes m.tokens 64 _ t)
    (ap (table_coded cell_coded 4 32) (drop_at (table_words row_of m.tokens) _ 1536 long)
    ∙ table-passes cell_row cell_coded 4 cell-wide cell-passes m.cells 32 _ c)

module _ (ws : List ℕ) where
  tokens-64 : length (machine_of ws).tokens ≡ 64
  unfolding machine_of
  tokens-64 = table-length token_from 24 64 ws

  cells-32 : length (machine_of ws).cells ≡ 32
  unfolding machine_of
  cells-32 = table-length cell_from 4 32 (drop 1536 ws)

  module _ (long : length ws ≡ 1863) where
    pub coded-record : Small ws → record_coded ws ≡ is_record ws
    unfolding is_record
    coded-record s =
        same-when (record_coded ws) (is_record ws)
        (λ e. ap (same ws) (words_back ws long s e) ∙ same_refl ws)
        (λ e. ap record_coded (same-eq ws (words_of (machine_of ws)) e) ∙ words-pass (machine_of ws) tokens-64 cells-32)

    shaped : Shaped (machine_of ws)
    unfolding machine_of token_at token_from binds_from
    shaped =
        record {
          tokens = tokens-64;
          cells = cells-32;
          queue = length-take-le 64 (drop 1664 ws) (omega (arith, length-drop 1664 ws));
          waits = length-take-le 64 (drop 1728 ws) (omega (arith, length-drop 1728 ws));
          timers = length-take-le 64 (drop 1797 ws) (omega (arith, length-drop 1797 ws));
          binds = λ p. table-all token_from 24 (λ (t : Token). length t.binds ≡ 8) blank_token refl (λ r. refl) 64 ws p;
        }

    -- words that are a record's, and the record
    pub record-codes : is_record ws ≡ true → Codes ws (machine_of ws)
    unfolding is_record
    record-codes e = record { words = same-eq ws (words_of (machine_of ws)) e; shaped = shaped }
