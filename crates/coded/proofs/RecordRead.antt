-- A record that keeps the index rules is the one that its words decode to: each field is told by its words where it is in its range, and
-- the rules say that it is. Assumes nothing.
use mathlib.Core.Path.{◌≡◌, refl, sym, ap, ap₂, ◌∙◌}
use mathlib.Core.Bool.{Bool, true}
use mathlib.Core.List.{List, [], ◌∷◌, ◌++◌, append_assoc}
use Prim.Native.Nat.{ℕ, zero, suc, ◌+◌, ◌*◌, ◌<◌}
use native.Mathlib.Omega.{arith}
use lib.ListN.{length, get_or}
use lib.Seq.{take_at, drop_at}
use Rattle.std.specs.Prelude.{Some, None}
use Rattle.job.specs.Bounds.{scope_limit}
use Rattle.job.specs.Test.{for_all, same}
use Rattle.job.specs.Node.{Dag}
use Rattle.model.specs.Machine.Blank.{empty, slot_at}
use Rattle.model.specs.Machine.Limits.{Limits, paper}
use Rattle.model.specs.Machine.Rules.{held_in_range, slot_in_range, token_in_range, cell_in_range, rules_hold}
use Rattle.model.specs.declared.token.Slot.{Slot}
use Rattle.model.specs.declared.token.Slot.TheVariants as slots
use Rattle.model.specs.Machine.Held.{Held, Place}
use Rattle.model.specs.declared.token.State.{State}
use Rattle.model.specs.declared.token.State.TheVariants as states
use Rattle.model.specs.declared.token.Token.{Token}
use Rattle.model.specs.declared.cell.Cell.{Cell}
use Rattle.model.specs.declared.record.Machine.{Machine}
use Rattle.job.proofs.Test.{and_left, and_right, eqb-eq, all-at, same_refl}
use Rattle.job.proofs.Lists.{table, listed}
use Rattle.job.proofs.Number.{signed-unsigned}
use Rattle.model.proofs.Machine.Rules.{each-rule-holds, tokens-sized, cells-sized, queue-sized, waits-sized, timers-sized}
use Rattle.record.specs.Layout.{row_of, cell_row, table_words, words_of, parts, count_words, clock_words}
use Rattle.record.specs.Layout.{slot_kind, slot_number, state_kind, state_number, held_kind, held_number}
use Rattle.record.specs.LayoutDecoded.{machine_of, table_from, token_from, cell_from, binds_from, held_from, slot_from, state_from}
use Rattle.record.proofs.PlaceNumber.{place-back}
use Rattle.record.proofs.LayoutPart.{part-get, part-is}
use Rattle.record.proofs.LayoutParts.{Sized, row-wide, cell-wide, queue-stands, waits-stand, counts-stand, timers-stand, clock-stands}
use Rattle.record.proofs.LayoutTable.{rows-length}
use Rattle.coded.specs.IsRecord.{is_record}

-- fields
state-read : (s : State) → state_from (state_kind s) (state_number s) ≡ s
unfolding state_from
state-read states.Blank = refl
state-read states.Ready = refl
state-read (states.Waiting c) = refl
state-read (states.Called h) = refl
state-read (states.Due d) = refl
state-read states.Frame = refl

held-read : (v : Held) → held_in_range v ≡ true → held_from (held_kind v) (held_number v) ≡ v
unfolding held_from held_in_range
held-read None e = refl
held-read (Some v) e = ap Some (signed-unsigned v e)

slot_read : (cells : ℕ) (s : Slot) → slot_in_range cells s ≡ true → slot_from (slot_kind s) (slot_number s) ≡ s
unfolding slot_from slot_in_range
slot_read cells slots.Empty e = refl
slot_read cells (slots.Value v) e = ap slots.Value (signed-unsigned v e)
slot_read cells (slots.Cell c) e = refl

-- rows

-- the token of these fields
token : ℕ → List Slot → Held → Place → Place → State → Token
token n b v p c s = record { node = n; binds = b; value = v; caller = p; cell = c; state = s }

same-token : (n : ℕ) {b a : List Slot} {v w : Held} {p q c e : Place} {s t : State} → b ≡ a → v ≡ w → p ≡ q → c ≡ e → s ≡ t
    → token n b v p c s ≡ token n a w q e t
same-token n b v p c s = cc

module _ (lim : Limits) (d : Dag) (calls : ℕ) (t : Token) (e : token_in_range lim d calls t ≡ true) where
  sized : length t.binds ≡ 8
  unfolding token_in_range
  sized = eqb-eq (length t.binds) scope_limit (and_left _ _ (and_right _ _ e))

  slots-fit : for_all (slot_in_range lim.cell_places) t.binds ≡ true
  unfolding token_in_range
  slots-fit = and_left _ _ (and_right _ _ (and_right _ _ e))

  value-fits : held_in_range t.value ≡ true
  unfolding token_in_range
  value-fits = and_left _ _ (and_right _ _ (and_right _ _ (and_right _ _ e)))

  bound : (x : ℕ) → x < 8 → slot_from (slot_kind (slot_at t.binds x)) (slot_number (slot_at t.binds x)) ≡ slot_at t.binds x
  unfolding slot_at
  bound x l = slot_read lim.cell_places _ (all-at (slot_in_range lim.cell_places) t.binds x empty slots-fit (omega (arith, sized)))

  binds-read : (token_from (row_of t)).binds ≡ t.binds
  unfolding token_from row_of binds_from slot_at table
  binds-read =
      ap₂ ◌∷◌ (bound 0 (omega arith)) (ap₂ ◌∷◌ (bound 1 (omega arith)) (ap₂ ◌∷◌ (bound 2 (omega arith)) (ap₂ ◌∷◌ (bound 3 (omega arith))
      (ap₂ ◌∷◌ (bound 4 (omega arith)) (ap₂ ◌∷◌ (bound 5 (omega arith)) (ap₂ ◌∷◌ (bound 6 (omega arith)) (ap₂ ◌∷◌ (bound 7 (omega arith))
      refl)))))))
      ∙ sym (listed empty 8 t.binds sized)

  token-read : token_from (row_of t) ≡ t
  unfolding token_from row_of token
  token-read =
      same-token t.node binds-read (held-read t.value value-fits) (place-back t.caller) (place-back t.cell)
      (state-read t.state)

cell-read : (lim : Limits) (c : Cell) → cell_in_range lim c ≡ true → cell_from (cell_row c) ≡ c
unfolding cell_from cell_row cell_in_range
cell-read lim c e =
    ap₂ (λ (p : Place) (v : Held). record { parent = p; value = v }) (place-back c.parent) (held-read c.value (and_right _ _ e))

-- tables
module _ {A : Type 0} (f : A → List ℕ) (g : List ℕ → A) (w : ℕ) (wide : (x : A) → length (f x) ≡ w) (ok : A → Bool)
    (read : (x : A) → ok x ≡ true → g (f x) ≡ x) where
  table-read : (xs : List A) (n : ℕ) (rest : List ℕ) → length xs ≡ n → for_all ok xs ≡ true → table_from g w n (table_words f xs ++ rest)
      ≡ xs
  unfolding table_words table_from for_all
  table-read [] zero rest l e = refl
  table-read [] (suc n) rest l e = absurd (omega arith)
  table-read (x ∷ xs) zero rest l e = absurd (omega arith)
  table-read (x ∷ xs) (suc n) rest l e =
      rw append_assoc
      (ap₂ ◌∷◌ (ap g (take_at (f x) (table_words f xs ++ rest) w (wide x)) ∙ read x (and_left _ _ e))
      (ap (table_from g w n) (drop_at (f x) (table_words f xs ++ rest) w (wide x))
      ∙ table-read xs n rest (omega arith) (and_right _ _ e)))

-- the record of these fields
fields : List Token → List Cell → List ℕ → ℕ → List ℕ → ℕ → ℕ → ℕ → ℕ → List ℕ → ℕ → ℕ → Machine
fields ts cs q n w k calls p c l d t =
    record {
      tokens = ts;
      cells = cs;
      queue = q;
      queued = n;
      waits = w;
      waiting = k;
      calls = calls;
      lasttoken = p;
      lastcell = c;
      timers = l;
      timed = d;
      clock = t;
    }

same-fields : {ts us : List Token} {cs ds : List Cell} {q r w v l x : List ℕ} {n i k j a b p o c e d f t u : ℕ}
    → ts ≡ us → cs ≡ ds → q ≡ r → n ≡ i → w ≡ v → k ≡ j → a ≡ b → p ≡ o → c ≡ e → l ≡ x → d ≡ f → t ≡ u
    → fields ts cs q n w k a p c l d t ≡ fields us ds r i v j b o e x f u
same-fields ts cs q n w k a p c l d t = cc

-- a record that keeps the rules
module _ (d : Dag) (m : Machine) (holds : rules_hold paper d m ≡ true) where
  sizes : Sized m.tokens m.cells m.queue m.waits (count_words m) m.timers (clock_words m)
  unfolding count_words clock_words
  sizes =
      record {
        tokens = tokens-sized paper d m holds;
        cells = cells-sized paper d m holds;
        queue = queue-sized paper d m holds;
        waits = waits-sized paper d m holds;
        counts = refl;
        timers = timers-sized paper d m holds;
        clock = refl;
      }

  tokens-read : (machine_of (words_of m)).tokens ≡ m.tokens
  unfolding machine_of words_of parts
  tokens-read =
      table-read row_of token_from 24 row-wide (token_in_range paper d m.calls) (token-read paper d m.calls) m.tokens 64 _
      sizes.tokens (each-rule-holds paper d m holds).tokens

  cells-read : (machine_of (words_of m)).cells ≡ m.cells
  unfolding machine_of words_of parts
  cells-read =
      let sized = sizes.tokens in
      let long : length (table_words row_of m.tokens) ≡ 1536 = rows-length row_of 24 row-wide m.tokens ∙ ap (λ n. 24 * n) sized in
      ap (table_from cell_from 4 32) (drop_at (table_words row_of m.tokens) _ 1536 long)
      ∙ table-read cell_row cell_from 4 cell-wide (cell_in_range paper) (cell-read paper) m.cells 32 _ sizes.cells
      (each-rule-holds paper d m holds).cells

  count-read : (i : ℕ) → i < 5 → get_or (words_of m) (1792 + i) 0 ≡ get_or (count_words m) i 0
  unfolding words_of
  count-read i l = part-get (counts-stand sizes) (count_words m) 5 sizes.counts i l

  clock-read : (i : ℕ) → i < 2 → get_or (words_of m) (1861 + i) 0 ≡ get_or (clock_words m) i 0
  unfolding words_of
  clock-read i l = part-get (clock-stands sizes) (clock_words m) 2 sizes.clock i l

  pub record-read : machine_of (words_of m) ≡ m
  unfolding machine_of words_of count_words clock_words fields
  record-read =
      same-fields tokens-read cells-read
      (part-is (queue-stands sizes) m.queue 64 sizes.queue) (count-read 0 (omega arith))
      (part-is (waits-stand sizes) m.waits 64 sizes.waits) (count-read 1 (omega arith))
      (count-read 2 (omega arith)) (count-read 3 (omega arith)) (count-read 4 (omega arith))
      (part-is (timers-stand sizes) m.timers 64 sizes.timers) (clock-read 0 (omega arith)) (clock-read 1 (omega arith))

  pub record_is : is_record (words_of m) ≡ true
  unfolding is_record
  record_is = ap (λ (x : Machine). same (words_of m) (words_of x)) record-read ∙ same_refl (words_of m)
