-- A token's row: what its words say of the token, and what writing one word or two of them makes of it. Twenty-four words of the table,
-- each at its index of the row. Assumes nothing.
use mathlib.Core.Path.{◌≡◌, refl, sym, ap, ap₂, subst, ◌∙◌}
use mathlib.Core.List.{List, [], ◌∷◌}
use Prim.Native.Nat.{ℕ, zero, suc, ◌+◌, ◌-◌, ◌*◌, ◌<◌}
use native.Mathlib.Omega.{arith}
use lib.ListN.{length, get_or, set, length-set}
use lib.Seq.{paste, get_or-set_same, set-set, set-get_or}
use Rattle.model.specs.Machine.Blank.{blank_token, token_at, slot_at}
use Rattle.model.specs.Machine.Update.{put, with_node, with_state, with_value, with_binding, with_tables}
use Rattle.model.specs.declared.token.Slot.{Slot}
use Rattle.model.specs.Machine.Held.{Held, Place}
use Rattle.model.specs.declared.token.State.{State}
use Rattle.model.specs.declared.token.Token.{Token}
use Rattle.model.specs.declared.record.Machine.{Machine}
use Rattle.record.specs.Changes.{with_caller, with_cell}
use Rattle.record.specs.Layout.{row_of, words_of, count_words, clock_words, parts}
use Rattle.record.specs.Layout.{slot_kind, slot_number, state_kind, state_number, place_number, held_kind, held_number}
use Rattle.record.specs.Holds.{Codes, Holds}
use Rattle.record.proofs.LayoutParts as parts_laws
use Rattle.record.proofs.HoldsShape.{shaped, tables-hold, binds-after}
use Rattle.model.specs.Machine.State.{is_ready, is_waiting, is_due}
use lib.Dec.{eqb}
use Rattle.model.specs.declared.token.State.TheVariants as states

-- a slot's kind and number in the row
slot-kind : (t : Token) (x : ℕ) → x < 8 → get_or (row_of t) (8 + 2 * x) 0 ≡ slot_kind (slot_at t.binds x)
unfolding row_of slot_at
slot-kind t zero l = refl
slot-kind t (suc zero) l = refl
slot-kind t (suc (suc zero)) l = refl
slot-kind t (suc (suc (suc zero))) l = refl
slot-kind t (suc (suc (suc (suc zero)))) l = refl
slot-kind t (suc (suc (suc (suc (suc zero))))) l = refl
slot-kind t (suc (suc (suc (suc (suc (suc zero)))))) l = refl
slot-kind t (suc (suc (suc (suc (suc (suc (suc zero))))))) l = refl
slot-kind t (suc (suc (suc (suc (suc (suc (suc (suc x)))))))) l = absurd (omega arith)

slot-number : (t : Token) (x : ℕ) → x < 8 → get_or (row_of t) (9 + 2 * x) 0 ≡ slot_number (slot_at t.binds x)
unfolding row_of slot_at
slot-number t zero l = refl
slot-number t (suc zero) l = refl
slot-number t (suc (suc zero)) l = refl
slot-number t (suc (suc (suc zero))) l = refl
slot-number t (suc (suc (suc (suc zero)))) l = refl
slot-number t (suc (suc (suc (suc (suc zero))))) l = refl
slot-number t (suc (suc (suc (suc (suc (suc zero)))))) l = refl
slot-number t (suc (suc (suc (suc (suc (suc (suc zero))))))) l = refl
slot-number t (suc (suc (suc (suc (suc (suc (suc (suc x)))))))) l = absurd (omega arith)

-- a binding is written in the row
bound-in :
    (t : Token) (bs : List Slot) (x : ℕ) (s : Slot) → x < 8 → length bs ≡ 8
    → set (set (row_of (record { node = t.node; binds = bs; value = t.value; caller = t.caller; cell = t.cell; state = t.state }))
    (8 + 2 * x) (slot_kind s)) (9 + 2 * x) (slot_number s)
    ≡ row_of (record {
      node = t.node;
      binds = set bs x s;
      value = t.value;
      caller = t.caller;
      cell = t.cell;
      state =
          t.state;
    })
unfolding row_of slot_at
bound-in t (a ∷ b ∷ c ∷ d ∷ e ∷ f ∷ g ∷ h ∷ []) zero s i l = refl
bound-in t (a ∷ b ∷ c ∷ d ∷ e ∷ f ∷ g ∷ h ∷ []) (suc zero) s i l = refl
bound-in t (a ∷ b ∷ c ∷ d ∷ e ∷ f ∷ g ∷ h ∷ []) (suc (suc zero)) s i l = refl
bound-in t (a ∷ b ∷ c ∷ d ∷ e ∷ f ∷ g ∷ h ∷ []) (suc (suc (suc zero))) s i l = refl
bound-in t (a ∷ b ∷ c ∷ d ∷ e ∷ f ∷ g ∷ h ∷ []) (suc (suc (suc (suc zero)))) s i l = refl
bound-in t (a ∷ b ∷ c ∷ d ∷ e ∷ f ∷ g ∷ h ∷ []) (suc (suc (suc (suc (suc zero))))) s i l = refl
bound-in t (a ∷ b ∷ c ∷ d ∷ e ∷ f ∷ g ∷ h ∷ []) (suc (suc (suc (suc (suc (suc zero)))))) s i l = refl
bound-in t (a ∷ b ∷ c ∷ d ∷ e ∷ f ∷ g ∷ h ∷ []) (suc (suc (suc (suc (suc (suc (suc zero))))))) s i l = refl
bound-in t (a ∷ b ∷ c ∷ d ∷ e ∷ f ∷ g ∷ h ∷ []) (suc (suc (suc (suc (suc (suc (suc (suc x)))))))) s i l = absurd (omega arith)
bound-in t [] x s i l = absurd (omega arith)
bound-in t (a ∷ []) x s i l = absurd (omega arith)
bound-in t (a ∷ b ∷ []) x s i l = absurd (omega arith)
bound-in t (a ∷ b ∷ c ∷ []) x s i l = absurd (omega arith)
bound-in t (a ∷ b ∷ c ∷ d ∷ []) x s i l = absurd (omega arith)
bound-in t (a ∷ b ∷ c ∷ d ∷ e ∷ []) x s i l = absurd (omega arith)
bound-in t (a ∷ b ∷ c ∷ d ∷ e ∷ f ∷ []) x s i l = absurd (omega arith)
bound-in t (a ∷ b ∷ c ∷ d ∷ e ∷ f ∷ g ∷ []) x s i l = absurd (omega arith)
bound-in t (a ∷ b ∷ c ∷ d ∷ e ∷ f ∷ g ∷ h ∷ y ∷ bs) x s i l = absurd (omega arith)

bound : (t : Token) (x k n : ℕ) (s : Slot) → x < 8 → length t.binds ≡ 8 → slot_kind s ≡ k → slot_number s ≡ n
    → set (set (row_of t) (8 + 2 * x) k) (9 + 2 * x) n ≡ row_of (with_binding x s t)
unfolding with_binding
bound t x k n s i l e f = ap₂ (λ a b. set (set (row_of t) (8 + 2 * x) a) (9 + 2 * x) b) (sym e) (sym f) ∙ bound-in t t.binds x s i l

-- reading
module _ {ws : List ℕ} {m : Machine} (h : Codes ws m) (p : ℕ) (l : p < 64) where
  abbrev t : Token
  t = token_at m.tokens p

  -- the word j of the row p
  pub token-word : (j : ℕ) → j < 24 → get_or ws (24 * p + j) 0 ≡ get_or (row_of t) j 0
  unfolding token_at words_of
  token-word j s =
      ap (λ r. get_or r (24 * p + j) 0) h.words
      ∙ parts_laws.tokens-get (parts_laws.sized h.shaped) p j l s

  pub state-word : get_or ws (24 * p) 0 ≡ state_kind t.state
  unfolding row_of
  state-word = let z : 24 * p ≡ 24 * p + 0 = omega arith in ap (λ k. get_or ws k 0) z ∙ token-word 0 (omega arith)

  pub number_word : get_or ws (24 * p + 1) 0 ≡ state_number t.state
  unfolding row_of
  number_word = token-word 1 (omega arith)

  pub node-word : get_or ws (24 * p + 2) 0 ≡ t.node
  unfolding row_of
  node-word = token-word 2 (omega arith)

  pub caller-word : get_or ws (24 * p + 3) 0 ≡ place_number t.caller
  unfolding row_of
  caller-word = token-word 3 (omega arith)

  pub cell-word : get_or ws (24 * p + 4) 0 ≡ place_number t.cell
  unfolding row_of
  cell-word = token-word 4 (omega arith)

  pub value-kind-word : get_or ws (24 * p + 5) 0 ≡ held_kind t.value
  unfolding row_of
  value-kind-word = token-word 5 (omega arith)

  pub value-word : get_or ws (24 * p + 6) 0 ≡ held_number t.value
  unfolding row_of
  value-word = token-word 6 (omega arith)

  pub bind-kind-word : (x : ℕ) → x < 8 → get_or ws (24 * p + 8 + 2 * x) 0 ≡ slot_kind (slot_at t.binds x)
  bind-kind-word x s =
      let i : 24 * p + 8 + 2 * x ≡ 24 * p + (8 + 2 * x) = omega arith in
      ap (λ k. get_or ws k 0) i ∙ token-word (8 + 2 * x) (omega arith) ∙ slot-kind t x s

  pub bind-number-word : (x : ℕ) → x < 8 → get_or ws (24 * p + 9 + 2 * x) 0 ≡ slot_number (slot_at t.binds x)
  bind-number-word x s =
      let i : 24 * p + 9 + 2 * x ≡ 24 * p + (9 + 2 * x) = omega arith in
      ap (λ k. get_or ws k 0) i ∙ token-word (9 + 2 * x) (omega arith) ∙ slot-number t x s

-- a token may stand for itself
pub put_self : (m : Machine) (p : ℕ) → put p (token_at m.tokens p) m ≡ m
unfolding put with_tables token_at
put_self m p = ap (λ ts. with_tables ts m.cells m) (set-get_or m.tokens p blank_token)

-- a whole row
module _ {ws : List ℕ} {m : Machine} (h : Holds ws m) (p : ℕ) (l : p < 64) where
  pub row_put : (t : Token) → length t.binds ≡ 8 → Holds (paste ws (24 * p) (row_of t) 24) (put p t m)
  unfolding put words_of
  row_put t b =
      tables-hold h (set m.tokens p t) m.cells
      (ap (λ r. paste r (24 * p) (row_of t) 24) h.codes.words
      ∙ parts_laws.tokens-paste (parts_laws.sized (shaped h)) p t l)
      (length-set m.tokens p t ∙ (shaped h).tokens) (shaped h).cells (binds-after m.tokens p t b (shaped h).binds)

-- writing: the token t at p becomes u
module _ {ws : List ℕ} (m : Machine) (t : Token) (p : ℕ) (h : Holds ws (put p t m)) (l : p < 64) where
  tokens-long : length m.tokens ≡ 64
  unfolding put with_tables
  tokens-long = sym (length-set m.tokens p t) ∙ (shaped h).tokens

  here : get_or (set m.tokens p t) p blank_token ≡ t
  here = get_or-set_same m.tokens p t blank_token (omega (arith, tokens-long))

  pub own-binds : length t.binds ≡ 8
  unfolding put with_tables token_at
  own-binds = ap (λ (u : Token). length u.binds) (sym here) ∙ (shaped h).binds p

  becomes : (u : Token) {xs : List ℕ} → length u.binds ≡ 8
      → xs ≡ parts (set (set m.tokens p t) p u) m.cells m.queue m.waits (count_words m) m.timers (clock_words m)
      → Holds xs (put p u m)
  unfolding put with_tables count_words clock_words
  becomes u {xs} b e =
      subst (λ ts. Holds xs (with_tables ts m.cells m)) (set-set m.tokens p t u)
      (tables-hold h (set (set m.tokens p t) p u) m.cells e
      (length-set (set m.tokens p t) p u ∙ (length-set m.tokens p t ∙ tokens-long)) (shaped h).cells
      (binds-after (set m.tokens p t) p u b (shaped h).binds))

  pub word-put : (j v : ℕ) (u : Token) → j < 24 → length u.binds ≡ 8 → set (row_of t) j v ≡ row_of u
      → Holds (set ws (24 * p + j) v) (put p u m)
  unfolding put with_tables words_of count_words clock_words
  word-put j v u s b e =
      becomes u b
      (ap (λ r. set r (24 * p + j) v) h.codes.words
      ∙ parts_laws.tokens-set (parts_laws.sized (shaped h)) p j l s v u
      (ap (λ x. set (row_of x) j v) here ∙ e))

  pub words-put : (j k v n : ℕ) (u : Token) → j < 24 → k < 24 → length u.binds ≡ 8 → set (set (row_of t) j v) k n ≡ row_of u
      → Holds (set (set ws (24 * p + j) v) (24 * p + k) n) (put p u m)
  unfolding put with_tables words_of count_words clock_words
  words-put j k v n u s z b e =
      becomes u b
      (ap (λ r. set (set r (24 * p + j) v) (24 * p + k) n) h.codes.words
      ∙ parts_laws.tokens-set2 (parts_laws.sized (shaped h)) p j k v n u l s z
      (ap (λ x. set (set (row_of x) j v) k n) here ∙ e))

  pub node-put : (k : ℕ) → Holds (set ws (24 * p + 2) k) (put p (with_node k t) m)
  unfolding row_of with_node
  node-put k = word-put 2 k (with_node k t) (omega arith) own-binds refl

  pub caller-put : (n : ℕ) (q : Place) → place_number q ≡ n → Holds (set ws (24 * p + 3) n) (put p (with_caller q t) m)
  unfolding row_of
  caller-put n q e = word-put 3 n (with_caller q t) (omega arith) own-binds (rw (← e))

  pub cell-put : (n : ℕ) (q : Place) → place_number q ≡ n → Holds (set ws (24 * p + 4) n) (put p (with_cell q t) m)
  unfolding row_of
  cell-put n q e = word-put 4 n (with_cell q t) (omega arith) own-binds (rw (← e))

  pub state-put : (k n : ℕ) (s : State) → state_kind s ≡ k → state_number s ≡ n
      → Holds (set (set ws (24 * p) k) (24 * p + 1) n) (put p (with_state s t) m)
  unfolding row_of with_state
  state-put k n s e f =
      let z : 24 * p ≡ 24 * p + 0 = omega arith in
      subst (λ i. Holds (set (set ws i k) (24 * p + 1) n) (put p (with_state s t) m)) (sym z)
      (words-put 0 1 k n (with_state s t) (omega arith) (omega arith) own-binds (rw (← e, ← f)))

  pub value-put : (k n : ℕ) (v : Held) → held_kind v ≡ k → held_number v ≡ n
      → Holds (set (set ws (24 * p + 5) k) (24 * p + 6) n) (put p (with_value v t) m)
  unfolding row_of with_value
  value-put k n v e f = words-put 5 6 k n (with_value v t) (omega arith) (omega arith) own-binds (rw (← e, ← f))

  pub bind-put : (x k n : ℕ) (s : Slot) → x < 8 → slot_kind s ≡ k → slot_number s ≡ n
      → Holds (set (set ws (24 * p + 8 + 2 * x) k) (24 * p + 9 + 2 * x) n) (put p (with_binding x s t) m)
  unfolding with_binding
  bind-put x k n s i e f =
      let a : 24 * p + 8 + 2 * x ≡ 24 * p + (8 + 2 * x) = omega arith in
      let b : 24 * p + 9 + 2 * x ≡ 24 * p + (9 + 2 * x) = omega arith in
      rw (a, b)
      (words-put (8 + 2 * x) (9 + 2 * x) k n (with_binding x s t) (omega arith) (omega arith)
      (length-set t.binds x s ∙ own-binds)
      (bound t x k n s i own-binds e f))

-- a state by its number
pub ready-kind : (s : State) → eqb (state_kind s) 1 ≡ is_ready s
unfolding is_ready
ready-kind states.Blank = refl
ready-kind states.Ready = refl
ready-kind (states.Waiting c) = refl
ready-kind (states.Called h) = refl
ready-kind (states.Due d) = refl
ready-kind states.Frame = refl

pub waiting-kind : (s : State) → eqb (state_kind s) 2 ≡ is_waiting s
unfolding is_waiting
waiting-kind states.Blank = refl
waiting-kind states.Ready = refl
waiting-kind (states.Waiting c) = refl
waiting-kind (states.Called h) = refl
waiting-kind (states.Due d) = refl
waiting-kind states.Frame = refl

pub due-kind : (s : State) → eqb (state_kind s) 4 ≡ is_due s
unfolding is_due
due-kind states.Blank = refl
due-kind states.Ready = refl
due-kind (states.Waiting c) = refl
due-kind (states.Called h) = refl
due-kind (states.Due d) = refl
due-kind states.Frame = refl
