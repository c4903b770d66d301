-- Looking up parameters one by one: what is found so far stands in front of what the rest gives. By induction over the parameters that are
-- left. Assumes nothing.
use mathlib.Core.Path.{◌≡◌, refl, sym, ap, ap₂, subst, ◌∙◌}
use mathlib.Core.Bool.{true}
use mathlib.Core.List.{List, [], ◌∷◌, ◌++◌, append_assoc, append-nil}
use Prim.Native.Nat.{ℕ, suc, ◌+◌, ◌-◌, ◌*◌, ◌≤◌, ◌<◌}
use native.Mathlib.Decide.{dec_lt}
use native.Mathlib.Numerals.{add-one}
use native.Mathlib.Omega.{arith}
use lib.ListN.{length, get_or, set, take, drop, replicate, drop_of_length-le, get_or-eq_default}
use lib.Seq.{take-suc-set, drop-cons, drop-set-lt}
use lib.IntN.{ℤ, pos}
use Rattle.std.specs.Prelude.{Some, None}
use Rattle.job.specs.Test.{for_all, padded}
use Rattle.job.specs.Number.{signed}
use Rattle.job.specs.Syntax.{Param, variable, constant}
use Rattle.job.specs.Node.{param_holds}
use Rattle.job.specs.Words.{param_of}
use Rattle.model.specs.Machine.Blank.{empty, is_bound, blank_cell, token_at, cell_at, slot_at}
use Rattle.model.specs.Machine.Rules.{slot_in_range, held_in_range, not_empty}
use Rattle.model.specs.Machine.Reply.{report_values}
use Rattle.model.specs.Machine.Step.{LookUpResult, values, unset, and_then, look}
use Rattle.model.specs.declared.token.Slot.{Slot}
use Rattle.model.specs.declared.token.Slot.TheVariants as slots
use Rattle.model.specs.Machine.Held.{Held}
use Rattle.model.specs.declared.cell.Cell.{Cell}
use Rattle.model.specs.declared.record.Machine.{Machine}
use Rattle.job.proofs.Number.{signed-unsigned}
use Rattle.job.proofs.Test.{never, clash, ltb-lt, all-at, all_head, all_tail}
use Rattle.record.specs.Layout.{slot_kind, slot_number, held_kind, held_number}
use Rattle.orders.proofs.NamesPadded.{padded-front, zeros-less}
use Rattle.sites.specs.declared.look.UnsetCell.{UnsetCell}
use Rattle.std.specs.Prelude.{Some, None, Result, Ok, Err}
use Rattle.sites.specs.Look.{Found, unset_cell, held_found, found_of, param_found, after, look_up_of, LookFacts}
use Rattle.sites.specs.Row.{params_at, ParamsHold}
use Rattle.sites.proofs.LookParams.{param-variable, param-constant, params-count, params-at}

-- a cell as an argument, by its words
held-value : (c n : ℕ) (h : Held) → (held_kind h ≡ 0 → ⊥) → n ≡ held_number h → held_in_range h ≡ true
    → Ok (Some (signed n)) ≡ held_found c h
unfolding held_found held_in_range
held-value c n None f e r = absurd (f refl)
held-value c n (Some v) f e r = ap (λ v. Ok (Some v)) (ap signed e ∙ signed-unsigned v r)

module _ (c k : ℕ) (h : Held) (ek : k ≡ held_kind h) where
  pub cell_set : (n : ℕ) → (k ≡ 0 → ⊥) → n ≡ held_number h → held_in_range h ≡ true → Ok (Some (signed n)) ≡ held_found c h
  cell_set n f e r = held-value c n h (λ z. f (ek ∙ z)) e r

-- a variable as an argument, by its words
slot-value : (cs : List Cell) (n : ℕ) (s : Slot) → slot_kind s ≡ 1 → n ≡ slot_number s → slot_in_range 32 s ≡ true
    → Ok (Some (signed n)) ≡ found_of cs s
unfolding found_of slot_in_range
slot-value cs n slots.Empty e f r = absurd (omega arith)
slot-value cs n (slots.Value v) e f r = ap (λ v. Ok (Some v)) (ap signed f ∙ signed-unsigned v r)
slot-value cs n (slots.Cell c) e f r = absurd (omega arith)

slot-cell : (cs : List Cell) (n : ℕ) (s : Slot) → (slot_kind s ≡ 0 → ⊥) → (slot_kind s ≡ 1 → ⊥) → n ≡ slot_number s
    → slot_in_range 32 s ≡ true
    → (n < 32) × (held_found n (cell_at cs n).value ≡ found_of cs s)
unfolding found_of slot_in_range
slot-cell cs n slots.Empty f g e r = absurd (f refl)
slot-cell cs n (slots.Value v) f g e r = absurd (g refl)
slot-cell cs n (slots.Cell c) f g e r =
    (subst (λ i. i < 32) (sym e) (ltb-lt c 32 r), ap (λ i. held_found i (cell_at cs i).value) e)

slot-in-range : (bs : List Slot) (x : ℕ) → for_all (slot_in_range 32) bs ≡ true
    → slot_in_range 32 (slot_at bs x) ≡ true
unfolding slot_at slot_in_range
slot-in-range bs x e = go (dec_lt x (length bs))
  where
    go : Dec (x < length bs) → slot_in_range 32 (get_or bs x empty) ≡ true
    go (yes l) = all-at (slot_in_range 32) bs x empty e l
    go (no f) = ap (slot_in_range 32) (get_or-eq_default bs empty {n = x} (omega arith))

cell-in-range : (cs : List Cell) (c : ℕ) → for_all (λ (c : Cell). held_in_range c.value) cs ≡ true
    → held_in_range (cell_at cs c).value ≡ true
unfolding cell_at held_in_range
cell-in-range cs c e = go (dec_lt c (length cs))
  where
    go : Dec (c < length cs) → held_in_range (get_or cs c blank_cell).value ≡ true
    go (yes l) = all-at (λ (c : Cell). held_in_range c.value) cs c blank_cell e l
    go (no f) = ap (λ (c : Cell). held_in_range c.value) (get_or-eq_default cs blank_cell {n = c} (omega arith))

module _ (m : Machine) (p x k n : ℕ) (o : LookFacts m p) where
  abbrev bound : Slot
  bound = slot_at (token_at m.tokens p).binds x

  in-range : slot_in_range 32 bound ≡ true
  in-range = slot-in-range (token_at m.tokens p).binds x o.slots

  module _ (ek : k ≡ slot_kind bound) (en : n ≡ slot_number bound) where
    pub variable-value : k ≡ 1 → Ok (Some (signed n)) ≡ found_of m.cells bound
    variable-value e = slot-value m.cells n bound (sym ek ∙ e) en in-range

    pub variable-cell : (r : Found) → (k ≡ 0 → ⊥) → (k ≡ 1 → ⊥)
        → (n < 32 → held_in_range (cell_at m.cells n).value ≡ true → r ≡ held_found n (cell_at m.cells n).value)
        → r ≡ found_of m.cells bound
    variable-cell r f g h =
        let both = slot-cell m.cells n bound (λ z. f (ek ∙ z)) (λ z. g (ek ∙ z)) en in-range in
        h both.0 (cell-in-range m.cells n o.cells) ∙ both.1

-- a parameter as an argument
module _ (cs : List Cell) (bs : List Slot) (k w : ℕ) where
  pub found-variable : (x : ℕ) (r : Found) → k ≡ 7 → x ≡ w → r ≡ found_of cs (slot_at bs x) → r ≡ param_found cs bs (param_of k w)
  unfolding param_found
  found-variable x r e f g = g ∙ ap (λ x. found_of cs (slot_at bs x)) f ∙ sym (ap (param_found cs bs) (param-variable k w e))

  pub found-constant : (k ≡ 7 → ⊥) → Ok (Some (signed w)) ≡ param_found cs bs (param_of k w)
  unfolding param_found
  found-constant f = sym (ap (param_found cs bs) (param-constant k w f))

-- looking up, one more at each turn
look-held : (c : ℕ) (h : Held) (l : LookUpResult)
    → elim h as (λ h. LookUpResult) [ None ↦ unset c | Some v ↦ and_then v l ] ≡ after (held_found c h) l
unfolding after held_found
look-held c None l = refl
look-held c (Some v) l = refl

look-slot :
    (cs : List Cell) (s : Slot) (l : LookUpResult)
    → elim s as (λ s. LookUpResult) [
      | slots.Empty ↦ values []
      | slots.Value v ↦ and_then v l
      | slots.Cell c ↦ elim (cell_at cs c).value [ None ↦ unset c | Some v ↦ and_then v l ]
    ]
    ≡ after (found_of cs s) l
unfolding after found_of
look-slot cs slots.Empty l = refl
look-slot cs (slots.Value v) l = refl
look-slot cs (slots.Cell c) l = look-held c (cell_at cs c).value l

look-next : (cs : List Cell) (bs : List Slot) (q : Param) (ps : List Param)
    → look cs bs (q ∷ ps) ≡ after (param_found cs bs q) (look cs bs ps)
unfolding look param_found after
look-next cs bs (constant v) ps = refl
look-next cs bs (variable x) ps = look-slot cs (slot_at bs x) (look cs bs ps)

unfoldable pub behind : List ℤ → LookUpResult → LookUpResult
behind vs (values ws) = values (vs ++ ws)
behind vs (unset c) = unset c

pub behind-none : (l : LookUpResult) → l ≡ behind [] l
unfolding behind
behind-none (values ws) = refl
behind-none (unset c) = refl

behind_more : (vs : List ℤ) (v : ℤ) (l : LookUpResult) → behind vs (and_then v l) ≡ behind (vs ++ (v ∷ [])) l
unfolding behind and_then
behind_more vs v (values ws) = ap values (sym (append_assoc vs (v ∷ []) ws))
behind_more vs v (unset c) = refl

-- the values so far, zeros behind them
pub record Filled (i : ℕ) (vs : List ℤ) : Type 0 where
  pub size : length vs ≡ 4
  pub zeros : drop i vs ≡ replicate (4 - i) (pos 0)

pub filled_more : (i : ℕ) (vs : List ℤ) (v : ℤ) → i < 4 → Filled i vs → Filled (i + 1) (set vs i v)
filled_more i vs v l o =
    record {
      size = lib.ListN.length-set vs i v ∙ o.size;
      zeros = drop-set-lt (i + 1) vs i v (omega arith) ∙ zeros-less (pos 0) vs i 4 l o.zeros;
    }

module _ (cs : List Cell) (bs : List Slot) (ps : List Param) (i : ℕ) (vs : List ℤ) where
  -- .. and what is left to look up
  abbrev pub Looking : Type 0
  Looking = look cs bs ps ≡ behind (take i vs) (look cs bs (drop i ps))

  module _ (o : Looking) (full : Filled i vs) where
    step : (d : Param) (k : Found) → i < length ps → param_found cs bs (get_or ps i d) ≡ k
        → look cs bs ps ≡ behind (take i vs) (after k (look cs bs (drop (suc i) ps)))
    step d k l e =
        o ∙ ap (behind (take i vs))
        (ap (look cs bs) (drop-cons ps i d l) ∙ look-next cs bs (get_or ps i d) (drop (suc i) ps)
        ∙ ap (λ x. after x (look cs bs (drop (suc i) ps))) e)

    pub looking-on : (d : Param) (v : ℤ) → i < length ps → i < 4 → param_found cs bs (get_or ps i d) ≡ Ok (Some v)
        → look cs bs ps ≡ behind (take (i + 1) (set vs i v)) (look cs bs (drop (i + 1) ps))
    unfolding after
    looking-on d v l few e =
        let size : length vs ≡ 4 = full.size in
        let room : i < length vs = omega arith in
        let one : i + 1 ≡ suc i = add-one i in
        step d (Ok (Some v)) l e
        ∙ behind_more (take i vs) v (look cs bs (drop (suc i) ps))
        ∙ ap₂ (λ xs n. behind xs (look cs bs (drop n ps))) (sym (take-suc-set vs i v room) ∙ ap (λ n. take n (set vs i v)) (sym one))
        (sym one)

    pub look-up-unset : (d : Param) (c : UnsetCell) → i < length ps → param_found cs bs (get_or ps i d) ≡ Err c
        → Err c ≡ look_up_of (look cs bs ps)
    unfolding after behind look_up_of padded
    look-up-unset d c l e = sym (ap look_up_of (step d (Err c) l e))

    look-up-front : i ≤ 4 → look cs bs ps ≡ values (take i vs) → Ok vs ≡ look_up_of (look cs bs ps)
    unfolding look_up_of
    look-up-front few e =
        sym (ap look_up_of e ∙ ap Ok (padded-front (pos 0) vs i 4 full.size few full.zeros))

    pub look-up-nothing : (d : Param) → i < length ps → i ≤ 4 → param_found cs bs (get_or ps i d) ≡ Ok None
        → Ok vs ≡ look_up_of (look cs bs ps)
    unfolding after behind
    look-up-nothing d l few e = look-up-front few (step d (Ok None) l e ∙ ap values (append-nil (take i vs)))

    pub look-up-all : length ps ≤ i → i ≤ 4 → Ok vs ≡ look_up_of (look cs bs ps)
    unfolding look behind
    look-up-all l few =
        let none : drop i ps ≡ [] = drop_of_length-le ps {i = i} l in
        look-up-front few (o ∙ ap (λ xs. behind (take i vs) (look cs bs xs)) none ∙ ap values (append-nil (take i vs)))

-- the parameter at an index, by its two words of the dag
module _ (ws : List ℕ) (at i : ℕ) (o : ParamsHold ws at) (l : i < get_or ws (at + 3) 0) where
  pub param-here : param_of (get_or ws (at + 4 + 2 * i) 0) (get_or ws (at + 4 + 2 * i + 1) 0) ≡ get_or (params_at ws at) i (variable 0)
  param-here =
      let next : at + 4 + 2 * i + 1 ≡ at + 5 + 2 * i = omega arith in
      ap (λ j. param_of (get_or ws (at + 4 + 2 * i) 0) (get_or ws j 0)) next
      ∙ sym (params-at ws at o.size o.inside o.few i (variable 0) l)

  pub param-there : i < length (params_at ws at)
  param-there = let n = params-count ws at o.size o.inside o.few in omega arith

  pub param-small : i < 4
  param-small = let f : get_or ws (at + 3) 0 ≤ 4 = o.few in omega arith

  pub param-in-range : param_holds (param_of (get_or ws (at + 4 + 2 * i) 0) (get_or ws (at + 4 + 2 * i + 1) 0)) ≡ true
  param-in-range =
      subst (λ q. param_holds q ≡ true) (sym param-here) (all-at param_holds (params_at ws at) i (variable 0) o.hold param-there)

-- a look-up gives a value for each parameter if no variable is empty
held_found_lem : (c : ℕ) (h : Held) → held_found c h ≡ Ok None → ⊥
unfolding held_found
held_found_lem c None e = never cc
held_found_lem c (Some v) e = never cc

bound-found : (cs : List Cell) (s : Slot) → is_bound s ≡ true → found_of cs s ≡ Ok None → ⊥
unfolding found_of is_bound
bound-found cs slots.Empty e f = clash e refl
bound-found cs (slots.Value v) e f = never cc
bound-found cs (slots.Cell c) e f = held_found_lem c (cell_at cs c).value f

param-found : (cs : List Cell) (bs : List Slot) (q : Param) → not_empty bs q ≡ true → param_found cs bs q ≡ Ok None → ⊥
unfolding param_found not_empty
param-found cs bs (constant v) e f = never cc
param-found cs bs (variable x) e f = bound-found cs (slot_at bs x) e f

after-count : (n : ℕ) (k : Found) (l : LookUpResult) (vs : List ℤ) → (k ≡ Ok None → ⊥)
    → ((us : List ℤ) → l ≡ values us → length us ≡ n)
    → after k l ≡ values vs → length vs ≡ suc n
unfolding after and_then
after-count n (Ok (Some v)) (values us) vs f g e = let z : vs ≡ v ∷ us = cc in ap length z ∙ ap suc (g us refl)
after-count n (Ok (Some v)) (unset c) vs f g e = never cc
after-count n (Err c) l vs f g e = never cc
after-count n (Ok None) l vs f g e = absurd (f refl)

pub look-count : (cs : List Cell) (bs : List Slot) (ps : List Param) (vs : List ℤ) → for_all (not_empty bs) ps ≡ true
    → look cs bs ps ≡ values vs
    → length vs ≡ length ps
unfolding look
look-count cs bs [] vs e f = let z : vs ≡ [] = cc in ap length z
look-count cs bs (q ∷ ps) vs e f =
    after-count (length ps) (param_found cs bs q) (look cs bs ps) vs (param-found cs bs q (all_head (not_empty bs) q ps e))
    (λ us g. look-count cs bs ps us (all_tail (not_empty bs) q ps e) g)
    (sym (look-next cs bs q ps) ∙ f)

-- what a look-up's result says
pub look-waits : (l : LookUpResult) {r : Result (List ℤ) UnsetCell} → r ≡ look_up_of l → (c : UnsetCell) → r ≡ Err c → l ≡ unset c.0
unfolding look_up_of
look-waits (values vs) e c f = never cc
look-waits (unset d) e c f = let z : unset_cell d ≡ c = cc in ap (λ (c : UnsetCell). unset c.0) z

pub look-values : (l : LookUpResult) {r : Result (List ℤ) UnsetCell} → r ≡ look_up_of l → (xs : List ℤ) → r ≡ Ok xs
    → (vs : List ℤ) × (l ≡ values vs) × (xs ≡ report_values vs)
unfolding look_up_of
look-values (values vs) e xs f = (vs, refl, cc)
look-values (unset c) e xs f = never cc
