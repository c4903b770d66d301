-- The parameters in a node's row, one by one, and the formals that they bind. By induction over the parameters. Assumes nothing.
use mathlib.Core.Path.{◌≡◌, refl, sym, ap, ap₂, subst, ◌∙◌}
use mathlib.Core.Bool.{true}
use mathlib.Core.List.{List, [], ◌∷◌, ◌++◌, map, map-append}
use Prim.Native.Nat.{ℕ, zero, suc, ◌+◌, ◌-◌, ◌*◌, ◌≤◌, ◌<◌}
use native.Mathlib.Numerals.{add-one}
use native.Mathlib.Omega.{arith}
use lib.ListN.{length, get_or, set, take, drop, length-drop, length-map}
use lib.Seq.{take-suc, drop-cons, set_at, append_snoc, length-take-le, get_or-drop, take_all}
use Rattle.job.specs.Number as Number
use Rattle.job.specs.Syntax.{Param, variable, constant}
use Rattle.job.specs.Node.{param_holds}
use Rattle.job.specs.Words.{param_of, params_from}
use Rattle.model.specs.Machine.Blank.{empty, unbound, slot_at}
use Rattle.model.specs.Machine.Step.{passed, formals_bound}
use Rattle.model.specs.declared.token.Slot.TheVariants as slots
use Rattle.model.specs.declared.token.Slot.{Slot}
use Rattle.job.proofs.Lists.{part_at, part-long}
use Rattle.job.proofs.Test.{ne_eqb, ltb-lt, all-at}
use Rattle.sites.specs.Row.{row_at, params_at, ParamsHold}

-- a parameter by its kind
pub param-variable : (k w : ℕ) → k ≡ 7 → param_of k w ≡ variable w
unfolding param_of
param-variable k w e = rw (e, param_of)

pub param-constant : (k w : ℕ) → (k ≡ 7 → ⊥) → param_of k w ≡ constant (Number.signed w)
unfolding param_of
param-constant k w f = rw (ne_eqb k 7 f, param_of)

-- the parameters that n pairs of words are
length-params : (n : ℕ) (ws : List ℕ) → n * 2 ≤ length ws → length (params_from n ws) ≡ n
unfolding params_from
length-params zero ws l = refl
length-params (suc n) [] l = absurd (omega arith)
length-params (suc n) (k ∷ []) l = absurd (omega arith)
length-params (suc n) (k ∷ w ∷ ws) l = ap suc (length-params n ws (omega arith))

param-at :
    (n i : ℕ) (ws : List ℕ) (d : Param)
    → i < n
    → n * 2 ≤ length ws
    → get_or (params_from n ws) i d ≡ param_of (get_or ws (i * 2) 0) (get_or ws (suc (i * 2)) 0)
unfolding params_from
param-at zero i ws d l fit = absurd (omega arith)
param-at (suc n) i [] d l fit = absurd (omega arith)
param-at (suc n) i (k ∷ []) d l fit = absurd (omega arith)
param-at (suc n) zero (k ∷ w ∷ ws) d l fit = refl
param-at (suc n) (suc i) (k ∷ w ∷ ws) d l fit =
    let two : suc (suc (i * 2)) ≡ suc i * 2 = omega arith in
    param-at n i ws d (omega arith) (omega arith) ∙ ap (λ j. param_of (get_or (k ∷ w ∷ ws) j 0) (get_or (k ∷ w ∷ ws) (suc j) 0)) two

-- a word of a row
pub row_word : (ws : List ℕ) (at i : ℕ) → i < 12 → get_or (row_at ws at) i 0 ≡ get_or ws (at + i) 0
row_word ws at i l = part_at ws at 12 i 0 l

module _ (ws : List ℕ) (at : ℕ) (size : length ws ≡ 12331) (inside : at + 12 ≤ 12331) (few : get_or ws (at + 3) 0 ≤ 4) where
  row-long : length (row_at ws at) ≡ 12
  row-long = part-long ws at 12 (omega arith)

  words_long : length (drop 4 (row_at ws at)) ≡ 8
  words_long = let z : length (drop 4 (row_at ws at)) ≡ length (row_at ws at) - 4 = length-drop 4 (row_at ws at) in let y = row-long in
      omega arith

  param-word : (i : ℕ) → i < 8 → get_or (drop 4 (row_at ws at)) i 0 ≡ get_or ws (at + (4 + i)) 0
  param-word i l = get_or-drop 4 (row_at ws at) i 0 ∙ row_word ws at (4 + i) (omega arith)

  pub params-count : length (params_at ws at) ≡ get_or ws (at + 3) 0
  unfolding params_at
  params-count = let z = words_long in length-params (get_or ws (at + 3) 0) (drop 4 (row_at ws at)) (omega arith)

  pub params-at :
      (i : ℕ) (d : Param)
      → i < get_or ws (at + 3) 0
      → get_or (params_at ws at) i d ≡ param_of (get_or ws (at + 4 + 2 * i) 0) (get_or ws (at + 5 + 2 * i) 0)
  unfolding params_at
  params-at i d l =
      let z = words_long in
      let kind : at + (4 + i * 2) ≡ at + 4 + 2 * i = omega arith in
      let word : at + (4 + suc (i * 2)) ≡ at + 5 + 2 * i = omega arith in
      param-at (get_or ws (at + 3) 0) i (drop 4 (row_at ws at)) d l (omega arith)
      ∙ ap₂ param_of
      (param-word (i * 2) (omega arith) ∙ ap (λ k. get_or ws k 0) kind)
      (param-word (suc (i * 2)) (omega arith) ∙ ap (λ k. get_or ws k 0) word)

-- the formals, one more bound at each turn
pub bound-more :
    (bs : List Slot) (ps : List Param) (i : ℕ) (d : Param)
    → i < length ps
    → length ps ≤ 8
    → set (formals_bound bs (take i ps)) i (passed bs (get_or ps i d)) ≡ formals_bound bs (take (i + 1) ps)
unfolding formals_bound
bound-more bs ps i d l few =
    let p = passed bs (get_or ps i d) in
    let front = map (passed bs) (take i ps) in
    let short : length (take i ps) ≡ i = length-take-le i ps (omega arith) in
    let long : length (take (suc i) ps) ≡ suc i = length-take-le (suc i) ps (omega arith) in
    let size : length front ≡ i = length-map (take i ps) (passed bs) ∙ short in
    let room : i < length unbound = omega arith in
    let more : map (passed bs) (take (suc i) ps) ≡ front ++ (p ∷ []) =
    ap (map (passed bs)) (take-suc ps i d l) ∙ map-append (passed bs) (take i ps) (get_or ps i d ∷ []) in
    let before : set (front ++ drop (length (take i ps)) unbound) i p ≡ front ++ p ∷ drop (suc i) unbound =
    ap (λ k. set (front ++ drop k unbound) i p) short
    ∙ ap (λ rest. set (front ++ rest) i p) (drop-cons unbound i empty room)
    ∙ set_at front (get_or unbound i empty) (drop (suc i) unbound) p i size in
    let after : map (passed bs) (take (suc i) ps) ++ drop (length (take (suc i) ps)) unbound ≡ front ++ p ∷ drop (suc i) unbound =
    ap₂ (λ xs k. xs ++ drop k unbound) more long ∙ append_snoc front p (drop (suc i) unbound) in
    before ∙ sym after ∙ ap (λ k. map (passed bs) (take k ps) ++ drop (length (take k ps)) unbound) (sym (add-one i))

pub bound_all : (bs : List Slot) (ps : List Param) (i : ℕ) → length ps ≤ i → formals_bound bs (take i ps) ≡ formals_bound bs ps
bound_all bs ps i l = ap (formals_bound bs) (take_all i ps l)

-- a variable is below 8, and a constant is passed as a value
pub variable-below : (p : Param) (x : ℕ) → param_holds p ≡ true → p ≡ variable x → x < 8
unfolding param_holds
variable-below p x k e = ltb-lt x 8 (subst (λ q. param_holds q ≡ true) e k)

pub below : (k w : ℕ) {x : ℕ} → param_holds (param_of k w) ≡ true → k ≡ 7 → x ≡ w → x < 8
below k w e f g = subst (λ i. i < 8) (sym g) (variable-below (param_of k w) w e (param-variable k w f))

-- what is passed, as a slot
pub slot-variable : (bs : List Slot) (k w : ℕ) → k ≡ 7 → slot_at bs w ≡ passed bs (param_of k w)
unfolding passed
slot-variable bs k w e = sym (ap (passed bs) (param-variable k w e))

pub slot-constant : (bs : List Slot) (k w : ℕ) → (k ≡ 7 → ⊥) → slots.Value (Number.signed w) ≡ passed bs (param_of k w)
unfolding passed
slot-constant bs k w n = sym (ap (passed bs) (param-constant k w n))

-- a turn of the loop that binds the formals: k and w are the words of the parameter at i
module _ (ws : List ℕ) (at i k w : ℕ) (o : ParamsHold ws at) (l : i < get_or ws (at + 3) 0) where
  the-param : k ≡ get_or ws (at + 4 + 2 * i) 0 → w ≡ get_or ws (at + 5 + 2 * i) 0 → get_or (params_at ws at) i (variable 0) ≡ param_of k w
  the-param e f = params-at ws at o.size o.inside o.few i (variable 0) l ∙ sym (ap₂ param_of e f)

  pub param-holds : k ≡ get_or ws (at + 4 + 2 * i) 0 → w ≡ get_or ws (at + 5 + 2 * i) 0 → param_holds (param_of k w) ≡ true
  param-holds e f =
      let n = params-count ws at o.size o.inside o.few in
      subst (λ p. param_holds p ≡ true) (the-param e f) (all-at param_holds (params_at ws at) i (variable 0) o.hold (omega arith))

  pub param-bound :
      (bs : List Slot) (b : Slot)
      → k ≡ get_or ws (at + 4 + 2 * i) 0
      → w ≡ get_or ws (at + 5 + 2 * i) 0
      → b ≡ passed bs (param_of k w)
      → set (formals_bound bs (take i (params_at ws at))) i b ≡ formals_bound bs (take (i + 1) (params_at ws at))
  param-bound bs b e f g =
      let n = params-count ws at o.size o.inside o.few in
      let few : get_or ws (at + 3) 0 ≤ 4 = o.few in
      ap (set (formals_bound bs (take i (params_at ws at))) i) (g ∙ ap (passed bs) (sym (the-param e f)))
      ∙ bound-more bs (params_at ws at) i (variable 0) (omega arith) (omega arith)

pub params-bound : (ws : List ℕ) (at i : ℕ) (bs : List Slot) → ParamsHold ws at → get_or ws (at + 3) 0 ≤ i
    → formals_bound bs (take i (params_at ws at)) ≡ formals_bound bs (params_at ws at)
params-bound ws at i bs o l = let n = params-count ws at o.size o.inside o.few in bound_all bs (params_at ws at) i (omega arith)

pub none-bound : (bs : List Slot) (ps : List Param) → unbound ≡ formals_bound bs (take 0 ps)
unfolding formals_bound
none-bound bs ps = refl
