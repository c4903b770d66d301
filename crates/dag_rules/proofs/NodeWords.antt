-- The index rules of a node are those of its words: a row is compared with the words of the node that it would be, and both tests go
-- word by word. Assumes nothing.
use mathlib.Core.Path.{◌≡◌, refl, sym, ◌∙◌, ap, ap₂}
use mathlib.Core.Bool.{Bool, true, false, ◌&&◌}
use mathlib.Core.List.{List, [], ◌∷◌}
use Prim.Native.Nat.{ℕ, zero, suc, ◌+◌, ◌-◌, ◌*◌, ◌<◌, ◌≤◌, ◌^◌}
use native.Mathlib.Decide.{dec_lt}
use native.Mathlib.Omega.{arith}
use lib.ListN.{length, get_or, drop, get_or-eq_default, length-drop}
use lib.Seq.{drop-cons, get_or-drop}
use lib.Dec.{ltb, leb, eqb}
use Rattle.job.specs.Test.{◌and◌, ◌or◌, for_all, same}
use Rattle.job.specs.Number.{signed}
use Rattle.job.specs.Site.{site_takes}
use Rattle.job.specs.Syntax.{Param, variable, constant}
use Rattle.job.specs.Node.{Dag, param_holds, params_hold, is_node, node_holds}
use Rattle.job.specs.Words.{param_words, node_words, param_of, params_from, node_by, decoded_node}
use Rattle.job.proofs.Test.{clash, eqb-eq, eqb_same, ne_eqb, lt-ltb, le-not-ltb, le-leb, lt-not-leb}
use Rattle.job.proofs.WellFormed.{site-takes, site-few}
use Rattle.job.proofs.Number.{unsigned_signed, signed-fits}
use Rattle.job.proofs.Lists.{table, listed}
use Rattle.job.proofs.Both.{and-true, and-false, and_assoc, both_is, or-false}
use Rattle.dag_rules.specs.NodeWords.{param_words_hold, pair_holds, count_of, head_holds, row_holds}

-- the words' tests in front, the parameters' behind: pair by pair
pairwise : (p q s k a : Bool) → ((p and q and s) and k and a) ≡ ((p and q and true) and k and true) and s and a
unfolding ◌and◌
pairwise true true true true a = refl
pairwise true true false true a = refl
pairwise true true true false a = refl
pairwise true true false false a = refl
pairwise true false s k a = refl
pairwise false q s k a = refl

-- a place in use, and one behind the last
used : (n m k w : ℕ) (ws : List ℕ) (p : Param) → param_of k w ≡ p
    → param_words_hold (suc n) (suc m) (k ∷ w ∷ ws) ≡ pair_holds true k w and param_words_hold n m ws
unfolding param_words_hold param_words params_from param_holds for_all same
used n m k w ws (variable x) e = rw e (pairwise _ _ _ _ _)
used n m k w ws (constant v) e = rw e (pairwise _ _ _ _ _)

unused : (n k w : ℕ) (ws : List ℕ) → param_words_hold (suc n) 0 (k ∷ w ∷ ws) ≡ pair_holds false k w and param_words_hold n 0 ws
unfolding param_words_hold param_words params_from for_all same ◌and◌
unused n k w ws = pairwise (eqb k 0) (eqb w 0) (same ws (param_words n [])) true true

-- one place after the other
pub pair_then : (n j c k w : ℕ) (ws : List ℕ)
    → param_words_hold (suc n) (c - j) (k ∷ w ∷ ws) ≡ pair_holds (ltb j c) k w and param_words_hold n (c - (j + 1)) ws
pair_then n j c k w ws = go (dec_lt j c)
  where
    go : Dec (j < c)
        → param_words_hold (suc n) (c - j) (k ∷ w ∷ ws) ≡ pair_holds (ltb j c) k w and param_words_hold n (c - (j + 1)) ws
    go (yes l) =
        let e : c - j ≡ suc (c - (j + 1)) = omega arith in
        rw (e, lt-ltb j c l) (used n (c - (j + 1)) k w ws (param_of k w) refl)
    go (no f) =
        let e : c - j ≡ 0 = omega arith in
        let g : c - (j + 1) ≡ 0 = omega arith in
        rw (e, g, le-not-ltb j c (omega arith)) (unused n k w ws)

-- the two words at a place
pair-by : (k w : ℕ) (p : Param) → param_of k w ≡ p → pair_holds true k w ≡ same (k ∷ w ∷ []) (param_words 1 (p ∷ [])) and param_holds p
unfolding param_words_hold params_from for_all
pair-by k w p e = rw e (ap (λ b. same (k ∷ w ∷ []) (param_words 1 (p ∷ [])) and b) (and-true (param_holds p)))

pub pair-named : (k w : ℕ) → w < 2 ^ 32 → pair_holds true k w ≡ (eqb k 7 and ltb w 8) or eqb k 8
unfolding param_words param_of param_holds same ◌and◌ ◌or◌
pair-named k w l = go (eqb k 7) refl
  where
    go : (b : Bool) → eqb k 7 ≡ b → pair_holds true k w ≡ (b and ltb w 8) or eqb k 8
    go true e =
        let n : eqb k 8 ≡ false = ne_eqb k 8 (λ f. let z = eqb-eq k 7 e in omega arith) in
        pair-by k w (variable w) (rw (e, param_of)) ∙ rw (e, eqb_same w, n) (sym (or-false (ltb w 8)))
    go false e =
        pair-by k w (constant (signed w)) (rw (e, param_of))
        ∙ rw (unsigned_signed w l, eqb_same w, signed-fits w) (and-true _ ∙ and-true _)

pub pair-unnamed : (k w : ℕ) → pair_holds false k w ≡ eqb k 0 and eqb w 0
unfolding param_words_hold param_words params_from for_all same
pair-unnamed k w = and-true _ ∙ ap (λ b. eqb k 0 and b) (and-true (eqb w 0))

-- the node that a row would be
by_kind : (d : Dag) (ws : List ℕ) → node_holds d (decoded_node ws) ≡ same ws (node_words (node_by ws)) and node_holds d (node_by ws)
unfolding decoded_node node_holds ◌and◌
by_kind d ws = go (same ws (node_words (node_by ws))) refl
  where
    go : (b : Bool) → same ws (node_words (node_by ws)) ≡ b → node_holds d (decoded_node ws) ≡ b and node_holds d (node_by ws)
    go true e = rw (e, decoded_node)
    go false e = rw (e, decoded_node)

-- a row whose rules hold is the one of that node
pub row-node : (d : Dag) (ws : List ℕ) → node_holds d (decoded_node ws) ≡ true → decoded_node ws ≡ node_by ws
unfolding decoded_node node_holds
row-node d ws h = go (same ws (node_words (node_by ws))) refl
  where
    go : (b : Bool) → same ws (node_words (node_by ws)) ≡ b → decoded_node ws ≡ node_by ws
    go true e = rw (e, decoded_node)
    go false e = clash h (rw (e, decoded_node))

-- rows without parameters
rest-last : (p q r z : Bool) → ((p and q and r and z) and true) ≡ ((p and q and r) and z and true)
unfolding ◌and◌
rest-last true true true z = refl
rest-last true true false z = refl
rest-last true false r z = refl
rest-last false q r z = refl

words_last : (x y r z : Bool) → ((r and z) and x and y) ≡ ((x and y and r) and z and true)
unfolding ◌and◌
words_last true y true true = sym (and-true (y and true) ∙ and-true y)
words_last true true true false = refl
words_last true true false z = refl
words_last true false true false = refl
words_last true false false z = refl
words_last false y true true = refl
words_last false y true false = refl
words_last false y false z = refl

both_ways : (z w : Bool) → (z and w) ≡ (w and z and true)
unfolding ◌and◌
both_ways true true = refl
both_ways true false = refl
both_ways false true = refl
both_ways false false = refl

-- rows with parameters: as many as the row says, since it has words for 4 and is compared with the words of those that were read
length-params : (n c : ℕ) (ws : List ℕ) → length ws ≡ n + n → c ≤ n → length (params_from c ws) ≡ c
unfolding params_from
length-params n zero ws e l = refl
length-params zero (suc c) ws e l = absurd (omega arith)
length-params (suc n) (suc c) [] e l = absurd (omega arith)
length-params (suc n) (suc c) (k ∷ []) e l = absurd (omega arith)
length-params (suc n) (suc c) (k ∷ w ∷ ws) e l = ap suc (length-params n c ws (omega arith) (omega arith))

most-params : (n c : ℕ) (ws : List ℕ) → length ws ≡ n + n → length (params_from c ws) ≤ n
unfolding params_from
most-params n zero ws e = omega arith
most-params n (suc c) [] e = omega arith
most-params n (suc c) (k ∷ []) e = omega arith
most-params zero (suc c) (k ∷ w ∷ ws) e = absurd (omega arith)
most-params (suc n) (suc c) (k ∷ w ∷ ws) e = let l = most-params n c ws (omega arith) in omega arith

count-first : (s p k n : Bool) → (p and s and k and n) ≡ ((s and n) and p and k)
unfolding ◌and◌
count-first true true true n = sym (and-true n)
count-first true true false true = refl
count-first true true false false = refl
count-first true false k true = refl
count-first true false k false = refl
count-first false true k n = refl
count-first false false k n = refl

-- what the row says of its parameters: `takes` tests the count and the first number, `next` the second
abbrev Calls : (ℕ → Bool) → Bool → ℕ → List ℕ → Type 0
Calls takes next c rest =
    ((eqb c (length (params_from c rest)) and same rest (param_words 4 (params_from c rest)))
    and takes (length (params_from c rest)) and params_hold (params_from c rest) and next)
    ≡ ((takes c and leb c 4 and next) and param_words_hold 4 c rest)

module _ (takes : ℕ → Bool) (next : Bool) (c : ℕ) (rest : List ℕ) (len : length rest ≡ 8) where
  calls-few : c ≤ 4 → Calls takes next c rest
  unfolding params_hold param_words_hold ◌and◌
  calls-few l =
      rw (length-params 4 c rest len l, eqb_same c, le-leb c 4 l)
      (count-first (takes c) (same rest (param_words 4 (params_from c rest))) _ next)

  calls-many : 4 < c → Calls takes next c rest
  unfolding ◌and◌
  calls-many l =
      let m : length (params_from c rest) ≤ 4 = most-params 4 c rest len in
      rw (ne_eqb c (length (params_from c rest)) (omega arith), lt-not-leb c 4 l, and-false (takes c))

  calls : Calls takes next c rest
  calls = go (dec_lt 4 c)
    where
      go : Dec (4 < c) → Calls takes next c rest
      go (yes l) = calls-many l
      go (no f) = calls-few (omega arith)

-- a site that takes c parameters takes at most 4
takes-few : (s c : ℕ) (next : Bool) → (site_takes s c and leb c 4 and next) ≡ (site_takes s c and next)
unfolding ◌and◌
takes-few s c next = go (site_takes s c) refl
  where
    go : (b : Bool) → site_takes s c ≡ b → (b and leb c 4 and next) ≡ (b and next)
    go true e = rw (le-leb c 4 (site-few (site-takes s c e)))
    go false e = refl

row_by : (d : Dag) (k a b c : ℕ) (rest : List ℕ) → length rest ≡ 8
    → (same (k ∷ a ∷ b ∷ c ∷ rest) (node_words (node_by (k ∷ a ∷ b ∷ c ∷ rest))) and node_holds d (node_by (k ∷ a ∷ b ∷ c ∷ rest)))
    ≡ row_holds (length d.nodes) (length d.bodies) (k ∷ a ∷ b ∷ c ∷ rest)
unfolding same node_words node_by node_holds is_node row_holds head_holds count_of param_words_hold params_from for_all ◌and◌
row_by d zero a b c rest len = rest-last (eqb a 0) (eqb b 0) (eqb c 0) (same rest (param_words 4 []))
row_by d (suc zero) a b c rest len =
    rw (eqb_same a, eqb_same b)
    (calls (site_takes a) (is_node d b) c rest len ∙ ap (λ x. x and param_words_hold 4 c rest) (takes-few a c (is_node d b)))
row_by d (suc (suc zero)) a b c rest len =
    rw (eqb_same a, eqb_same b) (calls (λ n. ltb a (length d.bodies)) (is_node d b) c rest len)
row_by d (suc (suc (suc zero))) a b c rest len =
    rw (eqb_same a, eqb_same b) (words_last (is_node d a) (is_node d b) (eqb c 0) (same rest (param_words 4 [])))
row_by d (suc (suc (suc (suc zero)))) a b c rest len =
    rw (eqb_same a, eqb_same b) (words_last (ltb a 8) (is_node d b) (eqb c 0) (same rest (param_words 4 [])))
row_by d (suc (suc (suc (suc (suc zero))))) a b c rest len =
    rw (eqb_same a, eqb_same b) (words_last (ltb a 8) (is_node d b) (eqb c 0) (same rest (param_words 4 [])))
row_by d (suc (suc (suc (suc (suc (suc zero)))))) a b c rest len =
    rw (eqb_same a, eqb_same b, eqb_same c) (both_ways (same rest (param_words 4 [])) _)
row_by d (suc (suc (suc (suc (suc (suc (suc zero))))))) a b c rest len =
    rest-last (eqb a 0) (eqb b 0) (eqb c 0) (same rest (param_words 4 []))
row_by d (suc (suc (suc (suc (suc (suc (suc (suc zero)))))))) a b c rest len =
    rest-last (eqb a 0) (eqb b 0) (eqb c 0) (same rest (param_words 4 []))
row_by d (suc (suc (suc (suc (suc (suc (suc (suc (suc zero))))))))) a b c rest len =
    rest-last (eqb a 0) (eqb b 0) (eqb c 0) (same rest (param_words 4 []))
row_by d (suc (suc (suc (suc (suc (suc (suc (suc (suc (suc k)))))))))) a b c rest len = refl

pub row_is : (d : Dag) (k a b c : ℕ) (rest : List ℕ) → length rest ≡ 8
    → node_holds d (decoded_node (k ∷ a ∷ b ∷ c ∷ rest)) ≡ row_holds (length d.nodes) (length d.bodies) (k ∷ a ∷ b ∷ c ∷ rest)
row_is d k a b c rest len = by_kind d (k ∷ a ∷ b ∷ c ∷ rest) ∙ row_by d k a b c rest len

-- kinds past the last
pub head-past : (n d k a b c : ℕ) → 10 ≤ k → head_holds n d k a b c ≡ false
unfolding head_holds
head-past n d k a b c l = rw get_or-eq_default

pub count_past : (k c : ℕ) → 3 ≤ k → count_of k c ≡ 0
unfolding count_of
count_past k c l = rw get_or-eq_default

no_more : (c : ℕ) (ws : List ℕ) → length ws ≡ 0 → param_words_hold 0 c ws ≡ true
unfolding param_words_hold param_words params_from for_all same ◌and◌
no_more zero [] e = refl
no_more (suc c) [] e = refl
no_more c (x ∷ ws) e = absurd (omega arith)

module _ (ws : List ℕ) (len : length ws ≡ 12) where
  -- one more of the four places
  pub params-turn : (c i : ℕ) (ok b : Bool) {all : Bool} {k w : ℕ} → i < 4 → k ≡ get_or (drop 4 ws) (2 * i + 0) 0
      → w ≡ get_or (drop 4 ws) (2 * i + 1) 0
      → all ≡ (ok and param_words_hold (4 - i) (c - i) (drop (4 + 2 * i) ws)) → b ≡ pair_holds (ltb i c) k w
      → all ≡ ((ok && b) and param_words_hold (4 - (i + 1)) (c - (i + 1)) (drop (4 + 2 * (i + 1)) ws))
  params-turn c i ok b {all} {k} {w} l ek ew e f =
      let rest = param_words_hold (4 - (i + 1)) (c - (i + 1)) (drop (4 + 2 * (i + 1)) ws) in
      let z : 4 - i ≡ suc (4 - (i + 1)) = omega arith in
      let y : suc (suc (4 + 2 * i)) ≡ 4 + 2 * (i + 1) = omega arith in
      let u : 4 + (2 * i + 0) ≡ 4 + 2 * i = omega arith in
      let v : 4 + (2 * i + 1) ≡ suc (4 + 2 * i) = omega arith in
      let cut : drop (4 + 2 * i) ws ≡ k ∷ w ∷ drop (4 + 2 * (i + 1)) ws =
      drop-cons ws (4 + 2 * i) 0 (omega arith)
      ∙ ap₂ ◌∷◌ (sym (ek ∙ get_or-drop 4 ws (2 * i + 0) 0 ∙ ap (λ n. get_or ws n 0) u)) (drop-cons ws (suc (4 + 2 * i)) 0 (omega arith)
      ∙ ap₂ ◌∷◌ (sym (ew ∙ get_or-drop 4 ws (2 * i + 1) 0 ∙ ap (λ n. get_or ws n 0) v)) (ap (λ n. drop n ws) y)) in
      e ∙ ap₂ (λ n r. ok and param_words_hold n (c - i) r) z cut
      ∙ ap (◌and◌ ok) (pair_then (4 - (i + 1)) i c k w (drop (4 + 2 * (i + 1)) ws) ∙ ap (λ x. x and rest) (sym f))
      ∙ sym (and_assoc ok b rest) ∙ ap (λ x. x and rest) (sym (both_is ok b))

  pub params-done : (c i : ℕ) {all ok : Bool} → 4 ≤ i → all ≡ (ok and param_words_hold (4 - i) (c - i) (drop (4 + 2 * i) ws)) → ok ≡ all
  params-done c i {all} {ok} l e =
      let z : 4 - i ≡ 0 = omega arith in
      sym (e ∙ ap (λ n. ok and param_words_hold n (c - i) (drop (4 + 2 * i) ws)) z
      ∙ ap (◌and◌ ok) (no_more (c - i) (drop (4 + 2 * i) ws) (omega (arith, length-drop (4 + 2 * i) ws))) ∙ and-true ok)

  -- a row of twelve words is that of a node whose rules hold exactly when those of the words do
  pub node_row : (d : Dag) → node_holds d (decoded_node ws) ≡ row_holds (length d.nodes) (length d.bodies) ws
  unfolding table
  node_row d =
      let e = listed 0 12 ws len in
      ap (λ xs. node_holds d (decoded_node xs)) e ∙ row_is d _ _ _ _ _ refl ∙ ap (row_holds (length d.nodes) (length d.bodies)) (sym e)
