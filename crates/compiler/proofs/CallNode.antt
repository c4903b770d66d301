-- The words off a call's entries are the words of the node of the call that is read from them: a parameter's words are its entry's kind and
-- operand, since an operand of 32 bits, read as a signed value, is that value's 32 bits. Assumes nothing.
use Prim.Native.Nat.{ℕ, zero, suc, ◌+◌, ◌-◌, ◌^◌, ◌<◌, ◌≤◌}
use mathlib.Core.Path.{◌≡◌, refl, sym, ap, subst, ◌∙◌}
use mathlib.Core.Bool.{Bool, true, false}
use mathlib.Core.List.{List, [], ◌∷◌}
use native.Mathlib.Decide.{dec_lt}
use native.Mathlib.Nat.{sub-zero}
use native.Mathlib.Omega.{arith}
use lib.ListN.{length, get_or, drop}
use lib.Dec.{ltb}
use Rattle.job.specs.Number.{signed}
use Rattle.job.specs.Entry.{Entry, entry, entries, low, high, kind_of, operand_at}
use Rattle.job.specs.Syntax.{Param, variable, constant}
use Rattle.job.specs.Node.{Node}
use Rattle.job.specs.Words.{param_words, node_words}
use Rattle.job.specs.Read.{Got, got, ◌>>=◌, gives, need, entry_at, read_param, read_param_list}
use Rattle.job.proofs.Test.{not-ltb-le, ltb-lt}
use Rattle.job.proofs.Position.{entries_at, entries-end, bind-got, refused-got, reread}
use Rattle.compiler.specs.CallNodeWords.{word_if, place_words, call_node_words}
use Rattle.job.proofs.Number.{unsigned_signed}

-- a parameter that is read from an entry
record Taken (k o e : ℕ) (t : List Entry) (p : Got Param) : Type 0 where
  next : p.next ≡ suc e
  rest : p.rest ≡ t
  words : (w : ℕ) (ps : List Param) → param_words (suc w) (p.value ∷ ps) ≡ k ∷ o ∷ param_words w ps

module _ (scope : List ℕ) (e o : ℕ) (t : List Entry) (p : Got Param) (l : o < 2 ^ 32) where
  taken-variable : gives (variable o) (suc e) t ≡ got p → Taken 7 o e t p
  unfolding param_words
  taken-variable r =
      let z : p.value ≡ variable o = cc in
      record { next = cc; rest = cc; words = λ w ps. rw z refl }

  taken-constant : gives (constant (signed o)) (suc e) t ≡ got p → Taken 8 o e t p
  unfolding param_words
  taken-constant r =
      let z : p.value ≡ constant (signed o) = cc in
      record { next = cc; rest = cc; words = λ w ps. rw (z, unsigned_signed o l) refl }

  param-taken : (k : ℕ) → read_param scope e (entry k o ∷ t) ≡ got p → Taken k o e t p
  unfolding read_param entry_at kind_of ◌>>=◌
  param-taken zero r = refused-got r
  param-taken (suc zero) r = refused-got r
  param-taken (suc (suc zero)) r = refused-got r
  param-taken (suc (suc (suc zero))) r = refused-got r
  param-taken (suc (suc (suc (suc zero)))) r = refused-got r
  param-taken (suc (suc (suc (suc (suc zero))))) r = refused-got r
  param-taken (suc (suc (suc (suc (suc (suc zero)))))) r = refused-got r
  param-taken (suc (suc (suc (suc (suc (suc (suc zero))))))) r = taken-variable (bind-got (need _ 7 e) _ p r).2
  param-taken (suc (suc (suc (suc (suc (suc (suc (suc zero)))))))) r = taken-constant r
  param-taken (suc (suc (suc (suc (suc (suc (suc (suc (suc k))))))))) r = refused-got r

none_left : {A : Type 0} (scope : List ℕ) (e : ℕ) (p : Got Param) → read_param scope e [] ≡ got p → A
unfolding read_param entry_at ◌>>=◌
none_left scope e p r = refused-got r

module _ (ks os : List ℕ) (small : (at : ℕ) → operand_at os at < 2 ^ 32) (scope : List ℕ) where
  -- parameters, of which there is one: the first, and the reading of the others from the next entry on
  record First (n e : ℕ) (g : Got (List Param)) : Type 0 where
    here : e < length ks
    param : Param
    others : Got (List Param)
    value : g.value ≡ param ∷ others.value
    next : g.next ≡ others.next
    again : read_param_list n scope (suc e) (drop (suc e) (entries ks os)) ≡ got others
    words : (w : ℕ) (ps : List Param) → param_words (suc w) (param ∷ ps) ≡ get_or ks e 0 ∷ operand_at os e ∷ param_words w ps

  first : (n e : ℕ) (g : Got (List Param)) → read_param_list (suc n) scope e (drop e (entries ks os)) ≡ got g → First n e g
  unfolding read_param_list
  first n e g r = go (dec_lt e (length ks))
    where
      go : Dec (e < length ks) → First n e g
      go (yes l) =
          let t = drop (suc e) (entries ks os) in
          let p = bind-got (read_param scope e (drop e (entries ks os))) _ g r in
          let k : Taken (get_or ks e 0) (operand_at os e) e t p.0 =
          param-taken scope e (operand_at os e) t p.0 (small e) (get_or ks e 0)
          (reread read_param refl refl (entries_at ks os e l) p.1) in
          let ps = bind-got (read_param_list n scope p.0.next p.0.rest) _ g p.2 in
          record {
            here = l;
            param = p.0.value;
            others = ps.0;
            value = cc;
            next = cc;
            again = reread (read_param_list n) refl k.next k.rest ps.1;
            words = λ w qs. k.words w qs;
          }
      go (no f) =
          let p = bind-got (read_param scope e (drop e (entries ks os))) _ g r in
          none_left scope e p.0 (reread read_param refl refl (entries-end ks os e (omega arith)) p.1)

  -- so many parameters end so many entries on
  pub record Ended (n e : ℕ) (g : Got (List Param)) : Type 0 where
    pub next : g.next ≡ e + n
    pub count : length g.value ≡ n
    pub inside : e + n ≤ length ks

  pub params-end : (n e : ℕ) (g : Got (List Param)) → e ≤ length ks → read_param_list n scope e (drop e (entries ks os)) ≡ got g
      → Ended n e g
  unfolding read_param_list
  params-end zero e g l r =
      let a : g.next ≡ e = cc in
      let b : g.value ≡ [] = cc in
      record { next = omega arith; count = rw b refl; inside = omega arith }
  params-end (suc n) e g l r =
      let f = first n e g r in
      let h = f.here in
      let i = params-end n (suc e) f.others (omega arith) f.again in
      let a = i.next in
      let b = f.next in
      let c = i.inside in
      record { next = omega arith; count = ap length f.value ∙ ap suc i.count; inside = omega arith }

  -- the words of the places are the parameters' words
  places : (w i n at : ℕ) (g : Got (List Param)) → read_param_list (n - i) scope (at + i) (drop (at + i) (entries ks os)) ≡ got g
      → param_words w g.value ≡ place_words w i n ks os at
  unfolding param_words place_words read_param_list word_if
  places zero i n at g r = refl
  places (suc w) i n at g r = go (places w (suc i) n at) (ltb i n) refl
    where
      go : ((h : Got (List Param)) → read_param_list (n - suc i) scope (at + suc i) (drop (at + suc i) (entries ks os)) ≡ got h
          → param_words w h.value ≡ place_words w (suc i) n ks os at)
          → (b : Bool) → ltb i n ≡ b
          → param_words (suc w) g.value
          ≡ word_if b (get_or ks (at + i) 0) ∷ word_if b (operand_at os (at + i)) ∷ place_words w (suc i) n ks os at
      go ih true e =
          let l : i < n = ltb-lt i n e in
          let a : n - i ≡ suc (n - suc i) = omega arith in
          let b : suc (at + i) ≡ at + suc i = omega arith in
          let f = first (n - suc i) (at + i) g (subst (λ m. read_param_list m scope (at + i) (drop (at + i) (entries ks os)) ≡ got g) a r)
          in
          let t = ih f.others (subst (λ m. read_param_list (n - suc i) scope m (drop m (entries ks os)) ≡ got f.others) b f.again) in
          ap (λ ps. param_words (suc w) ps) f.value
          ∙ (f.words w f.others.value ∙ ap (λ ws. get_or ks (at + i) 0 ∷ operand_at os (at + i) ∷ ws) t)
      go ih false e =
          let l : n ≤ i = not-ltb-le i n e in
          let a : n - i ≡ 0 = omega arith in
          let b : n - suc i ≡ 0 = omega arith in
          let none : read_param_list 0 scope (at + i) (drop (at + i) (entries ks os)) ≡ got g =
          subst (λ m. read_param_list m scope (at + i) (drop (at + i) (entries ks os)) ≡ got g) a r in
          let v : g.value ≡ [] = cc in
          let h : Got (List Param) = record { value = []; next = at + suc i; rest = drop (at + suc i) (entries ks os) } in
          ap (λ ps. param_words (suc w) ps) v ∙ ap (λ ws. 0 ∷ 0 ∷ ws) (ih h (rw b refl))

  module _ (at k : ℕ) (g : Got (List Param))
      (r : read_param_list (high (operand_at os at)) scope (suc at) (drop (suc at) (entries ks os)) ≡ got g)
      (l : at < length ks) where
    four-places : param_words 4 g.value ≡ place_words 4 0 (high (operand_at os at)) ks os (at + 1)
    four-places =
        let a : suc at ≡ at + 1 + 0 = omega arith in
        let n = high (operand_at os at) in
        let z : n ≡ n - 0 = sym (sub-zero n) in
        places 4 0 n (at + 1) g
        (subst (λ m. read_param_list m scope (at + 1 + 0) (drop (at + 1 + 0) (entries ks os)) ≡ got g) z
        (subst (λ e. read_param_list n scope e (drop e (entries ks os)) ≡ got g) a r))

    counted : length g.value ≡ high (operand_at os at)
    counted = (params-end (high (operand_at os at)) (suc at) g l r).count

    pub site-words : get_or ks at 0 ≡ 1 → node_words (Node.site (low (operand_at os at)) g.value k) ≡ call_node_words ks os at k
    unfolding node_words call_node_words
    site-words e = rw (e, counted, four-places) refl

    pub call-words : get_or ks at 0 ≡ 2 → node_words (Node.call (low (operand_at os at)) g.value k) ≡ call_node_words ks os at k
    unfolding node_words call_node_words
    call-words e = rw (e, counted, four-places) refl
