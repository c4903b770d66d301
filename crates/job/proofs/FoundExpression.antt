-- An expression that the reader reads is well-formed, and the entries that it read are its encoding: each of the reader's tests
-- is a condition of well-formed expressions, and it takes entries in the order in which they are encoded. Assumes nothing.
use mathlib.Core.Path.{◌≡◌, refl, sym, ◌∙◌, ap, subst}
use mathlib.Core.Bool.{true}
use mathlib.Core.List.{List, [], ◌∷◌, map}
use Prim.Native.Nat.{ℕ, zero, suc}
use lib.ListN.{length}
use lib.Dec.{eqb}
use Rattle.job.specs.Test.{◌or◌, for_some, All, none, more}
use Rattle.job.specs.Number.{signed, unsigned}
use Rattle.job.specs.Site.{site_takes}
use Rattle.job.specs.Syntax.{Param, Join, Exp, scope_left, scope_right}
use Rattle.job.specs.Entry.{Entry, entry, low, high, EntryKind, kind_of, is_expression, row_holds, is_binder}
use Rattle.job.specs.Encode.{encode_param, encode_join, encode_exp}
use Rattle.job.specs.WellFormed.{GoodParam, SiteTakes, GoodJoin, Good}
use Rattle.job.specs.Read.{Got, ◌>>=◌, entry_at, need, read_param, read_param_list, read_call, read_join, read_exp}
use Rattle.job.proofs.Test.{eqb-eq, ltb-lt}
use Rattle.job.proofs.Number.{signed-fits, unsigned_signed}
use Rattle.job.proofs.Entry.{entry_of, kind-number, halves, Short}
use Rattle.job.proofs.Read.{Yields, reads, refuses, says-bind, yields-need}
use Rattle.job.proofs.WellFormed.{some-member, site-takes, CallRuleHolds, holds-names}
use Rattle.job.proofs.Prefix.{Begins, done, next, begins-one, begins-append, begins-rest}

-- parameters

record FoundParam (scope : List ℕ) (es : List Entry) (g : Got Param) : Type 0 where
  good : GoodParam scope g.value
  begins : Begins (encode_param g.value ∷ []) es g.rest

module _ (scope : List ℕ) (e : ℕ) (x : Entry) (rest : List Entry) where
  variable-found : x.kind ≡ 7 → for_some (eqb x.operand) scope ≡ true
      → FoundParam scope (x ∷ rest) (record { value = Param.variable x.operand; next = suc e; rest = rest })
  unfolding encode_param
  variable-found k t =
      let same : x ≡ entry 7 x.operand = entry_of x 7 _ k refl in
      record { good = GoodParam.variable (some-member x.operand scope t); begins = begins-one (λ _. same) }

  -- (the bits of a constant are 32 where its operand has 4 bytes)
  constant-found : x.kind ≡ 8
      → FoundParam scope (x ∷ rest) (record { value = Param.constant (signed x.operand); next = suc e; rest = rest })
  unfolding encode_param
  constant-found k =
      let o = x.operand in
      let same : Short x → x ≡ entry 8 (unsigned (signed o)) = λ s. entry_of x 8 _ k (sym (unsigned_signed o s)) in
      record { good = GoodParam.constant (signed-fits o); begins = begins-one same }

  param-at : (k : EntryKind) → kind_of x.kind ≡ k → Yields (FoundParam scope (x ∷ rest)) (read_param scope e (x ∷ rest))
  unfolding read_param ◌>>=◌ entry_at kind_of
  param-at EntryKind.stop q = rw (q, read_param) (refuses tt)
  param-at EntryKind.site q = rw (q, read_param) (refuses tt)
  param-at EntryKind.call q = rw (q, read_param) (refuses tt)
  param-at EntryKind.par q = rw (q, read_param) (refuses tt)
  param-at EntryKind.seq q = rw (q, read_param) (refuses tt)
  param-at EntryKind.prune q = rw (q, read_param) (refuses tt)
  param-at EntryKind.definition q = rw (q, read_param) (refuses tt)
  param-at EntryKind.variable q = rw (q, read_param) (yields-need _ _ e _ λ t. reads (variable-found (kind-number _ _ q) t))
  param-at EntryKind.constant q = rw (q, read_param) (reads (constant-found (kind-number _ _ q)))
  param-at EntryKind.unknown q = rw (q, read_param) (refuses tt)

param-found : (scope : List ℕ) (e : ℕ) (es : List Entry) → Yields (FoundParam scope es) (read_param scope e es)
unfolding read_param ◌>>=◌ entry_at
param-found scope e [] = (refuses tt)
param-found scope e (x ∷ rest) = param-at scope e x rest (kind_of x.kind) refl

record FoundParams (n : ℕ) (scope : List ℕ) (es : List Entry) (g : Got (List Param)) : Type 0 where
  good : All (GoodParam scope) g.value
  count : length g.value ≡ n
  begins : Begins (map encode_param g.value) es g.rest

params-found : (n : ℕ) (scope : List ℕ) (e : ℕ) (es : List Entry) → Yields (FoundParams n scope es) (read_param_list n scope e es)
unfolding read_param_list
params-found zero scope e es = reads (record { good = none; count = refl; begins = done })
params-found (suc n) scope e es =
    says-bind _ (param-found scope e es) λ p h.
    says-bind _ (params-found n scope p.next p.rest) λ ps hs.
    reads (record { good = more h.good hs.good; count = ap suc hs.count; begins = begins-append h.begins hs.begins })

-- expressions

pub record FoundExp (formals : List ℕ) (left : ℕ) (scope : List ℕ) (es : List Entry) (g : Got Exp) : Type 0 where
  pub good : Good formals left scope g.value
  pub begins : Begins (encode_exp g.value) es g.rest

-- all that is read with so many levels of depth left
abbrev pub Sound : (formals : List ℕ) (left : ℕ) → Type 0
Sound formals left =
    (scope : List ℕ) (e : ℕ) (es : List Entry) → All (CallRuleHolds formals) es
    → Yields (FoundExp formals left scope es) (read_exp left scope e es)

module _ (formals : List ℕ) (left : ℕ) (scope : List ℕ) (e : ℕ) (x : Entry) (rest : List Entry) where
  bare-entry : {k : ℕ} → x.kind ≡ k → eqb x.operand 0 ≡ true → x ≡ entry k 0
  bare-entry {k} q t = entry_of x k 0 q (eqb-eq _ 0 t)

  stop-found : x.kind ≡ 0 → eqb x.operand 0 ≡ true
      → FoundExp formals (suc left) scope (x ∷ rest) (record { value = Exp.stop; next = suc e; rest = rest })
  unfolding encode_exp
  stop-found k t = record { good = Good.stop; begins = begins-one (λ s. bare-entry k t) }

  site-found : x.kind ≡ 1 → site_takes (low x.operand) (high x.operand) ≡ true
      → Yields (FoundExp formals (suc left) scope (x ∷ rest))
      (read_call (Exp.site (low x.operand)) (high x.operand) scope (suc e) rest)
  unfolding encode_exp read_call
  site-found k t =
      says-bind _ (params-found (high x.operand) scope (suc e) rest) λ ps h.
      reads (record {
        good = Good.site (subst (SiteTakes (low x.operand)) (sym h.count) (site-takes _ _ t)) h.good;
        begins = next (λ s. entry_of x 1 _ k (halves x.operand _ h.count)) h.begins;
      })

  call-found : x.kind ≡ 2 → CallRuleHolds formals x
      → Yields (FoundExp formals (suc left) scope (x ∷ rest))
      (read_call (Exp.call (low x.operand)) (high x.operand) scope (suc e) rest)
  unfolding encode_exp read_call
  call-found k t =
      let names = holds-names formals x k t in
      says-bind _ (params-found (high x.operand) scope (suc e) rest) λ ps h.
      reads (record {
        good = Good.call names.defined (h.count ∙ names.count) h.good;
        begins = next (λ s. entry_of x 2 _ k (halves x.operand _ h.count)) h.begins;
      })

  module _ (below : Sound formals left) where
    join-found : (j : Join) → GoodJoin scope j → x ≡ encode_join j → All (CallRuleHolds formals) rest
        → Yields (FoundExp formals (suc left) scope (x ∷ rest)) (read_join (read_exp left) j scope (suc e) rest)
    unfolding encode_exp read_join
    join-found j b k holds =
        says-bind _ (below (scope_left j scope) (suc e) rest holds) λ f hf.
        says-bind _ (below (scope_right j scope) f.next f.rest (begins-rest hf.begins holds)) λ g hg.
        reads (record { good = Good.join b hf.good hg.good; begins = next (λ s. k) (begins-append hf.begins hg.begins) })

    -- the row of a definition call says less than the rule for 8
    call_at : kind_of x.kind ≡ EntryKind.call → CallRuleHolds formals x
        → Yields (FoundExp formals (suc left) scope (x ∷ rest)) (read_exp (suc left) scope e (x ∷ rest))
    unfolding read_exp ◌>>=◌ entry_at need is_expression is_binder ◌or◌
    call_at q t = rw (q, read_exp) (yields-need (row_holds EntryKind.call x.operand) _ e _ λ _. call-found (kind-number _ _ q) t)

    exp-at : (k : EntryKind) → kind_of x.kind ≡ k → All (CallRuleHolds formals) (x ∷ rest)
        → Yields (FoundExp formals (suc left) scope (x ∷ rest)) (read_exp (suc left) scope e (x ∷ rest))
    unfolding read_exp ◌>>=◌ entry_at need kind_of is_expression row_holds is_binder ◌or◌ encode_join
    exp-at EntryKind.stop q holds = rw (q, read_exp) (yields-need _ _ e _ λ t. reads (stop-found (kind-number _ _ q) t))
    exp-at EntryKind.site q holds = rw (q, read_exp) (yields-need _ _ e _ λ t. site-found (kind-number _ _ q) t)
    exp-at EntryKind.call q (more t holds) = call_at q t
    exp-at EntryKind.par q (more _ holds) =
        rw (q, read_exp) (yields-need _ _ e _ λ t. join-found Join.par GoodJoin.par (bare-entry (kind-number _ _ q) t) holds)
    exp-at EntryKind.seq q (more _ holds) =
        rw (q, read_exp) (yields-need _ _ e _ λ t. yields-need _ _ e _ λ l.
        join-found (Join.seq _) (GoodJoin.seq (ltb-lt _ 8 l)) (bare-entry (kind-number _ _ q) t) holds)
    exp-at EntryKind.prune q (more _ holds) =
        rw (q, read_exp) (yields-need _ _ e _ λ t. yields-need _ _ e _ λ l.
        join-found (Join.prune _) (GoodJoin.prune (ltb-lt _ 8 l)) (bare-entry (kind-number _ _ q) t) holds)
    exp-at EntryKind.definition q holds = rw (q, read_exp) (refuses tt)
    exp-at EntryKind.variable q holds = rw (q, read_exp) (refuses tt)
    exp-at EntryKind.constant q holds = rw (q, read_exp) (refuses tt)
    exp-at EntryKind.unknown q holds = rw (q, read_exp) (refuses tt)

pub exp-found : (formals : List ℕ) (left : ℕ) → Sound formals left
unfolding read_exp ◌>>=◌ entry_at
exp-found formals zero scope e [] holds = (refuses tt)
exp-found formals zero scope e (x ∷ rest) holds = yields-need _ _ e _ λ _. yields-need _ _ e _ λ _. (refuses tt)
exp-found formals (suc left) scope e [] holds = (refuses tt)
exp-found formals (suc left) scope e (x ∷ rest) holds =
    exp-at formals left scope e x rest (exp-found formals left) (kind_of x.kind) refl holds
