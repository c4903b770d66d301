-- Entries by their index: what stands at an index of the two parts, and that a reader which begins at an index leaves the entries from its
-- next index on. So code that keeps an index reads what the definitions read from a list. Assumes nothing.
use mathlib.Core.Path.{◌≡◌, refl, sym, ◌∙◌, ap, subst}
use mathlib.Core.Bool.{Bool, true, false}
use mathlib.Core.List.{List, [], ◌∷◌}
use Prim.Native.Nat.{ℕ, zero, suc, ◌+◌, ◌*◌, ◌^◌, ◌<◌, ◌≤◌}
use native.Mathlib.Nat.{add-zero}
use native.Mathlib.Omega.{arith}
use lib.ListN.{length, get_or, take, drop}
use lib.Seq.{drop-drop, get_or-drop}
use lib.Dec.{eqb}
use Rattle.job.specs.Test.{for_some}
use Rattle.job.specs.Number.{number, signed}
use Rattle.job.specs.Syntax.{Param, variable, constant, Join, par, seq, prune, Exp, stop, site, call, scope_left, scope_right}
use Rattle.job.specs.Entry.{Entry, entry, entries, operand_at, low, high, EntryKind, kind_of}
use Rattle.job.specs.Read.{Got, Read, got, refused, ◌>>=◌, gives, need, entry_at, read_param, read_param_list}
use Rattle.job.specs.Read.{read_call, read_join, read_exp}
use Rattle.job.proofs.Test.{never}

-- past the last entry there is none, before it there is the one of its kind byte and its operand
pub entries-end : (ks os : List ℕ) (at : ℕ) → length ks ≤ at → drop at (entries ks os) ≡ []
unfolding entries
entries-end [] os zero l = refl
entries-end [] os (suc at) l = refl
entries-end (k ∷ ks) os zero l = absurd (omega arith)
entries-end (k ∷ ks) os (suc at) l = entries-end ks (drop 4 os) at (omega arith)

pub entries_at : (ks os : List ℕ) (at : ℕ) → at < length ks
    → drop at (entries ks os) ≡ entry (get_or ks at 0) (operand_at os at) ∷ drop (suc at) (entries ks os)
unfolding entries
entries_at [] os at l = absurd (omega arith)
entries_at (k ∷ ks) os zero l = refl
entries_at (k ∷ ks) os (suc at) l =
    entries_at ks (drop 4 os) at (omega arith)
    ∙ ap (λ o. entry (get_or ks at 0) (number (take 4 o)) ∷ drop (suc at) (entries ks (drop 4 os)))
    (drop-drop (4 * at) 4 os ∙ ap (λ n. drop n os) (let z : 4 + 4 * at ≡ 4 * suc at = omega arith in z))

-- an operand's four bytes are less than 2 to the 32
four_bytes : (l : List ℕ) → number (take 4 l) ≡ get_or l 0 0 + get_or l 1 0 * 256 + get_or l 2 0 * 65536 + get_or l 3 0 * 16777216
unfolding number
four_bytes [] = refl
four_bytes (a ∷ []) = omega arith
four_bytes (a ∷ b ∷ []) = omega arith
four_bytes (a ∷ b ∷ c ∷ []) = omega arith
four_bytes (a ∷ b ∷ c ∷ d ∷ l) = omega arith

operand-bytes : (os : List ℕ) (at : ℕ)
    → operand_at os at
    ≡ get_or os (4 * at) 0 + get_or os (4 * at + 1) 0 * 256 + get_or os (4 * at + 2) 0 * 65536 + get_or os (4 * at + 3) 0 * 16777216
operand-bytes os at = four_bytes (drop (4 * at) os) ∙ simp (get_or-drop, add-zero)

pub operand_small : (os : List ℕ) → ((i : ℕ) → get_or os i 0 < 256) → (at : ℕ) → operand_at os at < 2 ^ 32
operand_small os b at =
    let a0 = b (4 * at) in
    let a1 = b (4 * at + 1) in
    let a2 = b (4 * at + 2) in
    let a3 = b (4 * at + 3) in
    let z = operand-bytes os at in
    omega arith

-- what was read from index e of the entries es on ends at a later index, and the rest is what stands there
pub record From {A : Type 0} (es : List Entry) (e : ℕ) (g : Got A) : Type 0 where
  pub rest : g.rest ≡ drop g.next es
  pub next : e ≤ g.next
  pub last : g.next ≤ length es

-- a reading that goes on succeeds in both its parts
pub bind-got : {A B : Type 0} (r : Read A) (f : Got A → Read B) (b : Got B)
    → (r >>= f) ≡ got b → (a : Got A) × (r ≡ got a) × (f a ≡ got b)
unfolding ◌>>=◌
bind-got (got a) f b e = (a, refl, e)
bind-got (refused n k) f b e = never cc

pub refused-got : {A B : Type 0} {n e : ℕ} {g : Got A} → ◌≡◌ {A = Read A} (refused n e) (got g) → B
refused-got e = never cc

pub test-holds : (b : Bool) (n e : ℕ) (x : Got (Unit {0})) → need b n e ≡ got x → b ≡ true
unfolding need
test-holds true n e x r = refl
test-holds false n e x r = refused-got r

pub same-got : {A : Type 0} (P : Got A → Type 0) (g h : Got A) → got g ≡ got h → P g → P h
same-got P g h e p = let z : g ≡ h = cc in subst P z p

-- a reading from the same place, with the same variables in scope, is the same
pub reread : {A : Type 0} (f : List ℕ → ℕ → List Entry → Read A) {s s' : List ℕ} {e e' : ℕ} {l l' : List Entry} {g : Got A}
    → s ≡ s' → e ≡ e' → l ≡ l' → f s e l ≡ got g → f s' e' l' ≡ got g
reread f p q r h = cc

module _ (es : List Entry) where
  drop-one : (e : ℕ) (x : Entry) (l : List Entry) (ys : List Entry) → x ∷ l ≡ drop e ys → (l ≡ drop (suc e) ys) × (e < length ys)
  drop-one zero x l [] q = never cc
  drop-one zero x l (y ∷ ys) q = (cc, omega arith)
  drop-one (suc e) x l [] q = never cc
  drop-one (suc e) x l (y ∷ ys) q = let r = drop-one e x l ys q in (r.0, (let z = r.1 in omega arith))

  -- an entry that is there is followed by the entries behind it
  pub entry-from : (e : ℕ) (l : List Entry) (x : Got Entry) → l ≡ drop e es → entry_at e l ≡ got x
      → (x.next ≡ suc e) × (x.rest ≡ drop (suc e) es) × (e < length es)
  unfolding entry_at
  entry-from e [] x q r = refused-got r
  entry-from e (y ∷ l) x q r = let z = drop-one e y l es q in (cc, (cc), z.1)

  moved : {A B : Type 0} {e : ℕ} {g : Got A} {h : Got B} → g.next ≡ h.next → g.rest ≡ h.rest → From es e g → From es e h
  moved p q f = record { rest = cc; next = (let z = f.next in omega arith); last = (let z = f.last in omega arith) }

  onward : {A B : Type 0} {e : ℕ} {g : Got A} {h : Got B} → From es e g → From es g.next h → From es e h
  onward f k = record { rest = k.rest; next = (let z = f.next in let y = k.next in omega arith); last = k.last }

  entered : {e : ℕ} (l : List Entry) (x : Got Entry) → l ≡ drop e es → entry_at e l ≡ got x → From es e x
  entered {e = e} l x q r =
      let z = entry-from e l x q r in
      let y = z.0 in
      let w = z.2 in
      record { rest = z.1 ∙ ap (λ n. drop n es) (sym z.0); next = omega arith; last = omega arith }

  pub param-from : (scope : List ℕ) (e : ℕ) (l : List Entry) (g : Got Param)
      → l ≡ drop e es → read_param scope e l ≡ got g → From es e g
  unfolding read_param
  param-from scope e l g q r = let b = bind-got (entry_at e l) _ g r in
      kind-from b.0 (entered l b.0 q b.1) (kind_of b.0.value.kind) b.2
    where
      kept : (x : Got Entry) → From es e x → (p : Param) → gives p x.next x.rest ≡ got g → From es e g
      kept x f p r = moved (cc) (cc) f

      kind-from : (x : Got Entry) → From es e x → (k : EntryKind)
          → (elim k as (λ k. Read Param) [
            | EntryKind.stop ↦ refused 3 e
            | EntryKind.site ↦ refused 3 e
            | EntryKind.call ↦ refused 3 e
            | EntryKind.par ↦ refused 3 e
            | EntryKind.seq ↦ refused 3 e
            | EntryKind.prune ↦ refused 3 e
            | EntryKind.definition ↦ refused 3 e
            | EntryKind.variable ↦ need (for_some (eqb x.value.operand) scope) 7 e
                >>= (λ _. gives (variable x.value.operand) x.next x.rest)
            | EntryKind.constant ↦ gives (constant (signed x.value.operand)) x.next x.rest
            | EntryKind.unknown ↦ refused 3 e
          ]) ≡ got g → From es e g
      kind-from x f EntryKind.stop r = refused-got r
      kind-from x f EntryKind.site r = refused-got r
      kind-from x f EntryKind.call r = refused-got r
      kind-from x f EntryKind.par r = refused-got r
      kind-from x f EntryKind.seq r = refused-got r
      kind-from x f EntryKind.prune r = refused-got r
      kind-from x f EntryKind.definition r = refused-got r
      kind-from x f EntryKind.variable r = kept x f (variable x.value.operand) (bind-got (need _ 7 e) _ g r).2
      kind-from x f EntryKind.constant r = kept x f (constant (signed x.value.operand)) r
      kind-from x f EntryKind.unknown r = refused-got r

  here : {A : Type 0} (a : A) (e : ℕ) (l : List Entry) → l ≡ drop e es → e ≤ length es → (g : Got A) → gives a e l ≡ got g → From es e g
  here a e l q m g r =
      let z : l ≡ g.rest = cc in
      let y : e ≡ g.next = cc in
      record { rest = sym z ∙ (q ∙ ap (λ n. drop n es) y); next = omega arith; last = omega arith }

  pub params-from : (n : ℕ) (scope : List ℕ) (e : ℕ) (l : List Entry) (g : Got (List Param))
      → l ≡ drop e es → e ≤ length es → read_param_list n scope e l ≡ got g → From es e g
  unfolding read_param_list
  params-from zero scope e l g q m r = here [] e l q m g r
  params-from (suc n) scope e l g q m r =
      let p = bind-got (read_param scope e l) _ g r in
      let f = param-from scope e l p.0 q p.1 in
      let ps = bind-got (read_param_list n scope p.0.next p.0.rest) _ g p.2 in
      onward f (moved (cc) (cc) (params-from n scope p.0.next p.0.rest ps.0 f.rest f.last ps.1))

  call_from : (h : List Param → Exp) (n : ℕ) (scope : List ℕ) (e : ℕ) (l : List Entry) (g : Got Exp)
      → l ≡ drop e es → e ≤ length es → read_call h n scope e l ≡ got g → From es e g
  unfolding read_call
  call_from h n scope e l g q m r =
      let ps = bind-got (read_param_list n scope e l) _ g r in
      moved (cc) (cc) (params-from n scope e l ps.0 q m ps.1)

  -- a reader of sides that does so
  abbrev Reads : (List ℕ → ℕ → List Entry → Read Exp) → Type 0
  Reads side = (scope : List ℕ) (e : ℕ) (l : List Entry) (g : Got Exp) → l ≡ drop e es → side scope e l ≡ got g → From es e g

  join-from : (side : List ℕ → ℕ → List Entry → Read Exp) → Reads side
      → (j : Join) (scope : List ℕ) (e : ℕ) (l : List Entry) (g : Got Exp) → l ≡ drop e es → read_join side j scope e l ≡ got g
      → From es e g
  unfolding read_join
  join-from side reads j scope e l g q r =
      let f = bind-got (side (scope_left j scope) e l) _ g r in
      let a = reads (scope_left j scope) e l f.0 q f.1 in
      let b = bind-got (side (scope_right j scope) f.0.next f.0.rest) _ g f.2 in
      onward a (moved (cc) (cc) (reads (scope_right j scope) f.0.next f.0.rest b.0 a.rest b.1))

  pub exp-from : (left : ℕ) → Reads (read_exp left)
  unfolding read_exp
  exp-from zero scope e l g q r =
      let x = bind-got (entry_at e l) _ g r in
      let a = bind-got (need _ 3 e) _ g x.2 in
      let b = bind-got (need _ 4 e) _ g a.2 in
      refused-got b.2
  exp-from (suc left) scope e l g q r =
      let x = bind-got (entry_at e l) _ g r in
      let a = bind-got (need _ 3 e) _ g x.2 in
      let b = bind-got (need _ 4 e) _ g a.2 in
      let c = bind-got (need _ 7 e) _ g b.2 in
      kind-from x.0 (entered l x.0 q x.1) (kind_of x.0.value.kind) (exp-from left) c.2
    where
      kind-from : (x : Got Entry) → From es e x → (k : EntryKind) → Reads (read_exp left)
          → (elim k as (λ k. Read Exp) [
            | EntryKind.stop ↦ gives stop x.next x.rest
            | EntryKind.site ↦ read_call (site (low x.value.operand)) (high x.value.operand) scope x.next x.rest
            | EntryKind.call ↦ read_call (call (low x.value.operand)) (high x.value.operand) scope x.next x.rest
            | EntryKind.par ↦ read_join (read_exp left) par scope x.next x.rest
            | EntryKind.seq ↦ read_join (read_exp left) (seq (length scope)) scope x.next x.rest
            | EntryKind.prune ↦ read_join (read_exp left) (prune (length scope)) scope x.next x.rest
            | EntryKind.definition ↦ refused 3 e
            | EntryKind.variable ↦ refused 3 e
            | EntryKind.constant ↦ refused 3 e
            | EntryKind.unknown ↦ refused 3 e
          ]) ≡ got g → From es e g
      kind-from x f EntryKind.stop reads r = moved (cc) (cc) f
      kind-from x f EntryKind.site reads r =
          onward f (call_from (λ ps. site (low x.value.operand) ps) (high x.value.operand) scope x.next x.rest g f.rest
          f.last r)
      kind-from x f EntryKind.call reads r =
          onward f (call_from (λ ps. call (low x.value.operand) ps) (high x.value.operand) scope x.next x.rest g f.rest
          f.last r)
      kind-from x f EntryKind.par reads r = onward f (join-from (read_exp left) reads par scope x.next x.rest g f.rest r)
      kind-from x f EntryKind.seq reads r =
          onward f (join-from (read_exp left) reads (seq (length scope)) scope x.next x.rest g f.rest r)
      kind-from x f EntryKind.prune reads r =
          onward f (join-from (read_exp left) reads (prune (length scope)) scope x.next x.rest g f.rest r)
      kind-from x f EntryKind.definition reads r = refused-got r
      kind-from x f EntryKind.variable reads r = refused-got r
      kind-from x f EntryKind.constant reads r = refused-got r
      kind-from x f EntryKind.unknown reads r = refused-got r
