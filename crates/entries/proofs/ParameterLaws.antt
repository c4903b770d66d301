-- What is answered for one parameter and for several, at each outcome of the code's tests. Assumes nothing.
use mathlib.Core.Path.{◌≡◌, refl, sym, ◌∙◌, ap, ap₂}
use mathlib.Core.Bool.{Bool, true, false}
use mathlib.Core.List.{List, [], ◌∷◌}
use Prim.Native.Nat.{ℕ, suc, ◌+◌, ◌-◌, ◌<◌, ◌≤◌}
use native.Mathlib.Omega.{arith}
use native.Mathlib.Decide.{dec_lt}
use native.Mathlib.Numerals.{add-one}
use lib.ListN.{length, get_or, drop}
use lib.Dec.{eqb}
use Rattle.std.specs.Prelude.{Result, Ok, Err}
use Rattle.job.specs.Test.{for_some}
use Rattle.job.specs.Syntax.{Param, variable}
use Rattle.job.specs.Entry.{Entry, entry, entries, kind_of, operand_at}
use Rattle.job.specs.Read.{Got, Read, got, refused, ◌>>=◌, gives, need, entry_at, read_param, read_param_list}
use Rattle.job.proofs.Position.{entries-end, entries_at, param-from}
use Rattle.entries.specs.Checked.{answered, checked_param_list}
use Rattle.entries.specs.EntryFault.{Fault, unless, parameter_kind_fault, parameter_fault}
use Rattle.entries.specs.NamedKind.{kind_named, join_meant, kind_meant}
use Rattle.entries.specs.Parts.{entries_from}
use Rattle.entries.specs.Refusal.{number_of, found_at}
use Rattle.entries.specs.declared.table_kind.JoinKind.TheVariants as joins
use Rattle.entries.specs.declared.table_kind.TableKind.{TableKind}
use Rattle.entries.specs.declared.table_kind.TableKind.TheVariants as kinds
use Rattle.entries.specs.declared.refusal.Refused.{Refused}
use Rattle.entries.specs.declared.refusal.TableRefusal.{TableRefusal}
use Rattle.entries.specs.declared.refusal.TableRefusal.TheVariants as refusals
use Rattle.entries.proofs.CheckedLaws.{same-next}
use Rattle.entries.proofs.EntryKinds.{by_kind}
use Rattle.entries.proofs.KindNames.{kind-found, kind-unknown}
use Rattle.entries.proofs.RefusalNumbers.{clash, same-case, case-of, found, not-found}

module _ (ks os scope : List ℕ) (at : ℕ) where
  -- the code's answer
  abbrev Answers : Result (Unit {0}) Refused → Type 0
  Answers r = r ≡ found_at at (parameter_fault scope (entries_from ks os at))

  pub param_end : (n : ℕ) → n ≡ length ks → n ≤ at → Answers (Err (record { why = refusals.EntryCount; entry = at }))
  unfolding parameter_fault found_at
  param_end n e l = rw (entries-end ks os at (omega arith))

  module _ (n : ℕ) (en : n ≡ length ks) (l : at < n) (q : Result TableKind Refused) (eq : q ≡ found_at at (kind_named (kind_of (get_or ks at 0)))) where
    opened : parameter_fault scope (entries_from ks os at) ≡ parameter_kind_fault scope (kind_of (get_or ks at 0)) (operand_at os at)
    unfolding parameter_fault
    opened = rw (entries_at ks os at (omega arith))

    pub param-unknown : (x : Refused) → q ≡ Err x → Answers (Err x)
    unfolding parameter_kind_fault found_at
    param-unknown x h = let u = kind-unknown at _ q eq x h in rw (opened, u.0, u.1)

    module _ (k : TableKind) (h : q ≡ Ok k) where
      named : parameter_fault scope (entries_from ks os at) ≡ parameter_kind_fault scope (kind_meant k) (operand_at os at)
      named = opened ∙ ap (λ n. parameter_kind_fault scope n (operand_at os at)) (kind-found at _ q eq k h)

      pub param-constant : k ≡ kinds.Constant → Answers (Ok tt)
      unfolding parameter_kind_fault kind_meant found_at
      param-constant e = rw (named, e)

      pub param-other : (k ≡ kinds.Constant → ⊥) → (k ≡ kinds.Variable → ⊥)
          → Answers (Err (record { why = refusals.Kind; entry = at }))
      unfolding parameter_kind_fault kind_meant join_meant found_at
      param-other f g = rw (named, go k f g)
        where
          go : (k : TableKind) → (k ≡ kinds.Constant → ⊥) → (k ≡ kinds.Variable → ⊥)
              → parameter_kind_fault scope (kind_meant k) (operand_at os at) ≡ Err refusals.Kind
          go kinds.Stop f g = refl
          go kinds.Site f g = refl
          go kinds.Call f g = refl
          go (kinds.Join joins.Par) f g = refl
          go (kinds.Join joins.Seq) f g = refl
          go (kinds.Join joins.Prune) f g = refl
          go kinds.Definition f g = refl
          go kinds.Variable f g = absurd (g refl)
          go kinds.Constant f g = absurd (f refl)

      module _ (e : k ≡ kinds.Variable) (o : ℕ) (eo : o ≡ operand_at os at) (b : Bool) (eb : b ≡ for_some (eqb o) scope) where
        bound : parameter_fault scope (entries_from ks os at) ≡ unless b (Err refusals.Scope) (Ok tt)
        unfolding parameter_kind_fault kind_meant
        bound = rw (named, e, ← eo, ← eb)

        pub param_in : b ≡ true → Answers (Ok tt)
        unfolding unless found_at
        param_in h = rw (bound, h)

        pub param-out : b ≡ false → Answers (Err (record { why = refusals.Scope; entry = at }))
        unfolding unless found_at
        param-out h = rw (bound, h)

-- what the fault says of a parameter's reading: with none it is read, and is one entry
data Judged (e : ℕ) : Fault → Read Param → Type 0 where
  refuses : {w : TableRefusal} → Judged e (Err w) (refused (number_of w) e)
  takes : {p : Got Param} → p.next ≡ suc e → Judged e (Ok tt) (got p)

judged-entry : (scope : List ℕ) (e k o : ℕ) (es : List Entry)
    → Judged e (parameter_kind_fault scope (kind_of k) o) (read_param scope e (entry k o ∷ es))
unfolding read_param entry_at kind_of need number_of ◌>>=◌ parameter_kind_fault unless
judged-entry scope e k o es =
    by_kind (λ k. Judged e (parameter_kind_fault scope (kind_of k) o) (read_param scope e (entry k o ∷ es)))
    refuses refuses refuses refuses refuses refuses refuses (seven (for_some (eqb o) scope)) (takes refl) (λ k. refuses) k
  where
    seven : (b : Bool) → Judged e (unless b (Err refusals.Scope) (Ok tt)) (need b 7 e >>= (λ _. gives (variable o) (suc e) es))
    seven true = takes refl
    seven false = refuses

judged : (scope : List ℕ) (e : ℕ) (es : List Entry) → Judged e (parameter_fault scope es) (read_param scope e es)
unfolding read_param entry_at number_of ◌>>=◌ parameter_fault
judged scope e [] = refuses
judged scope e (x ∷ es) = judged-entry scope e x.kind x.operand es

-- the parameters behind the first
rest : ℕ → List ℕ → Got Param → Read (List Param)
rest n scope p = read_param_list n scope p.next p.rest >>= (λ ps. gives (p.value ∷ ps.value) ps.next ps.rest)

-- the loop's invariant: behind the first i parameters, what is left from entry e on decides
abbrev pub Left : (ks os scope : List ℕ) (count at e i : ℕ) → Type 0
Left ks os scope count at e i =
    checked_param_list (read_param_list count scope at (entries_from ks os at))
    ≡ checked_param_list (read_param_list (count - i) scope e (entries_from ks os e))

pub params-start : (ks os scope : List ℕ) (count at : ℕ) → Left ks os scope count at at 0
params-start ks os scope count at =
    let z : count ≡ count - 0 = omega arith in
    ap (λ n. checked_param_list (read_param_list n scope at (entries_from ks os at))) z

module _ (ks os scope : List ℕ) (count at e i : ℕ) (g : Left ks os scope count at e i) where
  abbrev Answered : Result ℕ Refused → Type 0
  Answered r = r ≡ checked_param_list (read_param_list count scope at (entries_from ks os at))

  pub params-end : count ≤ i → Answered (Ok e)
  unfolding read_param_list answered
  params-end z = let y : count - i ≡ 0 = omega arith in sym (g ∙ rw y)

  module _ (l : i < count) (r : Result (Unit {0}) Refused) (er : r ≡ found_at e (parameter_fault scope (entries_from ks os e))) where
    split : read_param_list (count - i) scope e (entries_from ks os e)
        ≡ (read_param scope e (entries_from ks os e) >>= rest (count - (i + 1)) scope)
    unfolding rest read_param_list
    split =
        let z : count - i ≡ suc (count - (i + 1)) = omega arith in
        ap (λ k. read_param_list k scope e (entries_from ks os e)) z

    it : Judged e (parameter_fault scope (entries_from ks os e)) (read_param scope e (entries_from ks os e))
    it = judged scope e (entries_from ks os e)

    pub params-refused : (x : Refused) → r ≡ Err x → Answered (Err x)
    unfolding answered ◌>>=◌
    params-refused x h =
        let f = not-found e (parameter_fault scope (entries_from ks os e)) x (sym er ∙ h) in
        sym (g ∙ ap checked_param_list split ∙ go (parameter_fault scope (entries_from ks os e)) (read_param scope e (entries_from ks os e))
        it f.0 f.1
        ∙ ap Err (sym f.2))
      where
        go : (n : Fault) (r : Read Param) → Judged e n r → (w : TableRefusal) → n ≡ Err w
            → checked_param_list (r >>= rest (count - (i + 1)) scope) ≡ Err (record { why = w; entry = e })
        go (Err v) (refused m n) refuses w q = ap (λ w. Err (record { why = w; entry = e })) (case-of v ∙ same-case q)
        go (Ok u) (got p) (takes h) w q = clash q
        go (Ok u) (refused m n) j w q = elim j [ ]
        go (Err v) (got p) j w q = elim j [ ]

    pub params_more : (u : Unit {0}) → r ≡ Ok u → Left ks os scope count at (e + 1) (i + 1)
    unfolding rest ◌>>=◌
    params_more u z =
        g ∙ ap checked_param_list split
        ∙ go (parameter_fault scope (entries_from ks os e)) (read_param scope e (entries_from ks os e)) refl it
        (found e (parameter_fault scope (entries_from ks os e)) u (sym er ∙ z))
      where
        go : (n : Fault) (r : Read Param) → read_param scope e (entries_from ks os e) ≡ r → Judged e n r → n ≡ Ok tt
            → checked_param_list (r >>= rest (count - (i + 1)) scope)
            ≡ checked_param_list (read_param_list (count - (i + 1)) scope (e + 1) (entries_from ks os (e + 1)))
        go (Err v) (refused m n) q refuses h = clash (sym h)
        go (Ok u) (refused m n) q j y = elim j [ ]
        go (Err v) (got p) q j y = elim j [ ]
        go (Ok u) (got p) q (takes h) y =
            let b = param-from (entries ks os) scope e (entries_from ks os e) p refl q in
            let n = h ∙ sym (add-one e) in
            same-next (λ ps. p.value ∷ ps) (read_param_list (count - (i + 1)) scope p.next p.rest)
            ∙ ap₂ (λ n l. checked_param_list (read_param_list (count - (i + 1)) scope n l)) n
            (b.rest ∙ ap (λ n. drop n (entries ks os)) n)

    -- a parameter that is read is an entry
    pub params_fit : length ks ≤ 512 → (u : Unit {0}) → r ≡ Ok u → e + 1 < 4096
    unfolding found_at
    params_fit k u z = go (dec_lt e (length ks))
      where
        go : Dec (e < length ks) → e + 1 < 4096
        go (yes m) = omega arith
        go (no f) = clash (sym z ∙ er ∙ sym (param_end ks os scope e _ refl (omega arith)))
