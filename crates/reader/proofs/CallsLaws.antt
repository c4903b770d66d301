-- Calls of definitions: the test of one entry at each outcome, and the loop over all of them. Assumes nothing.
use mathlib.Core.Path.{◌≡◌, sym, ap₂, ◌∙◌}
use mathlib.Core.Bool.{Bool, true, false}
use mathlib.Core.List.{List}
use Prim.Native.Nat.{ℕ, suc, ◌+◌, ◌/◌, ◌%◌, ◌<◌, ◌≤◌}
use native.Mathlib.Omega.{arith}
use native.Mathlib.Numerals.{add-one}
use lib.ListN.{length, get_or}
use lib.Dec.{eqb, ltb}
use Rattle.job.specs.Test.{◌and◌, ◌or◌}
use Rattle.job.specs.Entry.{entry, entries, EntryKind, kind_of, operand_at}
use Rattle.job.specs.Read.{◌>>=◌, need, call_holds, definitions_hold}
use Rattle.job.proofs.Entry.{kind-number}
use Rattle.job.proofs.Test.{ne_eqb}
use Rattle.job.proofs.Position.{entries-end, entries_at}
use Rattle.entries.specs.Parts.{entries_from}
use Rattle.entries.specs.Checked.{answered, checked_test}
use Rattle.entries.specs.NamedKind.{kind_named, kind_meant}
use Rattle.entries.specs.Refusal.{found_at}
use Rattle.entries.specs.declared.table_kind.TableKind.{TableKind}
use Rattle.entries.specs.declared.table_kind.TableKind.TheVariants as kinds
use Rattle.entries.proofs.CheckedLaws.{bind-refused, passed}
use Rattle.entries.proofs.KindNames.{kind-found, kind-call}
use Rattle.std.specs.Prelude.{Result, Ok, Err}
use Rattle.entries.specs.declared.refusal.Refused.{Refused}
use Rattle.entries.specs.declared.refusal.TableRefusal.TheVariants as refusals

other-kind : (fs : List ℕ) (k o : ℕ) → (k ≡ 2 → ⊥) → call_holds fs (entry k o) ≡ true
unfolding call_holds ◌or◌
other-kind fs k o f = rw (ne_eqb k 2 f)

module _ (fs : List ℕ) (o : ℕ) where
  pub call-missing : false ≡ ltb (o % 65536) (length fs) → false ≡ call_holds fs (entry 2 o)
  unfolding call_holds ◌or◌ ◌and◌
  call-missing l = rw (← l)

  pub call-counted : true ≡ ltb (o % 65536) (length fs) → (n : ℕ) → n ≡ get_or fs (o % 65536) 0
      → eqb (o / 65536) n ≡ call_holds fs (entry 2 o)
  unfolding call_holds ◌or◌ ◌and◌
  call-counted l n e = rw (← l, e)

-- the answer for one entry
module _ (fs ks os : List ℕ) (i : ℕ) (q : Result TableKind Refused) (eq : q ≡ found_at i (kind_named (kind_of (get_or ks i 0)))) where
  abbrev Judges : Result (Unit {0}) Refused → Type 0
  Judges r = r ≡ checked_test (need (call_holds fs (entry (get_or ks i 0) (operand_at os i))) 8 i)

  pub call-other : (q ≡ Ok kinds.Call → ⊥) → Judges (Ok tt)
  unfolding need answered
  call-other f = rw (other-kind fs (get_or ks i 0) (operand_at os i) (λ k. f (eq ∙ kind-call i (get_or ks i 0) k)))

  module _ (h : q ≡ Ok kinds.Call) (o : ℕ) (eo : o ≡ operand_at os i) (r : Bool) (er : r ≡ call_holds fs (entry 2 o)) where
    same : call_holds fs (entry (get_or ks i 0) (operand_at os i)) ≡ r
    unfolding kind_meant
    same =
        let k = kind-number (get_or ks i 0) EntryKind.call (kind-found i (kind_of (get_or ks i 0)) q eq kinds.Call h) in
        sym (er ∙ ap₂ (λ k o. call_holds fs (entry k o)) (sym k) eo)

    pub call-holds : r ≡ true → Judges (Ok tt)
    unfolding need answered
    call-holds h = rw (same, h)

    pub call-refused : r ≡ false → Judges (Err (record { why = refusals.Definition; entry = i }))
    unfolding need answered
    call-refused h = rw (same, h)

-- the loop's invariant: the entries that are left decide
abbrev pub Scanning : (fs ks os : List ℕ) (i : ℕ) → Type 0
Scanning fs ks os i = definitions_hold fs 0 (entries ks os) ≡ definitions_hold fs i (entries_from ks os i)

module _ (fs ks os : List ℕ) (i : ℕ) (g : Scanning fs ks os i) (n : ℕ) (en : n ≡ length ks) where
  -- the code's answer
  abbrev Answers : Result (Unit {0}) Refused → Type 0
  Answers r = r ≡ checked_test (definitions_hold fs 0 (entries ks os))

  pub scan-end : n ≤ i → Answers (Ok tt)
  unfolding definitions_hold need answered
  scan-end l = rw (g, entries-end ks os i (omega arith))

  module _ (l : i < n) (r : Result (Unit {0}) Refused)
      (er : r ≡ checked_test (need (call_holds fs (entry (get_or ks i 0) (operand_at os i))) 8 i)) where
    opened : definitions_hold fs 0 (entries ks os)
        ≡ (need (call_holds fs (entry (get_or ks i 0) (operand_at os i))) 8 i
        >>= (λ _. definitions_hold fs (suc i) (entries_from ks os (suc i))))
    unfolding definitions_hold
    opened = g ∙ rw (entries_at ks os i (omega arith))

    pub scan-more : (u : Unit {0}) → r ≡ Ok u → Scanning fs ks os (i + 1)
    scan-more u h = rw add-one (opened ∙ passed _ _ u (sym er ∙ h))

    pub scan-refused : (x : Refused) → r ≡ Err x → Answers (Err x)
    scan-refused x h = rw opened (bind-refused _ _ _ _ x (sym er ∙ h))
