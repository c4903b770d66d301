-- The code's kinds and those of the table of kinds. Assumes nothing.
use mathlib.Core.Path.{◌≡◌, refl, sym, ap, ◌∙◌}
use Prim.Native.Nat.{ℕ}
use Rattle.std.specs.Prelude.{Result, Ok, Err}
use Rattle.job.specs.Entry.{EntryKind, kind_of}
use Rattle.entries.specs.NamedKind.{kind_named, join_meant, kind_meant}
use Rattle.entries.specs.Refusal.{found_at}
use Rattle.entries.specs.declared.table_kind.TableKind.{TableKind}
use Rattle.entries.specs.declared.table_kind.TableKind.TheVariants as kinds
use Rattle.entries.specs.declared.table_kind.JoinKind.TheVariants as joins
use Rattle.entries.specs.declared.refusal.Refused.{Refused}
use Rattle.entries.specs.declared.refusal.TableRefusal.TheVariants as refusals
use Rattle.entries.proofs.RefusalNumbers.{clash, same-case, found, not-found}

-- the table's kind is the one meant
pub named-meant : (n : EntryKind) (k : TableKind) → kind_named n ≡ Ok k → n ≡ kind_meant k
unfolding kind_named kind_meant join_meant
named-meant EntryKind.stop k h = let e : kinds.Stop ≡ k = cc in rw (← e)
named-meant EntryKind.site k h = let e : kinds.Site ≡ k = cc in rw (← e)
named-meant EntryKind.call k h = let e : kinds.Call ≡ k = cc in rw (← e)
named-meant EntryKind.par k h = let e : kinds.Join joins.Par ≡ k = cc in rw (← e)
named-meant EntryKind.seq k h = let e : kinds.Join joins.Seq ≡ k = cc in rw (← e)
named-meant EntryKind.prune k h = let e : kinds.Join joins.Prune ≡ k = cc in rw (← e)
named-meant EntryKind.definition k h = let e : kinds.Definition ≡ k = cc in rw (← e)
named-meant EntryKind.variable k h = let e : kinds.Variable ≡ k = cc in rw (← e)
named-meant EntryKind.constant k h = let e : kinds.Constant ≡ k = cc in rw (← e)
named-meant EntryKind.unknown k h = clash (sym h)

-- an unknown kind is named by none
pub named-none : (n : EntryKind) (w : _) → kind_named n ≡ Err w → (n ≡ EntryKind.unknown) × (w ≡ refusals.Kind)
unfolding kind_named
named-none EntryKind.stop w h = clash h
named-none EntryKind.site w h = clash h
named-none EntryKind.call w h = clash h
named-none EntryKind.par w h = clash h
named-none EntryKind.seq w h = clash h
named-none EntryKind.prune w h = clash h
named-none EntryKind.definition w h = clash h
named-none EntryKind.variable w h = clash h
named-none EntryKind.constant w h = clash h
named-none EntryKind.unknown w h = (refl, sym (same-case h))

-- of the kind that is found at an entry
module _ (at : ℕ) (n : EntryKind) (r : Result TableKind Refused) (er : r ≡ found_at at (kind_named n)) where
  pub kind-found : (k : TableKind) → r ≡ Ok k → n ≡ kind_meant k
  kind-found k h = named-meant n k (found at (kind_named n) k (sym er ∙ h))

  pub kind-unknown : (x : Refused) → r ≡ Err x → (n ≡ EntryKind.unknown) × (x ≡ record { why = refusals.Kind; entry = at })
  kind-unknown x h =
      let a = not-found at (kind_named n) x (sym er ∙ h) in
      let b = named-none n a.0 a.1 in
      (b.0, a.2 ∙ ap (λ w. record { why = w; entry = at }) b.1)

-- the kind of a call's byte
pub kind-call : (at n : ℕ) → n ≡ 2 → found_at at (kind_named (kind_of n)) ≡ Ok kinds.Call
unfolding kind_of kind_named found_at
kind-call at n e = rw e
