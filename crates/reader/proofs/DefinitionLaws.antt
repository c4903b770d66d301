-- What is answered for a definition and for several, at each outcome of the code's tests. Assumes nothing.
use mathlib.Core.Path.{◌≡◌, refl, sym, ◌∙◌}
use mathlib.Core.Bool.{false}
use mathlib.Core.List.{List}
use Prim.Native.Nat.{ℕ, ◌+◌, ◌<◌, ◌≤◌}
use native.Mathlib.Numerals.{add-one}
use native.Mathlib.Omega.{arith}
use Rattle.job.specs.Construct.{node_count}
use lib.ListN.{length, get_or}
use lib.Dec.{leb}
use Rattle.job.specs.Syntax.{Exp, Definition, levels}
use Rattle.job.specs.Entry.{kind_of, row_holds, operand_at}
use Rattle.job.specs.Read.{Got, Read, got, refused, ◌>>=◌, gives, need, entry_at, read_exp, is_definition, read_definition}
use Rattle.job.proofs.Test.{le-leb, lt-not-leb}
use Rattle.job.proofs.Position.{entries-end, entries_at}
use Rattle.entries.specs.Parts.{entries_from}
use Rattle.entries.specs.Checked.{answered, Checked, checked_exp}
use Rattle.entries.specs.NamedKind.{kind_named, join_meant, kind_meant}
use Rattle.entries.specs.Refusal.{found_at}
use Rattle.entries.specs.declared.checked.Extent.{Extent}
use Rattle.entries.specs.declared.table_kind.JoinKind.TheVariants as joins
use Rattle.entries.specs.declared.table_kind.TableKind.{TableKind}
use Rattle.entries.specs.declared.table_kind.TableKind.TheVariants as kinds
use Rattle.reader.specs.Definition.{checked_definition}
use Rattle.std.specs.Prelude.{Result, Ok, Err}
use Rattle.entries.specs.declared.refusal.Refused.{Refused}
use Rattle.entries.specs.declared.refusal.TableRefusal.TheVariants as refusals
use Rattle.entries.proofs.CheckedLaws.{bind-refused}
use Rattle.entries.proofs.KindNames.{kind-found, kind-unknown}
use Rattle.entries.proofs.RefusalNumbers.{clash}

-- an entry of another kind is no definition
other-kind : (k : TableKind) → (k ≡ kinds.Definition → ⊥) → is_definition (kind_meant k) ≡ false
unfolding is_definition kind_meant join_meant
other-kind kinds.Stop f = refl
other-kind kinds.Site f = refl
other-kind kinds.Call f = refl
other-kind (kinds.Join joins.Par) f = refl
other-kind (kinds.Join joins.Seq) f = refl
other-kind (kinds.Join joins.Prune) f = refl
other-kind kinds.Definition f = absurd (f refl)
other-kind kinds.Variable f = refl
other-kind kinds.Constant f = refl

-- a definition, of its body
define : ℕ → Got Exp → Read Definition
define n b = gives (record { formals = n; body = b.value }) b.next b.rest

body-answer : (n : ℕ) (r : Read Exp) (x : Extent) → checked_exp r ≡ Ok x
    → Ok (record { next = x.next; nodes = x.nodes + 1 }) ≡ checked_definition (r >>= define n)
unfolding define ◌>>=◌ answered
body-answer n (got g) x q =
    let e : record { next = g.next; nodes = node_count g.value } ≡ x = cc in
    let s : x.nodes + 1 ≡ 1 + x.nodes = omega arith in
    rw s (rw (← e) refl)
body-answer n (refused k e) x q = clash (sym q)

module _ (ks os : List ℕ) (at : ℕ) (n : ℕ) (en : n ≡ length ks) where
  -- the code's answer
  abbrev Answers : Checked → Type 0
  Answers r = r ≡ checked_definition (read_definition at (entries_from ks os at))

  pub definition-end : n ≤ at → Answers (Err (record { why = refusals.EntryCount; entry = at }))
  unfolding read_definition entry_at ◌>>=◌ answered
  definition-end l = rw (entries-end ks os at (omega arith))

  module _ (l : at < n) (q : Result TableKind Refused) (eq : q ≡ found_at at (kind_named (kind_of (get_or ks at 0)))) where
    pub definition-unknown : (x : Refused) → q ≡ Err x → Answers (Err x)
    unfolding read_definition entry_at need is_definition ◌>>=◌ answered
    definition-unknown x h = let u = kind-unknown at _ q eq x h in rw (entries_at ks os at (omega arith), u.0, u.1)

    module _ (k : TableKind) (h : q ≡ Ok k) where
      its_kind : kind_of (get_or ks at 0) ≡ kind_meant k
      its_kind = kind-found at _ q eq k h

      pub definition-other : (k ≡ kinds.Definition → ⊥) → Answers (Err (record { why = refusals.Kind; entry = at }))
      unfolding read_definition entry_at need ◌>>=◌ answered
      definition-other f = rw (entries_at ks os at (omega arith), its_kind, other-kind k f)

      module _ (e : k ≡ kinds.Definition) (o : ℕ) (eo : o ≡ operand_at os at) where
        opened : read_definition at (entries_from ks os at)
            ≡ (need (leb o 4) 4 at >>= (λ _. read_exp 24 (levels o) (at + 1) (entries_from ks os (at + 1)) >>= define o))
        unfolding read_definition entry_at need is_definition kind_meant row_holds define ◌>>=◌
        opened = rw (add-one, entries_at ks os at (omega arith), its_kind, e, ← eo)

        pub definition-row : 4 < o → Answers (Err (record { why = refusals.Operand; entry = at }))
        unfolding need ◌>>=◌ answered
        definition-row m = rw (opened, lt-not-leb o 4 m)

        module _ (m : o ≤ 4) (b : Checked) (eb : b ≡ checked_exp (read_exp 24 (levels o) (at + 1) (entries_from ks os (at + 1)))) where
          body : read_definition at (entries_from ks os at)
              ≡ (read_exp 24 (levels o) (at + 1) (entries_from ks os (at + 1)) >>= define o)
          unfolding need ◌>>=◌
          body = opened ∙ rw (le-leb o 4 m)

          pub body-refused : (x : Refused) → b ≡ Err x → Answers (Err x)
          body-refused x r = rw body (bind-refused _ _ _ (define o) x (sym eb ∙ r))

          pub body-read : (x : Extent) → b ≡ Ok x → Answers (Ok (record { next = x.next; nodes = x.nodes + 1 }))
          body-read x r = rw body (body-answer o _ x (sym eb ∙ r))
