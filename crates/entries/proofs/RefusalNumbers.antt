-- The refusals of a table and their numbers, and what is found at an entry. Assumes nothing.
use mathlib.Core.Path.{◌≡◌, refl, sym}
use mathlib.Core.List.{List}
use Prim.Native.Nat.{ℕ}
use Rattle.std.specs.Prelude.{Result, Ok, Err}
use Rattle.job.specs.Declined.{Fault, wrong-kind, wrong-operand, too-deep, out-of-scope, no_room}
use Rattle.job.specs.Declined.{DeclinedEntries, runs-out, breaks, remain, undefined}
use Rattle.job.specs.Declined.{Declined, wrong-length, wrong-sizes, wrong-entries}
use Rattle.job.specs.Read.{read_table, declined}
use Rattle.job.proofs.DeclinedExactly.{declined-if}
use Rattle.job.proofs.Test.{never}
use Rattle.entries.specs.Refusal.{number_of, refusal_of, found_at}
use Rattle.entries.specs.declared.refusal.Refused.{Refused}
use Rattle.entries.specs.declared.refusal.TableRefusal.{TableRefusal}
use Rattle.entries.specs.declared.refusal.TableRefusal.TheVariants as refusals

pub case-of : (why : TableRefusal) → refusal_of (number_of why) ≡ why
unfolding number_of
case-of refusals.Length = refl
case-of refusals.Sizes = refl
case-of refusals.Kind = refl
case-of refusals.Operand = refl
case-of refusals.EntryCount = refl
case-of refusals.Depth = refl
case-of refusals.Scope = refl
case-of refusals.Definition = refl

-- the number of a table that is refused is that of its case
pub numbered : (b : List ℕ) (n e : ℕ) → read_table b ≡ declined n e → number_of (refusal_of n) ≡ n
unfolding number_of
numbered b n e r = go (declined-if b n e r)
  where
    fault : {p : _} {x : _} {n : ℕ} → Fault p x n → number_of (refusal_of n) ≡ n
    fault (wrong-kind f) = refl
    fault (wrong-operand f) = refl
    fault (too-deep f) = refl
    fault (out-of-scope f g) = refl
    fault (no_room f g h) = refl

    entry : {D : ℕ} {es : _} {n e : ℕ} → DeclinedEntries D es n e → number_of (refusal_of n) ≡ n
    entry (runs-out f) = refl
    entry (breaks after q f b) = fault b.fault
    entry (remain x after q f) = refl
    entry (undefined f g) = refl

    go : {n e : ℕ} → Declined b n e → number_of (refusal_of n) ≡ n
    go (wrong-length f) = refl
    go (wrong-sizes l f) = refl
    go (wrong-entries l s d) = entry d

-- one answer is not both
pub clash : {A B C : Type 0} {a : A} {b : B} → Ok a ≡ Err b → C
clash h = never cc

pub same-case : {A B : Type 0} {a b : B} → ◌≡◌ {A = Result A B} (Err a) (Err b) → a ≡ b
same-case h = cc

pub same-value : {A B : Type 0} {a b : A} → ◌≡◌ {A = Result A B} (Ok a) (Ok b) → a ≡ b
same-value h = cc

module _ {A : Type 0} (e : ℕ) (r : Result A TableRefusal) where
  pub found : (a : A) → found_at e r ≡ Ok a → r ≡ Ok a
  unfolding found_at
  found a = go r
    where
      go : (r : Result A TableRefusal) → found_at e r ≡ Ok a → r ≡ Ok a
      go (Ok b) h = cc
      go (Err w) h = clash (sym h)

  pub not-found : (x : Refused) → found_at e r ≡ Err x → (why : TableRefusal) × (r ≡ Err why) × (x ≡ record { why = why; entry = e })
  unfolding found_at
  not-found x = go r
    where
      go : (r : Result A TableRefusal) → found_at e r ≡ Err x
          → (why : TableRefusal) × (r ≡ Err why) × (x ≡ record { why = why; entry = e })
      go (Ok b) h = clash h
      go (Err w) h = (w, refl, sym (same-case h))
