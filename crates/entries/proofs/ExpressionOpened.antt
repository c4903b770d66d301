-- An expression's reading, opened at its first entry: the tests for 3, 4 and 7 (or 6), then what its kind asks for. So where an entry is
-- refused by itself the reading is refused with that number, and where it is not, the kind's reading is all that is left. Assumes nothing.
use mathlib.Core.Path.{◌≡◌, refl, sym, ◌∙◌, ap}
use mathlib.Core.Bool.{Bool, true, false, not}
use mathlib.Core.List.{List, ◌∷◌}
use Prim.Native.Nat.{ℕ, zero, suc, ◌-◌, ◌<◌, ◌≤◌}
use native.Mathlib.Omega.{arith}
use lib.ListN.{length}
use Rattle.std.specs.Prelude.{Ok, Err}
use lib.Dec.{ltb}
use Rattle.job.specs.Test.{◌or◌}
use Rattle.job.specs.Syntax.{par, seq, prune, Exp, stop, site, call}
use Rattle.job.specs.Entry.{Entry, entry, low, high, EntryKind, kind_of, is_expression, row_holds, is_binder}
use Rattle.job.specs.Read.{Read, refused, ◌>>=◌, gives, need, entry_at, read_call, read_join, read_exp}
use Rattle.job.proofs.Test.{never, ltb-lt}
use Rattle.entries.specs.EntryFault.{Fault, unless, expression_fault}
use Rattle.entries.specs.Refusal.{number_of}
use Rattle.entries.specs.declared.refusal.TableRefusal.{TableRefusal}
use Rattle.entries.specs.declared.refusal.TableRefusal.TheVariants as refusals
use Rattle.entries.proofs.RefusalNumbers.{clash, same-case}

-- what the kind of entry e asks for, where the entries from i on are left
unfoldable pub read_kind : (List ℕ → ℕ → List Entry → Read Exp) → List ℕ → ℕ → ℕ → List Entry → EntryKind → ℕ → Read Exp
read_kind side scope e i es EntryKind.stop o = gives stop i es
read_kind side scope e i es EntryKind.site o = read_call (site (low o)) (high o) scope i es
read_kind side scope e i es EntryKind.call o = read_call (call (low o)) (high o) scope i es
read_kind side scope e i es EntryKind.par o = read_join side par scope i es
read_kind side scope e i es EntryKind.seq o = read_join side (seq (length scope)) scope i es
read_kind side scope e i es EntryKind.prune o = read_join side (prune (length scope)) scope i es
read_kind side scope e i es EntryKind.definition o = refused 3 e
read_kind side scope e i es EntryKind.variable o = refused 3 e
read_kind side scope e i es EntryKind.constant o = refused 3 e
read_kind side scope e i es EntryKind.unknown o = refused 3 e

module _ (left : ℕ) (scope : List ℕ) (e : ℕ) (x : Entry) (es : List Entry) where
  same_kind : (k : EntryKind)
      → (elim k as (λ k. Read Exp) [
        | EntryKind.stop ↦ gives stop (suc e) es
        | EntryKind.site ↦ read_call (site (low x.operand)) (high x.operand) scope (suc e) es
        | EntryKind.call ↦ read_call (call (low x.operand)) (high x.operand) scope (suc e) es
        | EntryKind.par ↦ read_join (read_exp left) par scope (suc e) es
        | EntryKind.seq ↦ read_join (read_exp left) (seq (length scope)) scope (suc e) es
        | EntryKind.prune ↦ read_join (read_exp left) (prune (length scope)) scope (suc e) es
        | EntryKind.definition ↦ refused 3 e
        | EntryKind.variable ↦ refused 3 e
        | EntryKind.constant ↦ refused 3 e
        | EntryKind.unknown ↦ refused 3 e
      ]) ≡ read_kind (read_exp left) scope e (suc e) es k x.operand
  unfolding read_kind
  same_kind EntryKind.stop = refl
  same_kind EntryKind.site = refl
  same_kind EntryKind.call = refl
  same_kind EntryKind.par = refl
  same_kind EntryKind.seq = refl
  same_kind EntryKind.prune = refl
  same_kind EntryKind.definition = refl
  same_kind EntryKind.variable = refl
  same_kind EntryKind.constant = refl
  same_kind EntryKind.unknown = refl

  -- the three tests of an entry above the greatest depth, then its kind
  abbrev pub tests : EntryKind → ℕ → Read Exp → Read Exp
  tests k o r =
      need (is_expression k) 3 e
      >>= (λ _. need (row_holds k o) 4 e >>= (λ _. need (not (is_binder k) or ltb (length scope) 8) 7 e >>= (λ _. r)))

  pub exp-opened : read_exp (suc left) scope e (x ∷ es)
      ≡ tests (kind_of x.kind) x.operand (read_kind (read_exp left) scope e (suc e) es (kind_of x.kind) x.operand)
  unfolding read_exp entry_at ◌>>=◌
  exp-opened = ap (tests (kind_of x.kind) x.operand) (same_kind (kind_of x.kind))

module _ (scope : List ℕ) (e k o : ℕ) (es : List Entry) where
  -- an entry with a fault is refused
  refusal : (w v : TableRefusal) → ◌≡◌ {A = Fault} (Err w) (Err v) → ◌≡◌ {A = Read Exp} (refused (number_of v) e) (refused (number_of w) e)
  refusal w v q = ap (λ w. refused (number_of w) e) (sym (same-case q))

  pub exp-refused : (left : ℕ) (w : TableRefusal) → Err w ≡ expression_fault left scope (kind_of k) o
      → read_exp left scope e (entry k o ∷ es) ≡ refused (number_of w) e
  unfolding read_exp entry_at need ◌>>=◌ expression_fault unless number_of
  exp-refused zero w q = go (is_expression (kind_of k)) (row_holds (kind_of k) o) q
    where
      go : (a b : Bool) → Err w ≡ unless a (Err refusals.Kind) (unless b (Err refusals.Operand) (Err refusals.Depth))
          → ◌≡◌ {A = Read Exp} (need a 3 e >>= (λ _. need b 4 e >>= (λ _. refused 6 e))) (refused (number_of w) e)
      go true true q = refusal w refusals.Depth q
      go true false q = refusal w refusals.Operand q
      go false b q = refusal w refusals.Kind q
  exp-refused (suc left) w q =
      exp-opened left scope e (entry k o) es
      ∙ go (is_expression (kind_of k)) (row_holds (kind_of k) o) (not (is_binder (kind_of k)) or ltb (length scope) 8) q
    where
      go : (a b c : Bool)
          → Err w ≡ unless a (Err refusals.Kind) (unless b (Err refusals.Operand) (unless c (Err refusals.Scope) (Ok tt)))
          → (need a 3 e
          >>= (λ _. need b 4 e >>= (λ _. need c 7 e >>= (λ _. read_kind (read_exp left) scope e (suc e) es (kind_of k) o))))
          ≡ refused (number_of w) e
      go true true true q = clash (sym q)
      go true true false q = refusal w refusals.Scope q
      go true false c q = refusal w refusals.Operand q
      go false b c q = refusal w refusals.Kind q

  -- an entry with none is read by its kind
  pub exp-kind : (left : ℕ) → Ok tt ≡ expression_fault left scope (kind_of k) o
      → read_exp left scope e (entry k o ∷ es) ≡ read_kind (read_exp (left - 1)) scope e (suc e) es (kind_of k) o
  unfolding need ◌>>=◌ expression_fault unless
  exp-kind zero q = absurd (go (is_expression (kind_of k)) (row_holds (kind_of k) o) q)
    where
      go : (a b : Bool) → Ok tt ≡ unless a (Err refusals.Kind) (unless b (Err refusals.Operand) (Err refusals.Depth)) → ⊥
      go true true q = clash q
      go true false q = clash q
      go false b q = clash q
  exp-kind (suc left) q =
      exp-opened left scope e (entry k o) es
      ∙ go (is_expression (kind_of k)) (row_holds (kind_of k) o) (not (is_binder (kind_of k)) or ltb (length scope) 8) q
      ∙ ap (λ l. read_kind (read_exp l) scope e (suc e) es (kind_of k) o) (let z : left ≡ suc left - 1 = omega arith in z)
    where
      go : (a b c : Bool)
          → Ok tt ≡ unless a (Err refusals.Kind) (unless b (Err refusals.Operand) (unless c (Err refusals.Scope) (Ok tt)))
          → (need a 3 e
          >>= (λ _. need b 4 e >>= (λ _. need c 7 e >>= (λ _. read_kind (read_exp left) scope e (suc e) es (kind_of k) o))))
          ≡ read_kind (read_exp left) scope e (suc e) es (kind_of k) o
      go true true true q = refl
      go true true false q = clash q
      go true false c q = clash q
      go false b c q = clash q

-- what an entry with no fault has
pub record Sound (left : ℕ) (scope : List ℕ) (k : EntryKind) : Type 0 where
  pub depth : 1 ≤ left
  pub kind : is_expression k ≡ true
  pub room : is_binder k ≡ true → length scope < 8

pub sound : (left : ℕ) (scope : List ℕ) (k : EntryKind) (o : ℕ) → Ok tt ≡ expression_fault left scope k o → Sound left scope k
unfolding expression_fault unless ◌or◌
sound zero scope k o q = absurd (go (is_expression k) (row_holds k o) q)
  where
    go : (a b : Bool) → Ok tt ≡ unless a (Err refusals.Kind) (unless b (Err refusals.Operand) (Err refusals.Depth)) → ⊥
    go true true q = clash q
    go true false q = clash q
    go false b q = clash q
sound (suc left) scope k o q =
    go (is_expression k) (row_holds k o) (not (is_binder k) or ltb (length scope) 8) refl refl q
  where
    room : (b : Bool) → (not b or ltb (length scope) 8) ≡ true → b ≡ true → length scope < 8
    room true e p = ltb-lt (length scope) 8 e
    room false e p = never cc

    go : (a b c : Bool) → is_expression k ≡ a → (not (is_binder k) or ltb (length scope) 8) ≡ c
        → Ok tt ≡ unless a (Err refusals.Kind) (unless b (Err refusals.Operand) (unless c (Err refusals.Scope) (Ok tt)))
        → Sound (suc left) scope k
    go true true true p r q = record { depth = omega arith; kind = p; room = room (is_binder k) r }
    go true true false p r q = clash q
    go true false c p r q = clash q
    go false b c p r q = clash q
