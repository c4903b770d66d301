-- What an accepted expression is that has room, and what is to be shown of compiling it. Assumes nothing.
use Prim.Native.Nat.{ℕ, suc, ◌+◌, ◌-◌, ◌<◌, ◌≤◌}
use mathlib.Core.Path.{◌≡◌, refl, sym, ap, subst, ◌∙◌}
use mathlib.Core.Bool.{true}
use mathlib.Core.List.{List}
use native.Mathlib.Omega.{arith}
use lib.ListN.{length, get_or, drop}
use Rattle.job.specs.Entry.{entries, kind_of, is_binder, operand_at}
use Rattle.job.specs.Syntax.{Exp}
use Rattle.job.specs.Construct.{node_count}
use Rattle.job.specs.Read.{Got, Read, got, read_exp, refused}
use Rattle.job.proofs.Size.{size-some}
use Rattle.entries.specs.NamedKind.{kind_named, join_meant}
use Rattle.entries.specs.Refusal.{found_at}
use Rattle.entries.specs.declared.table_kind.JoinKind.{JoinKind}
use Rattle.entries.specs.declared.table_kind.TableKind.{TableKind}
use Rattle.entries.specs.declared.table_kind.TableKind.TheVariants as kinds
use Rattle.entries.specs.declared.refusal.Refused.{Refused}
use Rattle.entries.proofs.RefusalNumbers.{same-value}
use Rattle.std.specs.Prelude.{Result, Ok, IsOk}
use Rattle.entries.specs.Scope.{Means}
use Rattle.entries.specs.declared.scope.Scope.{Scope}
use Rattle.compiler.specs.ExpressionCompiled.{reading, NodesFit, room, Accepted, compiled, stored}
use Rattle.compiler.specs.declared.expression.Compiled.{Compiled}
use Rattle.compiler.proofs.ExpressionHeads.{Head, headed, head-room}

room-got : (p : Read Exp) (n : ℕ) → NodesFit p n → (g : Got Exp) × (p ≡ got g) × (n + node_count g.value ≤ 1022)
room-got (got g) n (room h) = (g, refl, h)
room-got (refused number entry) n x' = elim x' [ ]

-- an expression that is read and has room may be compiled
pub accept : (left : ℕ) (ks os : List ℕ) (s : Scope) (at n : ℕ) (scope : List ℕ) (g : Got Exp) → Means s scope
    → reading left ks os scope at ≡ got g → n + node_count g.value ≤ 1022 → Accepted left ks os s at n scope
accept left ks os s at n scope g m r h =
    let t = headed left ks os scope at g r in
    let z = size-some g.value in
    record {
      means = m;
      deep = t.deep;
      here = t.here;
      low = omega arith;
      fits = subst (λ q. NodesFit q n) (sym r) (room h);
    }

-- a result by its parts
pub same : {a a' b b' c c' : ℕ} → a ≡ a' → b ≡ b' → c ≡ c'
    → ◌≡◌ {A = Compiled} (record { at = a; node = b; root = c }) (record { at = a'; node = b'; root = c' })
same p q r = cc

-- what is read, and what is known of it
pub record Taken (left : ℕ) (ks os scope : List ℕ) (at n : ℕ) : Type 0 where
  pub here : at < length ks
  pub it : Got Exp
  pub read : reading left ks os scope at ≡ got it
  pub fits : n + node_count it.value ≤ 1022
  pub kind : TableKind
  pub named : kind_named (kind_of (get_or ks at 0)) ≡ Ok kind
  pub head : Head (read_exp (left - 1)) scope (operand_at os at) (suc at) (drop (suc at) (entries ks os)) it kind

pub taken : {left : ℕ} {ks os : List ℕ} {s : Scope} {at n : ℕ} {scope : List ℕ} → Accepted left ks os s at n scope
    → Taken left ks os scope at n
taken {left} {ks} {os} {s} {at} {n} {scope} acc =
    let v = room-got (reading left ks os scope at) n acc.fits in
    let t = headed left ks os scope at v.0 v.1 in
    record {
      here = acc.here;
      it = v.0;
      read = v.1;
      fits = v.2;
      kind = t.first.kind;
      named = t.first.named;
      head = t.first.head;
    }

-- its first entry's kind is the one that is found there
pub has-kind : {left : ℕ} {ks os scope : List ℕ} {at n : ℕ} (t : Taken left ks os scope at n) (r : Result TableKind Refused)
    → r ≡ found_at at (kind_named (kind_of (get_or ks at 0))) → r ≡ Ok t.kind
unfolding found_at
has-kind {at = at} t r e = e ∙ ap (λ k. found_at at k) t.named

pub same-kind : {left : ℕ} {ks os scope : List ℕ} {at n : ℕ} (t : Taken left ks os scope at n) (r : Result TableKind Refused) (k : TableKind)
    → r ≡ found_at at (kind_named (kind_of (get_or ks at 0))) → r ≡ Ok k → t.kind ≡ k
same-kind t r k e h = same-value (sym (has-kind t r e) ∙ h)

pub is-ok : {A B : Type 0} {r : Result A B} {a : A} → r ≡ Ok a → IsOk r
is-ok e = rw e refl

-- a binder has a number to take
pub binder-room : {left : ℕ} {ks os : List ℕ} {s : Scope} {at n : ℕ} {scope : List ℕ} (acc : Accepted left ks os s at n scope)
    (j : JoinKind) → (taken acc).kind ≡ kinds.Join j → is_binder (join_meant j) ≡ true → s.count < 8
binder-room acc j e b = let h = head-room j (taken acc).head e b in omega (arith, acc.means.counted)

-- a result and a dag's words that are those of what is read
abbrev pub Done : (left : ℕ) (ks os scope : List ℕ) (at n k : ℕ) → Compiled → (d d' : List ℕ) → Type 0
Done left ks os scope at n k c d d' = (c ≡ compiled (reading left ks os scope at) n) × (d' ≡ stored (reading left ks os scope at) n k d)

pub done : {left : ℕ} {ks os scope : List ℕ} {at n : ℕ} (t : Taken left ks os scope at n) (k : ℕ) (c : Compiled) (d d' : List ℕ)
    → c ≡ compiled (got t.it) n → d' ≡ stored (got t.it) n k d → Done left ks os scope at n k c d d'
done {n = n} t k c d d' p q = (p ∙ ap (λ r. compiled r n) (sym t.read), q ∙ ap (λ r. stored r n k d) (sym t.read))
