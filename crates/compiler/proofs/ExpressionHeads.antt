-- What an accepted expression is, by the kind of its first entry. Assumes nothing.
use Prim.Native.Nat.{ℕ, zero, suc, ◌-◌, ◌<◌}
use mathlib.Core.Path.{◌≡◌, refl, sym, ap, subst, ◌∙◌}
use mathlib.Core.Logic.{◌⊎◌, inl, inr}
use mathlib.Core.Bool.{true, not}
use mathlib.Core.List.{List, [], ◌∷◌}
use native.Mathlib.Decide.{dec_lt}
use native.Mathlib.Omega.{arith}
use lib.ListN.{length, get_or, drop}
use lib.Dec.{ltb}
use Rattle.job.specs.Test.{◌or◌}
use Rattle.job.specs.Entry.{Entry, entry, entries, low, high, EntryKind, kind_of, is_expression, row_holds, is_binder, operand_at}
use Rattle.job.specs.Syntax.{Param, Join, Exp, stop, site, call, join, scope_left, scope_right}
use Rattle.job.specs.Read.{Got, Read, got, ◌>>=◌, gives, need, entry_at, read_param_list, read_call, read_join, read_exp}
use Rattle.job.proofs.Test.{never, ltb-lt}
use Rattle.job.proofs.Position.{entries_at, entries-end, bind-got, refused-got, reread, test-holds}
use Rattle.entries.specs.NamedKind.{kind_named, join_meant, join_of}
use Rattle.entries.specs.declared.table_kind.JoinKind.{JoinKind}
use Rattle.entries.specs.declared.table_kind.JoinKind.TheVariants as joins
use Rattle.entries.specs.declared.table_kind.TableKind.{TableKind}
use Rattle.entries.specs.declared.table_kind.TableKind.TheVariants as kinds
use Rattle.std.specs.Prelude.{Ok}
use Rattle.entries.proofs.ExpressionOpened.{read_kind, exp-opened}

module _ (side : List ℕ → ℕ → List Entry → Read Exp) (scope : List ℕ) (o e : ℕ) (l : List Entry) (g : Got Exp) where
  -- by kind and operand; e is the next entry, l what stands from there on
  pub data Head : TableKind → Type 0 where
    halts : gives stop e l ≡ got g → Head kinds.Stop
    names : read_call (site (low o)) (high o) scope e l ≡ got g → Head kinds.Site
    calls : read_call (call (low o)) (high o) scope e l ≡ got g → Head kinds.Call
    joins_by : {j : JoinKind} → (is_binder (join_meant j) ≡ true → length scope < 8)
        → read_join side (join_of j (length scope)) scope e l ≡ got g → Head (kinds.Join j)

  -- its kind, and what it is by that
  pub record Kinded (n : EntryKind) : Type 0 where
    pub kind : TableKind
    pub named : kind_named n ≡ Ok kind
    pub head : Head kind

module _ (left : ℕ) (scope : List ℕ) (o e : ℕ) (l : List Entry) (g : Got Exp) where
  by-read-kind : (n : EntryKind) → (not (is_binder n) or ltb (length scope) 8) ≡ true
      → read_kind (read_exp left) scope e (suc e) l n o ≡ got g
      → Kinded (read_exp left) scope o (suc e) l g n
  unfolding is_binder read_kind ◌or◌ kind_named join_meant join_of
  by-read-kind EntryKind.stop b r = record { kind = kinds.Stop; named = refl; head = halts r }
  by-read-kind EntryKind.site b r = record { kind = kinds.Site; named = refl; head = names r }
  by-read-kind EntryKind.call b r = record { kind = kinds.Call; named = refl; head = calls r }
  by-read-kind EntryKind.par b r =
      record { kind = kinds.Join joins.Par; named = refl; head = joins_by {j = joins.Par} (λ h. never cc) r }
  by-read-kind EntryKind.seq b r =
      record { kind = kinds.Join joins.Seq; named = refl; head = joins_by {j = joins.Seq} (λ h. ltb-lt (length scope) 8 b) r }
  by-read-kind EntryKind.prune b r =
      record { kind = kinds.Join joins.Prune; named = refl; head = joins_by {j = joins.Prune} (λ h. ltb-lt (length scope) 8 b) r }
  by-read-kind EntryKind.definition b r = refused-got r
  by-read-kind EntryKind.variable b r = refused-got r
  by-read-kind EntryKind.constant b r = refused-got r
  by-read-kind EntryKind.unknown b r = refused-got r

  by_kind : (k : ℕ) → read_exp (suc left) scope e (entry k o ∷ l) ≡ got g → Kinded (read_exp left) scope o (suc e) l g (kind_of k)
  by_kind k r =
      let a = bind-got (need (is_expression (kind_of k)) 3 e) _ g (sym (exp-opened left scope e (entry k o) l) ∙ r) in
      let b = bind-got (need (row_holds (kind_of k) o) 4 e) _ g a.2 in
      let c = bind-got (need (not (is_binder (kind_of k)) or ltb (length scope) 8) 7 e) _ g b.2 in
      by-read-kind (kind_of k) (test-holds _ 7 e c.0 c.1) c.2

none_here : {A : Type 0} (left : ℕ) (scope : List ℕ) (e : ℕ) (g : Got Exp) → read_exp left scope e [] ≡ got g → A
unfolding read_exp entry_at ◌>>=◌
none_here zero scope e g r = refused-got r
none_here (suc left) scope e g r = refused-got r

too-deep : {A : Type 0} (scope : List ℕ) (e : ℕ) (l : List Entry) (g : Got Exp) → read_exp zero scope e l ≡ got g → A
unfolding read_exp
too-deep scope e l g r =
    let x = bind-got (entry_at e l) _ g r in
    let a = bind-got (need _ 3 e) _ g x.2 in
    let b = bind-got (need _ 4 e) _ g a.2 in
    refused-got b.2

-- an expression that is read from an index
pub record Headed (left : ℕ) (ks os : List ℕ) (scope : List ℕ) (at : ℕ) (g : Got Exp) : Type 0 where
  pub deep : 0 < left
  pub here : at < length ks
  pub first : Kinded (read_exp (left - 1)) scope (operand_at os at) (suc at) (drop (suc at) (entries ks os)) g (kind_of (get_or ks at 0))

pub headed : (left : ℕ) (ks os : List ℕ) (scope : List ℕ) (at : ℕ) (g : Got Exp)
    → read_exp left scope at (drop at (entries ks os)) ≡ got g → Headed left ks os scope at g
headed zero ks os scope at g r = too-deep scope at _ g r
headed (suc left) ks os scope at g r = go (dec_lt at (length ks))
  where
    go : Dec (at < length ks) → Headed (suc left) ks os scope at g
    go (yes l) =
        let z : suc left - 1 ≡ left = omega arith in
        record {
          deep = omega arith;
          here = l;
          first = subst (λ m. Kinded (read_exp m) scope (operand_at os at) (suc at) (drop (suc at) (entries ks os)) g
              (kind_of (get_or ks at 0))) (sym z)
              (by_kind left scope (operand_at os at) at _ g (get_or ks at 0)
              (reread (read_exp (suc left)) refl refl (entries_at ks os at l) r));
        }
    go (no f) = none_here (suc left) scope at g (reread (read_exp (suc left)) refl refl (entries-end ks os at (omega arith)) r)

module _ {side : List ℕ → ℕ → List Entry → Read Exp} {scope : List ℕ} {o e : ℕ} {l : List Entry} {g : Got Exp} where
  pub stops : {k : TableKind} → Head side scope o e l g k → k ≡ kinds.Stop → (g.value ≡ stop) × (g.next ≡ e)
  stops (halts r) z = (cc, (cc))
  stops (names r) z = never cc
  stops (calls r) z = never cc
  stops (joins_by room r) z = never cc

  -- no other kind is an expression's
  pub no-other : {k : TableKind} → Head side scope o e l g k → (i : TableKind) → k ≡ i
      → (i ≡ kinds.Definition) ⊎ ((i ≡ kinds.Variable) ⊎ (i ≡ kinds.Constant)) → ⊥
  no-other (halts r) i z (inl y) = never cc
  no-other (halts r) i z (inr (inl y)) = never cc
  no-other (halts r) i z (inr (inr y)) = never cc
  no-other (names r) i z (inl y) = never cc
  no-other (names r) i z (inr (inl y)) = never cc
  no-other (names r) i z (inr (inr y)) = never cc
  no-other (calls r) i z (inl y) = never cc
  no-other (calls r) i z (inr (inl y)) = never cc
  no-other (calls r) i z (inr (inr y)) = never cc
  no-other (joins_by room r) i z (inl y) = never cc
  no-other (joins_by room r) i z (inr (inl y)) = never cc
  no-other (joins_by room r) i z (inr (inr y)) = never cc

pub called-kind : {k i : TableKind} → k ≡ i → (i ≡ kinds.Site) ⊎ (i ≡ kinds.Call) → (k ≡ kinds.Site) ⊎ (k ≡ kinds.Call)
called-kind e (inl f) = inl (e ∙ f)
called-kind e (inr f) = inr (e ∙ f)

-- a call: its parameters
pub record Called (scope : List ℕ) (o e : ℕ) (l : List Entry) (g : Got Exp) (k : TableKind) : Type 0 where
  pub params : Got (List Param)
  pub read : read_param_list (high o) scope e l ≡ got params
  pub next : g.next ≡ params.next
  pub which : ((k ≡ kinds.Site) × (g.value ≡ site (low o) params.value)) ⊎ ((k ≡ kinds.Call) × (g.value ≡ call (low o) params.value))

-- a join: its two sides
pub record Joined (side : List ℕ → ℕ → List Entry → Read Exp) (scope : List ℕ) (e : ℕ) (l : List Entry) (g : Got Exp) (j : Join)
    : Type 0 where
  pub left : Got Exp
  pub right : Got Exp
  pub read_left : side (scope_left j scope) e l ≡ got left
  pub read_right : side (scope_right j scope) left.next left.rest ≡ got right
  pub value : g.value ≡ join j left.value right.value
  pub next : g.next ≡ right.next

module _ {side : List ℕ → ℕ → List Entry → Read Exp} {scope : List ℕ} {o e : ℕ} {l : List Entry} {g : Got Exp} where
  pub called : {k : TableKind} → Head side scope o e l g k → (k ≡ kinds.Site) ⊎ (k ≡ kinds.Call) → Called scope o e l g k
  unfolding read_call
  called (halts r) (inl z) = never cc
  called (halts r) (inr z) = never cc
  called (names r) z =
      let b = bind-got (read_param_list (high o) scope e l) _ g r in
      record { params = b.0; read = b.1; next = cc; which = inl (refl, (cc)) }
  called (calls r) z =
      let b = bind-got (read_param_list (high o) scope e l) _ g r in
      record { params = b.0; read = b.1; next = cc; which = inr (refl, (cc)) }
  called (joins_by room r) (inl z) = never cc
  called (joins_by room r) (inr z) = never cc

  pub head-room : {k : TableKind} (j : JoinKind) → Head side scope o e l g k → k ≡ kinds.Join j → is_binder (join_meant j) ≡ true
      → length scope < 8
  head-room j (halts r) z b = never cc
  head-room j (names r) z b = never cc
  head-room j (calls r) z b = never cc
  head-room j (joins_by {j = i} room r) z b =
      let e : i ≡ j = cc in room (ap (λ j. is_binder (join_meant j)) e ∙ b)

  pub joined : {k : TableKind} (j : JoinKind) → Head side scope o e l g k → k ≡ kinds.Join j → Joined side scope e l g (join_of j (length scope))
  unfolding read_join
  joined j (halts r) z = never cc
  joined j (names r) z = never cc
  joined j (calls r) z = never cc
  joined j (joins_by {j = i} room r) z =
      let q : i ≡ j = cc in
      let a = bind-got (side (scope_left (join_of i (length scope)) scope) e l) _ g r in
      let b = bind-got (side (scope_right (join_of i (length scope)) scope) a.0.next a.0.rest) _ g a.2 in
      subst (λ j. Joined side scope e l g (join_of j (length scope))) q
      (record { left = a.0; right = b.0; read_left = a.1; read_right = b.1; value = cc; next = cc })
