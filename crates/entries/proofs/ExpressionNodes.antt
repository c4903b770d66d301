-- How many nodes an expression has: at most two for each of its entries, less one. Assumes nothing.
use mathlib.Core.Path.{◌≡◌, refl, sym, ◌∙◌, subst}
use mathlib.Core.List.{List, [], ◌∷◌}
use Prim.Native.Nat.{ℕ, zero, suc, ◌+◌, ◌*◌, ◌<◌, ◌≤◌}
use native.Mathlib.Omega.{arith}
use lib.ListN.{length, drop}
use Rattle.std.specs.Prelude.{Ok}
use Rattle.job.specs.Syntax.{Param, Join, par, seq, prune, Exp, stop, site, call, scope_left, scope_right}
use Rattle.job.specs.Entry.{Entry, entries, low, high, EntryKind, kind_of}
use Rattle.job.specs.Read.{Got, Read, got, ◌>>=◌, entry_at, read_param_list, read_call, read_join, read_exp}
use Rattle.job.specs.Construct.{node_count}
use Rattle.job.proofs.Size.{own-few}
use Rattle.job.proofs.Read.{Yields, reads, refuses, says-bind, yields-got, yields-need, yields-map, yields-itself}
use Rattle.job.proofs.Position.{entry-from, params-from, exp-from}
use Rattle.job.proofs.Entry.{length-entries}
use Rattle.entries.specs.Checked.{Checked, checked_exp}
use Rattle.entries.specs.Parts.{entries_from}
use Rattle.entries.specs.declared.checked.Extent.{Extent}
use Rattle.entries.proofs.ExpressionOpened.{read_kind, exp-opened}
use Rattle.entries.proofs.CheckedLaws.{checked-next}

-- an expression that is read from entry e on
pub record Small (e : ℕ) (g : Got Exp) : Type 0 where
  pub few : node_count g.value + 1 + 2 * e ≤ 2 * g.next

module _ (es : List Entry) where
  -- one that is read from entry e of these on, with what is left behind it
  abbrev Kept : ℕ → Got Exp → Type 0
  Kept e g = Small e g × (g.rest ≡ drop g.next es)

  call-few : (h : List Param → Exp) → ((ps : List Param) → node_count (h ps) ≡ 1) → (n : ℕ) (scope : List ℕ) (e : ℕ) (l : List Entry)
      → l ≡ drop (suc e) es → suc e ≤ length es → Yields (Small e) (read_call h n scope (suc e) l)
  unfolding read_call
  call-few h one n scope e l q m =
      says-bind _ (yields-itself (read_param_list n scope (suc e) l)) λ g r.
      let k = (params-from es n scope (suc e) l g q m r).next in
      reads (record { few = omega (arith, one g.value) })

  abbrev Sides : (List ℕ → ℕ → List Entry → Read Exp) → Type 0
  Sides side = (scope : List ℕ) (e : ℕ) (l : List Entry) → l ≡ drop e es → Yields (Kept e) (side scope e l)

  join-few : (side : List ℕ → ℕ → List Entry → Read Exp) → Sides side → (j : Join) (scope : List ℕ) (e : ℕ) (l : List Entry)
      → l ≡ drop (suc e) es → Yields (Small e) (read_join side j scope (suc e) l)
  unfolding read_join node_count
  join-few side few j scope e l q =
      says-bind _ (few (scope_left j scope) (suc e) l q) λ f a.
      says-bind _ (few (scope_right j scope) f.next f.rest a.1) λ g b.
      reads (record { few = omega (arith, own-few j, a.0.few, b.0.few) })

  kind-few : (side : List ℕ → ℕ → List Entry → Read Exp) → Sides side → (scope : List ℕ) (e : ℕ) (l : List Entry)
      → l ≡ drop (suc e) es → suc e ≤ length es → (k : EntryKind) (o : ℕ) → Yields (Small e) (read_kind side scope e (suc e) l k o)
  unfolding read_kind node_count
  kind-few side few scope e l q m EntryKind.stop o =
      reads {g = record { value = stop; next = suc e; rest = l }} (record { few = omega arith })
  kind-few side few scope e l q m EntryKind.site o = call-few (λ ps. site (low o) ps) (λ ps. refl) (high o) scope e l q m
  kind-few side few scope e l q m EntryKind.call o = call-few (λ ps. call (low o) ps) (λ ps. refl) (high o) scope e l q m
  kind-few side few scope e l q m EntryKind.par o = join-few side few par scope e l q
  kind-few side few scope e l q m EntryKind.seq o = join-few side few (seq (length scope)) scope e l q
  kind-few side few scope e l q m EntryKind.prune o = join-few side few (prune (length scope)) scope e l q
  kind-few side few scope e l q m EntryKind.definition o = (refuses tt)
  kind-few side few scope e l q m EntryKind.variable o = (refuses tt)
  kind-few side few scope e l q m EntryKind.constant o = (refuses tt)
  kind-few side few scope e l q m EntryKind.unknown o = (refuses tt)

  with_rest : (left : ℕ) (scope : List ℕ) (e : ℕ) (l : List Entry) → l ≡ drop e es
      → Yields (Small e) (read_exp left scope e l) → Yields (Kept e) (read_exp left scope e l)
  with_rest left scope e l q h =
      yields-map (λ g r. (yields-got h r, (exp-from es left scope e l g q r).rest)) (yields-itself (read_exp left scope e l))

  exp-few : (left : ℕ) (scope : List ℕ) (e : ℕ) (l : List Entry) → l ≡ drop e es → Yields (Small e) (read_exp left scope e l)
  unfolding read_exp entry_at ◌>>=◌
  exp-few zero scope e [] q = (refuses tt)
  exp-few zero scope e (x ∷ l) q = yields-need _ 3 e _ λ _. yields-need _ 4 e _ λ _. (refuses tt)
  exp-few (suc left) scope e [] q = (refuses tt)
  exp-few (suc left) scope e (x ∷ l) q =
      let f = entry-from es e (x ∷ l) (record { value = x; next = suc e; rest = l }) q refl in
      let sides : Sides (read_exp left) = λ scope e l q. with_rest left scope e l q (exp-few left scope e l q) in
      subst (Yields (Small e)) (sym (exp-opened left scope e x l))
      (yields-need _ 3 e _ λ _. yields-need _ 4 e _ λ _. yields-need _ 7 e _ λ _.
      kind-few (read_exp left) sides scope e l f.1 f.2 (kind_of x.kind) x.operand)

pub read-few : (ks os : List ℕ) (left : ℕ) (scope : List ℕ) (e : ℕ) (g : Got Exp) → read_exp left scope e (entries_from ks os e) ≡ got g
    → Small e g
read-few ks os left scope e g r = yields-got (exp-few (entries ks os) left scope e (entries_from ks os e) refl) r

-- what an answer says of it
module _ (ks os : List ℕ) (left : ℕ) (scope : List ℕ) (e : ℕ) (q : Checked)
    (eq : q ≡ checked_exp (read_exp left scope e (entries_from ks os e))) (x : Extent) (h : q ≡ Ok x) where
  pub next-few : (x.nodes + 1 + 2 * e ≤ 2 * x.next) × (x.next ≤ length ks)
  next-few =
      let a = checked-next node_count (read_exp left scope e (entries_from ks os e)) x (sym eq ∙ h) in
      let f = exp-from (entries ks os) left scope e (entries_from ks os e) a.0 refl a.1 in
      let small = (read-few ks os left scope e a.0 a.1).few in
      let n = a.2 in
      let k = a.3 in
      let last = f.last in
      (omega arith, omega (arith, length-entries ks os))

  pub nodes-few : length ks ≤ 512 → x.nodes < 1024
  nodes-few l = let f = next-few in let y = f.0 in let z = f.1 in omega arith
