-- What is answered for an expression, at each outcome of the code's tests. Assumes nothing.
use mathlib.Core.Path.{◌≡◌, refl, sym, ◌∙◌, ap, ap₂}
use mathlib.Core.Bool.{true, false}
use mathlib.Core.List.{List, ◌∷◌}
use mathlib.Core.Logic.{◌⊎◌, inl, inr}
use Prim.Native.Nat.{ℕ, zero, suc, ◌+◌, ◌-◌, ◌/◌, ◌<◌, ◌≤◌}
use native.Mathlib.Omega.{arith}
use native.Mathlib.Numerals.{add-one}
use lib.ListN.{length, get_or, drop}
use Rattle.std.specs.Prelude.{Result, Ok, Err}
use Rattle.job.specs.Syntax.{Param, Join, Exp, site, call, join, scope_left, scope_right}
use Rattle.job.specs.Entry.{Entry, entry, entries, low, EntryKind, kind_of, is_expression, is_binder, operand_at}
use Rattle.job.specs.Read.{Got, Read, got, refused, ◌>>=◌, gives, entry_at, read_param_list, read_call, read_join, read_exp}
use Rattle.job.specs.Construct.{own, node_count}
use Rattle.job.proofs.Position.{entries-end, entries_at, exp-from}
use Rattle.job.proofs.Size.{own-few}
use Rattle.job.proofs.Test.{never}
use Rattle.entries.specs.Checked.{answered, Checked, checked_param_list, checked_exp}
use Rattle.entries.specs.EntryFault.{unless, expression_fault}
use Rattle.entries.specs.ExpressionSides.{JoinHolds}
use Rattle.entries.specs.NamedKind.{kind_named, join_meant, kind_meant, join_of}
use Rattle.entries.specs.Parts.{entries_from}
use Rattle.entries.specs.Refusal.{found_at}
use Rattle.entries.specs.declared.checked.Extent.{Extent}
use Rattle.entries.specs.declared.expression.Sides.{Sides}
use Rattle.entries.specs.declared.table_kind.JoinKind.{JoinKind}
use Rattle.entries.specs.declared.table_kind.JoinKind.TheVariants as joins
use Rattle.entries.specs.declared.table_kind.TableKind.{TableKind}
use Rattle.entries.specs.declared.table_kind.TableKind.TheVariants as kinds
use Rattle.entries.specs.declared.refusal.Refused.{Refused}
use Rattle.entries.specs.declared.refusal.TableRefusal.TheVariants as refusals
use Rattle.entries.proofs.CheckedLaws.{bind-refused, checked-next}
use Rattle.entries.proofs.ExpressionOpened.{read_kind, exp-refused, exp-kind, Sound, sound}
use Rattle.entries.proofs.KindNames.{kind-found, kind-unknown}
use Rattle.entries.proofs.RefusalNumbers.{clash, case-of, found, not-found}

-- a call is read as its parameters are, and has one node
call-answer : (h : List Param → Exp) → ((ps : List Param) → node_count (h ps) ≡ 1) → (r : Read (List Param)) (n : ℕ)
    → checked_param_list r ≡ Ok n
    → Ok (record { next = n; nodes = 1 }) ≡ checked_exp (r >>= (λ ps. gives (h ps.value) ps.next ps.rest))
unfolding ◌>>=◌ answered
call-answer h one (got g) n q = let e : g.next ≡ n = cc in rw (one g.value, e)
call-answer h one (refused k e) n q = clash (sym q)

join-kind : (side : List ℕ → ℕ → List Entry → Read Exp) (scope : List ℕ) (e i : ℕ) (es : List Entry) (j : JoinKind) (o : ℕ)
    → read_kind side scope e i es (join_meant j) o ≡ read_join side (join_of j (length scope)) scope i es
unfolding read_kind join_meant join_of
join-kind side scope e i es joins.Par o = refl
join-kind side scope e i es joins.Seq o = refl
join-kind side scope e i es joins.Prune o = refl

pub own-fits : (j : JoinKind) (scope : List ℕ) (sd : Sides) → JoinHolds j scope sd → sd.nodes ≤ 3
own-fits j scope sd h = let x = h.nodes in omega (arith, own-few (join_of j (length scope)))

-- the second side of a join, behind the first
second : (List ℕ → ℕ → List Entry → Read Exp) → Join → List ℕ → Got Exp → Read Exp
second side j scope f = side scope f.next f.rest >>= (λ g. gives (join j f.value g.value) g.next g.rest)

second-answer : (j : Join) (f : Exp) (r : Read Exp) (x : Extent) → checked_exp r ≡ Ok x
    → Ok (record { next = x.next; nodes = own j + node_count f + x.nodes })
    ≡ checked_exp (r >>= (λ g. gives (join j f g.value) g.next g.rest))
unfolding ◌>>=◌ answered node_count
second-answer j f (got g) x q = let e : record { next = g.next; nodes = node_count g.value } ≡ x = cc in rw (← e)
second-answer j f (refused n e) x q = clash (sym q)

module _ (ks os : List ℕ) (left : ℕ) (scope : List ℕ) (at : ℕ) where
  -- the code's answer
  abbrev Answers : Checked → Type 0
  Answers r = r ≡ checked_exp (read_exp left scope at (entries_from ks os at))

  pub exp-end : (n : ℕ) → n ≡ length ks → n ≤ at → Answers (Err (record { why = refusals.EntryCount; entry = at }))
  unfolding read_exp entry_at ◌>>=◌ answered
  exp-end n e l = go left
    where
      go : (left : ℕ) → Err (record { why = refusals.EntryCount; entry = at })
          ≡ checked_exp (read_exp left scope at (entries_from ks os at))
      go zero = rw (entries-end ks os at (omega arith))
      go (suc left) = rw (entries-end ks os at (omega arith))

  module _ (n : ℕ) (en : n ≡ length ks) (l : at < n) where
    behind : List Entry
    behind = drop (suc at) (entries ks os)

    here : entries_from ks os at ≡ entry (get_or ks at 0) (operand_at os at) ∷ behind
    unfolding behind
    here = entries_at ks os at (omega arith)

    refused-as : (w : _) → Err w ≡ expression_fault left scope (kind_of (get_or ks at 0)) (operand_at os at)
        → Answers (Err (record { why = w; entry = at }))
    unfolding answered
    refused-as w q = rw (here, exp-refused scope at (get_or ks at 0) (operand_at os at) behind left w q, case-of w)

    module _ (q : Result TableKind Refused) (eq : q ≡ found_at at (kind_named (kind_of (get_or ks at 0)))) where
      pub exp-unknown : (x : Refused) → q ≡ Err x → Answers (Err x)
      unfolding expression_fault unless is_expression
      exp-unknown x h = let u = kind-unknown at _ q eq x h in rw (u.1) (refused-as refusals.Kind (go left u.0))
        where
          go : (left : ℕ) → kind_of (get_or ks at 0) ≡ EntryKind.unknown
              → Err refusals.Kind ≡ expression_fault left scope (kind_of (get_or ks at 0)) (operand_at os at)
          go zero u = rw u
          go (suc left) u = rw u

      module _ (k : TableKind) (h : q ≡ Ok k) (o : ℕ) (eo : o ≡ operand_at os at) (f : Result (Unit {0}) Refused)
          (ef : f ≡ found_at at (expression_fault left scope (kind_meant k) o)) where
        its_kind : kind_of (get_or ks at 0) ≡ kind_meant k
        its_kind = kind-found at _ q eq k h

        same-fault : expression_fault left scope (kind_meant k) o ≡ expression_fault left scope (kind_of (get_or ks at 0)) (operand_at os at)
        same-fault = ap₂ (λ n o. expression_fault left scope n o) (sym its_kind) eo

        pub exp-fault : (x : Refused) → f ≡ Err x → Answers (Err x)
        exp-fault x g =
            let w = not-found at (expression_fault left scope (kind_meant k) o) x (sym ef ∙ g) in
            rw (w.2) (refused-as w.0 (sym w.1 ∙ same-fault))

        module _ (u : Unit {0}) (g : f ≡ Ok u) where
          none : Ok tt ≡ expression_fault left scope (kind_meant k) o
          none = sym (found at (expression_fault left scope (kind_meant k) o) u (sym ef ∙ g))

          has : Sound left scope (kind_meant k)
          has = sound left scope (kind_meant k) o none

          pub depth-left : 1 ≤ left
          depth-left = has.depth

          by-kind : read_exp left scope at (entries_from ks os at)
              ≡ read_kind (read_exp (left - 1)) scope at (suc at) behind (kind_meant k) (operand_at os at)
          by-kind =
              rw here (exp-kind scope at (get_or ks at 0) (operand_at os at) behind left (none ∙ same-fault))
              ∙ ap (λ n. read_kind (read_exp (left - 1)) scope at (suc at) behind n (operand_at os at)) its_kind

          pub exp-stop : k ≡ kinds.Stop → Answers (Ok (record { next = at + 1; nodes = 1 }))
          unfolding kind_meant read_kind answered node_count
          exp-stop e = rw (by-kind, e, add-one)

          pub no-other : (k ≡ kinds.Definition) ⊎ ((k ≡ kinds.Variable) ⊎ (k ≡ kinds.Constant)) → ⊥
          unfolding kind_meant is_expression
          no-other (inl e) = let x : true ≡ false = sym has.kind ∙ ap (λ k. is_expression (kind_meant k)) e in never cc
          no-other (inr (inl e)) = let x : true ≡ false = sym has.kind ∙ ap (λ k. is_expression (kind_meant k)) e in never cc
          no-other (inr (inr e)) = let x : true ≡ false = sym has.kind ∙ ap (λ k. is_expression (kind_meant k)) e in never cc

          -- a call: its parameters stand behind it
          as_call : (k ≡ kinds.Site) ⊎ (k ≡ kinds.Call)
              → (h : List Param → Exp) × ((ps : List Param) → node_count (h ps) ≡ 1)
              × (read_exp left scope at (entries_from ks os at)
              ≡ (read_param_list (o / 65536) scope (at + 1) (entries_from ks os (at + 1))
              >>= (λ ps. gives (h ps.value) ps.next ps.rest)))
          unfolding behind kind_meant read_kind read_call node_count
          as_call (inl e) = (λ ps. site (low o) ps, λ ps. refl, rw (by-kind, e, ← eo, add-one))
          as_call (inr e) = (λ ps. call (low o) ps, λ ps. refl, rw (by-kind, e, ← eo, add-one))

          module _ (c : (k ≡ kinds.Site) ⊎ (k ≡ kinds.Call)) (p : Result ℕ Refused)
              (ep : p ≡ checked_param_list (read_param_list (o / 65536) scope (at + 1) (entries_from ks os (at + 1)))) where
            pub call-refused : (x : Refused) → p ≡ Err x → Answers (Err x)
            call-refused x d = let a = as_call c in rw (a.2) (bind-refused _ _ _ _ x (sym ep ∙ d))

            pub call-read : (n : ℕ) → p ≡ Ok n → Answers (Ok (record { next = n; nodes = 1 }))
            call-read n d = let a = as_call c in rw (a.2) (call-answer a.0 a.1 _ n (sym ep ∙ d))

          module _ (j : JoinKind) (e : k ≡ kinds.Join j) where
            pub binder-room : (s : ℕ) → s ≡ length scope → is_binder (join_meant j) ≡ true → s < 8
            unfolding kind_meant
            binder-room s m b =
                let x : is_binder (kind_meant k) ≡ true = rw e b in let y = has.room x in omega arith

            -- the join, and the variables in scope in its sides
            abbrev its : Join
            its = join_of j (length scope)

            abbrev in_left : List ℕ
            in_left = scope_left its scope

            abbrev in_right : List ℕ
            in_right = scope_right its scope

            by-join : read_exp left scope at (entries_from ks os at)
                ≡ (read_exp (left - 1) in_left (at + 1) (entries_from ks os (at + 1)) >>= second (read_exp (left - 1)) its in_right)
            unfolding second behind read_join kind_meant
            by-join =
                let side = read_exp (left - 1) in
                by-kind
                ∙ ap (λ k. read_kind side scope at (suc at) behind (kind_meant k) (operand_at os at)) e
                ∙ join-kind side scope at (suc at) behind j (operand_at os at)
                ∙ ap (λ i. side in_left i (entries_from ks os i) >>= second side its in_right) (sym (add-one at))

            module _ (sd : Sides) (sides : JoinHolds j scope sd) (p : Checked)
                (ep : p ≡ checked_exp (read_exp (left - 1) in_left (at + 1) (entries_from ks os (at + 1)))) where
              pub left-refused : (x : Refused) → p ≡ Err x → Answers (Err x)
              left-refused x d = rw by-join (bind-refused _ _ _ (second _ _ _) x (sym ep ∙ d))

              module _ (x : Extent) (d : p ≡ Ok x) (r : Checked)
                  (er : r ≡ checked_exp (read_exp (left - 1) in_right x.next (entries_from ks os x.next))) where
                first : (f : Got Exp) × (read_exp (left - 1) in_left (at + 1) (entries_from ks os (at + 1)) ≡ got f)
                    × (f.next ≡ x.next) × (node_count f.value ≡ x.nodes)
                first = checked-next node_count (read_exp (left - 1) in_left (at + 1) (entries_from ks os (at + 1))) x (sym ep ∙ d)

                both : read_exp left scope at (entries_from ks os at)
                    ≡ (read_exp (left - 1) in_right x.next (entries_from ks os x.next)
                    >>= (λ g. gives (join its first.0.value g.value) g.next g.rest))
                unfolding second ◌>>=◌
                both =
                    let side = read_exp (left - 1) in
                    let a = first in
                    let f = exp-from (entries ks os) (left - 1) in_left (at + 1) (entries_from ks os (at + 1)) a.0 refl a.1 in
                    by-join
                    ∙ ap (λ r. r >>= second side its in_right) a.1
                    ∙ ap₂ (λ i l. side in_right i l >>= (λ g. gives (join its a.0.value g.value) g.next g.rest)) a.2
                    (f.rest ∙ ap (λ i. drop i (entries ks os)) a.2)

                pub right-refused : (y : Refused) → r ≡ Err y → Answers (Err y)
                right-refused y c = rw both (bind-refused _ _ _ _ y (sym er ∙ c))

                pub join-read : (y : Extent) → r ≡ Ok y
                    → Answers (Ok (record { next = y.next; nodes = sd.nodes + x.nodes + y.nodes }))
                join-read y c =
                    let a = first in
                    let n : sd.nodes + x.nodes + y.nodes ≡ own its + node_count a.0.value + y.nodes =
                    ap₂ (λ i k. i + k + y.nodes) sides.nodes (sym a.3) in
                    rw (both, n) (second-answer its a.0.value _ y (sym er ∙ c))
