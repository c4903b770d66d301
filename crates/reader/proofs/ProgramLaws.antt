-- What is answered for the whole table, at each outcome of the code's tests. Assumes nothing.
use mathlib.Core.Path.{◌≡◌, refl, sym, ◌∙◌, ap, ap₂}
use mathlib.Core.List.{List, []}
use Prim.Native.Nat.{ℕ, ◌+◌, ◌<◌, ◌≤◌}
use native.Mathlib.Omega.{arith}
use lib.ListN.{length, take, length-map}
use lib.Seq.{sets, length-sets}
use Rattle.std.specs.Prelude.{Result, Ok, Err}
use Rattle.job.specs.Syntax.{Exp, Definition, Program, formals_of, levels}
use Rattle.job.specs.Entry.{entries}
use Rattle.job.specs.Read.{Got, got, ◌>>=◌, need, read_exp, leftovers, definitions_hold, read_entries}
use Rattle.job.specs.Construct.{node_count, construct}
use Rattle.job.proofs.Stores.{take-sets}
use Rattle.job.proofs.Position.{entries-end, entries_at, exp-from}
use Rattle.entries.specs.Checked.{answered, Checked, checked_test, checked_exp, checked_program}
use Rattle.entries.specs.Parts.{entries_from}
use Rattle.entries.specs.declared.checked.Extent.{Extent}
use Rattle.entries.specs.declared.refusal.Refused.{Refused}
use Rattle.entries.specs.declared.refusal.TableRefusal.TheVariants as refusals
use Rattle.entries.proofs.CheckedLaws.{bind-refused, answered-refused, checked-next, passed}
use Rattle.entries.proofs.ExpressionNodes.{next-few}
use Rattle.reader.specs.Definition.{read_definition_list, definition_list_nodes, definition_sizes, definitions_found, DefinitionsHold}
use Rattle.reader.proofs.ProgramParts.{whole, goal_read, AllDefined, all-defined, all_found, tests, entries-opened}
use Rattle.reader.proofs.ProgramNodes.{construct-length}

module _ (ks os : List ℕ) (at n : ℕ) (en : n ≡ length ks) where
  pub end-left : at < n
      → Err (record { why = refusals.EntryCount; entry = at }) ≡ checked_test (leftovers at (entries_from ks os at))
  unfolding leftovers answered
  end-left l = rw (entries_at ks os at (omega arith))

  pub end_none : n ≤ at → Ok tt ≡ checked_test (leftovers at (entries_from ks os at))
  unfolding leftovers need answered
  end_none l = rw (entries-end ks os at (omega arith))

module _ (ks os : List ℕ) (n : ℕ) (d : Checked) (fs₀ fs ss₀ ss : List ℕ) (found : DefinitionsHold n (entries ks os) d fs₀ fs ss₀ ss) where
  -- the code's answer
  abbrev Answers : Checked → Type 0
  Answers r = r ≡ checked_program (read_entries n (entries ks os))

  pub program-refused : (x : Refused) → d ≡ Err x → Answers (Err x)
  unfolding ◌>>=◌ answered
  program-refused x h =
      let r = answered-refused _ (read_definition_list n 0 (entries ks os)) x (sym found.answers ∙ h) in
      sym (ap checked_program (entries-opened n (entries ks os) ∙ ap (λ r. r >>= goal_read >>= tests (entries ks os)) r.2) ∙ ap Err r.3)

  pub formals-long : length fs₀ ≡ 32 → length fs ≡ 32
  formals-long l = ap length found.counts ∙ length-sets fs₀ 0 (formals_of (definitions_found n 0 (entries ks os))) ∙ l

  module _ (x : Extent) (h : d ≡ Ok x) where
    first : (a : Got (List Definition)) × (read_definition_list n 0 (entries ks os) ≡ got a) × (a.next ≡ x.next)
        × (definition_list_nodes a.value ≡ x.nodes)
    first = checked-next definition_list_nodes (read_definition_list n 0 (entries ks os)) x (sym found.answers ∙ h)

    facts : AllDefined ks os n 0 first.0
    facts = all-defined ks os n 0 (entries ks os) refl first.0 first.1

    -- what is left when the definitions are read
    goal : read_entries n (entries ks os)
        ≡ (read_exp 24 (levels 0) x.next (entries_from ks os x.next) >>= whole first.0.value >>= tests (entries ks os))
    unfolding goal_read levels ◌>>=◌
    goal =
        entries-opened n (entries ks os)
        ∙ ap (λ r. r >>= goal_read >>= tests (entries ks os)) first.1
        ∙ ap₂ (λ i l. read_exp 24 [] i l >>= whole first.0.value >>= tests (entries ks os)) first.2
        (facts.rest ∙ ap (λ i. entries_from ks os i) first.2)

    counts : n ≤ 32 → length fs₀ ≡ 32 → take n fs ≡ formals_of first.0.value
    counts l m =
        let ws = formals_of first.0.value in
        let many : length ws ≡ n = length-map first.0.value (λ d. d.formals) ∙ facts.many in
        let stored : fs ≡ sets fs₀ 0 ws =
        found.counts ∙ ap (λ ds. sets fs₀ 0 (formals_of ds)) (all_found n 0 (entries ks os) first.0 first.1) in
        ap₂ take (sym many) stored ∙ take-sets fs₀ ws (omega arith)

    module _ (q : Checked) (eq : q ≡ checked_exp (read_exp 24 (levels 0) x.next (entries_from ks os x.next))) where
      pub goal-refused : (y : Refused) → q ≡ Err y → Answers (Err y)
      unfolding ◌>>=◌ answered
      goal-refused y w =
          let r = answered-refused _ (read_exp 24 (levels 0) x.next (entries_from ks os x.next)) y (sym eq ∙ w) in
          sym (ap checked_program (goal ∙ ap (λ r. r >>= whole first.0.value >>= tests (entries ks os)) r.2) ∙ ap Err r.3)

      module _ (y : Extent) (w : q ≡ Ok y) where
        last : (a : Got Exp) × (read_exp 24 (levels 0) x.next (entries_from ks os x.next) ≡ got a) × (a.next ≡ y.next)
            × (node_count a.value ≡ y.nodes)
        last = checked-next node_count (read_exp 24 (levels 0) x.next (entries_from ks os x.next)) y (sym eq ∙ w)

        -- the nodes of all
        pub all-few : length ks ≤ 512 → x.nodes + y.nodes + 1 < 4096
        all-few l =
            let f = next-few ks os 24 (levels 0) x.next q eq y w in
            let a = f.0 in
            let b = f.1 in
            let u = facts.few in
            let v = first.2 in
            let z = first.3 in
            omega arith

        pub sum-few : length ks ≤ 512 → x.nodes + y.nodes < 4096
        sum-few l = let x = all-few l in omega arith

        program : Got Program
        program = record { value = record { definitions = first.0.value; goal = last.0.value }; next = last.0.next; rest = last.0.rest }

        tested : read_entries n (entries ks os) ≡ tests (entries ks os) program
        unfolding whole ◌>>=◌ program
        tested = goal ∙ ap (λ r. r >>= whole first.0.value >>= tests (entries ks os)) last.1

        module _ (u : Result (Unit {0}) Refused) (eu : u ≡ checked_test (leftovers y.next (entries_from ks os y.next))) where
          ends : u ≡ checked_test (leftovers program.next program.rest)
          unfolding program
          ends =
              let f = exp-from (entries ks os) 24 (levels 0) x.next (entries_from ks os x.next) last.0 refl last.1 in
              eu
              ∙ sym (ap₂ (λ i l. checked_test (leftovers i l)) last.2 (f.rest ∙ ap (λ i. entries_from ks os i) last.2))

          pub end-refused : (z : Refused) → u ≡ Err z → Answers (Err z)
          unfolding tests
          end-refused z k = rw tested (bind-refused _ _ _ _ z (sym ends ∙ k))

          module _ (t : Unit {0}) (k : u ≡ Ok t) (same : n ≡ length ss₀) (l : n ≤ 32) (m : length fs₀ ≡ 32)
              (v : Result (Unit {0}) Refused)
              (ev : v ≡ checked_test (definitions_hold (take (length ss) fs) 0 (entries ks os))) where
            called : v ≡ checked_test (definitions_hold (formals_of first.0.value) 0 (entries ks os))
            called =
                let kept : length ss ≡ n =
                ap length found.counted ∙ length-sets ss₀ 0 (definition_sizes (definitions_found n 0 (entries ks os))) ∙ sym same in
                ev ∙ ap (λ fs. checked_test (definitions_hold fs 0 (entries ks os))) (ap (λ k. take k fs) kept ∙ counts l m)

            left : read_entries n (entries ks os)
                ≡ (definitions_hold (formals_of first.0.value) 0 (entries ks os) >>= (λ _. got program))
            unfolding tests program
            left = tested ∙ passed (leftovers program.next program.rest) _ t (sym ends ∙ k)

            pub calls-refused : (z : Refused) → v ≡ Err z → Answers (Err z)
            calls-refused z c = rw left (bind-refused _ _ _ _ z (sym called ∙ c))

            pub program-done : (s : Unit {0}) → v ≡ Ok s → Answers (Ok (record { next = y.next; nodes = x.nodes + y.nodes + 1 }))
            unfolding answered program
            program-done s c =
                let all : read_entries n (entries ks os) ≡ got program = left ∙ passed _ _ s (sym called ∙ c) in
                let b = first.3 in
                let e = last.3 in
                let sum : length (construct program.value).nodes ≡ x.nodes + y.nodes + 1 =
                construct-length program.value
                ∙ (let z : definition_list_nodes first.0.value + (node_count last.0.value + 1) ≡ x.nodes + y.nodes + 1 = omega arith in z) in
                sym (ap checked_program all ∙ ap₂ (λ i k. Ok (record { next = i; nodes = k })) last.2 sum)
