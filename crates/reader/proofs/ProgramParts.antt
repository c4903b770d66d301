-- A program is read in parts: its definitions, its goal, then the tests of the whole table. Where the definitions end, how many there are,
-- and how few nodes they have. Assumes nothing.
use mathlib.Core.Path.{◌≡◌, refl, sym, ◌∙◌, ap}
use mathlib.Core.List.{List, [], ◌∷◌}
use Prim.Native.Nat.{ℕ, zero, suc, ◌+◌, ◌*◌, ◌≤◌}
use native.Mathlib.Omega.{arith}
use lib.ListN.{length}
use Rattle.job.specs.Syntax.{Exp, Definition, Program, formals_of}
use Rattle.job.specs.Entry.{Entry}
use Rattle.job.specs.Read.{Got, Read, got, refused, ◌>>=◌, gives, read_exp, read_definition, read_program, leftovers, definitions_hold}
use Rattle.job.specs.Read.{read_entries}
use Rattle.job.proofs.Position.{bind-got, same-got}
use Rattle.entries.specs.Parts.{entries_from}
use Rattle.reader.specs.Definition.{read_definition_list, definition_list_nodes, and_then, definitions_found}
use Rattle.reader.proofs.DefinitionLoop.{Defined, defined}

-- a goal behind its definitions; a definition in front of a program, and in front of others
unfoldable pub whole : List Definition → Got Exp → Read Program
whole ds g = gives (record { definitions = ds; goal = g.value }) g.next g.rest

ahead : Definition → Got Program → Read Program
ahead d p = gives (record { definitions = d ∷ p.value.definitions; goal = p.value.goal }) p.next p.rest

more : Definition → Got (List Definition) → Read (List Definition)
more d ds = gives (d ∷ ds.value) ds.next ds.rest

-- the goal, read behind the definitions
unfoldable pub goal_read : Got (List Definition) → Read Program
goal_read ds = read_exp 24 [] ds.next ds.rest >>= whole ds.value

-- a program is its definitions, then its goal
pub program-split : (n e : ℕ) (es : List Entry) → read_program n e es ≡ (read_definition_list n e es >>= goal_read)
unfolding read_program read_definition_list goal_read whole ahead more ◌>>=◌
program-split zero e es = refl
program-split (suc n) e es = go (read_definition e es) (program-split n)
  where
    goal : (d : Definition) (ds : List Definition) (r : Read Exp) → (r >>= whole ds >>= ahead d) ≡ (r >>= whole (d ∷ ds))
    goal d ds (got g) = refl
    goal d ds (refused k i) = refl

    rest : (d : Definition) (r : Read (List Definition)) → (r >>= goal_read >>= ahead d) ≡ (r >>= more d >>= goal_read)
    rest d (got ds) = goal d ds.value (read_exp 24 [] ds.next ds.rest)
    rest d (refused k i) = refl

    go : (r : Read Definition) → ((e : ℕ) (es : List Entry) → read_program n e es ≡ (read_definition_list n e es >>= goal_read))
        → (r >>= (λ d. read_program n d.next d.rest >>= ahead d.value))
        ≡ (r >>= (λ d. read_definition_list n d.next d.rest >>= more d.value) >>= goal_read)
    go (got d) same = ap (λ r. r >>= ahead d.value) (same d.next d.rest)
        ∙ rest d.value (read_definition_list n d.next d.rest)
    go (refused k i) same = refl

-- definitions that were read from entry e on
pub record AllDefined (ks os : List ℕ) (n e : ℕ) (g : Got (List Definition)) : Type 0 where
  pub rest : g.rest ≡ entries_from ks os g.next
  pub many : length g.value ≡ n
  pub few : definition_list_nodes g.value + 2 * n + 2 * e ≤ 2 * g.next

one_more : (ks os : List ℕ) (n e : ℕ) (d : Got Definition) (ds : Got (List Definition)) → Defined ks os e d
    → AllDefined ks os n d.next ds
    → AllDefined ks os (suc n) e (record { value = d.value ∷ ds.value; next = ds.next; rest = ds.rest })
unfolding definition_list_nodes
one_more ks os n e d ds f fs =
    let x = f.few in let y = fs.few in record { rest = fs.rest; many = ap suc fs.many; few = omega arith }

pub all-defined : (ks os : List ℕ) (n e : ℕ) (l : List Entry) → l ≡ entries_from ks os e → (g : Got (List Definition))
    → read_definition_list n e l ≡ got g → AllDefined ks os n e g
unfolding read_definition_list definition_list_nodes
all-defined ks os zero e l q g r =
    same-got (AllDefined ks os 0 e) (record { value = []; next = e; rest = l }) g r
    (record { rest = q; many = refl; few = omega arith })
all-defined ks os (suc n) e l q g r =
    let d = bind-got (read_definition e l) _ g r in
    let f = defined ks os e d.0 (ap (read_definition e) (sym q) ∙ d.1) in
    let ds = bind-got (read_definition_list n d.0.next d.0.rest) _ g d.2 in
    let fs = all-defined ks os n d.0.next d.0.rest f.rest ds.0 ds.1 in
    same-got (AllDefined ks os (suc n) e) _ g ds.2 (one_more ks os n e d.0 ds.0 f fs)

-- where all are read, all are found
pub all_found : (n e : ℕ) (es : List Entry) (g : Got (List Definition)) → read_definition_list n e es ≡ got g
    → definitions_found n e es ≡ g.value
unfolding read_definition_list definitions_found and_then
all_found zero e es g r = cc
all_found (suc n) e es g r =
    let d = bind-got (read_definition e es) _ g r in
    let ds = bind-got (read_definition_list n d.0.next d.0.rest) _ g d.2 in
    let z : g.value ≡ d.0.value ∷ ds.0.value = cc in
    ap (λ r. and_then r (λ d. definitions_found n d.next d.rest)) d.1
    ∙ ap (λ ds. d.0.value ∷ ds) (all_found n d.0.next d.0.rest ds.0 ds.1)
    ∙ sym z

-- the tests behind a program that was read
unfoldable pub tests : List Entry → Got Program → Read Program
tests es p = leftovers p.next p.rest >>= (λ _. definitions_hold (formals_of p.value.definitions) 0 es >>= (λ _. got p))

pub entries-opened : (n : ℕ) (es : List Entry) → read_entries n es ≡ (read_definition_list n 0 es >>= goal_read >>= tests es)
unfolding read_entries tests
entries-opened n es = ap (λ r. r >>= tests es) (program-split n 0 es)

-- a program that was read with all its tests: its definitions, then its goal
pub record Parted (n : ℕ) (es : List Entry) (p : Program) : Type 0 where
  pub definitions : Got (List Definition)
  pub goal : Got Exp
  pub read-definitions : read_definition_list n 0 es ≡ got definitions
  pub read-goal : read_exp 24 [] definitions.next definitions.rest ≡ got goal
  pub value : p ≡ record { definitions = definitions.value; goal = goal.value }

pub parted : (n : ℕ) (es : List Entry) (p : Got Program) → read_entries n es ≡ got p → Parted n es p.value
unfolding goal_read whole tests
parted n es p r =
    let b = bind-got (read_definition_list n 0 es >>= goal_read) (tests es) p (sym (entries-opened n es) ∙ r) in
    let c = bind-got (leftovers b.0.next b.0.rest) _ p b.2 in
    let d = bind-got (definitions_hold _ 0 es) _ p c.2 in
    let e = bind-got (read_definition_list n 0 es) goal_read b.0 b.1 in
    let f = bind-got (read_exp 24 [] e.0.next e.0.rest) (whole e.0.value) b.0 e.2 in
    same-got (λ q. Parted n es q.value) b.0 p d.2
    (same-got (λ q. Parted n es q.value) _ b.0 f.2
    (record { definitions = e.0; goal = f.0; read-definitions = e.1; read-goal = f.1; value = refl }))
