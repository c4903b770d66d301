-- The reader goes through the positions of a table in prefix order: what it reads fills them, and where it refuses, its number is the
-- entry's first fault, since its tests come in the order of the numbers. Assumes nothing.
use mathlib.Core.Path.{◌≡◌, refl, sym, ◌∙◌, ap, subst}
use mathlib.Core.Bool.{Bool, true, false}
use mathlib.Core.List.{List, [], ◌∷◌, ◌++◌, append_assoc, append-nil}
use Prim.Native.Nat.{ℕ, zero, suc, ◌+◌, ◌-◌, ◌≤◌, ◌<◌}
use native.Mathlib.Omega.{arith}
use lib.ListN.{length, replicate, length-append}
use lib.Dec.{eqb, ltb}
use Rattle.job.specs.Test.{◌or◌, for_some}
use Rattle.job.specs.Syntax.{Param, Join, Exp, Definition, Program, formals_of, levels, scope_left, scope_right}
use Rattle.job.specs.Entry.{Entry, EntryKind, kind_of, is_expression, row_holds, is_binder}
use Rattle.job.specs.Entry.{size_d, table_entries}
use Rattle.job.specs.Read.{Got, Read, got, ◌>>=◌, entry_at, need, read_param, read_param_list, read_call, read_join, read_exp}
use Rattle.job.specs.Read.{is_definition, read_definition, read_program, leftovers, definitions_hold, read_entries, read_bytes}
use Rattle.job.specs.Declined.{Position, definition, expression, parameter, MayStand, Breaks, Keeps, sides, behind, followed_by}
use Rattle.job.specs.Declined.{Fills, none, next, whole_table, formals_in}
use Rattle.job.specs.Declined.{DeclinedEntries, runs-out, breaks, remain, undefined}
use Rattle.job.specs.Declined.{Declined, wrong-entries}
use Rattle.job.proofs.Test.{eq-eqb, ne_eqb, ltb-lt, not-ltb-le}
use Rattle.job.proofs.Test.{clash}
use Rattle.job.proofs.Entry.{kind-number, expression-number}
use Rattle.job.proofs.Read.{Says, reads, refuses, says-need, says-bind, says_map}
use Rattle.job.proofs.WellFormed.{some-member, member-some}
use Rattle.job.proofs.EncodeRead.{definition-kind}
use Rattle.job.proofs.Faults.{breaks-kind, breaks-operand, keeps-definition, breaks-depth, breaks-binder, keeps-expression}
use Rattle.job.proofs.Faults.{breaks-variable, keeps-parameter}
use Rattle.job.proofs.Filling.{Complete, Fits}
use Rattle.job.proofs.UndefinedCalls.{calls-say}
use Rattle.job.proofs.Sizes.{sizes-say}

-- one entry more

fills-more : {ps left : List Position} {es : List Entry} {p : Position} {x : Entry} → Fills ps es (p ∷ left) → Keeps p x
    → Fills ps (es ++ (x ∷ [])) (followed_by p x ++ left)
fills-more none k = next k none
fills-more (next j f) k = next j (fills-more f k)

formals-more : (es : List Entry) (x : Entry) → formals_in (es ++ (x ∷ [])) ≡ formals_in es ++ formals_in (x ∷ [])
unfolding formals_in
formals-more [] x = refl
formals-more (y ∷ es) x = go (eqb y.kind 6) _ _ _ (formals-more es x)
  where
    go : (b : Bool) (l m n : List ℕ) → l ≡ m ++ n
        → elim b [ true ↦ y.operand ∷ l | false ↦ l ] ≡ elim b as (λ _. List ℕ) [ true ↦ y.operand ∷ m | false ↦ m ] ++ n
    go true l m n e = ap (◌∷◌ y.operand) e
    go false l m n e = e

formals-other : (x : Entry) → (x.kind ≡ 6 → ⊥) → formals_in (x ∷ []) ≡ []
unfolding formals_in
formals-other x f = rw (ne_eqb x.kind 6 f, formals_in)

formals-one : (x : Entry) → x.kind ≡ 6 → formals_in (x ∷ []) ≡ x.operand ∷ []
unfolding formals_in
formals-one x k = rw (eq-eqb x.kind 6 k, formals_in)

module _ (D : ℕ) (es : List Entry) where
  abbrev Declines : (number entry : ℕ) → Type 0
  Declines n e = DeclinedEntries D es n e

  -- the entries before entry e have these formals and leave these positions, and the rest is not read
  record At (formals : List ℕ) (ps : List Position) (e : ℕ) (rest : List Entry) : Type 0 where
    front : List Entry
    split : es ≡ front ++ rest
    count : length front ≡ e
    formals-read : formals_in front ≡ formals
    fills : Fills (whole_table D) front ps

  module _ {fs : List ℕ} {p : Position} {ps : List Position} {e : ℕ} where
    at-end : At fs (p ∷ ps) e [] → Declines 5 e
    at-end a =
        let all : a.front ≡ es = sym (a.split ∙ append-nil a.front) in
        let here : length es ≡ e = sym (ap length all) ∙ a.count in
        subst (Declines 5) here (runs-out (subst (λ l. Fills (whole_table D) l (p ∷ ps)) all a.fills))

    module _ {x : Entry} {rest : List Entry} (a : At fs (p ∷ ps) e (x ∷ rest)) where
      at-break : {n : ℕ} → Breaks p x n → Declines n e
      at-break {n} b = subst (Declines n) a.count (breaks rest a.split a.fills b)

      onward : Keeps p x → At (fs ++ formals_in (x ∷ [])) (followed_by p x ++ ps) (suc e) rest
      onward k =
          let c = a.count in
          record {
            front = a.front ++ (x ∷ []);
            split = a.split ∙ sym (append_assoc a.front (x ∷ []) rest);
            count = length-append a.front (x ∷ []) ∙ omega arith;
            formals-read = formals-more a.front x ∙ ap (λ (l : List ℕ). l ++ formals_in (x ∷ [])) a.formals-read;
            fills = fills-more a.fills k;
          }

      onward-other : (x.kind ≡ 6 → ⊥) → Keeps p x → At fs (followed_by p x ++ ps) (suc e) rest
      onward-other f k = let z = onward k in rw (formals-other x f, append-nil) at z

  -- a reading that begins at entry e fills the first position, and leaves the others
  abbrev Leaves : {A : Type 0} (fs : List ℕ) (ps : List Position) → Read A → Type 0
  Leaves {A} fs ps r = Says (λ (g : Got A). At fs ps g.next g.rest) Declines r

  -- parameters

  module _ {fs : List ℕ} {ps : List Position} {scope : List ℕ} {e : ℕ} {x : Entry} {rest : List Entry}
      (a : At fs (parameter scope ∷ ps) e (x ∷ rest)) where
    no-parameter : (7 ≤ x.kind → x.kind ≤ 8 → ⊥) → Declines 3 e
    unfolding MayStand
    no-parameter f = at-break a (breaks-kind (λ s. f s.0 s.1))

    below-parameters : (n : ℕ) → x.kind ≡ n → ltb n 7 ≡ true → Declines 3 e
    below-parameters n k t = let l = ltb-lt n 7 t in no-parameter (λ u _. omega arith)

    module _ (known : (7 ≤ x.kind) × (x.kind ≤ 8)) (row : row_holds (kind_of x.kind) x.operand ≡ true) where
      variable-out : x.kind ≡ 7 → for_some (eqb x.operand) scope ≡ false → Declines 7 e
      unfolding MayStand
      variable-out k f = at-break a (breaks-variable known row k (λ m. clash (member-some m) f))

      parameter-filled : (x.kind ≡ 7 → for_some (eqb x.operand) scope ≡ true) → At fs ps (suc e) rest
      unfolding MayStand followed_by
      parameter-filled t =
          onward-other a (λ s. omega arith) (keeps-parameter known row (λ k. some-member x.operand scope (t k)))

    param-at : (k : EntryKind) → kind_of x.kind ≡ k → Leaves fs ps (read_param scope e (x ∷ rest))
    unfolding read_param ◌>>=◌ entry_at kind_of row_holds
    param-at EntryKind.stop q = rw (q, read_param) (refuses (below-parameters 0 (kind-number _ _ q) refl))
    param-at EntryKind.site q = rw (q, read_param) (refuses (below-parameters 1 (kind-number _ _ q) refl))
    param-at EntryKind.call q = rw (q, read_param) (refuses (below-parameters 2 (kind-number _ _ q) refl))
    param-at EntryKind.par q = rw (q, read_param) (refuses (below-parameters 3 (kind-number _ _ q) refl))
    param-at EntryKind.seq q = rw (q, read_param) (refuses (below-parameters 4 (kind-number _ _ q) refl))
    param-at EntryKind.prune q = rw (q, read_param) (refuses (below-parameters 5 (kind-number _ _ q) refl))
    param-at EntryKind.definition q = rw (q, read_param) (refuses (below-parameters 6 (kind-number _ _ q) refl))
    param-at EntryKind.variable q =
        let n : x.kind ≡ 7 = kind-number _ _ q in
        let known : (7 ≤ x.kind) × (x.kind ≤ 8) = (omega arith, omega arith) in
        rw (q, read_param) (says-need _ _ e _ (variable-out known (rw q) n) (λ t. reads (parameter-filled known (rw q) (λ _. t))))
    param-at EntryKind.constant q =
        let n : x.kind ≡ 8 = kind-number _ _ q in
        rw (q, read_param) (reads (parameter-filled (omega arith, omega arith) (rw q) (λ k. absurd (omega arith))))
    param-at EntryKind.unknown q =
        let n : x.kind ≡ 9 + (x.kind - 9) = kind-number _ _ q in
        rw (q, read_param) (refuses (no-parameter (λ _ u. omega arith)))

  param-says : (fs : List ℕ) (ps : List Position) (scope : List ℕ) (e : ℕ) (rest : List Entry)
      → At fs (parameter scope ∷ ps) e rest → Leaves fs ps (read_param scope e rest)
  unfolding read_param ◌>>=◌ entry_at
  param-says fs ps scope e [] a = refuses (at-end a)
  param-says fs ps scope e (x ∷ rest) a = param-at a (kind_of x.kind) refl

  params-say : (n : ℕ) (fs : List ℕ) (ps : List Position) (scope : List ℕ) (e : ℕ) (rest : List Entry)
      → At fs (replicate n (parameter scope) ++ ps) e rest → Leaves fs ps (read_param_list n scope e rest)
  unfolding read_param_list
  params-say zero fs ps scope e rest a = reads a
  params-say (suc n) fs ps scope e rest a =
      says-bind _ (param-says fs _ scope e rest a) λ p b.
      says-bind _ (params-say n fs ps scope p.next p.rest b) λ _ c.
      reads c

  call-says : (h : List Param → Exp) (n : ℕ) (fs : List ℕ) (ps : List Position) (scope : List ℕ) (e : ℕ) (rest : List Entry)
      → At fs (replicate n (parameter scope) ++ ps) e rest → Leaves fs ps (read_call h n scope e rest)
  unfolding read_call
  call-says h n fs ps scope e rest a = says-bind _ (params-say n fs ps scope e rest a) λ _ b. reads b

  -- expressions: where so many levels are left, the depth is 25 less these

  abbrev Sound : (left d : ℕ) → Type 0
  Sound left d = (fs : List ℕ) (ps : List Position) (scope : List ℕ) (e : ℕ) (rest : List Entry)
      → At fs (expression d scope ∷ ps) e rest → Leaves fs ps (read_exp left scope e rest)

  join-says : (left d : ℕ) → Sound left (suc d) → (j : Join) (fs : List ℕ) (ps : List Position) (scope : List ℕ) (e : ℕ) (rest : List Entry)
      → At fs (sides d scope j ++ ps) e rest → Leaves fs ps (read_join (read_exp left) j scope e rest)
  unfolding read_join
  join-says left d below j fs ps scope e rest a =
      says-bind _ (below fs _ (scope_left j scope) e rest a) λ f b.
      says-bind _ (below fs ps (scope_right j scope) f.next f.rest b) λ _ c.
      reads c

  module _ {fs : List ℕ} {ps : List Position} {d : ℕ} {scope : List ℕ} {e : ℕ} {x : Entry} {rest : List Entry}
      (a : At fs (expression d scope ∷ ps) e (x ∷ rest)) where
    module _ (k : EntryKind) (q : kind_of x.kind ≡ k) where
      -- the tests of kind and operand, and what follows them
      tests-say : {A : Type 0} {P : Got A → Type 0} (r : Read A) → (x.kind ≤ 5 → row_holds k x.operand ≡ true → Says P Declines r)
          → Says P Declines (need (is_expression k) 3 e >>= (λ _. need (row_holds k x.operand) 4 e >>= (λ _. r)))
      unfolding MayStand
      tests-say r h =
          let six : is_expression k ≡ ltb x.kind 6 = ap is_expression (sym q) ∙ expression-number x.kind in
          says-need (is_expression k) 3 e _
          (λ f. let l = not-ltb-le x.kind 6 (sym six ∙ f) in at-break a (breaks-kind (λ (s : x.kind ≤ 5). omega arith)))
          (λ t. let l = ltb-lt x.kind 6 (sym six ∙ t) in
          says-need (row_holds k x.operand) 4 e r (λ f. at-break a (breaks-operand (omega arith) (rw q f))) (h (omega arith)))

      module _ (stands : x.kind ≤ 5) (row : row_holds k x.operand ≡ true) where
        depth-out : 24 < d → Declines 6 e
        unfolding MayStand
        depth-out l = at-break a (breaks-depth stands (rw q row) l)

        module _ (shallow : d ≤ 24) where
          binder-out : 4 ≤ x.kind → ltb (length scope) 8 ≡ false → Declines 7 e
          unfolding MayStand
          binder-out l t = at-break a (breaks-binder stands (rw q row) shallow l stands (not-ltb-le (length scope) 8 t))

          expression-begun : (4 ≤ x.kind → ltb (length scope) 8 ≡ true) → At fs (behind d scope k x.operand ++ ps) (suc e) rest
          unfolding MayStand followed_by
          expression-begun t =
              rw q at (onward-other a (λ s. omega arith)
              (keeps-expression stands (rw q row) shallow (λ l. ltb-lt (length scope) 8 (t l))))

    module _ (left : ℕ) (deep : left + d ≡ 24) (below : Sound left (suc d)) where
      exp-at : (k : EntryKind) → kind_of x.kind ≡ k → Leaves fs ps (read_exp (suc left) scope e (x ∷ rest))
      unfolding read_exp ◌>>=◌ entry_at need kind_of is_binder ◌or◌ behind
      exp-at EntryKind.stop q =
          let n : x.kind ≡ 0 = kind-number _ _ q in
          rw (q, read_exp) (tests-say _ q _ λ s t. reads (expression-begun _ q s t (omega arith) (λ l. absurd (omega arith))))
      exp-at EntryKind.site q =
          let n : x.kind ≡ 1 = kind-number _ _ q in
          rw (q, read_exp) (tests-say _ q _ λ s t.
          call-says _ _ fs ps scope (suc e) rest (expression-begun _ q s t (omega arith) (λ l. absurd (omega arith))))
      exp-at EntryKind.call q =
          let n : x.kind ≡ 2 = kind-number _ _ q in
          rw (q, read_exp) (tests-say _ q _ λ s t.
          call-says _ _ fs ps scope (suc e) rest (expression-begun _ q s t (omega arith) (λ l. absurd (omega arith))))
      exp-at EntryKind.par q =
          let n : x.kind ≡ 3 = kind-number _ _ q in
          rw (q, read_exp) (tests-say _ q _ λ s t.
          join-says left d below Join.par fs ps scope (suc e) rest (expression-begun _ q s t (omega arith) (λ l. absurd (omega arith))))
      exp-at EntryKind.seq q =
          let n : x.kind ≡ 4 = kind-number _ _ q in
          rw (q, read_exp) (tests-say _ q _ λ s t.
          says-need _ _ e _ (binder-out _ q s t (omega arith) (omega arith)) λ u.
          join-says left d below (Join.seq _) fs ps scope (suc e) rest (expression-begun _ q s t (omega arith) (λ _. u)))
      exp-at EntryKind.prune q =
          let n : x.kind ≡ 5 = kind-number _ _ q in
          rw (q, read_exp) (tests-say _ q _ λ s t.
          says-need _ _ e _ (binder-out _ q s t (omega arith) (omega arith)) λ u.
          join-says left d below (Join.prune _) fs ps scope (suc e) rest (expression-begun _ q s t (omega arith) (λ _. u)))
      -- the test for 3 leaves none of these
      exp-at EntryKind.definition q =
          let n : x.kind ≡ 6 = kind-number _ _ q in rw (q, read_exp) (tests-say _ q _ λ s t. absurd (omega arith))
      exp-at EntryKind.variable q =
          let n : x.kind ≡ 7 = kind-number _ _ q in rw (q, read_exp) (tests-say _ q _ λ s t. absurd (omega arith))
      exp-at EntryKind.constant q =
          let n : x.kind ≡ 8 = kind-number _ _ q in rw (q, read_exp) (tests-say _ q _ λ s t. absurd (omega arith))
      exp-at EntryKind.unknown q =
          let n : x.kind ≡ 9 + (x.kind - 9) = kind-number _ _ q in rw (q, read_exp) (tests-say _ q _ λ s t. absurd (omega arith))

  exp-says : (left d : ℕ) → left + d ≡ 25 → Sound left d
  unfolding read_exp ◌>>=◌ entry_at
  exp-says zero d deep fs ps scope e [] a = refuses (at-end a)
  exp-says zero d deep fs ps scope e (x ∷ rest) a = tests-say a _ refl _ λ s t. refuses (depth-out a _ refl s t (omega arith))
  exp-says (suc left) d deep fs ps scope e [] a = refuses (at-end a)
  exp-says (suc left) d deep fs ps scope e (x ∷ rest) a =
      exp-at a left (omega arith) (exp-says left (suc d) (omega arith)) (kind_of x.kind) refl

  -- definitions and the goal

  module _ {fs : List ℕ} {ps : List Position} {e : ℕ} {x : Entry} {rest : List Entry} (a : At fs (definition ∷ ps) e (x ∷ rest)) where
    no-definition : is_definition (kind_of x.kind) ≡ false → Declines 3 e
    unfolding MayStand is_definition kind_of
    no-definition f = at-break a (breaks-kind (λ (s : x.kind ≡ 6). clash (ap (λ (n : ℕ). is_definition (kind_of n)) s) f))

    module _ (six : x.kind ≡ 6) where
      definition-row : row_holds (kind_of x.kind) x.operand ≡ row_holds EntryKind.definition x.operand
      unfolding kind_of
      definition-row = ap (λ (n : ℕ). row_holds (kind_of n) x.operand) six

      formals-out : row_holds EntryKind.definition x.operand ≡ false → Declines 4 e
      unfolding MayStand
      formals-out f = at-break a (breaks-operand six (definition-row ∙ f))

      definition-begun : row_holds EntryKind.definition x.operand ≡ true
          → At (fs ++ (x.operand ∷ [])) (expression 1 (levels x.operand) ∷ ps) (suc e) rest
      unfolding MayStand followed_by
      definition-begun t = rw (formals-one x six) at (onward a (keeps-definition six (definition-row ∙ t)))

  definition-says : (fs : List ℕ) (ps : List Position) (e : ℕ) (rest : List Entry) → At fs (definition ∷ ps) e rest
      → Says (λ (g : Got Definition). At (fs ++ (g.value.formals ∷ [])) ps g.next g.rest) Declines (read_definition e rest)
  unfolding read_definition ◌>>=◌ entry_at
  definition-says fs ps e [] a = refuses (at-end a)
  definition-says fs ps e (x ∷ rest) a =
      says-need (is_definition (kind_of x.kind)) _ e _ (no-definition a) λ t.
      let six = definition-kind x.kind t in
      says-need (row_holds EntryKind.definition x.operand) _ e _ (formals-out a six) λ u.
      says-bind _ (exp-says 24 1 refl _ ps (levels x.operand) (suc e) rest (definition-begun a six u)) λ _ b.
      reads b

  program-says : (n : ℕ) (fs : List ℕ) (e : ℕ) (rest : List Entry) → At fs (whole_table n) e rest
      → Says (λ (g : Got Program). At (fs ++ formals_of g.value.definitions) [] g.next g.rest) Declines (read_program n e rest)
  unfolding read_program whole_table
  program-says zero fs e rest a = says-bind _ (exp-says 24 1 refl fs [] [] e rest a) λ _ b. reads (rw append-nil b)
  program-says (suc n) fs e rest a =
      says-bind _ (definition-says fs (whole_table n) e rest a) λ d b.
      says-bind _ (program-says n _ d.next d.rest b) λ _ c.
      reads (rw append_assoc at c)

  leftovers-say : (fs : List ℕ) (e : ℕ) (rest : List Entry) → At fs [] e rest → Says (λ _. rest ≡ []) Declines (leftovers e rest)
  unfolding leftovers need
  leftovers-say fs e [] a = reads refl
  leftovers-say fs e (x ∷ rest) a = refuses (subst (Declines 5) a.count (remain x rest a.split a.fills))

  -- where nothing is left, all entries are read
  module _ {fs : List ℕ} {e : ℕ} (a : At fs [] e []) where
    all_read : a.front ≡ es
    all_read = sym (a.split ∙ append-nil a.front)

    all-filled : Fills (whole_table D) es []
    all-filled = subst (λ (l : List Entry). Fills (whole_table D) l []) all_read a.fills

    all-formals : fs ≡ formals_in es
    all-formals = sym a.formals-read ∙ ap formals_in all_read

-- the entries and the bytes of a table

entries-say : (D : ℕ) (es : List Entry) → Says (λ _. Complete D es) (DeclinedEntries D es) (read_entries D es)
unfolding read_entries formals_in
entries-say D es =
    says-bind _ (program-says D es D [] 0 es start) λ p a.
    says-bind _ (leftovers-say D es _ p.next p.rest a) λ _ ended.
    finish p (subst (At D es (formals_of p.value.definitions) [] p.next) ended a)
  where
    start : At D es [] (whole_table D) 0 es
    start = unfold formals_in in record { front = []; split = refl; count = refl; formals-read = refl; fills = none }

    finish : (p : Got Program) → At D es (formals_of p.value.definitions) [] p.next []
        → Says (λ _. Complete D es) (DeclinedEntries D es) (definitions_hold (formals_of p.value.definitions) 0 es >>= (λ _. got p))
    finish p a =
        says-bind _ (calls-say _ (DeclinedEntries D es) 0 es
        (λ i at c d. let z : i ≡ at = omega arith in
        subst (DeclinedEntries D es 8) z (undefined (all-filled D es a) (rw (all-formals D es a) at d)))) λ _ h.
        reads (record { fills = all-filled D es a; defined = rw (all-formals D es a) at h })

pub bytes-say : (b : List ℕ) → Says (λ _. Fits b) (Declined b) (read_bytes b)
unfolding read_bytes
bytes-say b =
    says-bind _ (sizes-say b) λ _ h.
    says_map (λ _ c. record { sized = h; complete = c }) (λ _ _ d. wrong-entries h.length-holds h.sizes-hold d)
    (entries-say (size_d b) (table_entries b))
