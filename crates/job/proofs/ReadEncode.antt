-- Reading the encoding of a well-formed program gives that program: at each entry the reader's tests are conditions that the
-- program keeps, and what it takes from the entry is what was put there. Assumes nothing.
use mathlib.Core.Path.{◌≡◌, ◌∙◌, ap₂}
use mathlib.Core.List.{List, [], ◌∷◌, ◌++◌, map, append_assoc, append-nil}
use Prim.Native.Nat.{ℕ, suc, ◌+◌, ◌*◌, ◌<◌, ◌≤◌}
use native.Mathlib.Omega.{arith}
use lib.ListN.{length, get_or, length-append, length-map}
use Rattle.job.specs.Test.{◌or◌, All, none, more}
use Rattle.job.specs.Syntax.{Param, Join, Exp, Definition, Program, scope_left, scope_right}
use Rattle.job.specs.Entry.{Entry, entry, entries, high, kind_of, is_expression, row_holds, is_binder, size_d, size_n, table_length}
use Rattle.job.specs.Encode.{encode_param, encode_join, encode_exp, encode_definitions, encode_entries, operand_bytes, encode}
use Rattle.job.specs.WellFormed.{GoodParam, GoodJoin, Good, GoodDefinition, WellFormed}
use Rattle.job.specs.Read.{Read, ◌>>=◌, entry_at, need, read_param, read_param_list, read_call, read_join, read_exp}
use Rattle.job.specs.Read.{is_definition, read_definition, read_program, leftovers, definitions_hold, read_entries}
use Rattle.job.specs.Read.{read_bytes}
use Rattle.job.proofs.Test.{lt-ltb, le-leb, All-map}
use Rattle.job.proofs.Number.{signed-unsigned}
use Rattle.job.proofs.Entry.{low_of, high-of, kind_bytes, length-operand-bytes, entries-encoded}
use Rattle.job.proofs.Read.{Gives, given, gives-need, gives-bind}
use Rattle.job.proofs.WellFormed.{member-some, takes-site}
use Rattle.job.proofs.RowBroken.{call-row}
use Rattle.job.proofs.Sizes.{LengthAndSizes, sizes-pass}
use Rattle.job.proofs.Table.{kind_part, operand_part, size-definitions, size-entries, length-table, kind-part, operand-part}
use Rattle.job.proofs.Encode.{Few, Fine, site-small, call-small, call-count, program-few, program-fine}

-- parameters

param-read : {scope : List ℕ} {p : Param} (e : ℕ) (rest : List Entry) → GoodParam scope p
    → Gives p rest (read_param scope e (encode_param p ∷ rest))
unfolding read_param encode_param entry_at ◌>>=◌ kind_of
param-read e rest (GoodParam.variable m) = gives-need _ _ e (member-some m) given
param-read e rest (GoodParam.constant {v = v} f) = rw (signed-unsigned v f) given

params-read : {scope : List ℕ} {ps : List Param} (e : ℕ) (rest : List Entry) → All (GoodParam scope) ps
    → Gives ps rest (read_param_list (length ps) scope e (map encode_param ps ++ rest))
unfolding read_param_list
params-read e rest none = given
params-read e rest (more {xs = ps} g gs) =
    gives-bind _ (param-read e (map encode_param ps ++ rest) g) λ n.
    gives-bind _ (params-read n rest gs) λ m.
    given

-- a call with its parameters
call-read : (h : List Param → Exp) {scope : List ℕ} {ps : List Param} (e : ℕ) (rest : List Entry) → All (GoodParam scope) ps
    → Gives (h ps) rest (read_call h (length ps) scope e (map encode_param ps ++ rest))
unfolding read_call
call-read h e rest good = gives-bind _ (params-read e rest good) λ n. given

-- expressions

-- a join, where its two sides are read
join-read : (side : List ℕ → ℕ → List Entry → Read Exp) (j : Join) (scope : List ℕ) (f g : Exp) (e : ℕ) (rest : List Entry)
    → ((e : ℕ) (rest : List Entry) → Gives f rest (side (scope_left j scope) e (encode_exp f ++ rest)))
    → ((e : ℕ) (rest : List Entry) → Gives g rest (side (scope_right j scope) e (encode_exp g ++ rest)))
    → Gives (Exp.join j f g) rest (read_join side j scope e ((encode_exp f ++ encode_exp g) ++ rest))
unfolding read_join
join-read side j scope f g e rest hf hg =
    rw append_assoc (gives-bind _ (hf e (encode_exp g ++ rest)) λ n. gives-bind _ (hg n rest) λ m. given)

module _ {formals : List ℕ} (few : Few formals) where
  -- a definition call, which keeps to its row since no definition has more than 4 formals
  call-entry-read : (left : ℕ) {scope : List ℕ} {d : ℕ} {ps : List Param} → d < length formals → length ps ≡ get_or formals d 0
      → All (GoodParam scope) ps → (e : ℕ) (rest : List Entry)
      → Gives (Exp.call d ps) rest (read_exp (suc left) scope e (encode_exp (Exp.call d ps) ++ rest))
  unfolding read_exp encode_exp entry_at ◌>>=◌ need kind_of is_expression is_binder ◌or◌
  call-entry-read left {d = d} {ps = ps} l c good e rest =
      let b : d < 65536 = call-small few d l in
      let few-enough : high (d + 65536 * length ps) ≤ 4 = rw (high-of d (length ps) b) (call-count few d (length ps) l c) in
      gives-need _ _ e (call-row (d + 65536 * length ps) few-enough)
      (rw (low_of d (length ps) b, high-of d (length ps) b) (call-read (Exp.call d) (suc e) rest good))

  exp-read : {left : ℕ} {scope : List ℕ} {x : Exp} → Good formals left scope x → (e : ℕ) (rest : List Entry)
      → Gives x rest (read_exp left scope e (encode_exp x ++ rest))
  unfolding read_exp encode_exp encode_join entry_at ◌>>=◌ need kind_of is_expression row_holds is_binder ◌or◌
  exp-read Good.stop e rest = given
  exp-read (Good.site {s = s} {ps = ps} t good) e rest =
      let l : s < 65536 = site-small t in
      rw (low_of s (length ps) l, high-of s (length ps) l) (gives-need _ _ e (takes-site t) (call-read (Exp.site s) (suc e) rest good))
  exp-read (Good.call {left = left} l c good) e rest = call-entry-read left l c good e rest
  exp-read (Good.join {f = f} {g = g} GoodJoin.par hf hg) e rest =
      join-read _ Join.par _ f g (suc e) rest (exp-read hf) (exp-read hg)
  exp-read (Good.join {f = f} {g = g} (GoodJoin.seq l) hf hg) e rest =
      gives-need _ _ e (lt-ltb _ 8 l) (join-read _ (Join.seq _) _ f g (suc e) rest (exp-read hf) (exp-read hg))
  exp-read (Good.join {f = f} {g = g} (GoodJoin.prune l) hf hg) e rest =
      gives-need _ _ e (lt-ltb _ 8 l) (join-read _ (Join.prune _) _ f g (suc e) rest (exp-read hf) (exp-read hg))

  -- definitions and programs

  definition-read : {d : Definition} → GoodDefinition formals d → (e : ℕ) (rest : List Entry)
      → Gives d rest (read_definition e (entry 6 d.formals ∷ encode_exp d.body ++ rest))
  unfolding read_definition entry_at ◌>>=◌ need kind_of is_definition row_holds
  definition-read {d} good e rest =
      gives-need _ _ e (le-leb d.formals 4 good.count) (gives-bind _ (exp-read good.body (suc e) rest) λ n. given)

  pub program-read : {ds : List Definition} {goal : Exp} → All (GoodDefinition formals) ds → Good formals 24 [] goal
      → (e : ℕ) (rest : List Entry)
      → Gives (record { definitions = ds; goal = goal }) rest (read_program (length ds) e (encode_definitions ds ++ encode_exp goal ++
      rest))
  unfolding read_program encode_definitions
  program-read none good e rest = gives-bind _ (exp-read good e rest) λ n. given
  program-read {goal = goal} (more {x = d} {xs = ds} h hs) good e rest =
      let body = encode_exp d.body in
      let after = encode_definitions ds ++ encode_exp goal in
      rw (append_assoc body (encode_definitions ds) (encode_exp goal), append_assoc body after rest)
      (gives-bind _ (definition-read h e (after ++ rest)) λ n.
      gives-bind _ (program-read hs good n rest) λ m.
      given)

-- the entries of a program

holds_read : {formals : List ℕ} {es : List Entry} → All (Fine formals) es → (e : ℕ) → Gives tt [] (definitions_hold formals e es)
unfolding definitions_hold need
holds_read none e = given
holds_read (more h hs) e = gives-need _ _ _ h.holds (holds_read hs (suc e))

pub entries-read : {p : Program} → WellFormed p → Gives p [] (read_entries (length p.definitions) (encode_entries p))
unfolding read_entries encode_entries leftovers need
entries-read {p} w =
    let all = program-read (program-few w) w.bodies w.goal 0 [] in
    gives-bind _ (rw append-nil at all) λ n.
    gives-bind {b = tt} {mid = []} _ given λ m.
    gives-bind _ (holds_read (program-fine w) 0) λ k.
    given

-- the bytes of a program

exp-some : (x : Exp) → 1 ≤ length (encode_exp x)
unfolding encode_exp
exp-some Exp.stop = omega arith
exp-some (Exp.site s ps) = omega arith
exp-some (Exp.call d ps) = omega arith
exp-some (Exp.join j f g) = omega arith

-- a table whose sizes are in range is read by its entries
sizes-read : {p : Program} (b : List ℕ) → 4 ≤ length b → length b ≡ table_length b → size_d b ≤ 32 → 1 ≤ size_n b → size_n b ≤ 512
    → Gives p [] (read_entries (size_d b) (entries (kind_part b) (operand_part b))) → Gives p [] (read_bytes b)
unfolding read_bytes ◌>>=◌
sizes-read b l e d n m h =
    let sized : LengthAndSizes b = record {
      length-holds = record { sizes = l; total = e };
      sizes-hold = record { definitions = d; some = n; entries = m };
    } in
    rw (sizes-pass b sized) h

module _ {p : Program} (w : WellFormed p) where
  entry-limit : length (encode_entries p) < 65536
  entry-limit = let n = w.entries in omega arith

  encode-definitions : size_d (encode p) ≡ length p.definitions
  unfolding encode
  encode-definitions = let d = w.definitions in size-definitions (length p.definitions) _ _ _ (omega arith)

  encode-count : size_n (encode p) ≡ length (encode_entries p)
  unfolding encode
  encode-count = size-entries (length p.definitions) _ _ _ entry-limit

  encode-length : length (encode p) ≡ 4 + 5 * length (encode_entries p)
  unfolding encode
  encode-length =
      let es = encode_entries p in
      let total = length-table (length p.definitions) (length es) (kind_bytes es) (operand_bytes es) in
      let kinds : length (kind_bytes es) ≡ length es = length-map es _ in
      let operands = length-operand-bytes es in
      omega arith

  entries-back : entries (kind_part (encode p)) (operand_part (encode p)) ≡ encode_entries p
  unfolding encode
  entries-back =
      let es = encode_entries p in
      let D = length p.definitions in
      let kinds : length (kind_bytes es) ≡ length es = length-map es _ in
      let ks = kind-part D (length es) (kind_bytes es) (operand_bytes es) entry-limit kinds in
      let os = operand-part D (length es) (kind_bytes es) (operand_bytes es) entry-limit kinds in
      ap₂ entries ks os ∙ entries-encoded es (All-map (λ x f. f.short) (program-fine w))

  entries-some : 1 ≤ length (encode_entries p)
  unfolding encode_entries
  entries-some =
      let goal = exp-some p.goal in
      let sum = length-append (encode_definitions p.definitions) (encode_exp p.goal) in
      omega arith

  parts-read : Gives p [] (read_entries (size_d (encode p)) (entries (kind_part (encode p)) (operand_part (encode p))))
  parts-read = rw (entries-back, encode-definitions) (entries-read w)

  pub bytes_read : Gives p [] (read_bytes (encode p))
  bytes_read =
      let D = encode-definitions in
      let N = encode-count in
      let total = encode-length in
      let some = entries-some in
      let d : length p.definitions ≤ 32 = w.definitions in
      let n : length (encode_entries p) ≤ 512 = w.entries in
      sizes-read (encode p) (omega arith) (omega arith) (omega arith) (omega arith) (omega arith) parts-read
