-- The entries of a well-formed program: each kind has a byte, each operand 4 bytes, and each call names a definition with as many
-- formals. An operand is two 16-bit numbers, a variable's number, which is small, or a signed 32-bit value. Assumes nothing.
use mathlib.Core.Path.{◌≡◌, refl}
use mathlib.Core.Bool.{true, not}
use mathlib.Core.List.{List, [], ◌∷◌, map}
use Prim.Native.Nat.{ℕ, ◌+◌, ◌*◌, ◌^◌, ◌<◌, ◌≤◌}
use native.Mathlib.Omega.{arith}
use lib.ListN.{length, get_or, length-map}
use lib.Dec.{eqb}
use Rattle.job.specs.Test.{All, none, more}
use Rattle.job.specs.Syntax.{Param, Join, Exp, Definition, Program, formals_of}
use Rattle.job.specs.Entry.{Entry, entry}
use Rattle.job.specs.Encode.{encode_param, encode_join, encode_exp, encode_definitions, encode_entries, operand_bytes}
use Rattle.job.specs.WellFormed.{GoodParam, SiteTakes, Good, GoodDefinition, WellFormed}
use Rattle.job.proofs.All.{All-append, All-member, All-at}
use Rattle.job.proofs.Number.{Byte, bytes-are, unsigned-below}
use Rattle.job.proofs.Entry.{Short, low_of, high-of}
use Rattle.job.proofs.ScopeSlots.{Slots, levels-slots, left-slots, right-slots}
use Rattle.job.proofs.WellFormed.{CallRuleHolds, Names, site-few, call-holds, other-holds}

-- the definitions that a table may have
pub record Few (formals : List ℕ) : Type 0 where
  pub definitions : length formals ≤ 32
  pub counts : All (λ n. n ≤ 4) formals

pub record Fine (formals : List ℕ) (x : Entry) : Type 0 where
  pub kind : Byte x.kind
  pub short : Short x
  pub holds : CallRuleHolds formals x

pub site-small : {s n : ℕ} → SiteTakes s n → s < 65536
site-small (SiteTakes.builtin l e) = omega arith
site-small (SiteTakes.outside l m k) = omega arith

-- a definition's count of formals, and the parameters of a call of it
pub call-small : {formals : List ℕ} → Few formals → (d : ℕ) → d < length formals → d < 65536
call-small few d l = let z = few.definitions in omega arith

pub call-count : {formals : List ℕ} → Few formals → (d n : ℕ) → d < length formals → n ≡ get_or formals d 0 → n ≤ 4
call-count {formals} few d n l e = let z : get_or formals d 0 ≤ 4 = All-at few.counts d 0 l in omega arith

-- entries

module _ (formals : List ℕ) where
  other-fine : (k o : ℕ) → not (eqb k 2) ≡ true → k < 256 → o < 2 ^ 32 → Fine formals (entry k o)
  other-fine k o t b l = record { kind = b; short = l; holds = other-holds formals _ t }

  param-fine : {scope : List ℕ} {p : Param} → Slots scope → GoodParam scope p → Fine formals (encode_param p)
  unfolding encode_param
  param-fine small (GoodParam.variable {x = x} m) = let l : x < 8 = All-member small m in other-fine 7 x refl (omega arith) (omega arith)
  param-fine small (GoodParam.constant {v = v} f) = other-fine 8 _ refl (omega arith) (unsigned-below v f)

  params-fine : {scope : List ℕ} {ps : List Param} → Slots scope → All (GoodParam scope) ps → All (Fine formals) (map encode_param ps)
  params-fine small none = none
  params-fine small (more g gs) = more (param-fine small g) (params-fine small gs)

  join-fine : (j : Join) → Fine formals (encode_join j)
  unfolding encode_join
  join-fine Join.par = other-fine 3 0 refl (omega arith) (omega arith)
  join-fine (Join.seq x) = other-fine 4 0 refl (omega arith) (omega arith)
  join-fine (Join.prune x) = other-fine 5 0 refl (omega arith) (omega arith)

  module _ (few : Few formals) where
    site-fine : {s n : ℕ} → SiteTakes s n → Fine formals (entry 1 (s + 65536 * n))
    site-fine {s} {n} t =
        let l : s < 65536 = site-small t in
        let c : n ≤ 4 = site-few t in
        other-fine 1 _ refl (omega arith) (omega arith)

    call-fine : (d n : ℕ) → d < length formals → n ≡ get_or formals d 0 → Fine formals (entry 2 (d + 65536 * n))
    call-fine d n l e =
        let b : d < 65536 = call-small few d l in
        let c : n ≤ 4 = call-count few d n l e in
        let names : Names formals d n = record { defined = l; count = e } in
        record { kind = omega arith; short = omega arith; holds = call-holds formals _ (rw (low_of d n b, high-of d n b) names) }

    exp-fine : {left : ℕ} {scope : List ℕ} {x : Exp} → Slots scope → Good formals left scope x → All (Fine formals) (encode_exp x)
    unfolding encode_exp
    exp-fine small Good.stop = more (other-fine 0 0 refl (omega arith) (omega arith)) none
    exp-fine small (Good.site t good) = more (site-fine t) (params-fine small good)
    exp-fine small (Good.call {d = d} l e good) = more (call-fine d _ l e) (params-fine small good)
    exp-fine small (Good.join {j = j} b f g) =
        more (join-fine j) (All-append (exp-fine (left-slots b small) f) (exp-fine (right-slots b small) g))

    definitions-fine : {ds : List Definition} → All (GoodDefinition formals) ds → All (Fine formals) (encode_definitions ds)
    unfolding encode_definitions
    definitions-fine none = none
    definitions-fine (more {x = d} g gs) =
        let c : d.formals ≤ 4 = g.count in
        more (other-fine 6 d.formals refl (omega arith) (omega arith))
        (All-append (exp-fine (levels-slots d.formals (omega arith)) g.body) (definitions-fine gs))

-- programs

formals-few : {formals : List ℕ} {ds : List Definition} → All (GoodDefinition formals) ds → All (λ n. n ≤ 4) (formals_of ds)
formals-few none = none
formals-few (more g gs) = more g.count (formals-few gs)

pub program-few : {p : Program} → WellFormed p → Few (formals_of p.definitions)
program-few {p} w =
    let l : length (formals_of p.definitions) ≡ length p.definitions = length-map p.definitions _ in
    let b : length p.definitions ≤ 32 = w.definitions in
    record { definitions = omega arith; counts = formals-few w.bodies }

pub program-fine : {p : Program} → WellFormed p → All (Fine (formals_of p.definitions)) (encode_entries p)
unfolding encode_entries
program-fine w = let few = program-few w in All-append (definitions-fine _ few w.bodies) (exp-fine _ few none w.goal)

-- bytes

operands-bytes : (es : List Entry) → All Byte (operand_bytes es)
unfolding operand_bytes
operands-bytes [] = none
operands-bytes (x ∷ es) = All-append (bytes-are 4 x.operand) (operands-bytes es)
