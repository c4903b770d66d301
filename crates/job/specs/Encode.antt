-- The bytes of a program: "sizes first, then two parallel arrays". Assumes nothing: these are definitions.
use Rattle.std.specs.Prelude.{List, [], ◌∷◌, ◌++◌, map, ℕ, ◌+◌, ◌*◌, length}
use Rattle.job.specs.Number.{bytes, unsigned}
use Rattle.job.specs.Syntax.{Param, variable, constant, Join, par, seq, prune, Exp, stop, site, call, join, Definition, Program}
use Rattle.job.specs.Entry.{Entry, entry}

unfoldable pub encode_param : Param → Entry
encode_param (variable x) = entry 7 x
encode_param (constant v) = entry 8 (unsigned v)

unfoldable pub encode_join : Join → Entry
encode_join par = entry 3 0
encode_join (seq x) = entry 4 0
encode_join (prune x) = entry 5 0

-- "entries stand in prefix order"
unfoldable pub encode_exp : Exp → List Entry
encode_exp stop = entry 0 0 ∷ []
encode_exp (site s ps) = entry 1 (s + 65536 * length ps) ∷ map encode_param ps
encode_exp (call d ps) = entry 2 (d + 65536 * length ps) ∷ map encode_param ps
encode_exp (join j f g) = encode_join j ∷ encode_exp f ++ encode_exp g

unfoldable pub encode_definitions : List Definition → List Entry
encode_definitions [] = []
encode_definitions (d ∷ ds) = entry 6 d.formals ∷ encode_exp d.body ++ encode_definitions ds

unfoldable pub encode_entries : Program → List Entry
encode_entries p = encode_definitions p.definitions ++ encode_exp p.goal

unfoldable pub operand_bytes : List Entry → List ℕ
operand_bytes [] = []
operand_bytes (x ∷ es) = bytes 4 x.operand ++ operand_bytes es

-- "Bytes 0-1: D, .. Bytes 2-3: N, .. Then N kind bytes, then N operands of 4 bytes"
unfoldable pub encode : Program → List ℕ
encode p =
    let es = encode_entries p in
    bytes 2 (length p.definitions) ++ bytes 2 (length es) ++ map (λ (x : Entry). x.kind) es ++ operand_bytes es
