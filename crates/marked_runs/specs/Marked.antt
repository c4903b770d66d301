-- "Twelve marked runs": inputs and outputs. Assumes nothing: these are definitions.
use Rattle.std.specs.Prelude.{List, [], ◌∷◌, ◌++◌, ℕ, ℤ, pos}
use Prim.Native.String.{String}
use Rattle.job.specs.Number.{bytes, unsigned}
use Rattle.job.specs.Decimal.{ascii}
use Rattle.job.specs.Syntax.{Program, stop, call}
use Rattle.job.specs.Encode.{encode}
use Rattle.job.specs.Notation.{◌∥◌, ◌>[◌]>◌, ◌<[◌]<◌, v, #, let', signal, add, goal, calling}

-- an answer's 8 bytes
abbrev pub answering : ℕ → ℤ → List ℕ
answering h a = bytes 4 h ++ bytes 4 (unsigned a)

pub record Case : Type 0 where
  pub input : List ℕ
  pub output : List ℕ

abbrev pub case_of : List ℕ → String → Case
case_of i s = record { input = i; output = ascii s }

-- E() = E(), goal E()
abbrev pub looping : Program
looping = calling (call 0 [])

abbrev pub marked_runs : List Case
marked_runs =
    -- "The run above": table 00 00 07 00, kinds, operands, records (1, 42), (0, 7), as bytes
    case_of
    (0x00 ∷ 0x00 ∷ 0x07 ∷ 0x00
    ∷ 0x05 ∷ 0x01 ∷ 0x07 ∷ 0x03 ∷ 0x01 ∷ 0x08 ∷ 0x01
    ∷ bytes 4 0 ++ bytes 4 0x00010000 ++ bytes 4 0 ++ bytes 4 0 ++ bytes 4 0x00010010 ++ bytes 4 5 ++ bytes 4 0x00000011
    ++ answering 1 (pos 42) ++ answering 0 (pos 7))
    "call 0 16 5\ncall 1 17\npublish 42\nrefused 12\nend 9\n"
    ∷ case_of (encode (goal stop)) "end 1\n"
    -- N = 0
    ∷ case_of (0x00 ∷ 0x00 ∷ 0x00 ∷ 0x00 ∷ []) "table 2 0\n"
    ∷ case_of (encode (goal signal)) "publish 0\nend 2\n"
    ∷ case_of (encode (goal (stop >[ 0 ]> let' (v 0)))) "end 1\n"
    ∷ case_of (encode (goal (let' (v 0) <[ 0 ]< stop))) "end 3\n"
    ∷ case_of (encode (goal (add (# 2147483647) (# 1)))) "end 1\n"
    ∷ case_of (encode (goal (add (# 2147483646) (# 1)))) "publish 2147483647\nend 2\n"
    ∷ case_of (encode (goal ((let' (# 1) ∥ let' (# 2)) >[ 0 ]> let' (v 0)))) "publish 1\npublish 2\nend 11\n"
    ∷ case_of (encode (goal (let' (v 0) <[ 0 ]< (let' (# 1) ∥ let' (# 2))))) "publish 1\nend 9\n"
    -- E() = E(), goal E(): document 02, request 2, "prints `limit` and `end 100000`"
    ∷ case_of (encode looping) "limit\nend 100000\n"
    -- W() = stop <x< W(), goal W()
    ∷ case_of (encode (calling (stop <[ 0 ]< call 0 []))) "refused 11\nend 97\n"
    ∷ []
