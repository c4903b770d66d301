-- A line as data, and its bytes. Assumes nothing: these are definitions.
use Rattle.std.specs.Prelude.{List, [], ◌∷◌, ◌++◌, map, ℕ, ℤ}
use Rattle.job.specs.Decimal.{ascii, decimal, signed_decimal}

pub data Line : Type 0 where
  call : (handle site : ℕ) → List ℤ → Line
  publish : ℤ → Line
  refused : (number : ℕ) → Line
  table : (number entry : ℕ) → Line
  end : (steps : ℕ) → Line
  limit short long : Line

-- words with a space between them, ended by a line feed
unfoldable pub line_of : List ℕ → List (List ℕ) → List ℕ
line_of word [] = word ++ ascii "\n"
line_of word (w ∷ ws) = word ++ ascii " " ++ line_of w ws

-- "Lines: `call` handle site parameters; `publish` value; `refused` number ..; `table` number entry; last, .. `end` and accepted steps"
unfoldable pub text_of : Line → List ℕ
text_of (call h s vs) = line_of (ascii "call") (decimal h ∷ decimal s ∷ map signed_decimal vs)
text_of (publish v) = line_of (ascii "publish") (signed_decimal v ∷ [])
text_of (refused n) = line_of (ascii "refused") (decimal n ∷ [])
text_of (table n e) = line_of (ascii "table") (decimal n ∷ decimal e ∷ [])
text_of (end n) = line_of (ascii "end") (decimal n ∷ [])
text_of limit = line_of (ascii "limit") []
text_of short = line_of (ascii "short") []
text_of long = line_of (ascii "long") []

unfoldable pub text_of_all : List Line → List ℕ
text_of_all [] = []
text_of_all (l ∷ ls) = text_of l ++ text_of_all ls
