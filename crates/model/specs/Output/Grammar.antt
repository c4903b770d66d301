-- The grammar of what `orcrun` prints, in bytes: what a program that reads it may rely on. Nothing here speaks of calls or of runs. Assumes
-- nothing: these are definitions.
use Rattle.std.specs.Prelude.{List, [], ◌∷◌, ◌++◌, ℕ, ◌+◌, ◌<◌}
use Rattle.job.specs.Test.{All}
use Rattle.job.specs.Decimal.{ascii}

-- one digit or more: the bytes from 48 on
pub data Numeral : List ℕ → Type 0 where
  last : {d : ℕ} → d < 10 → Numeral ((48 + d) ∷ [])
  more : {ds : List ℕ} {d : ℕ} → Numeral ds → d < 10 → Numeral (ds ++ ((48 + d) ∷ []))

-- the same, or with a minus sign in front
pub data SignedNumeral : List ℕ → Type 0 where
  positive : {ds : List ℕ} → Numeral ds → SignedNumeral ds
  negative : {ds : List ℕ} → Numeral ds → SignedNumeral (ascii "-" ++ ds)

-- what stands behind a line's word: a space before each numeral, then a line feed
unfoldable pub rest_of_line : List (List ℕ) → List ℕ
rest_of_line [] = ascii "\n"
rest_of_line (w ∷ ws) = ascii " " ++ (w ++ rest_of_line ws)

-- "`call` handle site parameters; `publish` value; `refused` number"
pub data ReplyLine : List ℕ → Type 0 where
  call : {h s : List ℕ} {vs : List (List ℕ)} → Numeral h → Numeral s → All SignedNumeral vs
      → ReplyLine (ascii "call" ++ rest_of_line (h ∷ s ∷ vs))
  publish : {v : List ℕ} → SignedNumeral v → ReplyLine (ascii "publish" ++ rest_of_line (v ∷ []))
  refused : {n : List ℕ} → Numeral n → ReplyLine (ascii "refused" ++ rest_of_line (n ∷ []))

-- such lines, one after another
pub data LineSequence : List ℕ → Type 0 where
  none : LineSequence []
  line : {l ls : List ℕ} → ReplyLine l → LineSequence ls → LineSequence (l ++ ls)

-- "with 100,000 steps made and a token ready: `limit`"; "a trailing piece prints `short`"; at most one of them
pub data OneNotice : List ℕ → Type 0 where
  none : OneNotice []
  limit : OneNotice (ascii "limit\n")
  short : OneNotice (ascii "short\n")

-- "else the line `long` only"; "`table` number entry"; "last, except after `table` or `long`, `end` and accepted steps"
pub data WholeOutput : List ℕ → Type 0 where
  long : WholeOutput (ascii "long\n")
  table : {n e : List ℕ} → Numeral n → Numeral e → WholeOutput (ascii "table" ++ rest_of_line (n ∷ e ∷ []))
  run : {ls notice n : List ℕ} → LineSequence ls → OneNotice notice → Numeral n
      → WholeOutput (ls ++ (notice ++ (ascii "end" ++ rest_of_line (n ∷ []))))
