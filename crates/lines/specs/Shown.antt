-- What an output of limited size shows of a text. Assumes nothing: these are definitions.
use Rattle.std.specs.Prelude.{◌≡◌, true, false, List, [], ◌∷◌, ◌++◌, ℕ, zero, suc, ◌+◌, ◌-◌, length, take, drop, set, leb}
use Rattle.std.proofs.lemmas.List.Edits.{sets}

-- the text from byte `from` on, as much as there is room for; what is behind it is as before
unfoldable pub shown : (before : List ℕ) (from : ℕ) (text : List ℕ) → List ℕ
shown before from text = sets before 0 (take (length before) (drop from text))

-- byte by byte: one more, behind the first `total`
unfoldable pub with_byte : (output : List ℕ) (from total byte : ℕ) → List ℕ
with_byte output from total b = elim (leb from total) [ true ↦ set output (total - from) b | false ↦ output ]

unfoldable pub showing : (output : List ℕ) (from total : ℕ) → List ℕ → List ℕ
showing output from total [] = output
showing output from total (b ∷ bs) = showing (with_byte output from total b) from (suc total) bs

-- `bytes` are shown behind the first `total`; `next` are there then
pub record ShowsBytes (before : List ℕ) (from total : ℕ) (bytes after : List ℕ) (next : ℕ) : Type 0 where
  pub stored : after ≡ showing before from total bytes
  pub behind : next ≡ total + length bytes

-- a text from a byte on, in n pieces of so many bytes and what is left behind them
unfoldable pub in_pieces : (n room from : ℕ) → List ℕ → List ℕ
in_pieces zero room from text = drop from text
in_pieces (suc n) room from text = take room (drop from text) ++ in_pieces n room (from + room) text

-- an output that shows a text from byte `from` on, where `left` bytes are left
pub record Piece (text : List ℕ) (from left : ℕ) (output : List ℕ) : Type 0 where
  pub before : List ℕ
  pub size : length output ≡ length before
  pub shows : output ≡ shown before from text
  pub behind : from + left ≡ length text
