-- A line's parts one behind the other are the line: its first word, its other words with a space before each, and a line feed.
-- A definition puts the space behind a word and the code before it, which is the same by associativity. Assumes nothing.
use mathlib.Core.Path.{◌≡◌, refl, sym, ap, ◌∙◌}
use mathlib.Core.List.{List, [], ◌∷◌, ◌++◌, append_assoc, append-nil}
use Prim.Native.Nat.{ℕ}
use Rattle.job.specs.Decimal.{ascii}
use Rattle.model.specs.Output.Line.{Line, line_of, text_of, text_of_all}
use Rattle.lines.specs.WordBytes.{spaced, all_spaced, line_feed}

-- the words of a line

behind-word : (word w : List ℕ) (ws : List (List ℕ)) → word ++ spaced (line_of w ws) ≡ line_of word (w ∷ ws)
unfolding ascii line_of spaced
behind-word word w ws = sym (append_assoc word (ascii " ") (line_of w ws))

line-parts : (word : List ℕ) (words : List (List ℕ)) → word ++ (all_spaced words ++ line_feed) ≡ line_of word words
unfolding ascii line_of spaced all_spaced line_feed
line-parts word [] = refl
line-parts word (w ∷ ws) =
    ap (λ (l : List ℕ). word ++ spaced l) (append_assoc w (all_spaced ws) line_feed ∙ line-parts w ws) ∙ behind-word word w ws

-- a line of a word and one more, and of a word and two more, before the others
pub one-spaced : (word a : List ℕ) (ws : List (List ℕ)) → word ++ (spaced a ++ (all_spaced ws ++ line_feed)) ≡ line_of word (a ∷ ws)
unfolding ascii spaced
one-spaced word a ws = ap (λ (l : List ℕ). word ++ spaced l) (line-parts a ws) ∙ behind-word word a ws

pub two-spaced : (word a b : List ℕ) (ws : List (List ℕ))
    → word ++ (spaced a ++ (spaced b ++ (all_spaced ws ++ line_feed))) ≡ line_of word (a ∷ b ∷ ws)
unfolding ascii spaced
two-spaced word a b ws = ap (λ (l : List ℕ). word ++ spaced l) (one-spaced a b ws) ∙ behind-word word a (b ∷ ws)

-- lines one behind the other

pub text-one : (l : Line) → text_of l ≡ text_of_all (l ∷ [])
unfolding text_of_all
text-one l = sym (append-nil (text_of l))

-- a first line, then others
pub text-first : (l : Line) (ls : List Line) → text_of l ++ text_of_all ls ≡ text_of_all (l ∷ ls)
unfolding text_of_all
text-first l ls = refl
