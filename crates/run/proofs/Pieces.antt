-- A text in pieces: an output that shows a text holds the piece from its byte on, and the pieces, one behind the other, are the text.
-- Assumes nothing.
use mathlib.Core.Path.{◌≡◌, refl, sym, ◌∙◌, ap}
use mathlib.Core.List.{List, ◌++◌}
use Prim.Native.Nat.{ℕ, zero, suc, ◌+◌, ◌-◌, ◌≤◌}
use native.Mathlib.Omega.{arith}
use lib.ListN.{length, take, drop, length-take, length-drop, take-append-drop}
use lib.Seq.{sets-eq, length-sets, take_all, take_at, drop-drop}
use Rattle.lines.specs.Shown.{shown, in_pieces, Piece}

-- the front of an output that shows the text
front-piece : (before : List ℕ) (from : ℕ) (text : List ℕ) (n : ℕ) → n ≡ length (take (length before) (drop from text))
    → take n (shown before from text) ≡ take (length before) (drop from text)
unfolding shown
front-piece before from text n e =
    let vs = take (length before) (drop from text) in
    let l = length-take (length before) (drop from text) in
    ap (take n) (sets-eq vs before 0 (omega arith)) ∙ take_at vs (drop (0 + length vs) before) n (sym e)

pub piece-shown : (before : List ℕ) (from left : ℕ) (text output : List ℕ) → output ≡ shown before from text → from + left ≡ length text
    → Piece text from left output
unfolding shown
piece-shown before from left text output e l =
    record { before = before; size = ap length e ∙ length-sets before 0 (take (length before) (drop from text)); shows = e; behind = l }

-- where more is left than there is room for, the whole output is a piece
pub piece-full : {text output : List ℕ} {from left : ℕ} → Piece text from left output → length output ≤ left
    → output ≡ take (length output) (drop from text)
piece-full {text} {output} {from} {left} p l =
    let size = p.size in
    let behind = p.behind in
    let a = length-take (length p.before) (drop from text) in
    let b = length-drop from text in
    sym (take_all (length p.before) output (omega arith))
    ∙ ap (take (length p.before)) p.shows
    ∙ front-piece p.before from text (length p.before) (omega arith)
    ∙ ap (λ (k : ℕ). take k (drop from text)) (sym size)

-- else its front is all that is left
pub piece-last : {text output : List ℕ} {from left : ℕ} → Piece text from left output → left ≤ length output
    → take (left - 0) output ≡ take (length (take (left - 0) output)) (drop from text)
piece-last {text} {output} {from} {left} p l =
    let size = p.size in
    let behind = p.behind in
    let a = length-take (length p.before) (drop from text) in
    let b = length-drop from text in
    let c = length-take (left - 0) output in
    ap (take (left - 0)) p.shows
    ∙ front-piece p.before from text (left - 0) (omega arith)
    ∙ take_all (length p.before) (drop from text) (omega arith)
    ∙ sym (take_all (length (take (left - 0) output)) (drop from text) (omega arith))

-- one piece after another, these are the bytes of the whole run
pub pieces_are : (n room from : ℕ) (text : List ℕ) → in_pieces n room from text ≡ drop from text
unfolding in_pieces
pieces_are zero room from text = refl
pieces_are (suc n) room from text =
    ap (λ (u : List ℕ). take room (drop from text) ++ u) (pieces_are n room (from + room) text ∙ sym (drop-drop room from text))
    ∙ take-append-drop room (drop from text)
