-- The loops that make blank what is in use no more: a table in which that is done up to a place, after each turn and at the end.
-- Assumes nothing.
use mathlib.Core.Path.{◌≡◌, refl, sym, ◌∙◌, ap}
use mathlib.Core.Bool.{Bool, true, false}
use mathlib.Core.Logic.{⊎_elim}
use mathlib.Core.List.{List, [], ◌∷◌, ◌++◌, append-nil}
use Prim.Native.Nat.{ℕ, suc, ◌+◌, ◌≤◌, ◌<◌}
use native.Mathlib.Numerals.{add-one}
use native.Mathlib.Omega.{arith}
use lib.ListN.{length, get_or, set, take, drop, drop_of_length-le}
use lib.Seq.{take-suc, take_all, drop-cons, append_snoc, set_at, get_or_at, length-take-le}
use Rattle.model.specs.Machine.Blank.{blank_token, blank_cell, token_at, cell_at}
use Rattle.model.specs.Machine.InUse.{rest_blanked, sweep, reached, cells_of, cells_of_marked, used_cells, tokens_used, cells_used}
use Rattle.model.specs.Machine.Update.{put, with_tables}
use Rattle.model.specs.declared.cell.Cell.{Cell}
use Rattle.model.specs.declared.record.Machine.{Machine}
use Rattle.model.specs.declared.token.Token.{Token}
use Rattle.model.proofs.Machine.Blanking.{length-kept, kept-marked, kept_free, kept-cases}
use Rattle.record.specs.Changes.{store_cell}
use Rattle.reach.specs.Marks.{BlankFrom, tokens_swept, cells_swept}
use Rattle.reach.proofs.ListLoops.{steady}
use Rattle.job.proofs.Lists.{get_d_any}

module _ {A : Type 0} (blank : A) (marks : List Bool) (xs : List A) where
  -- done up to i
  abbrev pub partly : ℕ → List A
  partly i = take i (rest_blanked blank marks xs) ++ drop i xs

  -- a blank row stays blank, marked or not
  pub kept-blank : (i : ℕ) → get_or xs i blank ≡ blank → get_or (rest_blanked blank marks xs) i blank ≡ blank
  kept-blank i b = ⊎_elim (λ e. e ∙ b) (λ e. e) (kept-cases blank marks xs i)

  module _ (size i : ℕ) (wide : length marks ≡ size) (long : length xs ≡ size) where
    module _ (h : i < size) where
      -- the table with v at i, done before and not after
      abbrev held : A → List A
      held v = take i (rest_blanked blank marks xs) ++ (v ∷ drop (suc i) xs)

      before-long : length (take i (rest_blanked blank marks xs)) ≡ i
      before-long = let x = length-kept blank marks xs in length-take-le i (rest_blanked blank marks xs) (omega arith)

      partly-held : partly i ≡ held (get_or xs i blank)
      partly-held = let l : i < length xs = omega arith in
          ap (λ (l : List A). take i (rest_blanked blank marks xs) ++ l) (drop-cons xs i blank l)

      partly-next : partly (i + 1) ≡ held (get_or (rest_blanked blank marks xs) i blank)
      partly-next =
          let x = length-kept blank marks xs in
          let l : i < length (rest_blanked blank marks xs) = omega arith in
          rw (add-one, take-suc (rest_blanked blank marks xs) i blank l)
          (append_snoc (take i (rest_blanked blank marks xs)) _ (drop (suc i) xs))

      pub partly-at : get_or (partly i) i blank ≡ get_or xs i blank
      partly-at =
          ap (λ l. get_or l i blank) partly-held ∙ get_or_at (take i (rest_blanked blank marks xs)) (get_or xs i blank)
          (drop (suc i) xs) blank i before-long

      mark-at : (x : Bool) → get_or marks i false ≡ x → get_or marks i true ≡ x
      mark-at x e = get_d_any marks i true false (omega arith) ∙ e

      pub keeps : get_or marks i false ≡ true → partly i ≡ partly (i + 1)
      keeps e = partly-held ∙ ap held (sym (kept-marked blank marks xs i (omega arith) (mark-at true e))) ∙ sym partly-next

      pub blanks : get_or marks i false ≡ false → set (partly i) i blank ≡ partly (i + 1)
      blanks e =
          ap (λ l. set l i blank) partly-held
          ∙ set_at (take i (rest_blanked blank marks xs)) (get_or xs i blank) (drop (suc i) xs) blank i before-long
          ∙ ap held (sym (kept_free blank marks xs i (mark-at false e)))
          ∙ sym partly-next

      pub idle : get_or xs i blank ≡ blank → partly i ≡ partly (i + 1)
      idle b = partly-held ∙ ap held (b ∙ sym (kept-blank i b)) ∙ sym partly-next

  module _ (size : ℕ) (wide : length marks ≡ size) (long : length xs ≡ size) where
    partly-end : partly size ≡ rest_blanked blank marks xs
    partly-end =
        let x = length-kept blank marks xs in
        let y : length (rest_blanked blank marks xs) ≤ size = omega arith in
        let z : length xs ≤ size = omega arith in
        rw (take_all size (rest_blanked blank marks xs) y, drop_of_length-le xs z, append-nil)

    -- the rows from i on are blank
    pub partly-over : (i : ℕ) → i ≤ size → ((k : ℕ) → i ≤ k → k < size → get_or xs k blank ≡ blank) → partly i ≡ rest_blanked blank marks xs
    partly-over i h b = steady partly i size h (λ k from to. idle size k wide long to (b k from to)) ∙ partly-end

-- the record when its tokens, or its cells, are done up to i
abbrev pub tokens_kept : List Bool → Machine → ℕ → Machine
tokens_kept marks m i = with_tables (partly blank_token marks m.tokens i) m.cells m

abbrev pub cells_kept : List Bool → Machine → ℕ → Machine
cells_kept marks m i = with_tables m.tokens (partly blank_cell marks m.cells i) m

module _ (marks : List Bool) (m : Machine) where
  pub tokens-first : m ≡ tokens_kept marks m 0
  unfolding with_tables
  tokens-first = refl

  module _ (i : ℕ) (wide : length marks ≡ 64) (long : length m.tokens ≡ 64) where
    module _ (h : i < 64) where
      pub tokens-keep : get_or marks i false ≡ true → tokens_kept marks m i ≡ tokens_kept marks m (i + 1)
      tokens-keep e = ap (λ ts. with_tables ts m.cells m) (keeps blank_token marks m.tokens 64 i wide long h e)

      pub tokens-idle : token_at m.tokens i ≡ blank_token → tokens_kept marks m i ≡ tokens_kept marks m (i + 1)
      unfolding token_at
      tokens-idle e = ap (λ ts. with_tables ts m.cells m) (idle blank_token marks m.tokens 64 i wide long h e)

      pub tokens-blank : get_or marks i false ≡ false → put i blank_token (tokens_kept marks m i) ≡ tokens_kept marks m (i + 1)
      unfolding put with_tables
      tokens-blank e = ap (λ ts. with_tables ts m.cells m) (blanks blank_token marks m.tokens 64 i wide long h e)

    pub tokens-last : i ≤ 64 → BlankFrom m i → tokens_kept marks m i ≡ with_tables (rest_blanked blank_token marks m.tokens) m.cells m
    unfolding token_at
    tokens-last h b = ap (λ ts. with_tables ts m.cells m) (partly-over blank_token marks m.tokens 64 wide long i h b)

  pub cells-first : m ≡ cells_kept marks m 0
  unfolding with_tables
  cells-first = refl

  module _ (i : ℕ) (wide : length marks ≡ 32) (long : length m.cells ≡ 32) where
    module _ (h : i < 32) where
      pub cells-keep : get_or marks i false ≡ true → cells_kept marks m i ≡ cells_kept marks m (i + 1)
      cells-keep e = ap (λ cs. with_tables m.tokens cs m) (keeps blank_cell marks m.cells 32 i wide long h e)

      pub cells-idle : cell_at m.cells i ≡ blank_cell → cells_kept marks m i ≡ cells_kept marks m (i + 1)
      unfolding cell_at
      cells-idle e = ap (λ cs. with_tables m.tokens cs m) (idle blank_cell marks m.cells 32 i wide long h e)

      pub cells-blank : get_or marks i false ≡ false → store_cell i blank_cell (cells_kept marks m i) ≡ cells_kept marks m (i + 1)
      unfolding with_tables
      cells-blank e = ap (λ cs. with_tables m.tokens cs m) (blanks blank_cell marks m.cells 32 i wide long h e)

    pub cells-last : i ≤ 32 → ((k : ℕ) → i ≤ k → k < 32 → cell_at m.cells k ≡ blank_cell)
        → cells_kept marks m i ≡ with_tables m.tokens (rest_blanked blank_cell marks m.cells) m
    unfolding cell_at
    cells-last h b = ap (λ cs. with_tables m.tokens cs m) (partly-over blank_cell marks m.cells 32 wide long i h b)

-- a table done by the marks of what is in use
module _ (m : Machine) (used : List Bool) where
  pub tokens-swept : used ≡ tokens_used m → with_tables (rest_blanked blank_token used m.tokens) m.cells m ≡ tokens_swept m
  tokens-swept e = ap (λ us. with_tables (rest_blanked blank_token us m.tokens) m.cells m) e

  pub cells-swept : (tokens : List Bool) → used ≡ used_cells tokens m.tokens m.cells
      → with_tables m.tokens (rest_blanked blank_cell used m.cells) m ≡ cells_swept tokens m
  cells-swept tokens e = ap (λ us. with_tables m.tokens (rest_blanked blank_cell us m.cells) m) e

pub swept-blank : (m : Machine) (end : ℕ) → BlankFrom m end → BlankFrom (tokens_swept m) end
unfolding with_tables token_at
swept-blank m end b i from to = kept-blank blank_token (tokens_used m) m.tokens i (b i from to)

-- the tokens in use name the same cells when the others are blank
names-kept : (used : List Bool) (ts : List Token) → cells_of_marked used (rest_blanked blank_token used ts) ≡ cells_of_marked used ts
unfolding cells_of_marked rest_blanked
names-kept used [] = refl
names-kept [] (t ∷ ts) = refl
names-kept (true ∷ used) (t ∷ ts) = ap (λ qs. cells_of t ++ qs) (names-kept used ts)
names-kept (false ∷ used) (t ∷ ts) = names-kept used ts

-- both tables done, by the marks that the first one left
module _ (m : Machine) (tokens : List Bool) (e : tokens ≡ tokens_used m) where
  pub reach-kept : used_cells tokens (tokens_swept m).tokens (tokens_swept m).cells ≡ cells_used m
  unfolding used_cells with_tables
  reach-kept =
      ap (λ us. used_cells us (tokens_swept m).tokens m.cells) e
      ∙ ap (reached (λ (k : Cell). k.parent) blank_cell m.cells) (names-kept (tokens_used m) m.tokens)

  pub swept : cells_swept tokens (tokens_swept m) ≡ sweep m
  unfolding sweep with_tables
  swept = ap (λ ns. with_tables (rest_blanked blank_token (tokens_used m) m.tokens) (rest_blanked blank_cell ns m.cells) m) reach-kept
