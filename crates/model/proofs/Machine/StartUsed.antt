-- The start uses one token and no cell: its token is alive under no cell, names nothing, and the rest is blank. So it is within any limits
-- that allow a token. Assumes nothing.
use mathlib.Core.Path.{◌≡◌, refl, sym, ◌∙◌, ap, subst}
use mathlib.Core.Logic.{◌⊎◌, inl, inr}
use mathlib.Core.Bool.{Bool, true, false, not}
use mathlib.Core.List.{List}
use Prim.Native.Nat.{ℕ, zero, suc, ◌<◌, ◌≤◌}
use native.Mathlib.Omega.{arith}
use lib.ListN.{length, get_or, set, replicate, length-replicate, get_or-replicate}
use lib.Seq.{get_or-set_same}
use Rattle.std.specs.Prelude.{None}
use Rattle.job.specs.Node.{Dag}
use Rattle.model.specs.Machine.Limits.{Limits}
use Rattle.model.specs.Machine.Blank.{blank_token, blank_cell, blank_machine, token_at}
use Rattle.model.specs.Machine.Active.{is_active, under_set, upward}
use Rattle.model.specs.Machine.State.{is_live}
use Rattle.model.specs.Machine.InUse.{tokens_used, cells_used, marked, Within}
use Rattle.model.specs.Machine.Start.{start, start_token, start_machine}
use Rattle.model.specs.declared.token.Token.{Token}
use Rattle.model.specs.declared.cell.Cell.{Cell}
use Rattle.model.specs.declared.record.Machine.{Machine}
use Rattle.model.specs.declared.reply.Outcome.{Outcome}
use Rattle.job.proofs.Test.{clash}
use Rattle.model.proofs.Machine.Marks.{Marked, marked-none, marked-no-place, marked-inside-one, marked-set-free, marked-replicate}
use Rattle.model.proofs.Machine.Marks.{marks-same, marks-added}
use Rattle.model.proofs.Machine.InUse.{tokens-used, cells-used}
use Rattle.model.proofs.Machine.Refused.{StartCases, start-cases}
use Rattle.model.proofs.Machine.Inside.{Inside, With, fits-blank, tokens-inside, cells-inside, inside-token}
use Rattle.model.proofs.Machine.WrittenTokens.{fits-same}
use Rattle.job.proofs.Lists.{replicate-at}

NoPlace : ℕ → Type 0
NoPlace i = ⊥

-- a blank record is inside no place at all
blank-inside : (n k : ℕ) → Inside n k NoPlace NoPlace (replicate n blank_token) (replicate k blank_cell)
unfolding NoPlace is_live token_at
blank-inside n k =
    record {
      tokens = length-replicate n blank_token;
      cells = length-replicate k blank_cell;
      live = λ i e. clash e (ap (λ (t : Token). is_live t.state) (replicate-at n i blank_token));
      fits = λ i l x. absurd x;
      parent = λ c l x. absurd x;
    }

start-inside :
    (lim : Limits) (goal : ℕ)
    → Inside lim.token_places lim.cell_places (With NoPlace 0) NoPlace (start_machine lim goal).tokens (start_machine lim goal).cells
start-inside lim goal =
    inside-token (blank-inside lim.token_places lim.cell_places) 0 (start_token goal)
    (fits-same refl refl refl (fits-blank (With NoPlace 0) NoPlace))

-- no place above a token under no cell is looked at
upward-nowhere : (test : ℕ → Cell → Bool) (cs : List Cell) (n : ℕ) → upward test cs n None ≡ false
unfolding upward
upward-nowhere test cs zero = refl
upward-nowhere test cs (suc n) = refl

start-active : (cs : List Cell) (goal : ℕ) → is_active cs (start_token goal) ≡ true
unfolding is_active is_live under_set
start-active cs goal = ap not (upward-nowhere _ cs (length cs))

-- marks with nothing marked
unmarked : (n i : ℕ) → i < length (replicate n false) → Marked (replicate n false) i → ⊥
unmarked n i l m = let y = length-replicate n false in let z = marked-none n i m in omega arith

module _ (lim : Limits) (goal : ℕ) where
  abbrev begins : Machine
  begins = start_machine lim goal

  abbrev none : List Bool
  none = replicate lim.token_places false

  -- no cell
  pub start-cell-marks : cells_used begins ≡ replicate lim.cell_places false
  unfolding NoPlace
  start-cell-marks =
      marks-same (cells_used begins) (replicate lim.cell_places false) sizes (λ c l m. absurd (cells-inside (start-inside lim goal) c l m))
      (λ c l m. absurd (unmarked lim.cell_places c l m))
    where
      sizes : length (cells_used begins) ≡ length (replicate lim.cell_places false)
      sizes =
          (cells-used (tokens_used begins) begins.tokens begins.cells (tokens-used begins.tokens begins.cells).size).size
          ∙ (start-inside lim goal).cells ∙ sym (length-replicate lim.cell_places false)

  pub start-no-cell : marked (cells_used begins) ≡ 0
  start-no-cell = ap marked start-cell-marks ∙ marked-replicate lim.cell_places

  -- one token at most
  sizes : length (tokens_used begins) ≡ length none
  sizes =
      (tokens-used begins.tokens begins.cells).size ∙ (start-inside lim goal).tokens ∙ sym (length-replicate lim.token_places false)

  only : (i : ℕ) → i < length (tokens_used begins) → Marked (tokens_used begins) i → Marked none i ⊎ (i ≡ 0)
  unfolding NoPlace
  only i l m = first (tokens-inside (start-inside lim goal) i l m)
    where
      first : With NoPlace 0 i → Marked none i ⊎ (i ≡ 0)
      first (inl x) = absurd x
      first (inr e) = inr e

  start-tokens : marked (tokens_used begins) ≤ 1
  start-tokens = let y = marked-replicate lim.token_places in let z = marked-inside-one (tokens_used begins) none 0 sizes only in
      omega arith

  -- exactly one token, where there is a place for it
  pub start-token-marks : 1 ≤ lim.token_places → tokens_used begins ≡ set none 0 true
  unfolding token_at
  start-token-marks l =
      marks-added (tokens_used begins) none sizes 0 only (λ i k m. absurd (unmarked lim.token_places i k m))
      ((tokens-used begins.tokens begins.cells).active 0
      (ap (is_active begins.cells) stands ∙ start-active begins.cells goal))
    where
      stands : get_or begins.tokens 0 blank_token ≡ start_token goal
      stands =
          get_or-set_same (replicate lim.token_places blank_token) 0 (start_token goal) blank_token
          (let z = length-replicate lim.token_places blank_token in omega arith)

  pub start-one-token : 1 ≤ lim.token_places → marked (tokens_used begins) ≡ 1
  start-one-token l =
      ap marked (start-token-marks l)
      ∙ marked-set-free none 0 (get_or-replicate lim.token_places 0 false true (omega arith)) ∙ ap suc (marked-replicate lim.token_places)

blank-within : (lim : Limits) → Within lim (blank_machine lim)
unfolding NoPlace
blank-within lim =
    let h = blank-inside lim.token_places lim.cell_places in
    let x = marked-no-place (tokens_used (blank_machine lim)) (tokens-inside h) in
    let y = marked-no-place (cells_used (blank_machine lim)) (cells-inside h) in
    (omega arith, omega arith)

-- the start is within the limits, accepted or refused
pub start-within : (lim : Limits) (d : Dag) → 1 ≤ lim.tokens → Within lim (start lim d).machine
start-within lim d l = go (start-cases lim d)
  where
    started : Within lim (start_machine lim d.goal)
    started = let x = start-tokens lim d.goal in let y = start-no-cell lim d.goal in (omega arith, omega arith)

    go : StartCases lim d (start lim d) → Within lim (start lim d).machine
    go (inl x) = subst (λ (o : Outcome). Within lim o.machine) (sym x.1) started
    go (inr x) = subst (λ (o : Outcome). Within lim o.machine) (sym x.1) (blank-within lim)
