-- A record that keeps the rules is inside what it uses (Inside); so a record that is inside that, or one place more, has no more in use, or
-- one more, and stays within the limits that were tested. Assumes nothing.
use mathlib.Core.Path.{◌≡◌, refl, sym, ◌∙◌}
use mathlib.Core.Bool.{Bool, true, false, not}
use mathlib.Core.List.{List}
use Prim.Native.Nat.{ℕ, suc, ◌≤◌}
use native.Mathlib.Omega.{arith}
use lib.ListN.{length}
use Rattle.job.specs.Node.{Dag}
use Rattle.model.specs.Machine.Limits.{Limits}
use Rattle.model.specs.Machine.Blank.{blank_token, token_at, cell_at}
use Rattle.model.specs.Machine.Active.{is_active, under_set}
use Rattle.model.specs.Machine.State.{is_live}
use Rattle.model.specs.Machine.InUse.{tokens_used, cells_used, marked, Within, sweep}
use Rattle.model.specs.Machine.Rules.{not_under_set}
use Rattle.model.specs.Machine.Step.{has_token_place, has_cell_place}
use Rattle.model.specs.declared.token.Token.{Token}
use Rattle.model.specs.declared.cell.Cell.{Cell}
use Rattle.model.specs.declared.record.Machine.{Machine}
use Rattle.job.proofs.Test.{all-at, ltb-lt}
use Rattle.model.proofs.Machine.Marks.{Marked, marked-inside, marked-inside-one}
use Rattle.model.proofs.Machine.Reach.{Names}
use Rattle.model.proofs.Machine.InUse.{tokens-used, cells-used}
use Rattle.model.proofs.Machine.Rules.{EachRuleHolds}
use Rattle.model.proofs.Machine.Inside.{Fits, Inside, With, tokens-inside, cells-inside, inside-sweep}
use Rattle.model.proofs.Machine.TableRows.{live_inside}

live-active : (cs : List Cell) (t : Token) → not_under_set cs t ≡ true → is_live t.state ≡ true → is_active cs t ≡ true
unfolding not_under_set is_active
live-active cs t n e = go (is_live t.state) e n
  where
    under : Bool
    under = not (under_set cs t.cell)

    go :
        (b : Bool)
        → b ≡ true
        → elim b as (λ b. Bool) [ true ↦ under | false ↦ true ] ≡ true
        → elim b as (λ b. Bool) [ true ↦ under | false ↦ false ] ≡ true
    go true x y = y
    go false x y = x

-- a machine that keeps the rules is inside what it uses
module _ (m : Machine) where
  abbrev pub Used : ℕ → Type 0
  Used i = Marked (tokens_used m) i

  abbrev pub UsedCell : ℕ → Type 0
  UsedCell c = Marked (cells_used m) c

  abbrev pub InsideUsed : (Q R : ℕ → Type 0) → List Token → List Cell → Type 0
  InsideUsed Q R ts cs = Inside (length m.tokens) (length m.cells) Q R ts cs

  pub used-fits : (i : ℕ) → Used i → Fits Used UsedCell (token_at m.tokens i)
  used-fits i u =
      record {
        caller = (tokens-used m.tokens m.cells).caller i u;
        cells = (cells-used (tokens_used m) m.tokens m.cells (tokens-used m.tokens m.cells).size).named i u;
      }

  pub used-parent : (c : ℕ) → UsedCell c → Names UsedCell (cell_at m.cells c).parent
  used-parent c r = (cells-used (tokens_used m) m.tokens m.cells (tokens-used m.tokens m.cells).size).parent c r

  -- what is inside that, or one place more, has no more in use, or one more
  module _ (o : Machine) where
    pub tokens-size : length o.tokens ≡ length m.tokens → length (tokens_used o) ≡ length (tokens_used m)
    tokens-size e = (tokens-used o.tokens o.cells).size ∙ e ∙ sym (tokens-used m.tokens m.cells).size

    pub cells-size : length o.cells ≡ length m.cells → length (cells_used o) ≡ length (cells_used m)
    cells-size e =
        let before = (cells-used (tokens_used m) m.tokens m.cells (tokens-used m.tokens m.cells).size).size in
        let after = (cells-used (tokens_used o) o.tokens o.cells (tokens-used o.tokens o.cells).size).size in
        after ∙ e ∙ sym before

    tokens-same : {R : ℕ → Type 0} → InsideUsed Used R o.tokens o.cells → marked (tokens_used o) ≤ marked (tokens_used m)
    tokens-same h = marked-inside (tokens_used o) (tokens_used m) (tokens-size h.tokens) (tokens-inside h)

    tokens-one : {R : ℕ → Type 0} (q : ℕ) → InsideUsed (With Used q) R o.tokens o.cells
        → marked (tokens_used o) ≤ suc (marked (tokens_used m))
    tokens-one q h = marked-inside-one (tokens_used o) (tokens_used m) q (tokens-size h.tokens) (tokens-inside h)

    cells_same : {Q : ℕ → Type 0} → InsideUsed Q UsedCell o.tokens o.cells → marked (cells_used o) ≤ marked (cells_used m)
    cells_same h = marked-inside (cells_used o) (cells_used m) (cells-size h.cells) (cells-inside h)

    cells-one : {Q : ℕ → Type 0} (c : ℕ) → InsideUsed Q (With UsedCell c) o.tokens o.cells
        → marked (cells_used o) ≤ suc (marked (cells_used m))
    cells-one c h = marked-inside-one (cells_used o) (cells_used m) c (cells-size h.cells) (cells-inside h)

-- a record that keeps the rules: its live tokens are active, so in use
module _ (lim : Limits) (d : Dag) (m : Machine) (rules : EachRuleHolds lim d m) where
  pub lives-active : (i : ℕ) → is_live (token_at m.tokens i).state ≡ true → is_active m.cells (token_at m.tokens i) ≡ true
  unfolding token_at
  lives-active i e =
      live-active m.cells (token_at m.tokens i)
      (all-at (not_under_set m.cells) m.tokens i blank_token rules.under (live_inside m.tokens i e))
      e

  pub live-used : (i : ℕ) → is_live (token_at m.tokens i).state ≡ true → Used m i
  live-used i e = (tokens-used m.tokens m.cells).active i (lives-active i e)

  pub inside-old : InsideUsed m (Used m) (UsedCell m) m.tokens m.cells
  inside-old =
      record { tokens = refl; cells = refl; live = live-used; fits = λ i l u. used-fits m i u; parent = λ c l r. used-parent m c r }

-- a record within the limits: nothing new; a new token; a new token and a new cell
module _ (lim : Limits) (d : Dag) (m : Machine) (old : Within lim m) where
  pub none-new : (o : Machine) → InsideUsed m (Used m) (UsedCell m) o.tokens o.cells → Within lim (sweep o)
  none-new o h =
      let f = inside-sweep o h in
      let x = tokens-same m (sweep o) f in
      let y = cells_same m (sweep o) f in
      let z = old.0 in
      let w = old.1 in
      (omega arith, omega arith)

  pub token-new :
      (o : Machine) (q : ℕ)
      → has_token_place lim m ≡ true
      → InsideUsed m (With (Used m) q) (UsedCell m) o.tokens o.cells
      → Within lim (sweep o)
  unfolding has_token_place
  token-new o q t h =
      let f = inside-sweep o h in
      let x = tokens-one m (sweep o) q f in
      let y = cells_same m (sweep o) f in
      let z = ltb-lt (marked (tokens_used m)) lim.tokens t in
      let w = old.1 in
      (omega arith, omega arith)

  pub both-new :
      (o : Machine) (q c : ℕ)
      → has_token_place lim m ≡ true
      → has_cell_place lim m ≡ true
      → InsideUsed m (With (Used m) q) (With (UsedCell m) c) o.tokens o.cells
      → Within lim (sweep o)
  unfolding has_token_place has_cell_place
  both-new o q c t k h =
      let f = inside-sweep o h in
      let x = tokens-one m (sweep o) q f in
      let y = cells-one m (sweep o) c f in
      let z = ltb-lt (marked (tokens_used m)) lim.tokens t in
      let w = ltb-lt (marked (cells_used m)) lim.cells k in
      (omega arith, omega arith)
