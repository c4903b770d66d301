-- A record whose tokens have the links that they had, and are live where they were, has the same tokens and cells in use: what is in use is
-- reached by these links alone, so each record's marks are among the other's. Assumes nothing.
use mathlib.Core.Path.{◌≡◌, sym, ◌∙◌, ap}
use mathlib.Core.Bool.{not, true, false}
use Prim.Native.Nat.{ℕ, ◌<◌}
use native.Mathlib.Omega.{arith}
use lib.ListN.{length, get_or}
use Rattle.model.specs.Machine.Blank.{blank_token, token_at, cell_at, slot_at}
use Rattle.model.specs.Machine.State.{is_live}
use Rattle.model.specs.Machine.Active.{under_set, is_active}
use Rattle.model.specs.Machine.InUse.{tokens_used, cells_used}
use Rattle.model.specs.declared.token.Token.{Token}
use Rattle.model.specs.declared.record.Machine.{Machine}
use Rattle.model.proofs.Machine.Marks.{marks-same}
use Rattle.model.proofs.Machine.InUse.{CellsIn}
use Rattle.model.proofs.Machine.Used.{Used, UsedCell, tokens-size, cells-size}
use Rattle.model.proofs.Keeps.Clean.{along-callers, along-parents, Clean, tokens_of, cells_of}

pub record Linked (t u : Token) : Type 0 where
  pub live : is_live u.state ≡ is_live t.state
  pub caller : u.caller ≡ t.caller
  pub cell : u.cell ≡ t.cell
  pub binds : u.binds ≡ t.binds

back : {t u : Token} → Linked t u → Linked u t
back h = record { live = sym h.live; caller = sym h.caller; cell = sym h.cell; binds = sym h.binds }

pub record SameLinks (m o : Machine) : Type 0 where
  pub tokens : length o.tokens ≡ length m.tokens
  pub cells : o.cells ≡ m.cells
  pub row : (i : ℕ) → Linked (token_at m.tokens i) (token_at o.tokens i)

turned : {m o : Machine} → SameLinks m o → SameLinks o m
turned h = record { tokens = sym h.tokens; cells = sym h.cells; row = λ i. back (h.row i) }

module _ {m o : Machine} (h : SameLinks m o) where
  active-still : (i : ℕ) → is_active m.cells (token_at m.tokens i) ≡ true → is_active o.cells (token_at o.tokens i) ≡ true
  active-still i e = ap (λ cs. is_active cs (token_at o.tokens i)) h.cells ∙ (same (h.row i) ∙ e)
    where
      same : {t u : Token} → Linked t u → is_active m.cells u ≡ is_active m.cells t
      same {t} {u} l =
          unfold is_active in
          ap (λ b. elim b [ true ↦ not (under_set m.cells u.cell) | false ↦ false ]) l.live
          ∙ ap (λ c. elim (is_live t.state) [ true ↦ not (under_set m.cells c) | false ↦ false ]) l.cell

  token-still : (i : ℕ) → i < length m.tokens → Used m i → Used o i
  token-still =
      along-callers m (Used o) (λ i e. (tokens_of o).active i (active-still i e))
      (λ i u v j e. (tokens_of o).caller i v j ((h.row i).caller ∙ e))

  cell-still : (c : ℕ) → c < length m.cells → UsedCell m c → UsedCell o c
  cell-still =
      along-parents m (UsedCell o) (λ i l u. named i ((cells_of o).named i (token-still i l u)))
      (λ c u v j e. (cells_of o).parent c v j (ap (λ cs. (cell_at cs c).parent) h.cells ∙ e))
    where
      named : (i : ℕ) → CellsIn (UsedCell o) (token_at o.tokens i) → CellsIn (UsedCell o) (token_at m.tokens i)
      named i n =
          record {
            cell = λ c e. n.cell c ((h.row i).cell ∙ e);
            binds = λ x c e. n.binds x c (ap (λ bs. slot_at bs x) (h.row i).binds ∙ e);
          }

module _ {m o : Machine} (h : SameLinks m o) where
  pub links-tokens : tokens_used o ≡ tokens_used m
  links-tokens =
      let a = h.tokens in
      let b = (tokens_of m).size in
      let c = (tokens_of o).size in
      marks-same (tokens_used o) (tokens_used m) (tokens-size m o h.tokens)
      (λ i l u. token-still (turned h) i (omega arith) u)
      (λ i l u. token-still h i (omega arith) u)

  pub links-cells : cells_used o ≡ cells_used m
  links-cells =
      let a = ap length h.cells in
      let b = (cells_of m).size in
      let c = (cells_of o).size in
      marks-same (cells_used o) (cells_used m) (cells-size m o a)
      (λ i l u. cell-still (turned h) i (omega arith) u)
      (λ i l u. cell-still h i (omega arith) u)

  -- and blank tokens stay blank
  pub links-clean : ((i : ℕ) → token_at m.tokens i ≡ blank_token → token_at o.tokens i ≡ blank_token) → Clean m → Clean o
  links-clean blank was =
      record {
        tokens = λ i e. blank i (was.tokens i (ap (λ ms. get_or ms i true) (sym links-tokens) ∙ e));
        cells = λ c e. ap (λ cs. cell_at cs c) h.cells ∙ was.cells c (ap (λ ms. get_or ms c true) (sym links-cells) ∙ e);
      }
