-- "What is not in use is blank": blanking makes it so, since what was in use stays in use. The tokens in use name the same cells and
-- callers as before, and a token stays active because the cells above it are in use. Assumes nothing.
use mathlib.Core.Path.{◌≡◌, refl, sym, ◌∙◌, ap, subst}
use mathlib.Core.Bool.{Bool, true, false, not}
use mathlib.Core.List.{List, [], ◌∷◌}
use Prim.Native.Nat.{ℕ, zero, suc, ◌<◌}
use native.Mathlib.Decide.{ℕ_discrete}
use native.Mathlib.Omega.{arith}
use lib.ListN.{length, get_or, replicate}
use Rattle.std.specs.Prelude.{Some, None}
use Rattle.job.specs.Test.{◌and◌, for_all}
use Rattle.model.specs.Machine.Limits.{Limits}
use Rattle.model.specs.Machine.Blank.{blank_token, blank_cell, token_at, cell_at, is_bound}
use Rattle.model.specs.Machine.Blank.{has_value, is_place, token_is_blank, cell_is_blank}
use Rattle.model.specs.Machine.State.{is_blank_state, is_live}
use Rattle.model.specs.Machine.Active.{cell_is_set, upward, under_set, is_active}
use Rattle.model.specs.Machine.InUse.{tokens_used, cells_used, sweep}
use Rattle.model.specs.Machine.Rules.{rest_is_blank}
use Rattle.model.specs.Machine.Start.{start_token, start_machine}
use Rattle.model.specs.Machine.Held.{Place}
use Rattle.model.specs.declared.token.Token.{Token}
use Rattle.model.specs.declared.cell.Cell.{Cell}
use Rattle.model.specs.declared.record.Machine.{Machine}
use Rattle.job.proofs.Test.{clash, false_of, and_both}
use Rattle.model.proofs.Machine.Marks.{Marked, Free, free-inside, marks-same}
use Rattle.model.proofs.Machine.Reach.{Names}
use Rattle.model.proofs.Machine.InUse.{CellsIn, TokensUsed, CellsUsed, tokens-used, cells-used, blank-inactive}
use Rattle.model.proofs.Machine.Blanking.{length-kept, kept-marked, kept_free}
use Rattle.model.proofs.Machine.Used.{Used, UsedCell, used-fits, used-parent}
use Rattle.job.proofs.Lists.{replicate-at}
use Rattle.model.proofs.Machine.TableRows.{token-other}

pub record Clean (m : Machine) : Type 0 where
  pub tokens : (p : ℕ) → Free (tokens_used m) p → token_at m.tokens p ≡ blank_token
  pub cells : (c : ℕ) → Free (cells_used m) c → cell_at m.cells c ≡ blank_cell

-- as the rules have it
rest-blank : {A : Type 0} (test : A → Bool) (marks : List Bool) (xs : List A) (b : A) → length marks ≡ length xs
    → ((i : ℕ) → Free marks i → test (get_or xs i b) ≡ true) → rest_is_blank test marks xs ≡ true
unfolding rest_is_blank
rest-blank test marks [] b l h = refl
rest-blank test [] (x ∷ xs) b l h = absurd (omega arith)
rest-blank test (true ∷ marks) (x ∷ xs) b l h = rest-blank test marks xs b (omega arith) (λ i e. h (suc i) e)
rest-blank test (false ∷ marks) (x ∷ xs) b l h = and_both (h 0 refl) (rest-blank test marks xs b (omega arith) (λ i e. h (suc i) e))

blank-token : token_is_blank blank_token ≡ true
unfolding token_is_blank is_blank_state for_all is_bound has_value is_place ◌and◌
blank-token = refl

blank-cell : cell_is_blank blank_cell ≡ true
unfolding cell_is_blank has_value is_place ◌and◌
blank-cell = refl

module _ (m : Machine) where
  pub tokens_of : TokensUsed m.tokens m.cells (tokens_used m)
  tokens_of = tokens-used m.tokens m.cells

  pub cells_of : CellsUsed (tokens_used m) m.tokens m.cells (cells_used m)
  cells_of = cells-used (tokens_used m) m.tokens m.cells (tokens-used m.tokens m.cells).size

  -- what holds of the active tokens and goes from each token in use to its caller holds of every token in use; of cells likewise
  pub along-callers : (Q : ℕ → Type 0) → ((i : ℕ) → is_active m.cells (token_at m.tokens i) ≡ true → Q i)
      → ((i : ℕ) → Used m i → Q i → Names Q (token_at m.tokens i).caller) → (i : ℕ) → i < length m.tokens → Used m i → Q i
  along-callers Q first next i l u =
      (tokens_of.least (λ j. Used m j × Q j)
      (λ j e. (tokens_of.active j e, first j e))
      (λ j k b c e. (tokens_of.caller j b.0 c e, next j b.0 b.1 c e))
      i l u).1

  pub along-parents : (Q : ℕ → Type 0) → ((i : ℕ) → i < length m.tokens → Used m i → CellsIn Q (token_at m.tokens i))
      → ((c : ℕ) → UsedCell m c → Q c → Names Q (cell_at m.cells c).parent) → (c : ℕ) → c < length m.cells → UsedCell m c → Q c
  along-parents Q first next c l u =
      (cells_of.least (λ b. UsedCell m b × Q b)
      (λ i k w.
      let here = cells_of.named i w in
      let there = first i k w in
      record { cell = λ b e. (here.cell b e, there.cell b e); binds = λ x b e. (here.binds x b e, there.binds x b e) })
      (λ b k x j e. (cells_of.parent b x.0 j e, next b x.0 x.1 j e))
      c l u).1

  pub clean-tokens : Clean m → rest_is_blank token_is_blank (tokens_used m) m.tokens ≡ true
  unfolding token_at
  clean-tokens c =
      rest-blank token_is_blank (tokens_used m) m.tokens blank_token tokens_of.size (λ i e. ap token_is_blank (c.tokens i e) ∙ blank-token)

  pub clean-cells : Clean m → rest_is_blank cell_is_blank (cells_used m) m.cells ≡ true
  unfolding cell_at
  clean-cells c =
      rest-blank cell_is_blank (cells_used m) m.cells blank_cell cells_of.size
      (λ i e. ap cell_is_blank (c.cells i e) ∙ blank-cell)

true_of_not : (b : Bool) → (b ≡ false → b ≡ true) → b ≡ true
true_of_not true f = refl
true_of_not false f = f refl

module _ (m : Machine) where
  abbrev then : Machine
  then = sweep m

  token-stays : (i : ℕ) → Used m i → token_at then.tokens i ≡ token_at m.tokens i
  unfolding sweep token_at
  token-stays i u = kept-marked blank_token (tokens_used m) m.tokens i (tokens_of m).size u

  cell_stays : (c : ℕ) → UsedCell m c → cell_at then.cells c ≡ cell_at m.cells c
  unfolding sweep cell_at
  cell_stays c u = kept-marked blank_cell (cells_used m) m.cells c (cells_of m).size u

  -- what is above a place in use
  upward-stays : (test : ℕ → Cell → Bool) (n : ℕ) (q : Place) → Names (UsedCell m) q
      → upward test then.cells n q ≡ upward test m.cells n q
  unfolding upward
  upward-stays test zero q h = refl
  upward-stays test (suc n) None h = refl
  upward-stays test (suc n) (Some c) h =
      ap (λ k. looks k (upward test then.cells n k.parent)) (cell_stays c (h c refl))
      ∙ ap (looks (cell_at m.cells c)) (upward-stays test n (cell_at m.cells c).parent (used-parent m c (h c refl)))
    where
      looks : Cell → Bool → Bool
      looks k b = elim (test c k) [ true ↦ true | false ↦ b ]

  under_stays : (q : Place) → Names (UsedCell m) q → under_set then.cells q ≡ under_set m.cells q
  unfolding sweep under_set
  under_stays q h =
      ap (λ n. upward (λ c k. cell_is_set k) then.cells n q) (length-kept blank_cell (cells_used m) m.cells)
      ∙ upward-stays (λ c k. cell_is_set k) (length m.cells) q h

  active-stays : (i : ℕ) → Used m i → is_active m.cells (token_at m.tokens i) ≡ true
      → is_active then.cells (token_at then.tokens i) ≡ true
  active-stays i u e = ap (is_active then.cells) (token-stays i u) ∙ (same (token_at m.tokens i) (used-fits m i u).cells.cell ∙ e)
    where
      same : (t : Token) → Names (UsedCell m) t.cell → is_active then.cells t ≡ is_active m.cells t
      same t h = unfold is_active in ap (λ b. elim (is_live t.state) [ true ↦ not b | false ↦ false ]) (under_stays t.cell h)

  tokens-stay : (i : ℕ) → i < length m.tokens → Used m i → Used then i
  tokens-stay =
      along-callers m (Used then)
      (λ i e. (tokens_of then).active i (active-stays i ((tokens_of m).active i e) e))
      (λ i u v j e. (tokens_of then).caller i v j (ap (λ (t : Token). t.caller) (token-stays i u) ∙ e))

  cells_stay : (c : ℕ) → c < length m.cells → UsedCell m c → UsedCell then c
  cells_stay =
      along-parents m (UsedCell then)
      (λ i l u. subst (CellsIn (UsedCell then)) (token-stays i u) ((cells_of then).named i (tokens-stay i l u)))
      (λ c u v j e. (cells_of then).parent c v j (ap (λ (k : Cell). k.parent) (cell_stays c u) ∙ e))

  -- "The rest is blank after each accepted call"
  pub sweep-clean : Clean (sweep m)
  unfolding sweep token_at cell_at
  sweep-clean =
      record {
        tokens =
            λ p e.
            let l = free-inside (tokens_used then) p e in
            let s = (tokens_of then).size in
            let k = length-kept blank_token (tokens_used m) m.tokens in
            kept_free blank_token (tokens_used m) m.tokens p (false_of _ (λ u. clash (tokens-stay p (omega arith) u) e));
        cells =
            λ c e.
            let l = free-inside (cells_used then) c e in
            let s = (cells_of then).size in
            let k = length-kept blank_cell (cells_used m) m.cells in
            kept_free blank_cell (cells_used m) m.cells c (false_of _ (λ u. clash (cells_stay c (omega arith) u) e));
      }

  -- what is in use afterwards was in use before, as what is active afterwards was not made blank
  active-was : (i : ℕ) → is_active then.cells (token_at then.tokens i) ≡ true → Used m i
  unfolding sweep token_at
  active-was i e =
      true_of_not _
      (λ f. clash e (ap (is_active then.cells) (kept_free blank_token (tokens_used m) m.tokens i f) ∙ blank-inactive then.cells))

  tokens-were : (i : ℕ) → i < length then.tokens → Used (sweep m) i → Used m i
  tokens-were =
      (tokens_of then).least (Used m) active-was
      (λ i l u. subst (λ (t : Token). Names (Used m) t.caller) (sym (token-stays i u)) ((tokens_of m).caller i u))

  cells-were : (c : ℕ) → c < length then.cells → UsedCell (sweep m) c → UsedCell m c
  cells-were =
      (cells_of then).least (UsedCell m)
      (λ i l u. let v = tokens-were i l u in subst (CellsIn (UsedCell m)) (sym (token-stays i v)) ((cells_of m).named i v))
      (λ c l u. subst (λ (k : Cell). Names (UsedCell m) k.parent) (sym (cell_stays c u)) ((cells_of m).parent c u))

  -- blanking changes nothing of what is in use
  pub sweep-tokens : tokens_used (sweep m) ≡ tokens_used m
  unfolding sweep
  sweep-tokens =
      let k = length-kept blank_token (tokens_used m) m.tokens in
      let a = (tokens_of then).size in
      let b = (tokens_of m).size in
      marks-same (tokens_used then) (tokens_used m) (omega arith) (λ i l u. tokens-were i (omega arith) u)
      (λ i l u. tokens-stay i (omega arith) u)

  pub sweep-cells : cells_used (sweep m) ≡ cells_used m
  unfolding sweep
  sweep-cells =
      let k = length-kept blank_cell (cells_used m) m.cells in
      let a = (cells_of then).size in
      let b = (cells_of m).size in
      marks-same (cells_used then) (cells_used m) (omega arith) (λ c l u. cells-were c (omega arith) u)
      (λ c l u. cells_stay c (omega arith) u)

-- the start, whose token is in use
pub start-clean : (lim : Limits) (goal : ℕ) → Marked (tokens_used (start_machine lim goal)) 0 → Clean (start_machine lim goal)
unfolding token_at cell_at
start-clean lim goal u = record { tokens = λ p e. go p e (ℕ_discrete p 0); cells = λ c e. replicate-at lim.cell_places c blank_cell }
  where
    m : Machine
    m = start_machine lim goal

    go : (p : ℕ) → Free (tokens_used m) p → Dec (p ≡ 0) → get_or m.tokens p blank_token ≡ blank_token
    go p e (yes f) = clash (subst (Marked (tokens_used m)) (sym f) u) e
    go p e (no n) = token-other (replicate lim.token_places blank_token) 0 p (start_token goal) n
        ∙ replicate-at lim.token_places p blank_token
