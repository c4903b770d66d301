-- What only adds, or keeps a token's links, leaves a blanked record blanked, so blanking it again changes nothing: what was in use stays in
-- use, and what is written is in use. First what blank and clean mean, then the one law (`adds-clean`), then the writes of the
-- instructions. Assumes nothing.
use mathlib.Core.Path.{◌≡◌, refl, sym, ◌∙◌, ap, ap₂, subst, subst₂}
use mathlib.Core.Bool.{Bool, true, false, not}
use mathlib.Core.List.{List, [], ◌∷◌}
use Prim.Native.Nat.{ℕ, zero, suc, ◌<◌}
use native.Mathlib.Decide.{ℕ_discrete}
use native.Mathlib.Omega.{arith}
use lib.ListN.{length, get_or, set, replicate, length-set}
use lib.Seq.{get_or-set_other}
use Rattle.std.specs.Prelude.{Some, None}
use Rattle.job.specs.Test.{for_all}
use Rattle.job.specs.Node.{Dag}
use Rattle.model.specs.Machine.Limits.{Limits}
use Rattle.model.specs.Machine.Blank.{empty, blank_token, blank_cell, token_at, cell_at, slot_at, is_bound, has_value, is_place}
use Rattle.model.specs.Machine.State.{is_live}
use Rattle.model.specs.Machine.Blank.{token_is_blank, cell_is_blank}
use Rattle.model.specs.Machine.Active.{cell_is_set, under_set, is_active}
use Rattle.model.specs.Machine.InUse.{tokens_used, cells_used, sweep}
use Rattle.model.specs.Machine.Rules.{token_in_range, rest_is_blank, rules_hold}
use Rattle.model.specs.Machine.Update.{with_tables}
use Rattle.model.specs.declared.token.Slot.{Slot}
use Rattle.model.specs.declared.token.Slot.TheVariants as slots
use Rattle.model.specs.Machine.Held.{Held, Place}
use Rattle.model.specs.declared.token.Token.{Token}
use Rattle.model.specs.declared.cell.Cell.{Cell}
use Rattle.model.specs.declared.record.Machine.{Machine}
use Rattle.job.proofs.Test.{clash, false_of, eqb-eq, and_left, and_right, all-at, all_head, all_tail}
use Rattle.model.proofs.Machine.Marks.{Marked, Free, free-inside}
use Rattle.model.proofs.Machine.Reach.{names-nowhere}
use Rattle.model.proofs.Machine.Blanking.{kept_whole, state-blank}
use Rattle.model.proofs.Machine.Rules.{EachRuleHolds, each-rule-holds}
use Rattle.model.proofs.Machine.Inside.{Fits, live-active, active-live}
use Rattle.model.proofs.Machine.Used.{Used, UsedCell, used-fits, used-parent, lives-active, live-used}
use Rattle.model.proofs.Run.Chain.{unset_cell, blank-cell-clear, new-cell-clear}
use Rattle.model.proofs.Keeps.Clean.{along-callers, along-parents, Clean, tokens_of, cells_of}
use Rattle.model.proofs.Machine.TableRows.{token-same, token-other, live_inside}

-- blanking changes nothing
pub clean-whole : (o : Machine) → Clean o → sweep o ≡ o
unfolding sweep with_tables token_at cell_at
clean-whole o c =
    ap₂ (λ ts cs. with_tables ts cs o)
    (kept_whole blank_token (tokens_used o) o.tokens (tokens_of o).size c.tokens)
    (kept_whole blank_cell (cells_used o) o.cells (cells_of o).size c.cells)

-- what passes the test is the blank record
nowhere : (q : Place) → not (is_place q) ≡ true → q ≡ None
unfolding is_place
nowhere None e = refl
nowhere (Some i) e = clash e refl

nothing : (v : Held) → not (has_value v) ≡ true → v ≡ None
unfolding has_value
nothing None e = refl
nothing (Some v) e = clash e refl

slot-empty : (s : Slot) → not (is_bound s) ≡ true → s ≡ slots.Empty
unfolding is_bound
slot-empty slots.Empty e = refl
slot-empty (slots.Value v) e = clash e refl
slot-empty (slots.Cell c) e = clash e refl

binds_empty : (bs : List Slot) → for_all (λ (b : Slot). not (is_bound b)) bs ≡ true → bs ≡ replicate (length bs) empty
binds_empty [] e = refl
binds_empty (b ∷ bs) e =
    ap₂ ◌∷◌ (slot-empty b (all_head _ b bs e))
    (binds_empty bs (all_tail _ b bs e))

token-blank : (t : Token) → length t.binds ≡ 8 → token_is_blank t ≡ true → t ≡ blank_token
unfolding token_is_blank
token-blank t l e =
    let node = and_right _ _ e in
    let binds = and_right _ _ node in
    let value = and_right _ _ binds in
    let caller = and_right _ _ value in
    let state = state-blank _ (and_left _ _ e) in
    let zeroth = eqb-eq _ _ (and_left _ _ node) in
    let none = binds_empty _ (and_left _ _ binds) ∙ ap (λ n. replicate n empty) l in
    let held = nothing _ (and_left _ _ value) in
    let top = nowhere _ (and_left _ _ caller) in
    let root = nowhere _ (and_right _ _ caller) in
    λ i. record { node = zeroth i; binds = none i; value = held i; caller = top i; cell = root i; state = state i }

cell-blank : (k : Cell) → cell_is_blank k ≡ true → k ≡ blank_cell
unfolding cell_is_blank
cell-blank k e =
    let parent = nowhere _ (and_left _ _ e) in
    let value = nothing _ (and_right _ _ e) in
    λ i. record { parent = parent i; value = value i }

blank-rest : {A : Type 0} (test : A → Bool) (marks : List Bool) (xs : List A) (b : A) (i : ℕ)
    → rest_is_blank test marks xs ≡ true → i < length xs → Free marks i → test (get_or xs i b) ≡ true
unfolding rest_is_blank
blank-rest test marks [] b i e l f = absurd (omega arith)
blank-rest test [] (x ∷ xs) b i e l f = clash refl f
blank-rest test (true ∷ marks) (x ∷ xs) b zero e l f = clash refl f
blank-rest test (false ∷ marks) (x ∷ xs) b zero e l f = and_left _ _ e
blank-rest test (true ∷ marks) (x ∷ xs) b (suc i) e l f = blank-rest test marks xs b i e (omega arith) f
blank-rest test (false ∷ marks) (x ∷ xs) b (suc i) e l f = blank-rest test marks xs b i (and_right _ _ e) (omega arith) f

-- "what is not in use is blank"
pub rules-clean : (lim : Limits) (d : Dag) (m : Machine) → rules_hold lim d m ≡ true → Clean m
unfolding token_at cell_at
rules-clean lim d m holds = record { tokens = tokens; cells = cells }
  where
    rules : EachRuleHolds lim d m
    rules = each-rule-holds lim d m holds

    eight : (p : ℕ) → p < length m.tokens → length (get_or m.tokens p blank_token).binds ≡ 8
    eight p l =
        unfold token_in_range in
        eqb-eq _ _ (and_left _ _ (and_right _ _ (all-at (token_in_range lim d m.calls) m.tokens p blank_token rules.tokens l)))

    tokens : (p : ℕ) → Free (tokens_used m) p → get_or m.tokens p blank_token ≡ blank_token
    tokens p e =
        let l : p < length m.tokens = omega (arith, free-inside (tokens_used m) p e, (tokens_of m).size) in
        token-blank _ (eight p l) (blank-rest token_is_blank (tokens_used m) m.tokens blank_token p rules.blank_tokens l e)

    cells : (c : ℕ) → Free (cells_used m) c → get_or m.cells c blank_cell ≡ blank_cell
    cells c e =
        let l : c < length m.cells = omega (arith, free-inside (cells_used m) c e, (cells_of m).size) in
        cell-blank _ (blank-rest cell_is_blank (cells_used m) m.cells blank_cell c rules.blank_cells l e)

-- an active token is under no set cell
pub active-clear : (cs : List Cell) (t : Token) → is_active cs t ≡ true → under_set cs t.cell ≡ false
unfolding is_active
active-clear cs t e = go (is_live t.state) e (under_set cs t.cell) refl
  where
    go : (a : Bool) → elim a as (λ a. Bool) [ true ↦ not (under_set cs t.cell) | false ↦ false ] ≡ true
        → (b : Bool) → under_set cs t.cell ≡ b → b ≡ false
    go true x true y = clash x (ap not y)
    go false x true y = clash x refl
    go a x false y = refl

pub clear-used : (o : Machine) (i : ℕ) (u : Token) → token_at o.tokens i ≡ u → is_live u.state ≡ true
    → under_set o.cells u.cell ≡ false → Used o i
clear-used o i u e live clear = (tokens_of o).active i (ap (is_active o.cells) e ∙ live-active o.cells u live clear)

-- what stands at i is as it was, or i was free and is in use
pub data AsBefore {A : Type 0} (new old : A) (were are : List Bool) (i : ℕ) : Type 0 where
  same : new ≡ old → AsBefore new old were are i
  written : Free were i → Marked are i → AsBefore new old were are i

module _ {A : Type 0} {new old : A} {were are : List Bool} {i : ℕ} where
  used-same : AsBefore new old were are i → Marked were i → new ≡ old
  used-same (same e) m = e
  used-same (written f u) m = clash m f

  free-same : AsBefore new old were are i → Free are i → new ≡ old
  free-same (same e) f = e
  free-same (written g u) f = clash u f

after_write : {A : Type 0} {were are : List Bool} (xs : List A) (q : ℕ) (x blank : A) → Free were q → Marked are q
    → (i : ℕ) → AsBefore (get_or (set xs q x) i blank) (get_or xs i blank) were are i
after_write {A} {were} {are} xs q x blank free used i = go (ℕ_discrete i q)
  where
    go : Dec (i ≡ q) → AsBefore (get_or (set xs q x) i blank) (get_or xs i blank) were are i
    go (yes e) = written (subst (Free were) (sym e) free) (subst (Marked are) (sym e) used)
    go (no n) = same (get_or-set_other xs q i x blank n)

-- The record o has what m has, but for the row of the token at p and for rows that were free
pub record Adds (m o : Machine) (p : ℕ) : Type 0 where
  pub tokens : length o.tokens ≡ length m.tokens
  pub cells : length o.cells ≡ length m.cells
  pub row : (i : ℕ) → (i ≡ p → ⊥) → AsBefore (token_at o.tokens i) (token_at m.tokens i) (tokens_used m) (tokens_used o) i
  pub cell : (c : ℕ) → AsBefore (cell_at o.cells c) (cell_at m.cells c) (cells_used m) (cells_used o) c
  -- no chain of cells comes under a set cell
  pub clear : (q : Place) → under_set m.cells q ≡ false → under_set o.cells q ≡ false
  -- the row of p is blank or in use, and what its token named is in use
  pub acting : Free (tokens_used o) p → token_at o.tokens p ≡ blank_token
  pub names : Fits (Used o) (UsedCell o) (token_at m.tokens p)

module _ {m o : Machine} {p : ℕ} (a : Adds m o p) where
  row_stays : (i : ℕ) → Used m i → (i ≡ p → ⊥) → token_at o.tokens i ≡ token_at m.tokens i
  row_stays i u n = used-same (a.row i n) u

  active-used : (i : ℕ) → is_active m.cells (token_at m.tokens i) ≡ true → (i ≡ p → ⊥) → Used o i
  active-used i e n =
      let t = token_at m.tokens i in
      clear-used o i t (row_stays i ((tokens_of m).active i e) n) (active-live m.cells t e)
      (a.clear t.cell (active-clear m.cells t e))

  -- what a token in use named
  names-used : (i : ℕ) → Used m i → ((i ≡ p → ⊥) → Used o i) → Fits (Used o) (UsedCell o) (token_at m.tokens i)
  names-used i u w = go (ℕ_discrete i p)
    where
      go : Dec (i ≡ p) → Fits (Used o) (UsedCell o) (token_at m.tokens i)
      go (yes f) = subst (λ j. Fits (Used o) (UsedCell o) (token_at m.tokens j)) (sym f) a.names
      go (no n) = subst (Fits (Used o) (UsedCell o)) (row_stays i u n) (used-fits o i (w n))

  -- what was in use stays in use
  pub token-stays : (i : ℕ) → i < length m.tokens → Used m i → (i ≡ p → ⊥) → Used o i
  token-stays = along-callers m (λ i. (i ≡ p → ⊥) → Used o i) active-used (λ i u w j e n. (names-used i u w).caller j e)

  pub cell_stays : (c : ℕ) → c < length m.cells → UsedCell m c → UsedCell o c
  cell_stays =
      along-parents m (UsedCell o) (λ i l u. (names-used i u (token-stays i l u)).cells)
      (λ c u v j e. used-parent o c v j (ap (λ (k : Cell). k.parent) (used-same (a.cell c) u) ∙ e))

  was_free : (i : ℕ) → (i ≡ p → ⊥) → Free (tokens_used o) i → Free (tokens_used m) i
  was_free i n e =
      let z = a.tokens in
      let l : i < length m.tokens = omega (arith, free-inside (tokens_used o) i e, (tokens_of o).size) in
      false_of _ (λ u. clash (token-stays i l u n) e)

  was-vacant : (c : ℕ) → Free (cells_used o) c → Free (cells_used m) c
  was-vacant c e =
      let z = a.cells in
      let l : c < length m.cells = omega (arith, free-inside (cells_used o) c e, (cells_of o).size) in
      false_of _ (λ u. clash (cell_stays c l u) e)

  pub adds-clean : Clean m → Clean o
  adds-clean was =
      record {
        tokens = λ i e. token i e (ℕ_discrete i p);
        cells = λ c e. free-same (a.cell c) e ∙ was.cells c (was-vacant c e);
      }
    where
      token : (i : ℕ) → Free (tokens_used o) i → Dec (i ≡ p) → token_at o.tokens i ≡ blank_token
      token i e (yes f) = ap (token_at o.tokens) f ∙ a.acting (subst (Free (tokens_used o)) f e)
      token i e (no n) = free-same (a.row i n) e ∙ was.tokens i (was_free i n e)

-- The writes. The record m keeps the rules, and the token t at p is live
module _ (lim : Limits) (d : Dag) (m : Machine) (holds : rules_hold lim d m ≡ true) (p : ℕ)
    (live : is_live (token_at m.tokens p).state ≡ true) where
  abbrev t : Token
  t = token_at m.tokens p

  rules : EachRuleHolds lim d m
  rules = each-rule-holds lim d m holds

  inside : p < length m.tokens
  inside = live_inside m.tokens p live

  in_use : Used m p
  in_use = live-used lim d m rules p live

  under_none : under_set m.cells t.cell ≡ false
  under_none = active-clear m.cells t (lives-active lim d m rules p live)

  -- a token that has t's links, and may have others
  links : (o : Machine) (u : Token) → token_at o.tokens p ≡ u → Used o p → u.caller ≡ t.caller → u.cell ≡ t.cell
      → ((x c : ℕ) → slot_at t.binds x ≡ slots.Cell c → slot_at u.binds x ≡ slots.Cell c) → Fits (Used o) (UsedCell o) t
  links o u here used caller cell binds =
      let named = subst (Fits (Used o) (UsedCell o)) here (used-fits o p used) in
      record {
        caller = λ i e. named.caller i (caller ∙ e);
        cells = record { cell = λ c e. named.cells.cell c (cell ∙ e); binds = λ x c e. named.cells.binds x c (binds x c e) };
      }

  -- the same cells
  module _ (o : Machine) (cells : o.cells ≡ m.cells) where
    same-clear : (q : Place) → under_set m.cells q ≡ false → under_set o.cells q ≡ false
    same-clear q e = subst (λ cs. under_set cs q ≡ false) (sym cells) e

    same-cell : (c : ℕ) → AsBefore (cell_at o.cells c) (cell_at m.cells c) (cells_used m) (cells_used o) c
    same-cell c = same (ap (λ cs. cell_at cs c) cells)

  -- only the row of the token is written
  module _ (o : Machine) (u : Token) (tokens : o.tokens ≡ set m.tokens p u) (cells : o.cells ≡ m.cells) where
    one-here : token_at o.tokens p ≡ u
    one-here = ap (λ ts. token_at ts p) tokens ∙ token-same m.tokens p u inside

    one-adds : (Free (tokens_used o) p → token_at o.tokens p ≡ blank_token) → Fits (Used o) (UsedCell o) t → Adds m o p
    one-adds acting names =
        record {
          tokens = ap length tokens ∙ length-set m.tokens p u;
          cells = ap length cells;
          row = λ i n. same (ap (λ ts. token_at ts i) tokens ∙ token-other m.tokens p i u n);
          cell = same-cell o cells;
          clear = same-clear o cells;
          acting = acting;
          names = names;
        }

    -- the token goes on, and names what it named
    pub keep-adds : is_live u.state ≡ true → u.caller ≡ t.caller → u.cell ≡ t.cell
        → ((x c : ℕ) → slot_at t.binds x ≡ slots.Cell c → slot_at u.binds x ≡ slots.Cell c) → Adds m o p × Used o p
    keep-adds alive caller cell binds =
        (one-adds (λ f. clash used f) (links o u one-here used caller cell binds), used)
      where
        used : Used o p
        used = clear-used o p u one-here alive (same-clear o cells u.cell (ap (under_set m.cells) cell ∙ under_none))

    -- stop, publish: a token that named nothing is blank
    pub end-adds : u ≡ blank_token → t.caller ≡ None → t.cell ≡ None
        → ((x c : ℕ) → slot_at t.binds x ≡ slots.Cell c → ⊥) → Adds m o p
    end-adds blank caller cell binds =
        one-adds (λ f. one-here ∙ blank)
        (record {
          caller = rw caller (names-nowhere (Used o));
          cells = record { cell = rw cell (names-nowhere (UsedCell o)); binds = λ x c e. absurd (binds x c e) };
        })

  -- a new token v at a free place q
  module _ (o : Machine) (q : ℕ) (u v : Token) (tokens : o.tokens ≡ set (set m.tokens p u) q v) (free : Free (tokens_used m) q) where
    apart : p ≡ q → ⊥
    apart e = clash in_use (ap (λ i. get_or (tokens_used m) i true) e ∙ free)

    two_size : length o.tokens ≡ length m.tokens
    two_size = ap length tokens ∙ (length-set (set m.tokens p u) q v ∙ length-set m.tokens p u)

    first : token_at o.tokens p ≡ u
    first = ap (λ ts. token_at ts p) tokens ∙ (token-other (set m.tokens p u) q p v apart ∙ token-same m.tokens p u inside)

    second : token_at o.tokens q ≡ v
    second =
        let l : q < length (set m.tokens p u) =
        omega (arith, free-inside (tokens_used m) q free, (tokens_of m).size, length-set m.tokens p u) in
        ap (λ ts. token_at ts q) tokens ∙ token-same (set m.tokens p u) q v l

    two-row : Used o q → (i : ℕ) → (i ≡ p → ⊥) → AsBefore (token_at o.tokens i) (token_at m.tokens i) (tokens_used m) (tokens_used o) i
    unfolding token_at
    two-row used i n =
        subst₂ (λ new old. AsBefore new old (tokens_used m) (tokens_used o) i)
        (sym (ap (λ ts. token_at ts i) tokens))
        (token-other m.tokens p i u n)
        (after_write (set m.tokens p u) q v blank_token free used i)

    -- the cells are the same, and v is in t's cell
    module _ (cells : o.cells ≡ m.cells) (alive : is_live v.state ≡ true) (in-same-cell : v.cell ≡ t.cell) where
      clear-here : (w : Token) → w.cell ≡ t.cell → under_set o.cells w.cell ≡ false
      clear-here w e = same-clear o cells w.cell (ap (under_set m.cells) e ∙ under_none)

      new-used : Used o q
      new-used = clear-used o q v second alive (clear-here v in-same-cell)

      new-adds : Used o p → u.caller ≡ t.caller → u.cell ≡ t.cell → u.binds ≡ t.binds → Adds m o p × (Used o p × Used o q)
      new-adds used caller cell binds = (
        record {
          tokens = two_size;
          cells = ap length cells;
          row = two-row new-used;
          cell = same-cell o cells;
          clear = same-clear o cells;
          acting = λ f. clash used f;
          names = links o u first used caller cell (λ x c e. ap (λ bs. slot_at bs x) binds ∙ e);
        },
        (used, new-used),
      )

      -- fork: the token stays live
      pub fork-adds : is_live u.state ≡ true → u.caller ≡ t.caller → u.cell ≡ t.cell → u.binds ≡ t.binds
          → Adds m o p × (Used o p × Used o q)
      fork-adds lives caller cell binds = new-adds (clear-used o p u first lives (clear-here u cell)) caller cell binds

      -- definition call: the token, in any state, is the new one's caller
      pub call-adds : v.caller ≡ Some p → u.caller ≡ t.caller → u.cell ≡ t.cell → u.binds ≡ t.binds
          → Adds m o p × (Used o p × Used o q)
      call-adds calls caller cell binds =
          new-adds ((tokens_of o).caller q new-used p (ap (λ (w : Token). w.caller) second ∙ calls)) caller cell binds

    -- where: v is in the new cell k at c, below t's; it has t's other links, and the token keeps t's cell
    module _
        (c : ℕ) (k : Cell) (cells : o.cells ≡ set m.cells c k) (vacant : Free (cells_used m) c) (parent : k.parent ≡ t.cell)
        (unset : cell_is_set k ≡ false)
      where
        clear-still : (r : Place) → under_set m.cells r ≡ false → under_set o.cells r ≡ false
        clear-still r e =
            subst (λ cs. under_set cs r ≡ false) (sym (cells ∙ ap (set m.cells c) below))
            (new-cell-clear m.cells c t.cell r e under_none)
          where
            below : k ≡ unset_cell t.cell
            below = unfold cell_is_set in let value = nothing k.value (ap not unset) in λ i. record { parent = parent i; value = value i }

        new_row : UsedCell o c → (b : ℕ) → AsBefore (cell_at o.cells b) (cell_at m.cells b) (cells_used m) (cells_used o) b
        unfolding cell_at
        new_row used b =
            subst (λ cs. AsBefore (cell_at cs b) (cell_at m.cells b) (cells_used m) (cells_used o) b) (sym cells)
            (after_write m.cells c k blank_cell vacant used b)

        pub split-adds : is_live u.state ≡ true → u.cell ≡ t.cell
            → is_live v.state ≡ true → v.caller ≡ t.caller → v.cell ≡ Some c → v.binds ≡ t.binds
            → Adds m o p × (Used o p × (Used o q × UsedCell o c))
        split-adds lives cell alive caller under binds = (
          record {
            tokens = two_size;
            cells = ap length cells ∙ length-set m.cells c k;
            row = two-row right;
            cell = new_row (right-names.cells.cell c under);
            clear = clear-still;
            acting = λ f. clash left f;
            names =
                record {
                  caller = λ i e. right-names.caller i (caller ∙ e);
                  cells =
                      record {
                        cell = λ i e. left-names.cells.cell i (cell ∙ e);
                        binds = λ x i e. right-names.cells.binds x i (ap (λ bs. slot_at bs x) binds ∙ e);
                      };
                };
          },
          (left, (right, right-names.cells.cell c under)),
        )
          where
            left : Used o p
            left = clear-used o p u first lives (clear-still u.cell (ap (under_set m.cells) cell ∙ under_none))

            was : under_set m.cells (Some c) ≡ false
            was = blank-cell-clear m.cells c ((rules-clean lim d m holds).cells c vacant)

            right : Used o q
            right = clear-used o q v second alive (clear-still v.cell (ap (under_set m.cells) under ∙ was))

            left-names : Fits (Used o) (UsedCell o) u
            left-names = subst (Fits (Used o) (UsedCell o)) first (used-fits o p left)

            right-names : Fits (Used o) (UsedCell o) v
            right-names = subst (Fits (Used o) (UsedCell o)) second (used-fits o q right)
