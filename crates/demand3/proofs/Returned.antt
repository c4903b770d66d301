-- A return whose token binds no cell and is in its frame's cell: the token takes the frame's links, so all stays in use but, where no token
-- names it any more, the frame. Then only the frame's row is made blank. Assumes nothing.
use mathlib.Core.Path.{◌≡◌, refl, sym, ◌∙◌, ap, ap₂, subst, subst₂}
use mathlib.Core.Bool.{Bool, true, false}
use Prim.Native.Nat.{ℕ, ◌<◌}
use native.Mathlib.Decide.{ℕ_discrete, dec_lt}
use native.Mathlib.Omega.{arith}
use lib.ListN.{length, get_or, set, length-set}
use lib.Seq.{get_or-set_same, get_or-set_other, ext_get_or}
use Rattle.std.specs.Prelude.{Some, None}
use Rattle.job.specs.Node.{Dag}
use Rattle.model.specs.Machine.Limits.{Limits}
use Rattle.model.specs.Machine.Blank.{blank_token, blank_cell, token_at, cell_at, slot_at}
use Rattle.model.specs.Machine.Active.{under_set, is_active}
use Rattle.model.specs.Machine.State.{is_live}
use Rattle.model.specs.Machine.InUse.{tokens_used, cells_used, rest_blanked, sweep}
use Rattle.model.specs.Machine.Rules.{rules_hold}
use Rattle.model.specs.Machine.Update.{put, with_tables}
use Rattle.model.specs.Machine.Held.{Place}
use Rattle.model.specs.declared.token.Token.{Token}
use Rattle.model.specs.declared.record.Machine.{Machine}
use Rattle.job.proofs.Test.{never, clash}
use Rattle.model.proofs.Machine.Marks.{Free, marks-same, marks-removed}
use Rattle.model.proofs.Machine.InUse.{CellsIn}
use Rattle.model.proofs.Machine.Blanking.{length-kept, kept-marked, kept_free, kept_whole}
use Rattle.model.proofs.Machine.Rules.{EachRuleHolds, each-rule-holds}
use Rattle.model.proofs.Machine.Inside.{Fits, active-live, tokens-inside, cells-inside}
use Rattle.model.proofs.Machine.WrittenTokens.{fits-same}
use Rattle.model.proofs.Machine.Used.{Used, UsedCell, InsideUsed, used-fits, used-parent, tokens-size, cells-size, lives-active, live-used}
use Rattle.model.proofs.Machine.ActingInside.{write-inside}
use Rattle.model.proofs.Keeps.Clean.{along-callers, along-parents, Clean, tokens_of, cells_of}
use Rattle.demand3.proofs.Unblanked.{active-clear, clear-used, clean-whole, rules-clean}
use Rattle.demand3.proofs.Carried.{Carried, BindsNoCell}
use Rattle.model.proofs.Machine.TableRows.{token-same, token-other, token-outside, live_inside}

-- the token at p, whose caller is the frame at f, is written anew as u, with the frame's links
pub record Returns (m o : Machine) (p f : ℕ) (u : Token) : Type 0 where
  pub live : is_live (token_at m.tokens p).state ≡ true
  pub caller : (token_at m.tokens p).caller ≡ Some f
  pub inside : f < length m.tokens
  pub frame : is_live (token_at m.tokens f).state ≡ false
  pub tokens : o.tokens ≡ set m.tokens p u
  pub cells : o.cells ≡ m.cells
  pub alive : is_live u.state ≡ true
  pub same_caller : u.caller ≡ (token_at m.tokens f).caller
  pub same_cell : u.cell ≡ (token_at m.tokens f).cell
  pub same_binds : u.binds ≡ (token_at m.tokens f).binds

module _ (lim : Limits) (d : Dag) (m : Machine) (holds : rules_hold lim d m ≡ true) (o : Machine) (p f : ℕ) (u : Token)
    (r : Returns m o p f u)
    (cell : (token_at m.tokens p).cell ≡ (token_at m.tokens f).cell) (binds : BindsNoCell (token_at m.tokens p)) where
  abbrev t : Token
  t = token_at m.tokens p

  abbrev g : Token
  g = token_at m.tokens f

  rules : EachRuleHolds lim d m
  rules = each-rule-holds lim d m holds

  clean : Clean m
  clean = rules-clean lim d m holds

  in_use : Used m p
  in_use = live-used lim d m rules p r.live

  frame_used : Used m f
  frame_used = (used-fits m p in_use).caller f r.caller

  here : token_at o.tokens p ≡ u
  here = ap (λ ts. token_at ts p) r.tokens ∙ token-same m.tokens p u (live_inside m.tokens p r.live)

  row : (i : ℕ) → (i ≡ p → ⊥) → token_at o.tokens i ≡ token_at m.tokens i
  row i n = ap (λ ts. token_at ts i) r.tokens ∙ token-other m.tokens p i u n

  same-under : (q : Place) → under_set m.cells q ≡ false → under_set o.cells q ≡ false
  same-under q e = subst (λ cs. under_set cs q ≡ false) (sym r.cells) e

  token-used : Used o p
  token-used =
      clear-used o p u here r.alive
      (same-under u.cell
      (ap (under_set m.cells) (r.same_cell ∙ sym cell) ∙ active-clear m.cells t (lives-active lim d m rules p r.live)))

  -- what it named and what the frame named is in use
  names : Fits (Used o) (UsedCell o) u
  names = subst (Fits (Used o) (UsedCell o)) here (used-fits o p token-used)

  frame-names : Fits (Used o) (UsedCell o) g
  frame-names =
      record {
        caller = λ j e. names.caller j (r.same_caller ∙ e);
        cells =
            record {
              cell = λ c e. names.cells.cell c (r.same_cell ∙ e);
              binds = λ x c e. names.cells.binds x c (ap (λ bs. slot_at bs x) r.same_binds ∙ e);
            };
      }

  token-cells : CellsIn (UsedCell o) t
  token-cells = record { cell = λ c e. frame-names.cells.cell c (sym cell ∙ e); binds = λ x c e. absurd (binds x c e) }

  -- all tokens but the frame stay in use
  stays : (i : ℕ) → i < length m.tokens → Used m i → (i ≡ f → ⊥) → Used o i
  stays =
      along-callers m (λ i. (i ≡ f → ⊥) → Used o i) (λ i e n. active i e (ℕ_discrete i p))
      (λ i v b j e n. named i b j e n (ℕ_discrete i p) (ℕ_discrete i f))
    where
      active : (i : ℕ) → is_active m.cells (token_at m.tokens i) ≡ true → Dec (i ≡ p) → Used o i
      active i e (yes q) = subst (Used o) (sym q) token-used
      active i e (no n) =
          let w = token_at m.tokens i in
          clear-used o i w (row i n) (active-live m.cells w e) (same-under w.cell (active-clear m.cells w e))

      named : (i : ℕ) → ((i ≡ f → ⊥) → Used o i) → (j : ℕ) → (token_at m.tokens i).caller ≡ Some j → (j ≡ f → ⊥)
          → Dec (i ≡ p) → Dec (i ≡ f) → Used o j
      named i b j e n (yes q) a =
          let w : Some f ≡ Some j = sym r.caller ∙ ap (λ k. (token_at m.tokens k).caller) (sym q) ∙ e in
          let z : j ≡ f = cc in
          absurd (n z)
      named i b j e n (no a) (yes q) = frame-names.caller j (ap (λ k. (token_at m.tokens k).caller) (sym q) ∙ e)
      named i b j e n (no a) (no c) = (used-fits o i (b c)).caller j (ap (λ (w : Token). w.caller) (row i a) ∙ e)

  -- and all cells
  cells_stay : (c : ℕ) → c < length m.cells → UsedCell m c → UsedCell o c
  cells_stay =
      along-parents m (UsedCell o) (λ i l w. there i l w (ℕ_discrete i p) (ℕ_discrete i f))
      (λ c w v j e. used-parent o c v j (ap (λ cs. (cell_at cs c).parent) r.cells ∙ e))
    where
      there : (i : ℕ) → i < length m.tokens → Used m i → Dec (i ≡ p) → Dec (i ≡ f) → CellsIn (UsedCell o) (token_at m.tokens i)
      there i l w (yes q) a = subst (λ k. CellsIn (UsedCell o) (token_at m.tokens k)) (sym q) token-cells
      there i l w (no a) (yes q) = subst (λ k. CellsIn (UsedCell o) (token_at m.tokens k)) (sym q) frame-names.cells
      there i l w (no a) (no c) = subst (CellsIn (UsedCell o)) (row i a) (used-fits o i (stays i l w c)).cells

  -- nothing else is in use
  within : InsideUsed m (Used m) (UsedCell m) o.tokens o.cells
  within =
      subst₂ (InsideUsed m (Used m) (UsedCell m)) (sym r.tokens) (sym r.cells)
      (write-inside lim d m rules p in_use u (fits-same r.same_caller r.same_cell r.same_binds (used-fits m f frame_used)))

  size : length (tokens_used o) ≡ length (tokens_used m)
  size = tokens-size m o (ap length r.tokens ∙ length-set m.tokens p u)

  inside : (i : ℕ) → i < length (tokens_used m) → i < length m.tokens
  inside i l = let z = (tokens_of m).size in omega arith

  pub returned-cells : cells_used o ≡ cells_used m
  returned-cells =
      marks-same (cells_used o) (cells_used m) (cells-size m o (ap length r.cells)) (cells-inside within)
      (λ c l w. cells_stay c (let z = (cells_of m).size in omega arith) w)

  cells-clean : (c : ℕ) → Free (cells_used o) c → cell_at o.cells c ≡ blank_cell
  cells-clean c e = ap (λ cs. cell_at cs c) r.cells ∙ clean.cells c (ap (λ us. get_or us c true) (sym returned-cells) ∙ e)

  -- a token names the frame
  module _ (i : ℕ) (calls : (token_at o.tokens i).caller ≡ Some f) where
    frame-stays : Used o f
    frame-stays = at (ℕ_discrete i p) (ℕ_discrete i f)
      where
        old : (i ≡ p → ⊥) → (token_at m.tokens i).caller ≡ Some f
        old n = ap (λ (w : Token). w.caller) (sym (row i n)) ∙ calls

        nowhere : (i ≡ p → ⊥) → token_at m.tokens i ≡ blank_token → ⊥
        nowhere n e =
            let w : None ≡ Some f = ap (λ (w : Token). w.caller) (sym e) ∙ old n in
            never cc

        placed : (i ≡ p → ⊥) → Dec (i < length m.tokens) → i < length m.tokens
        placed n (yes l) = l
        placed n (no l) = absurd (nowhere n (token-outside m.tokens i (omega arith)))

        used : (i ≡ p → ⊥) → (b : Bool) → get_or (tokens_used m) i true ≡ b → Used m i
        used n true e = e
        used n false e = absurd (nowhere n (clean.tokens i e))

        at : Dec (i ≡ p) → Dec (i ≡ f) → Used o f
        at (yes q) a =
            names.caller f (ap (λ (w : Token). w.caller) (sym here) ∙ ap (λ k. (token_at o.tokens k).caller) (sym q) ∙ calls)
        at (no n) (yes q) = frame-names.caller f (ap (λ k. (token_at m.tokens k).caller) (sym q) ∙ old n)
        at (no n) (no c) = (used-fits o i (stays i (placed n (dec_lt i (length m.tokens))) (used n _ refl) c)).caller f calls

    all_stay : tokens_used o ≡ tokens_used m
    all_stay =
        marks-same (tokens_used o) (tokens_used m) size (tokens-inside within) (λ k l w. at k l w (ℕ_discrete k f))
      where
        at : (k : ℕ) → k < length (tokens_used m) → Used m k → Dec (k ≡ f) → Used o k
        at k l w (yes q) = subst (Used o) (sym q) frame-stays
        at k l w (no n) = stays k (inside k l) w n

    tokens-clean : (k : ℕ) → Free (tokens_used o) k → token_at o.tokens k ≡ blank_token
    tokens-clean k e =
        row k (λ q. clash (subst (Used o) (sym q) token-used) e) ∙ clean.tokens k (ap (λ us. get_or us k true) (sym all_stay) ∙ e)

    pub returned-shared : Carried o (tokens_used m) (cells_used m)
    returned-shared =
        record { whole = clean-whole o (record { tokens = tokens-clean; cells = cells-clean }); tokens = all_stay; cells = returned-cells }

  -- no token names it
  module _ (none : (i : ℕ) → (token_at o.tokens i).caller ≡ Some f → ⊥) where
    Others : ℕ → Type 0
    Others i = Used m i × (i ≡ f → ⊥)

    others : InsideUsed m Others (UsedCell m) o.tokens o.cells
    unfolding Others
    others =
        record {
          tokens = within.tokens;
          cells = within.cells;
          live = λ i e. alive i e (ℕ_discrete i p);
          fits =
              λ i l q. record {
                caller = λ j e. ((within.fits i l q.0).caller j e, λ z. none i (e ∙ ap Some z));
                cells = (within.fits i l q.0).cells;
              };
          parent = within.parent;
        }
      where
        apart : p ≡ f → ⊥
        apart e = clash r.live (ap (λ k. is_live (token_at m.tokens k).state) e ∙ r.frame)

        alive : (i : ℕ) → is_live (token_at o.tokens i).state ≡ true → Dec (i ≡ p) → Used m i × (i ≡ f → ⊥)
        alive i e (yes q) = (subst (Used m) (sym q) in_use, λ z. apart (sym q ∙ z))
        alive i e (no n) =
            let was = ap (λ (w : Token). is_live w.state) (sym (row i n)) ∙ e in
            (live-used lim d m rules i was, λ z. clash was (ap (λ k. is_live (token_at m.tokens k).state) z ∙ r.frame))

    pub returned-tokens : tokens_used o ≡ set (tokens_used m) f false
    unfolding Others
    returned-tokens = marks-removed (tokens_used o) (tokens_used m) size f (tokens-inside others) (λ i l w n. stays i (inside i l) w n)

    frame-free : Free (tokens_used o) f
    frame-free =
        let l : f < length (tokens_used m) = omega (arith, r.inside, (tokens_of m).size) in
        ap (λ us. get_or us f true) returned-tokens ∙ get_or-set_same (tokens_used m) f false true l

    pub returned-swept : sweep o ≡ put f blank_token o
    unfolding sweep put with_tables token_at cell_at
    returned-swept =
        ap₂ (λ ts cs. with_tables ts cs o) rows (kept_whole blank_cell (cells_used o) o.cells (cells_of o).size cells-clean)
      where
        -- a row that was free was blank
        vacant : (i : ℕ) → Free (tokens_used o) i → (i ≡ f → ⊥) → get_or o.tokens i blank_token ≡ blank_token
        vacant i e n =
            row i (λ q. clash (subst (Used o) (sym q) token-used) e)
            ∙ clean.tokens i (sym (get_or-set_other (tokens_used m) f i false true n) ∙ (ap (λ us. get_or us i true) (sym returned-tokens)
            ∙ e))

        at : (i : ℕ) (b : Bool) → get_or (tokens_used o) i true ≡ b → Dec (i ≡ f)
            → get_or (rest_blanked blank_token (tokens_used o) o.tokens) i blank_token ≡ get_or (set o.tokens f blank_token) i blank_token
        at i true e (yes q) = clash (subst (Used o) q e) frame-free
        at i true e (no n) =
            kept-marked blank_token (tokens_used o) o.tokens i (tokens_of o).size e
            ∙ sym (get_or-set_other o.tokens f i blank_token blank_token n)
        at i false e (yes q) =
            let l : f < length o.tokens = omega (arith, r.inside, within.tokens) in
            kept_free blank_token (tokens_used o) o.tokens i e
            ∙ sym (ap (λ k. get_or (set o.tokens f blank_token) k blank_token) q ∙ get_or-set_same o.tokens f blank_token blank_token l)
        at i false e (no n) =
            kept_free blank_token (tokens_used o) o.tokens i e
            ∙ sym (get_or-set_other o.tokens f i blank_token blank_token n ∙ vacant i e n)

        rows : rest_blanked blank_token (tokens_used o) o.tokens ≡ set o.tokens f blank_token
        rows =
            ext_get_or blank_token (rest_blanked blank_token (tokens_used o) o.tokens) (set o.tokens f blank_token)
            (length-kept blank_token (tokens_used o) o.tokens ∙ sym (length-set o.tokens f blank_token))
            (λ i l. at i (get_or (tokens_used o) i true) refl (ℕ_discrete i f))
