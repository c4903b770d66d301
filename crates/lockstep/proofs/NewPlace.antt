-- The instructions that give a new place agree with the abstract machine's: fork, a definition call, and where. Assumes nothing.
use mathlib.Core.Path.{◌≡◌, refl, sym, ◌∙◌, ap, subst}
use mathlib.Core.Bool.{true, false}
use mathlib.Core.List.Memᴰ
use mathlib.Core.List.{List, [], ◌∷◌, ◌++◌, map, reverse}
use mathlib.Core.Option.{none}
use Prim.Native.Nat.{ℕ, suc, ◌<◌}
use native.Mathlib.Omega.{arith}
use lib.ListN.{length, set, length-set}
use lib.Dec.{eqb}
use lib.IntN.{ℤ}
use Rattle.std.specs.Prelude.{Some, None}
use Rattle.job.specs.Test.{All}
use Rattle.job.specs.Syntax.{Param}
use Rattle.job.specs.WellFormed.{GoodParam}
use Rattle.job.specs.Node.{Node, Dag, body_at}
use Rattle.model.specs.Machine.Blank.{token_at, cell_at}
use Rattle.model.specs.Machine.State.{is_live}
use Rattle.model.specs.Machine.InUse.{tokens_used, cells_used}
use Rattle.model.specs.Machine.Update.{with_node, with_binding, in_cell, with_state, with_tables, with_orders, with_counts, put, enqueue}
use Rattle.model.specs.Machine.Update.{new_token, new_cell}
use Rattle.model.specs.Machine.Step.{callee, forked, split, entered}
use Rattle.calculus.specs.Expression.{Exp}
use Rattle.calculus.specs.Allowed.{next_handle}
use Rattle.calculus.specs.Meaning.{param_meant}
use Rattle.model.specs.declared.token.Slot.TheVariants as slots
use Rattle.model.specs.declared.token.State.TheVariants as states
use Rattle.model.specs.declared.token.Token.{Token}
use Rattle.model.specs.declared.cell.Cell.{Cell}
use Rattle.model.specs.declared.record.Machine.{Machine}
use Rattle.job.proofs.Test.{clash, eqb_same, ne_eqb}
use Rattle.model.proofs.Machine.Marks.{Free, free-inside}
use Rattle.simulation.proofs.AbstractMachine as Abstract
use Rattle.simulation.proofs.AbstractMachine.{Binding, Frame, frame, at, running, Store, named, acts_at}
use Rattle.lockstep.proofs.Labels.{Labels, node_meant, program_of, Fresh, Follows, Enters}
use Rattle.lockstep.proofs.View.{held, World, Unset, absent, ready, CellSeen, CellsSeen, below, celled, called_by, PlaceSeen}
use Rattle.lockstep.proofs.View.{TokenSeen, sees, Kept, place-keep}
use Rattle.lockstep.proofs.Seen.{world, sees-tables, UsedToken, UsedCell, cells-of, used-closed}
use Rattle.lockstep.proofs.Slots.{formals-seen}
use Rattle.lockstep.proofs.Others.{acting-inside, cell-later, two_written, two-first, two-kept, both-core, new-core}
use Rattle.lockstep.proofs.Moving.{value-optional, ready-seen, slots_at, place-to, place-bind, place-as}
use Rattle.lockstep.proofs.Agrees.{Acting, acting-used, acting-fits, Shows, Agrees}
use Rattle.model.proofs.Machine.TableRows.{cell_same, cell_other}

-- a function with the value v at c
unfoldable changed : (ℕ → ℕ) → (c v : ℕ) → ℕ → ℕ
changed f c v b = elim (eqb b c) as (λ e. ℕ) [ true ↦ v | false ↦ f b ]

changed-same : (f : ℕ → ℕ) (c v : ℕ) → changed f c v c ≡ v
unfolding changed
changed-same f c v = rw (eqb_same c, changed) refl

changed-other : (f : ℕ → ℕ) (c v b : ℕ) → (b ≡ c → ⊥) → changed f c v b ≡ f b
unfolding changed
changed-other f c v b n = rw (ne_eqb b c n, changed) refl

module _ (d : Dag) (M : Labels) (bodies : ℕ → Exp) (m : Machine) {name place : ℕ → ℕ} {σ : Store} {new p : ℕ}
    {L R : List Abstract.Token} {n : ℕ} {B : List Binding} {F : List Frame} {U : List ℕ} {v : ℤ}
    (A : Acting M (world m.tokens m.cells name place σ new) p L R n B F U v)
    (q : ℕ) (free : Free (tokens_used m) q) where
  abbrev W : World
  W = world m.tokens m.cells name place σ new

  abbrev t : Token
  t = token_at m.tokens p

  -- what the abstract machine's token does at the node
  abbrev does : Node → Abstract.Effect
  does N = acts_at (program_of d M bodies) m.clock σ new m.calls (node_meant (M.scope n) N) (at n B F U) v

  -- without a new cell
  abbrev made : (u w : Token) → World
  made u w = two_written W p u q w m.cells name place

  newer : (u w : Token) (c i : ℕ) → UsedCell W c → CellSeen W c i → CellSeen (made u w) c i
  newer u w c i x s = cell-later s

  made_kept : (u w : Token) → Kept (UsedToken W) (UsedCell W) W (made u w)
  made_kept u w = two-kept A.others (acting-used A) q free u w m.cells name place (newer u w) (λ c i. refl)

  pub fork-agrees : {l r : ℕ}
      → M.value l ≡ false → M.value r ≡ false → Follows d M n l (M.scope n) (M.nest n) → Follows d M n r (M.scope n) (M.nest n)
      → Agrees M W L R m.clock m.calls (forked m p t q l r) (does (Node.fork l r))
  unfolding Shows forked new_token put enqueue with_tables with_orders with_counts node_meant next_handle
  fork-agrees {l} {r} a b f g =
      record {
        label = refl;
        machine =
            sees-tables name place (A.others.before ++ ((p ∷ q ∷ []) ++ A.others.behind)) refl refl refl refl
            (both-core A.others (acting-used A) q free (with_node l t) (with_node r t) m.cells name place
            (newer (with_node l t) (with_node r t)) (λ c i. refl) (side l a f) (side r b g));
      }
    where
      side : (k : ℕ) → M.value k ≡ false → Follows d M n k (M.scope n) (M.nest n)
          → TokenSeen (made (with_node l t) (with_node r t)) M (with_node k t) (running (at k B F U) v)
      side k e h = unfold with_node in
          sees (place-to h (place-keep (made_kept (with_node l t) (with_node r t)) (used-closed W) (acting-fits A) A.place))
          A.clear (ready-seen A.state (value-optional e A.value))

  -- the caller's frame, and the callee
  pub call-agrees : {e k : ℕ} {ps : List Param}
      → All (GoodParam (M.scope n)) ps → Follows d M n k (M.scope n) (M.nest n) → Enters d M e ps
      → Agrees M W L R m.clock m.calls (entered m p t q (body_at d e).root ps k)
      (Abstract.goes_on (at (body_at d e).root (map (named B) (reverse (map (param_meant (M.scope n)) ps))) (frame k B U ∷ F) U) v)
  unfolding Shows entered new_token put enqueue with_tables with_orders with_counts next_handle is_live with_node with_state
  call-agrees {e} {k} {ps} good f enters =
      record {
        label = refl;
        machine =
            sees-tables name place (A.others.before ++ ((q ∷ []) ++ A.others.behind)) refl refl refl refl
            (new-core A.others (acting-used A) q free u w m.cells name place (newer u w) (λ c i. refl) refl called);
      }
    where
      u : Token
      u = with_node k (with_state states.Frame t)

      w : Token
      w = callee (Some p) t (body_at d e).root ps

      still : PlaceSeen (made u w) M t n B F U
      still = place-keep (made_kept u w) (used-closed W) (acting-fits A) A.place

      caller : PlaceSeen (made u w) M u k B F U
      caller = unfold with_node with_state in place-as {t = with_node k t} {u = u} refl refl refl refl (place-to f still)

      inside : p < length (made u w).tokens
      inside = let z : length (made u w).tokens ≡ length m.tokens = (made_kept u w).size in let y = acting-inside A.others in
          omega arith

      called : TokenSeen (made u w) M w
          (running (at (body_at d e).root (map (named B) (reverse (map (param_meant (M.scope n)) ps))) (frame k B U ∷ F) U) v)
      called = unfold with_node with_state in
          sees
          (record {
            node = refl;
            binds = slots_at (sym enters.scope) (formals-seen ps still.binds.views good enters.few);
            caller =
                called_by {t = u} inside (two-first A.others (acting-used A) q free u w m.cells name place) refl
                caller.node caller.binds caller.caller caller.cell caller.nested;
            cell = still.cell;
            nested = record { own = []; size = sym enters.nest; parts = refl; body = enters.body };
          })
          A.clear (ready (absent enters.value))

  -- the new cell's name is the next one
  module _ (c : ℕ) (free_cell : Free (cells_used m) c) where
    pub where-agrees : {x l r : ℕ}
        → M.value l ≡ false → M.value r ≡ false → x < 8 → Fresh x (M.scope n)
        → Follows d M n l (x ∷ M.scope n) (M.nest n) → Follows d M n r (M.scope n) (suc (M.nest n))
        → Agrees M W L R m.clock m.calls (split m p t q c x l r) (does (Node.where' x l r))
    unfolding Shows split new_token new_cell put enqueue with_tables with_orders with_counts node_meant next_handle
    where-agrees {x} {l} {r} a b small fresh f g =
        record {
          label = refl;
          machine =
              sees-tables name' place' (A.others.before ++ ((p ∷ q ∷ []) ++ A.others.behind)) refl refl refl refl
              (both-core A.others (acting-used A) q free u w cs name' place' cells parents left right);
        }
      where
        u : Token
        u = with_node l (with_binding x (slots.Cell c) t)

        w : Token
        w = in_cell c (with_node r t)

        fresh-cell : Cell
        fresh-cell = record { parent = t.cell; value = None }

        cs : List Cell
        cs = set m.cells c fresh-cell

        name' : ℕ → ℕ
        name' = changed name c new

        place' : ℕ → ℕ
        place' = changed place new c

        W' : World
        W' = two_written W p u q w cs name' place'

        other : (b : ℕ) → UsedCell W b → b ≡ c → ⊥
        other b i e = clash (subst (UsedCell W) e i) free_cell

        inside : c < length m.cells
        inside = let z = free-inside (cells_used m) c free_cell in let y = (cells-of W).size in omega arith

        cells : (b i : ℕ) → UsedCell W b → CellSeen W b i → CellSeen W' b i
        cells b i y s =
            record {
              inside = let z = length-set m.cells c fresh-cell in let k : b < length m.cells = s.inside in omega arith;
              old = let k : i < new = s.old in omega arith;
              name = changed-other name c new b (other b y) ∙ s.name;
              place = changed-other place new c i (λ e. let k : i < new = s.old in omega arith) ∙ s.place;
              value = s.value ∙ ap (λ (k : Cell). held k.value) (sym (cell_other m.cells c b fresh-cell (other b y)));
            }

        parents : (b : ℕ) → UsedCell W b → (cell_at cs b).parent ≡ (cell_at m.cells b).parent
        parents b y = ap (λ (k : Cell). k.parent) (cell_other m.cells c b fresh-cell (other b y))

        still : PlaceSeen W' M t n B F U
        still =
            place-keep (two-kept A.others (acting-used A) q free u w cs name' place' cells parents) (used-closed W) (acting-fits A)
            A.place

        unset : σ new ≡ none
        unset = A.others.clean new (omega arith)

        made-cell : CellSeen W' c new
        made-cell =
            record {
              inside = let z = length-set m.cells c fresh-cell in let y = inside in omega arith;
              old = omega arith;
              name = changed-same name c new;
              place = changed-same place new c;
              value = unset ∙ ap (λ (k : Cell). held k.value) (sym (cell_same m.cells c fresh-cell inside));
            }

        cell-view : CellsSeen W' (Some c) (new ∷ U)
        cell-view =
            below made-cell
            (subst (λ y. CellsSeen W' y U) (ap (λ (k : Cell). k.parent) (sym (cell_same m.cells c fresh-cell inside))) still.cell)

        left : TokenSeen W' M u (running (at l (Binding.cell new ∷ B) F U) v)
        left = unfold with_node with_binding in
            sees (place-bind small fresh f (celled cell-view) still) A.clear (ready-seen A.state (value-optional a A.value))

        clear : Unset σ (new ∷ U)
        clear i (Memᴰ.head e) = ap σ e ∙ unset
        clear i (Memᴰ.tail k) = A.clear i k

        right : TokenSeen W' M w (running (at r B F (new ∷ U)) v)
        right = unfold in_cell with_node in
            sees
            (record {
              node = refl;
              binds = slots_at (sym g.scope) still.binds;
              caller = still.caller;
              cell = cell-view;
              nested =
                  record {
                    own = new ∷ A.place.nested.own;
                    size = ap suc A.place.nested.size ∙ sym g.nest;
                    parts = ap (◌∷◌ new) A.place.nested.parts;
                    body = g.body ∙ A.place.nested.body;
                  };
            })
            clear (ready-seen A.state (value-optional b A.value))
