-- Choke agrees with the abstract machine's: the tokens within the cell end, those that wait at it become ready, the others are as before;
-- and the cell and its name get the value. A token that stays has its frames outside the cell too, since it is under all that its caller is
-- under. Assumes nothing.
use mathlib.Core.Path.{◌≡◌, refl, sym, ◌∙◌, ap, subst}
use mathlib.Core.Bool.{Bool, true, false, not}
use mathlib.Core.List.{List, ◌∷◌, ◌++◌, map}
use Prim.Native.Nat.{ℕ, suc, ◌<◌}
use native.Mathlib.Decide.{ℕ_discrete}
use native.Mathlib.Omega.{arith}
use lib.ListN.{length, set, length-set, length-map}
use lib.Dec.{eqb}
use lib.IntN.{ℤ}
use Rattle.std.specs.Prelude.{Some}
use Rattle.job.specs.Test.{occurrences, once, for_some, select}
use Rattle.job.specs.Node.{Node, Dag}
use Rattle.model.specs.Machine.Blank.{token_at, cell_at}
use Rattle.model.specs.Machine.Active.{within}
use Rattle.model.specs.Machine.State.{is_live, waits_at}
use Rattle.model.specs.Machine.Update.{with_state, with_tables, with_timers, with_orders}
use Rattle.model.specs.Machine.Step.{choke_token, after_choke, choke_at}
use Rattle.calculus.specs.Expression.{Exp}
use Rattle.model.specs.Machine.Held.{Held, Place}
use Rattle.model.specs.declared.token.State.{State}
use Rattle.model.specs.declared.token.State.TheVariants as states
use Rattle.model.specs.declared.token.Token.{Token}
use Rattle.model.specs.declared.cell.Cell.{Cell}
use Rattle.model.specs.declared.record.Machine.{Machine}
use Rattle.job.proofs.Test.{clash, ne_eqb, not-true, occurrences-append}
use Rattle.model.proofs.Machine.Selected.{occurrences-kept, occurrences-dropped}
use Rattle.model.proofs.Machine.Choke.{choke-at, choke-ends, woken, choke-spares}
use Rattle.simulation.proofs.AbstractMachine as Abstract
use Rattle.simulation.proofs.AbstractMachine.{Binding, Frame, at, Store, with_set, is_out_of, out_of, acts_at}
use Rattle.simulation.proofs.Store.{◌is-in◌, set_same, set_other}
use Rattle.lockstep.proofs.Labels.{Labels, node_meant, program_of}
use Rattle.lockstep.proofs.View.{held, World, Nested, StateSeen, ready, waiting, called, due, Unset, CellSeen, CellsSeen, root}
use Rattle.lockstep.proofs.View.{below, PlaceSeen, TokenSeen, sees, TokensSeen, nobody, also, FrameSeen, frame_at, frame-seen}
use Rattle.lockstep.proofs.View.{Kept, Closed, place-keep, tokens_append}
use Rattle.lockstep.proofs.Seen.{Core, world, sees-tables}
use Rattle.lockstep.proofs.Others.{Others}
use Rattle.lockstep.proofs.WithinSeen.{not_some, some_first, some-rest, within-seen}
use Rattle.lockstep.proofs.Moving.{value_there, value-optional, place-as}
use Rattle.lockstep.proofs.Agrees.{Acting, Shows, Agrees}
use Rattle.model.proofs.Machine.WrittenTokens.{waiting-live}
use Rattle.model.proofs.Machine.TableRows.{cell_same, cell_other}

woken-live : (c : ℕ) (t : Token) → is_live (woken (waits_at c t.state) t).state ≡ is_live t.state
unfolding woken with_state is_live
woken-live c t = go (waits_at c t.state) refl
  where
    go : (b : Bool) → waits_at c t.state ≡ b → is_live (woken b t).state ≡ is_live t.state
    go true e = sym (waiting-live c t.state e)
    go false e = refl

woken-frame : (c : ℕ) (t : Token) → t.state ≡ states.Frame → woken (waits_at c t.state) t ≡ t
unfolding woken waits_at
woken-frame c t e = ap (λ s. woken (waits_at c s) t) e

woken-state : {M : Labels} {n : ℕ} {K : Abstract.Place} {s : State} {w : Held} {x : Abstract.Token} (c : ℕ)
    → StateSeen M n K s w x → waits_at c s ≡ true → StateSeen M n K states.Ready w x
unfolding waits_at
woken-state c (ready v) e = ready v
woken-state c (waiting f v) e = ready (value-optional f v)
woken-state c called e = clash e refl
woken-state c due e = clash e refl

-- the cell at place c, with the name i, gets the value v
module _ (M : Labels) (W : World) (c i : ℕ) (s : CellSeen W c i) (w : Held) (v : ℤ) (e : w ≡ Some v) where
  abbrev set_cell : Cell
  set_cell = record { parent = (cell_at W.cells c).parent; value = w }

  abbrev pub choked_world : World
  choked_world =
      record {
        tokens = map (choke_token W.cells c) W.tokens;
        cells = set W.cells c set_cell;
        name = W.name;
        place = W.place;
        store = with_set W.store i v;
        new = suc W.new;
      }

  abbrev in_cell : Token → Bool
  in_cell t = within W.cells c t.cell

  -- tokens that are not within the cell
  abbrev Outside : ℕ → Type 0
  Outside r = in_cell (token_at W.tokens r) ≡ false

  spared : (r : ℕ) → Outside r → token_at choked_world.tokens r ≡ woken (waits_at c (token_at W.tokens r).state) (token_at W.tokens r)
  spared r o = choke-at W.cells c W.tokens r ∙ choke-spares W.cells c (token_at W.tokens r) o

  here : cell_at (set W.cells c set_cell) c ≡ set_cell
  here = cell_same W.cells c set_cell s.inside

  elsewhere : (b : ℕ) → (b ≡ c → ⊥) → cell_at (set W.cells c set_cell) b ≡ cell_at W.cells b
  elsewhere b n = cell_other W.cells c b set_cell n

  parents : (b : ℕ) → Dec (b ≡ c) → (cell_at (set W.cells c set_cell) b).parent ≡ (cell_at W.cells b).parent
  parents b (yes p) =
      ap (λ x. (cell_at (set W.cells c set_cell) x).parent) p
      ∙ (ap (λ (k : Cell). k.parent) here ∙ ap (λ x. (cell_at W.cells x).parent) (sym p))
  parents b (no n) = ap (λ (k : Cell). k.parent) (elsewhere b n)

  value-at : (b k : ℕ) → CellSeen W b k → Dec (b ≡ c) → with_set W.store i v k ≡ held (cell_at (set W.cells c set_cell) b).value
  value-at b k z (yes p) =
      ap (with_set W.store i v) (sym z.name ∙ (ap W.name p ∙ s.name))
      ∙ (set_same W.store i v
      ∙ sym (ap (λ x. held (cell_at (set W.cells c set_cell) x).value) p ∙ (ap (λ (k : Cell). held k.value) here ∙ ap held e)))
  value-at b k z (no n) =
      set_other W.store i k v (λ p. n (sym z.place ∙ (ap W.place p ∙ s.place)))
      ∙ (z.value ∙ ap (λ (k : Cell). held k.value) (sym (elsewhere b n)))

  choke-kept : Kept Outside (λ b. Unit) W choked_world
  choke-kept =
      record {
        size = length-map W.tokens (choke_token W.cells c);
        frames = λ r o f. spared r o ∙ woken-frame c (token_at W.tokens r) f;
        cells =
            λ b k o z.
            record {
              inside = let l = length-set W.cells c set_cell in let y : b < length W.cells = z.inside in omega arith;
              old = let y : k < W.new = z.old in omega arith;
              name = z.name;
              place = z.place;
              value = value-at b k z (ℕ_discrete b c);
            };
        parents = λ b o. parents b (ℕ_discrete b c);
      }

  -- the frame of a token outside is outside
  frame-outside : {n : ℕ} {U : List ℕ} {F : List Frame} (q : ℕ) → for_some (eqb i) U ≡ false → Nested M n U F → FrameSeen W M q F
      → Outside q
  frame-outside q f o (frame_at {U = U} l z b) =
      within-seen s b.cell ∙ some-rest (eqb i) o.own U (ap (for_some (eqb i)) (sym o.parts) ∙ f)

  choke-closed : Closed M Outside (λ b. Unit) W
  choke-closed =
      record {
        token =
            λ p o z.
            record {
              caller = λ q f. frame-outside q (sym (within-seen s z.cell) ∙ o) z.nested (frame-seen q f z.caller);
              cells = record { cell = λ b f. tt; binds = λ x b f. tt };
            };
        parent = λ b o a f. tt;
      }

  token-woken : (b : Bool) {t : Token} {n : ℕ} {B : List Binding} {F : List Frame} {U : List ℕ} {x : Abstract.Token}
      → waits_at c t.state ≡ b → PlaceSeen choked_world M t n B F U → Unset (with_set W.store i v) U
      → StateSeen M n (at n B F U) t.state t.value x → TokenSeen choked_world M (woken b t) x
  unfolding woken with_state
  token-woken true {t} f z un st = sees (place-as {t = t} refl refl refl refl z) un (woken-state c st f)
  token-woken false f z un st = sees z un st

  token-spared : (p : ℕ) {x : Abstract.Token} → Outside p → TokenSeen W M (token_at W.tokens p) x
      → TokenSeen choked_world M (token_at choked_world.tokens p) x
  token-spared p {x} o (sees {U = U} z un st) =
      subst (λ t. TokenSeen choked_world M t x) (sym (spared p o))
      (token-woken (waits_at c (token_at W.tokens p).state) refl
      (place-keep choke-kept choke-closed (choke-closed.token p o z) z)
      (λ k m. set_other W.store i k v (λ f. clear (subst (λ y. y is-in U) f m)) ∙ un k m)
      st)
    where
      clear : i is-in U → ⊥
      clear = not_some i U (sym (within-seen s z.cell) ∙ o)

  -- the abstract machine ends the same tokens
  state-cells : {n : ℕ} {B : List Binding} {F : List Frame} {U : List ℕ} {t : State} {h : Held} {x : Abstract.Token}
      → StateSeen M n (at n B F U) t h x → Abstract.cells_of x ≡ U
  state-cells (ready z) = refl
  state-cells (waiting f z) = refl
  state-cells called = refl
  state-cells due = refl

  same_end : {t : Token} {x : Abstract.Token} → TokenSeen W M t x → in_cell t ≡ for_some (eqb i) (Abstract.cells_of x)
  same_end (sees z un st) = within-seen s z.cell ∙ ap (for_some (eqb i)) (sym (state-cells st))

  abbrev stays : ℕ → Bool
  stays r = not (in_cell (token_at W.tokens r))

  choke-tokens : {A : List ℕ} {S : List Abstract.Token} → TokensSeen W M A S → TokensSeen choked_world M (select stays A) (out_of i S)
  unfolding select
  choke-tokens nobody = nobody
  choke-tokens (also {p = p} {x = x} {A = A} {S = S} z r) =
      go (stays p) (is_out_of i x) refl (ap not (same_end z)) (choke-tokens r)
    where
      go : (a b : Bool) → stays p ≡ a → a ≡ b → TokensSeen choked_world M (select stays A) (out_of i S)
          → TokensSeen choked_world M
          (elim a as (λ b. List ℕ) [ true ↦ p ∷ select stays A | false ↦ select stays A ])
          (elim b as (λ b. List Abstract.Token) [ true ↦ x ∷ out_of i S | false ↦ out_of i S ])
      go true true f g h = also (token-spared p (not-true _ f) z) h
      go true false f g h = clash refl g
      go false true f g h = clash g refl
      go false false f g h = h

  module _ {p : ℕ} {L R : List Abstract.Token} (o : Others M W p L R) (ends : in_cell (token_at W.tokens p) ≡ true) where
    choke-each : (r : ℕ) → occurrences r (select stays (o.before ++ o.behind)) ≡ once (is_live (token_at choked_world.tokens r).state)
    unfolding is_live
    choke-each r = go (in_cell (token_at W.tokens r)) refl
      where
        alive : Token → ℕ
        alive t = once (is_live t.state)

        go : (b : Bool) → in_cell (token_at W.tokens r) ≡ b
            → occurrences r (select stays (o.before ++ o.behind)) ≡ once (is_live (token_at choked_world.tokens r).state)
        go true f =
            occurrences-dropped stays r (o.before ++ o.behind) (ap not f)
            ∙ sym (ap alive (choke-at W.cells c W.tokens r ∙ choke-ends W.cells c (token_at W.tokens r) f))
        go false f =
            let a = occurrences-append r o.before o.behind in
            let b = o.each r in
            let g : once (eqb r p) ≡ 0 = ap once (ne_eqb r p (λ x. clash (ap (λ y. in_cell (token_at W.tokens y)) x ∙ ends) f)) in
            let h : alive (token_at choked_world.tokens r) ≡ alive (token_at W.tokens r) =
            ap alive (spared r f) ∙ ap once (woken-live c (token_at W.tokens r)) in
            let k = occurrences-kept stays r (o.before ++ o.behind) (ap not f) in
            omega arith

    pub choke-core : Core M choked_world (select stays (o.before ++ o.behind)) (out_of i (L ++ R))
    choke-core =
        record {
          seen = choke-tokens (tokens_append o.lefts o.rights);
          each = choke-each;
          clean = λ k l. set_other W.store i k v (λ f. let y : i < W.new = s.old in omega arith) ∙ o.clean k (omega arith);
        }

module _ (d : Dag) (M : Labels) (bodies : ℕ → Exp) (m : Machine) {name place : ℕ → ℕ} {σ : Store} {new p : ℕ}
    {L R : List Abstract.Token} {n : ℕ} {B : List Binding} {F : List Frame} {U : List ℕ} {v : ℤ}
    (A : Acting M (world m.tokens m.cells name place σ new) p L R n B F U v) where
  abbrev W : World
  W = world m.tokens m.cells name place σ new

  abbrev t : Token
  t = token_at m.tokens p

  choke-from : {q : Place} {X : List ℕ} → M.value n ≡ true → t.cell ≡ q → CellsSeen W q X
      → Agrees M W L R m.clock m.calls (choke_at m t q) (Abstract.chokes X v)
  unfolding Shows choke_at after_choke with_tables with_timers with_orders
  choke-from e f root = tt
  choke-from e f (below {c = c} {n = i} {U = X} s z) =
      record {
        label = refl;
        machine =
            sees-tables name place _ refl refl refl refl
            (choke-core M W c i s t.value v (value_there e A.value) A.others ends);
      }
    where
      ends : within m.cells c t.cell ≡ true
      ends = ap (within m.cells c) f ∙ (within-seen s (below s z) ∙ some_first i X)

  pub choke-agrees : M.value n ≡ true
      → Agrees M W L R m.clock m.calls (choke_at m t t.cell)
      (acts_at (program_of d M bodies) m.clock σ new m.calls (node_meant (M.scope n) Node.choke) (at n B F U) v)
  unfolding node_meant
  choke-agrees e = choke-from e refl A.place.cell
