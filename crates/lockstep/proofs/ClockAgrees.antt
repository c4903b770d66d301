-- A clock move agrees with the abstract machine's: it changes states and values of tokens, and each token that is seen is then seen as what
-- the abstract machine makes of it. Assumes nothing.
use mathlib.Core.Path.{◌≡◌, refl, sym, ◌∙◌, ap, subst}
use mathlib.Core.Bool.{Bool, true, false}
use mathlib.Core.List.{List, map}
use Prim.Native.Nat.{ℕ}
use lib.ListN.{length-map}
use lib.IntN.{pos}
use Rattle.std.specs.Prelude.{Some}
use Rattle.job.specs.Test.{once}
use Rattle.model.specs.Machine.Blank.{token_at}
use Rattle.model.specs.Machine.State.{is_live, is_due_by}
use Rattle.model.specs.Machine.Update.{with_value, with_state, with_tables, with_orders, with_timers, with_clock}
use Rattle.model.specs.Machine.Clock.{woken_by, after_advance}
use Rattle.model.specs.Machine.Held.{Held}
use Rattle.model.specs.declared.token.State.{State}
use Rattle.model.specs.declared.token.State.TheVariants as states
use Rattle.model.specs.declared.token.Token.{Token}
use Rattle.model.specs.declared.record.Machine.{Machine}
use Rattle.job.proofs.Test.{clash}
use Rattle.model.proofs.Machine.WrittenTokens.{due-live}
use Rattle.model.proofs.Machine.Clock.{woken-at}
use Rattle.simulation.proofs.AbstractMachine as Abstract
use Rattle.simulation.proofs.AbstractMachine.{Store, state, woken_if, wake}
use Rattle.lockstep.proofs.Labels.{Labels}
use Rattle.lockstep.proofs.View.{World, present, StateSeen, ready, waiting, called, due, TokenSeen, sees, TokensSeen, nobody, also}
use Rattle.lockstep.proofs.View.{Kept, Closed, token-keep}
use Rattle.lockstep.proofs.Seen.{Core, world, Sees, sees-tables}
use Rattle.lockstep.proofs.Moving.{place-as}

module _ (time : ℕ) where
  -- a token that wakes, and one that stays
  module _ {M : Labels} {n : ℕ} {K : Abstract.Place} where
    wakes-state : {s : State} {w : Held} {x : Abstract.Token}
        → StateSeen M n K s w x → is_due_by time s ≡ true → StateSeen M n K states.Ready (Some (pos 0)) (wake time x)
    unfolding is_due_by
    wakes-state (ready v) e = clash e refl
    wakes-state (waiting f v) e = clash e refl
    wakes-state called e = clash e refl
    wakes-state (due {time = d}) e =
        subst (λ b. StateSeen M n K states.Ready (Some (pos 0)) (woken_if b d K)) (sym e) (ready present)

    stays-state : {s : State} {w : Held} {x : Abstract.Token}
        → StateSeen M n K s w x → is_due_by time s ≡ false → StateSeen M n K s w (wake time x)
    unfolding is_due_by
    stays-state (ready v) e = ready v
    stays-state (waiting f v) e = waiting f v
    stays-state called e = called
    stays-state (due {time = d} {w = w}) e = subst (λ b. StateSeen M n K (states.Due d) w (woken_if b d K)) (sym e) due

  token-wakes : {W : World} {M : Labels} {t : Token} {x : Abstract.Token} → TokenSeen W M t x
      → TokenSeen W M (woken_by time t) (wake time x)
  unfolding woken_by with_state with_value
  token-wakes {W} {M} {t} {x} (sees z un st) = go (is_due_by time t.state) refl
    where
      go : (b : Bool) → is_due_by time t.state ≡ b
          → TokenSeen W M (elim b [ true ↦ with_state states.Ready (with_value (Some (pos 0)) t) | false ↦ t ]) (wake time x)
      go true e = sees (place-as {t = t} refl refl refl refl z) un (wakes-state st e)
      go false e = sees z un (stays-state st e)

  woken-frame : (t : Token) → t.state ≡ states.Frame → woken_by time t ≡ t
  unfolding woken_by is_due_by
  woken-frame t e = let stays : is_due_by time t.state ≡ false = ap (is_due_by time) e in rw (stays, woken_by)

  woken-alive : (t : Token) → is_live (woken_by time t).state ≡ is_live t.state
  unfolding woken_by with_state with_value is_live
  woken-alive t = go (is_due_by time t.state) refl
    where
      go : (b : Bool) → is_due_by time t.state ≡ b
          → is_live (elim b as (λ b. Token) [ true ↦ with_state states.Ready (with_value (Some (pos 0)) t) | false ↦ t ]).state
          ≡ is_live t.state
      go true e = sym (due-live time t.state e)
      go false e = refl

  -- cells and frames stay
  module _ (M : Labels) (W : World) where
    abbrev later : World
    later =
        record {
          tokens = map (woken_by time) W.tokens;
          cells = W.cells;
          name = W.name;
          place = W.place;
          store = W.store;
          new = W.new;
        }

    kept : Kept (λ q. Unit) (λ c. Unit) W later
    kept =
        record {
          size = length-map W.tokens (woken_by time);
          frames = λ q u e. woken-at time W.tokens q ∙ woken-frame (token_at W.tokens q) e;
          cells = λ c n u s. record { inside = s.inside; old = s.old; name = s.name; place = s.place; value = s.value };
          parents = λ c u. refl;
        }

    closed : Closed M (λ q. Unit) (λ c. Unit) W
    closed =
        record {
          token = λ p u z. record { caller = λ q e. tt; cells = record { cell = λ c e. tt; binds = λ x c e. tt } };
          parent = λ c u b e. tt;
        }

    tokens-wake : {A : List ℕ} {S : List Abstract.Token} → TokensSeen W M A S → TokensSeen later M A (map (wake time) S)
    tokens-wake nobody = nobody
    tokens-wake (also {p = p} {x = x} v r) =
        also
        (subst (λ t. TokenSeen later M t (wake time x)) (sym (woken-at time W.tokens p))
        (token-wakes
        (token-keep kept closed (record { caller = λ q e. tt; cells = record { cell = λ c e. tt; binds = λ x c e. tt } }) (λ c e. e) v)))
        (tokens-wake r)

    core-wakes : {A : List ℕ} {S : List Abstract.Token} → Core M W A S → Core M later A (map (wake time) S)
    core-wakes K =
        record {
          seen = tokens-wake K.seen;
          each =
              λ r.
              K.each r
              ∙ ap once (sym (ap (λ (t : Token). is_live t.state) (woken-at time W.tokens r) ∙ woken-alive (token_at W.tokens r)));
          clean = K.clean;
        }

-- the machine before blanking, seen as the state after the clock move
pub advanced-sees : {M : Labels} (m : Machine) (time : ℕ) {name place : ℕ → ℕ} {σ : Store} {new : ℕ} {A : List ℕ} {S : List Abstract.Token}
    → Core M (world m.tokens m.cells name place σ new) A S
    → Sees M (after_advance m time) (state (map (wake time) S) σ new m.calls time)
unfolding after_advance with_clock with_timers with_orders with_tables
advanced-sees {M} m time {name} {place} {σ} {new} {A} K =
    sees-tables name place A refl refl refl refl (core-wakes time M (world m.tokens m.cells name place σ new) K)
