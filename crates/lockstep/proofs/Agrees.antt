-- An effect of the concrete machine agrees with one of the abstract machine: it shows the same, and the machine before blanking is seen as
-- the state after. Stated for any effect, with the two that write one place: the token ends, or it goes on. Assumes nothing.
use mathlib.Core.Path.{◌≡◌, refl}
use mathlib.Core.Bool.{Bool, true, false}
use mathlib.Core.List.{List, [], ◌∷◌, ◌++◌}
use Prim.Native.Nat.{ℕ}
use lib.ListN.{set}
use lib.IntN.{ℤ}
use Rattle.model.specs.Machine.Blank.{token_at}
use Rattle.model.specs.Machine.State.{is_live}
use Rattle.model.specs.Machine.Reply.{Effect, moves, waits, publishes, calls, refuses, unless}
use Rattle.calculus.specs.Event.{Event, Label, silently, showing}
use Rattle.calculus.specs.Allowed.{next_handle}
use Rattle.model.specs.declared.token.State.TheVariants as states
use Rattle.model.specs.declared.token.Token.{Token}
use Rattle.model.specs.declared.record.Machine.{Machine}
use Rattle.model.proofs.Machine.Inside.{Fits}
use Rattle.simulation.proofs.AbstractMachine as Abstract
use Rattle.simulation.proofs.AbstractMachine.{Binding, Frame, at, running, Store, makes}
use Rattle.lockstep.proofs.Labels.{Labels}
use Rattle.lockstep.proofs.View.{World, HeldSeen, Unset, PlaceSeen, TokenSeen, sees}
use Rattle.lockstep.proofs.Seen.{world, Sees, sees-tables, UsedToken, UsedCell, used-fits, token-used}
use Rattle.lockstep.proofs.Others.{Others, ends-core, goes-core}
use Rattle.lockstep.proofs.Moving.{ready-seen}

-- the ready token at p, with those before and behind it in the abstract machine's list
pub record Acting (M : Labels) (W : World) (p : ℕ) (L R : List Abstract.Token)
    (n : ℕ) (B : List Binding) (F : List Frame) (U : List ℕ) (v : ℤ) : Type 0 where
  pub others : Others M W p L R
  pub place : PlaceSeen W M (token_at W.tokens p) n B F U
  pub clear : Unset W.store U
  pub value : HeldSeen (M.value n) (token_at W.tokens p).value v
  pub state : (token_at W.tokens p).state ≡ states.Ready

module _ {M : Labels} {W : World} {p : ℕ} {L R : List Abstract.Token} {n : ℕ} {B : List Binding} {F : List Frame} {U : List ℕ} {v : ℤ}
    (A : Acting M W p L R n B F U v) where
  pub acting-seen : TokenSeen W M (token_at W.tokens p) (running (at n B F U) v)
  acting-seen = sees A.place A.clear (ready-seen A.state A.value)

  pub acting-used : UsedToken W p
  acting-used = token-used W p acting-seen

  pub acting-fits : Fits (UsedToken W) (UsedCell W) (token_at W.tokens p)
  acting-fits = used-fits W p acting-used

-- the machine m is seen as the state after the effect x of a token between L and R, and x has the label a
pub record Becomes (M : Labels) (W : World) (L R : List Abstract.Token) (now h : ℕ) (x : Abstract.Effect) (a : Label)
    (m : Machine) : Type 0 where
  pub label : Abstract.label_of x ≡ a
  pub machine : Sees M m (Abstract.after L R now W.store W.new h x)

-- a property of what an accepted effect shows and of its machine
unfoldable pub Shows : (Label → Machine → Type 0) → Effect → Type 0
Shows P (moves m) = P silently m
Shows P (waits m) = P silently m
Shows P (publishes v m) = P (showing (Event.publish v)) m
Shows P (calls h s vs m) = P (showing (Event.call h s vs)) m
Shows P (refuses r) = Unit

pub shows-unless : (P : Label → Machine → Type 0) (b : Bool) (n : ℕ) (e : Effect) → (b ≡ true → Shows P e) → Shows P (unless b n e)
unfolding Shows unless
shows-unless P true r e f = f refl
shows-unless P false r e f = tt

abbrev pub Agrees : Labels → World → (L R : List Abstract.Token) → (now h : ℕ) → Effect → Abstract.Effect → Type 0
Agrees M W L R now h e x = Shows (Becomes M W L R now h x) e

module _ {M : Labels} (m : Machine) {name place : ℕ → ℕ} {σ : Store} {new p : ℕ} {L R : List Abstract.Token}
    (o : Others M (world m.tokens m.cells name place σ new) p L R) where
  abbrev W : World
  W = world m.tokens m.cells name place σ new

  -- the token ends
  pub ends-becomes : (m' : Machine) (a : Label) (u : Token)
      → m'.tokens ≡ set m.tokens p u → m'.cells ≡ m.cells → m'.calls ≡ next_handle a m.calls → m'.clock ≡ m.clock
      → is_live u.state ≡ false → Becomes M W L R m.clock m.calls (makes a []) a m'
  ends-becomes m' a u et ec eh en dead =
      record { label = refl; machine = sees-tables name place (o.before ++ ([] ++ o.behind)) et ec eh en (ends-core o u dead) }

  -- the token goes on as u
  pub goes-becomes : (m' : Machine) (a : Label) (u : Token) {x : Abstract.Token}
      → m'.tokens ≡ set m.tokens p u → m'.cells ≡ m.cells → m'.calls ≡ next_handle a m.calls → m'.clock ≡ m.clock
      → Fits (UsedToken W) (UsedCell W) u → TokenSeen W M u x → Becomes M W L R m.clock m.calls (makes a (x ∷ [])) a m'
  goes-becomes m' a u et ec eh en f v =
      record { label = refl; machine = sees-tables name place (o.before ++ ((p ∷ []) ++ o.behind)) et ec eh en (goes-core o u f v) }
