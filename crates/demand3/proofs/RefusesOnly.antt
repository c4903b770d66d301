-- Which refusals an effect may be: each test refuses with its own number, a site call with 13 or not at all. One walk over the instruction
-- table and the calls, whatever is asked of the refusals. Assumes nothing.
use mathlib.Core.Path.{◌≡◌, refl, subst}
use mathlib.Core.Bool.{Bool, true, false}
use Prim.Native.Nat.{ℕ, ◌<◌, ◌≤◌}
use native.Mathlib.Omega.{arith}
use lib.Dec.{ltb}
use lib.IntN.{ℤ}
use Rattle.std.specs.Prelude.{Some, None}
use Rattle.job.specs.Node.{Node, Dag}
use Rattle.model.specs.Machine.Limits.{Limits}
use Rattle.model.specs.Machine.Rules.{rules_hold}
use Rattle.model.specs.Machine.Reply.{Effect, moves, waits, publishes, calls, refuses, unless, accepted, outcome, refusal_of}
use Rattle.model.specs.Machine.Update.{with_orders}
use Rattle.model.specs.Machine.Step.{goes_on, waited, called_out}
use Rattle.model.specs.Machine.Step.{entered, forked, split, has_token_place, has_cell_place, act, takes, step}
use Rattle.model.specs.Machine.Answer.{holder, answered, answer}
use Rattle.model.specs.Machine.Clock.{advance}
use Rattle.model.specs.Run.Call.{Call, runner, outcome_of}
use Rattle.model.specs.Run.Follow.{queued_token}
use Rattle.model.specs.Machine.Held.{Place}
use Rattle.model.specs.declared.token.Token.{Token}
use Rattle.model.specs.declared.record.Machine.{Machine}
use Rattle.model.specs.declared.reply.Refusal.{Refusal}
use Rattle.model.specs.declared.reply.Refusal.TheVariants as refusals
use Rattle.model.specs.declared.reply.Reply.TheVariants as replies
use Rattle.job.proofs.Test.{never, ltb-lt, not-ltb-le}
use Rattle.model.proofs.Machine.ActCases.{Lacks, Refusing, Does, act-does}
use Rattle.model.proofs.Machine.Added.{node_taken, tokens_added, cells_added}

-- an effect that is no refusal, or one of which P holds
unfoldable pub RefusesOnly : (Refusal → Type 0) → Effect → Type 0
RefusesOnly P (moves m) = Unit
RefusesOnly P (waits m) = Unit
RefusesOnly P (publishes v m) = Unit
RefusesOnly P (calls h s vs m) = Unit
RefusesOnly P (refuses n) = P (refusal_of n)

-- what P asks of the tests of an instruction
pub record ActTests (P : Refusal → Type 0) (lim : Limits) (d : Dag) (m : Machine) (t : Token) (N : Node) : Type 0 where
  pub token : has_token_place lim m ≡ false → tokens_added d N ≡ 1 → P refusals.TokenLimit
  pub cell : has_cell_place lim m ≡ false → cells_added N ≡ 1 → P refusals.CellLimit
  pub call : lim.calls ≤ m.calls → P refusals.CallLimit
  pub rule : Lacks t N → P refusals.Rule

-- of a step: 14, 9, and those of the instruction of the token that it takes
pub record StepTests (P : Refusal → Type 0) (lim : Limits) (d : Dag) (m : Machine) (place : ℕ) : Type 0 where
  pub rules : rules_hold lim d m ≡ false → P refusals.Rule
  pub queued : m.queued ≤ place → P refusals.NoToken
  pub takes : rules_hold lim d m ≡ true → place < m.queued → ActTests P lim d m (queued_token m place) (node_taken d m place)

module _ (P : Refusal → Type 0) where
  unless-only : (b : Bool) (n : ℕ) (e : Effect) → (b ≡ false → P (refusal_of n)) → (b ≡ true → RefusesOnly P e)
      → RefusesOnly P (unless b n e)
  unfolding unless RefusesOnly
  unless-only true n e f g = g refl
  unless-only false n e f g = f refl

  -- a reply is no refusal of which P does not hold
  outcome-only : (m : Machine) (e : Effect) (r : Refusal) → (P r → ⊥) → RefusesOnly P e → (outcome m e).reply ≡ replies.Refused r → ⊥
  unfolding RefusesOnly outcome accepted
  outcome-only m (moves o) r not x e = never cc
  outcome-only m (waits o) r not x e = never cc
  outcome-only m (publishes v o) r not x e = never cc
  outcome-only m (calls h s vs o) r not x e = never cc
  outcome-only m (refuses k) r not x e = not (subst P (let z : refusal_of k ≡ r = cc in z) x)

  -- what an instruction does: its own tests refuse, if any
  does-only : {lim : Limits} {d : Dag} {before m : Machine} {p : ℕ} {t : Token} {N : Node} {e : Effect} → m.calls ≡ before.calls
      → ActTests P lim d before t N → Does lim d before m p t N e → RefusesOnly P e
  unfolding RefusesOnly goes_on waited called_out forked entered split
  does-only same on (Does.refused (Refusing.tokens_full f a)) = on.token f a
  does-only same on (Does.refused (Refusing.cells_full f a)) = on.cell f a
  does-only same on (Does.refused (Refusing.calls_full l)) = on.call (omega arith)
  does-only same on (Does.refused (Refusing.lacking x)) = on.rule x
  does-only same on Does.ends = tt
  does-only same on Does.publishes = tt
  does-only same on (Does.goes_on a) = tt
  does-only same on (Does.waits e i) = tt
  does-only same on (Does.due_later time e i l) = tt
  does-only same on (Does.calls_out e i l) = tt
  does-only same on (Does.forks e r) = tt
  does-only same on (Does.enters e i r) = tt
  does-only same on (Does.splits e r c) = tt
  does-only same on (Does.chokes e i) = tt

  act-only : (lim : Limits) (d : Dag) (before m : Machine) (p : ℕ) (t : Token) (N : Node) → m.calls ≡ before.calls
      → ActTests P lim d before t N → RefusesOnly P (act lim d before m p t N)
  act-only lim d before m p t N same on = does-only same on (act-does lim d before m p t N)

  module _ (lim : Limits) (d : Dag) (m : Machine) where
    pub takes-only : (place : ℕ) → ActTests P lim d m (queued_token m place) (node_taken d m place) → RefusesOnly P (takes lim d m place)
    unfolding takes with_orders
    takes-only place on = act-only lim d m _ _ _ _ refl on

    -- a step is refused only with a number of which P holds
    pub step-only : (place : ℕ) (r : Refusal) → StepTests P lim d m place → (P r → ⊥) → (step lim d m place).reply ≡ replies.Refused r → ⊥
    unfolding step
    step-only place r on not =
        outcome-only m _ r not
        (unless-only (rules_hold lim d m) 14 _ on.rules (λ h.
        unless-only (ltb place m.queued) 9 _ (λ e. on.queued (not-ltb-le place m.queued e))
        (λ l. takes-only place (on.takes h (ltb-lt place m.queued l)))))

    answered-only : P refusals.NotOpen → (v : ℤ) (q : Place) → RefusesOnly P (answered m v q)
    unfolding RefusesOnly answered
    answered-only other v None = other
    answered-only other v (Some p) = tt

    -- nor is any other call
    pub call-only : ((place : ℕ) → StepTests P lim d m place) → P refusals.NotOpen → P refusals.WrongTime → (c : Call) (r : Refusal)
        → (P r → ⊥) → (outcome_of runner lim d m c).reply ≡ replies.Refused r → ⊥
    unfolding RefusesOnly outcome_of answer advance
    call-only on closed back (Call.step place) r not = step-only place r (on place) not
    call-only on closed back (Call.answer h v fits) r not =
        outcome-only m _ r not (unless-only (rules_hold lim d m) 14 _ (on 0).rules (λ e. answered-only closed v (holder h 0 m.tokens)))
    call-only on closed back (Call.advance time) r not =
        outcome-only m _ r not (unless-only (rules_hold lim d m) 14 _ (on 0).rules (λ e. unless-only _ _ _ (λ f. back) (λ f. tt)))
