-- Every instruction of a ready token agrees with the abstract machine's: one clause for each node. The same lemma serves both directions,
-- since it speaks of the machine before blanking and of whatever is not refused. Assumes nothing.
use mathlib.Core.Path.{◌≡◌, refl, sym, ◌∙◌, ap, subst}
use mathlib.Core.Bool.{Bool, true, false}
use mathlib.Core.List.{List, map, reverse}
use Prim.Native.Nat.{ℕ}
use lib.IntN.{ℤ}
use Rattle.job.specs.Test.{All}
use Rattle.job.specs.Syntax.{Param}
use Rattle.job.specs.WellFormed.{GoodParam}
use Rattle.job.specs.Node.{Node, Dag, body_at}
use Rattle.job.specs.Tail.{is_tail}
use Rattle.model.specs.Machine.Limits.{Limits}
use Rattle.model.specs.Machine.Blank.{token_at}
use Rattle.model.specs.Machine.State.{is_live}
use Rattle.model.specs.Machine.InUse.{tokens_used, cells_used}
use Rattle.model.specs.Machine.FreePlace.{next_place}
use Rattle.model.specs.Machine.Reply.{unless}
use Rattle.model.specs.Machine.Update.{with_orders}
use Rattle.model.specs.Machine.Step.{forked, split, entered, has_token_place, has_cell_place, call_body, act}
use Rattle.calculus.specs.Expression.{Exp}
use Rattle.calculus.specs.Meaning.{param_meant}
use Rattle.model.specs.Machine.Held.{Held}
use Rattle.model.specs.declared.token.State.{State}
use Rattle.model.specs.declared.token.State.TheVariants as states
use Rattle.model.specs.declared.token.Token.{Token}
use Rattle.model.specs.declared.record.Machine.{Machine}
use Rattle.job.proofs.Test.{never}
use Rattle.model.proofs.Machine.Marks.{Free}
use Rattle.simulation.proofs.AbstractMachine as Abstract
use Rattle.simulation.proofs.AbstractMachine.{Binding, Frame, frame, at, running, Store, named, acts_at}
use Rattle.simulation.proofs.Shuffle.{Split}
use Rattle.lockstep.proofs.Labels.{Labels, node_meant, program_of, Follows, Enters, FlowAt}
use Rattle.lockstep.proofs.Tails.{TailLabels}
use Rattle.lockstep.proofs.View.{World, HeldSeen, StateSeen, ready, waiting, called, due, TokenSeen, sees}
use Rattle.lockstep.proofs.Seen.{Core, world, live-listed}
use Rattle.lockstep.proofs.Others.{Others, FoundAt, found_at, find-place, others, spot-token}
use Rattle.lockstep.proofs.Agrees.{Acting, shows-unless, Agrees}
use Rattle.lockstep.proofs.OnePlace.{stop-agrees, publish-agrees, assign-agrees, remove-agrees, return-agrees, site-agrees}
use Rattle.lockstep.proofs.OnePlace.{tail-agrees}
use Rattle.lockstep.proofs.NewPlace.{fork-agrees, call-agrees, where-agrees}
use Rattle.lockstep.proofs.ChokeAgrees.{choke-agrees}

-- a ready token at place p, found among the abstract machine's tokens
pub data Taken (M : Labels) (W : World) (p : ℕ) (S : List Abstract.Token) : Type 0 where
  taken : {L R : List Abstract.Token} {n : ℕ} {B : List Binding} {F : List Frame} {U : List ℕ} {v : ℤ}
      → Split (running (at n B F U) v) S L R → Acting M W p L R n B F U v → Taken M W p S

ready-is : {M : Labels} {n : ℕ} {K : Abstract.Place} {s : State} {w : Held} {x : Abstract.Token}
    → s ≡ states.Ready → StateSeen M n K s w x → (v : ℤ) × (x ≡ running K v) × HeldSeen (M.value n) w v
ready-is e (ready {v = v} h) = (v, refl, h)
ready-is e (waiting f h) = never cc
ready-is e called = never cc
ready-is e due = never cc

take-token : {M : Labels} {W : World} {p : ℕ} {S L R : List Abstract.Token} {x : Abstract.Token}
    → (token_at W.tokens p).state ≡ states.Ready → Split x S L R → Others M W p L R → TokenSeen W M (token_at W.tokens p) x
    → Taken M W p S
take-token {S = S} {L = L} {R = R} e i o (sees z un st) =
    let r = ready-is e st in
    taken (subst (λ x. Split x S L R) r.1 i) (record { others = o; place = z; clear = un; value = r.2; state = e })

pub take-ready : {M : Labels} {W : World} {A : List ℕ} {S : List Abstract.Token} (p : ℕ)
    → Core M W A S → (token_at W.tokens p).state ≡ states.Ready → Taken M W p S
unfolding is_live
take-ready {M} {W} {A} {S} p K e = go (find-place M W p (live-listed p K (ap is_live e)) K.seen)
  where
    go : FoundAt M W p A S → Taken M W p S
    go (found_at i s) = take-token e i (others K s) (spot-token s)

-- what each node does; the machine that acts is `before` with its orders changed
module _ (lim : Limits) (d : Dag) (M : Labels) (bodies : ℕ → Exp) (before : Machine) (queue waits : List ℕ)
    {name place : ℕ → ℕ} {σ : Store} {new p : ℕ}
    {L R : List Abstract.Token} {n : ℕ} {B : List Binding} {F : List Frame} {U : List ℕ} {v : ℤ}
    (A : Acting M (world before.tokens before.cells name place σ new) p L R n B F U v)
    (token : has_token_place lim before ≡ true → Free (tokens_used before) (next_place (tokens_used before) before.lasttoken))
    (cell : has_cell_place lim before ≡ true → Free (cells_used before) (next_place (cells_used before) before.lastcell))
    (tail : (k : ℕ) → is_tail d k ≡ true → TailLabels M k) where
  abbrev W : World
  W = world before.tokens before.cells name place σ new

  abbrev t : Token
  t = token_at before.tokens p

  abbrev m : Machine
  m = with_orders queue waits before

  abbrev q : ℕ
  q = next_place (tokens_used before) before.lasttoken

  abbrev c : ℕ
  c = next_place (cells_used before) before.lastcell

  -- a definition call, in tail position or not
  body-agrees : {e k : ℕ} {ps : List Param} (b : Bool) → is_tail d k ≡ b
      → All (GoodParam (M.scope n)) ps → Follows d M n k (M.scope n) (M.nest n) → Enters d M e ps
      → Agrees M W L R before.clock before.calls (call_body lim before m p t (body_at d e).root ps k b)
      (Abstract.goes_on
      (at (body_at d e).root (map (named B) (reverse (map (param_meant (M.scope n)) ps))) (Abstract.callers b (frame k B U) F) U) v)
  unfolding call_body with_orders
  body-agrees {k = k} true i good f enters =
      let labels = tail k i in
      tail-agrees d M bodies m A good
      (record { nest = sym f.nest ∙ labels.nest; body = sym f.body ∙ labels.body }) enters
  body-agrees {e} {k} {ps} false i good f enters =
      shows-unless _ (has_token_place lim before) 10 (entered m p t q (body_at d e).root ps k)
      (λ ok. call-agrees d M bodies m A q (token ok) good f enters)

  pub act-agrees : {N : Node} → FlowAt d M n N
      → Agrees M W L R before.clock before.calls (act lim d before m p t N)
      (acts_at (program_of d M bodies) before.clock σ new before.calls (node_meant (M.scope n) N) (at n B F U) v)
  unfolding act with_orders node_meant
  act-agrees FlowAt.stop = stop-agrees d M bodies m A
  act-agrees (FlowAt.site {s = s} e good f) = site-agrees d M bodies m A lim s f e good
  act-agrees (FlowAt.call {e = e} {ps = ps} {k = k} x good f enters) =
      body-agrees (is_tail d k) refl good f enters
  act-agrees (FlowAt.fork {l = l} {r = r} a b f g) =
      shows-unless _ (has_token_place lim before) 10 (forked m p t q l r)
      (λ ok. fork-agrees d M bodies m A q (token ok) a b f g)
  act-agrees (FlowAt.assign e l g f) = assign-agrees d M bodies m A e l g f
  act-agrees (FlowAt.remove e l x g f) = remove-agrees d M bodies m A e l x g f
  act-agrees (FlowAt.where' {x = x} {l = l} {r = r} a b i fresh f g) =
      shows-unless _ (has_token_place lim before) 10
      (unless (has_cell_place lim before) 11 (split m p t q c x l r))
      (λ ok.
      shows-unless _ (has_cell_place lim before) 11 (split m p t q c x l r)
      (λ too. where-agrees d M bodies m A q (token ok) c (cell too) a b i fresh f g))
  act-agrees (FlowAt.choke e x) = choke-agrees d M bodies m A e
  act-agrees (FlowAt.return e z x) = return-agrees d M bodies m A e z
  act-agrees (FlowAt.publish e) = publish-agrees d M bodies m A e
