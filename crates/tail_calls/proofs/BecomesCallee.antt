-- What a tail call leaves: it writes to its token's row alone; where the token bound no cell nothing is out of reach, and otherwise the
-- record is swept. Assumes nothing.
use mathlib.Core.Path.{◌≡◌, refl, sym, ap, subst, ◌∙◌}
use mathlib.Core.Bool.{Bool, true}
use mathlib.Core.List.{List, []}
use Prim.Native.Nat.{ℕ, ◌+◌}
use lib.ListN.{get_or}
use Rattle.job.specs.Node.{body_at}
use Rattle.job.specs.Tail.{is_tail}
use Rattle.job.specs.Words.{dag_of}
use Rattle.model.specs.Machine.Blank.{token_at}
use Rattle.model.specs.Machine.Limits.{paper}
use Rattle.model.specs.Machine.Step as Step
use Rattle.model.specs.Machine.Update.{put, enqueue, with_tables, with_orders}
use Rattle.model.specs.declared.record.Machine.{Machine}
use Rattle.model.specs.declared.reply.Reply.TheVariants as replies
use Rattle.model.specs.declared.reply.Report.{Report}
use Rattle.model.specs.declared.token.State.TheVariants as states
use Rattle.model.specs.declared.token.Token.{Token}
use Rattle.demand3.proofs.Carried.{became-carried}
use Rattle.model.proofs.Machine.Rules.{ready-state}
use Rattle.record.specs.Changes.{dequeued}
use Rattle.record.specs.Holds.{Holds}
use Rattle.reach.specs.Marks.{Vacant}
use Rattle.sites.specs.Row.{params_at}
use Rattle.acts.specs.Acting.{Acting, Gives, plain}
use Rattle.acts.specs.Links.{BindsNoCell}
use Rattle.reach.specs.declared.used.Marks.{Marks}
use Rattle.writes.specs.declared.actor.Actor.{Actor}
use Rattle.acts.proofs.EndRebind.{Swept}
use Rattle.acts.proofs.Outcomes.{gives_whole, gives-swept, token-ready}
use Rattle.acts.proofs.StepAtNode.{tail_step}
use Rattle.acts.proofs.Vacancy.{vacant-row}

module _ {ws dag : List ℕ} {used : Marks} {actor : Actor} {m : Machine} (a : Acting ws used dag actor 2 m) where
  abbrev t : Token
  t = token_at m.tokens actor.token

  abbrev became : (root : ℕ) → Machine
  became root = enqueue actor.token (put actor.token (Step.callee t.caller t root (params_at dag actor.row)) (dequeued m actor.place))

  pub ready : t.state ≡ states.Ready
  ready = ready-state t.state (token-ready a.taking)

  module _ (is : is_tail (dag_of dag) (get_or dag (actor.row + 2) 0) ≡ true) {root : ℕ}
      (body : root ≡ (body_at (dag_of dag) (get_or dag (actor.row + 1)
      0)).root)
      {after : List ℕ} (r : Report) (done : r ≡ plain replies.Done) where
    pub tail-whole : BindsNoCell t.binds → Holds after (became root)
        → Gives (Step.step paper (dag_of dag) m actor.place) m after used r
    tail-whole none h =
        let marks = a.taking.lawful.marks in
        let c = became-carried paper (dag_of dag) m a.taking.lawful.rules actor.place a.taking.queued actor.token a.taking.token
        (body_at (dag_of dag) (get_or dag (actor.row + 1) 0)).root (params_at dag actor.row) none in
        gives_whole _ replies.Done [] r (tail_step dag actor m is a) (ap (λ (y : Report). y.reply) done)
        (ap (λ (y : Report). y.values) done) (subst (λ x. Holds after (became x)) body h) c.whole
        (λ framed. record { whole = c.whole; tokens = c.tokens ∙ sym marks.tokens; cells = c.cells ∙ sym marks.cells })

    pub tail-swept : {used' : Marks} → Swept (became root) after used'
        → Gives (Step.step paper (dag_of dag) m actor.place) m after used' r
    tail-swept {used'} h =
        gives-swept _ replies.Done r (tail_step dag actor m is a) done (subst (λ x. Swept (became x) after used') body h)

  pub tail-vacant : (root : ℕ) → Vacant (became root) used
  unfolding put with_tables with_orders enqueue
  tail-vacant root = vacant-row a.taking _ (Step.callee t.caller t root (params_at dag actor.row)) refl refl
