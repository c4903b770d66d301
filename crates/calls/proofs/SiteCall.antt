-- The site call and the choke: how the step ends, by what was found of the parameters and what the site says. By the cases of the
-- definition, in their order. Assumes nothing.
use mathlib.Core.Path.{◌≡◌, refl, sym, ap, ap₂, subst, subst₂, ◌∙◌}
use mathlib.Core.Bool.{Bool, true, false}
use mathlib.Core.List.{List, [], ◌∷◌}
use mathlib.Core.Option.{Option, some, none}
use Prim.Native.Nat.{ℕ, suc, ◌+◌, ◌<◌, ◌≤◌}
use lib.ListN.{length, get_or}
use lib.Dec.{ltb}
use lib.IntN.{ℤ, pos}
use Rattle.std.specs.Prelude.{Result, Ok, Some}
use Rattle.job.specs.Site.{BuiltinReply, gives, silent, later, due_time, at, is_builtin, builtin}
use Rattle.sites.specs.declared.site.SiteReply.{SiteReply}
use Rattle.sites.specs.SiteReply.{builtin_reply_of}
use Rattle.sites.proofs.SiteCalls.{says-to-front}
use Rattle.job.specs.Words.{dag_of}
use Rattle.model.specs.Machine.Blank.{blank_token, token_at}
use Rattle.model.specs.Machine.InUse.{tokens_used, cells_used}
use Rattle.model.specs.Machine.Limits.{paper}
use Rattle.model.specs.Machine.Reply.{Effect, moves, accepted, outcome, unless, refuses, report_values}
use Rattle.model.specs.Machine.Update as Update
use Rattle.model.specs.Machine.Step as Step
use Rattle.model.specs.Machine.Update.{with_node, with_state, with_value, put, enqueue, with_tables, with_orders, with_counts}
use Rattle.model.specs.Machine.Step.{look, call_site}
use Rattle.model.specs.declared.record.Machine.{Machine}
use Rattle.model.specs.declared.reply.Outcome.{Outcome}
use Rattle.model.specs.declared.reply.Reply.{Reply}
use Rattle.model.specs.declared.reply.Report.{Report}
use Rattle.model.specs.declared.reply.Reply.TheVariants as replies
use Rattle.model.specs.declared.token.State.TheVariants as states
use Rattle.model.specs.declared.token.Token.{Token}
use Rattle.job.proofs.Test.{lt-ltb, le-not-ltb}
use Rattle.model.proofs.Machine.Deferred.{in_time}
use Rattle.demand3.proofs.Carried.{Carried, waited-carried, called-carried, deferred-carried, replied-carried}
use Rattle.record.specs.Changes.{dequeued, delayed}
use Rattle.record.specs.Holds.{Holds}
use Rattle.sites.specs.Row.{params_at}
use Rattle.sites.specs.Look.{look_up_of}
use Rattle.sites.specs.declared.look.UnsetCell.{UnsetCell}
use Rattle.sites.proofs.LookLaws.{look-values, look-count}
use Rattle.sites.proofs.LookParams.{params-count}
use Rattle.sites.proofs.RowKinds.{site-params}
use Rattle.model.specs.Machine.Rules.{node_rule}
use Rattle.acts.specs.Acting.{Acting, Taking, Gives, plain}
use Rattle.calls.specs.SiteCall.{Evaluated}
use Rattle.calls.specs.TimedReply.{settled_due, settled_at}
use Rattle.calls.specs.declared.rwait.TimedReply.{TimedReply}
use Rattle.calls.specs.declared.rwait.TimedReply.TheVariants as settleds
use Rattle.reach.specs.declared.used.Marks.{Marks}
use Rattle.writes.specs.declared.actor.Actor.{Actor}
use Rattle.acts.proofs.Outcomes.{gives_whole, row, node-rule}
use Rattle.acts.proofs.StepAtNode.{site-step}

module _ {ws dag : List ℕ} {used : Marks} {actor : Actor} {m : Machine} (a : Taking ws used dag actor m) where
  abbrev t : Token
  t = token_at m.tokens actor.token

  -- an instruction that left the marks
  marked : {x : Outcome} (o : Machine) (reply : Reply) (vs : List ℤ) {after : List ℕ} (r : Report) → x ≡ accepted reply vs o
      → r.reply ≡ reply
      → r.values ≡ report_values vs → Holds after o → Carried o (tokens_used m) (cells_used m)
      → Gives x m after used r
  marked o reply vs r e f g h c =
      let k = a.lawful.marks in
      gives_whole o reply vs r e f g h c.whole
      (λ framed. record { whole = c.whole; tokens = c.tokens ∙ sym k.tokens; cells = c.cells ∙ sym k.cells })

  pub wait-gives : {x : Outcome} (c : ℕ) {after : List ℕ} (r : Report) → x ≡ outcome m (Step.waited (dequeued m actor.place) actor.token t c)
      → r ≡ plain replies.Waits
      → Holds after (delayed actor.token (put actor.token (with_state (states.Waiting c) t) (dequeued m actor.place))) → Gives x m after used r
  unfolding outcome Step.waited put with_tables Update.queue_of Update.waits_of
  wait-gives c r e f h =
      marked _ replies.Waits [] r e (ap (λ (y : Report). y.reply) f) (ap (λ (y : Report). y.values) f) h
      (waited-carried paper (dag_of dag) m a.lawful.rules actor.place a.queued actor.token a.token c _ _)

  pub reply-gives : {x : Outcome} (v : ℤ) (k j : ℕ) {after : List ℕ} (r : Report)
      → x ≡ outcome m (Step.replied (dequeued m actor.place) actor.token t k (gives v)) → j ≡ k
      → r ≡ plain replies.Done → Holds after (enqueue actor.token (put actor.token (with_node j (with_value (Some v) t)) (dequeued m actor.place)))
      → Gives x m after used r
  unfolding outcome Step.replied Step.goes_on
  reply-gives v k j {after} r e g f h =
      marked _ replies.Done [] r e (ap (λ (y : Report). y.reply) f) (ap (λ (y : Report). y.values) f)
      (subst (λ i. Holds after (enqueue actor.token (put actor.token (with_node i (with_value (Some v) t)) (dequeued m actor.place)))) g h)
      (replied-carried paper (dag_of dag) m a.lawful.rules actor.place a.queued actor.token a.token k v)

  pub due-gives : {x : Outcome} (due k j : ℕ) {after : List ℕ} (r : Report) → x ≡ outcome m (moves (in_time (dequeued m actor.place) actor.token t k due))
      → j ≡ k → r ≡ plain replies.Done → Holds after (in_time (dequeued m actor.place) actor.token t j due) → Gives x m after used r
  unfolding outcome
  due-gives due k j {after} r e g f h =
      marked _ replies.Done [] r e (ap (λ (y : Report). y.reply) f) (ap (λ (y : Report). y.values) f)
      (subst (λ i. Holds after (in_time (dequeued m actor.place) actor.token t i due)) g h)
      (deferred-carried paper (dag_of dag) m a.lawful.rules actor.place a.queued actor.token a.token due k _)

  pub call-gives : {x : Outcome} (s i n k j h : ℕ) (vs : List ℤ) {after : List ℕ} (r : Report)
      → x ≡ outcome m (Step.called_out (dequeued m actor.place) actor.token t s vs k) → h ≡ m.calls → i ≡ s → j ≡ k → n ≡ length vs
      → r.reply ≡ replies.Called h i n → r.values ≡ report_values vs
      → Holds after
      (with_counts (suc h) m.lasttoken m.lastcell (put actor.token (with_node j (with_state (states.Called h) t)) (dequeued m actor.place)))
      → Gives x m after used r
  unfolding outcome Step.called_out with_orders
  call-gives s i n k j h vs {after} r e eh ei g l f v held =
      marked _ (replies.Called m.calls s (length vs)) vs r e
      (f ∙ ap₂ (λ x y. replies.Called x y n) eh ei ∙ ap (replies.Called m.calls s) l) v
      (subst₂ (λ x y. Holds after
      (with_counts (suc x) m.lasttoken m.lastcell (put actor.token (with_node y (with_state (states.Called x) t)) (dequeued m actor.place)))) eh g
      held)
      (called-carried paper (dag_of dag) m a.lawful.rules actor.place a.queued actor.token a.token m.calls k (suc m.calls) m.lasttoken
      m.lastcell)

-- what a site call does, by what was found
module _ (dag : List ℕ) (actor : Actor) (m : Machine) where
  abbrev word : ℕ → ℕ
  word i = get_or dag (actor.row + i) 0

  abbrev mine : Token
  mine = token_at m.tokens actor.token

  pub waits-at : {ws : List ℕ} {used : Marks} → Acting ws used dag actor 1 m → (c : ℕ)
      → look m.cells mine.binds (params_at dag actor.row) ≡ Step.unset c
      → Step.step paper (dag_of dag) m actor.place ≡ outcome m (Step.waited (dequeued m actor.place) actor.token mine c)
  unfolding call_site
  waits-at a c e =
      site-step dag actor m a ∙ ap (λ l. outcome m (call_site paper (dequeued m actor.place) actor.token mine (word 1) (word 2) l)) e

  module _ {ws : List ℕ} {used : Marks} {vs : List ℤ} (k : Evaluated ws used dag actor vs m) where
    by-site : Bool → Outcome
    by-site b =
        outcome m
        (elim b [
          | true ↦ Step.replied (dequeued m actor.place) actor.token mine (word 2) (builtin (word 1) k.values)
          | false ↦
              unless (ltb (dequeued m actor.place).calls 1000000) 13
              (Step.called_out (dequeued m actor.place) actor.token mine (word 1) k.values (word 2))
        ])

    at-site : Step.step paper (dag_of dag) m actor.place ≡ by-site (is_builtin (word 1))
    unfolding call_site by-site
    at-site =
        site-step dag actor m k.acting
        ∙ ap (λ l. outcome m (call_site paper (dequeued m actor.place) actor.token mine (word 1) (word 2) l)) k.found

    says : (said : BuiltinReply) → word 1 < 8 → builtin (word 1) k.values ≡ said
        → Step.step paper (dag_of dag) m actor.place ≡ outcome m (Step.replied (dequeued m actor.place) actor.token mine (word 2) said)
    unfolding by-site is_builtin
    says said l e =
        at-site ∙ ap by-site (lt-ltb (word 1) 8 l) ∙ ap (λ y. outcome m (Step.replied (dequeued m actor.place) actor.token mine (word 2) y)) e

    pub calls-out : 8 ≤ word 1 → m.calls < 1000000
        → Step.step paper (dag_of dag) m actor.place ≡ outcome m (Step.called_out (dequeued m actor.place) actor.token mine (word 1) k.values (word 2))
    unfolding by-site is_builtin unless with_orders
    calls-out l f =
        at-site
        ∙ ap by-site (le-not-ltb (word 1) 8 l)
        ∙ ap (λ b. outcome m (unless b 13 (Step.called_out (dequeued m actor.place) actor.token mine (word 1) k.values (word 2))))
        (lt-ltb m.calls 1000000 f)

    pub calls-no-more : 8 ≤ word 1 → 1000000 ≤ m.calls → Step.step paper (dag_of dag) m actor.place ≡ outcome m (refuses 13)
    unfolding by-site is_builtin unless with_orders
    calls-no-more l f =
        at-site
        ∙ ap by-site (le-not-ltb (word 1) 8 l)
        ∙ ap (λ b. outcome m (unless b 13 (Step.called_out (dequeued m actor.place) actor.token mine (word 1) k.values (word 2))))
        (le-not-ltb m.calls 1000000 f)

-- all values were found
pub values_of : {ws dag : List ℕ} {used : Marks} {actor : Actor} {m : Machine} {r : Result (List ℤ) UnsetCell} {xs : List ℤ}
    → Acting ws used dag actor 1 m
    → r ≡ look_up_of (look m.cells (token_at m.tokens actor.token).binds (params_at dag actor.row)) → r ≡ Ok xs
    → Evaluated ws used dag actor xs m
values_of a e f = let k = look-values _ e _ f in record { acting = a; values = k.0; found = k.1; padded = k.2 }

-- as many values as parameters: "at a call no empty variable"
pub values-count : {ws dag : List ℕ} {used : Marks} {actor : Actor} {vs : List ℤ} {m : Machine}
    → (k : Evaluated ws used dag actor vs m) → get_or dag (actor.row + 3) 0 ≡ length k.values
unfolding node_rule
values-count {ws} {dag} {used} {actor} {vs} {m} k =
    let o = site-params dag actor.row (row k.acting) in
    sym (look-count m.cells (token_at m.tokens actor.token).binds (params_at dag actor.row) k.values (node-rule k.acting) k.found
    ∙ params-count dag actor.row o.size o.inside o.few)

-- "it is silent and the token ends"
pub silent-ends : (m : Machine) (place p k : ℕ) → outcome m (Step.replied (dequeued m place) p (token_at m.tokens p) k silent)
    ≡ accepted replies.Done [] (put p blank_token (dequeued m place))
unfolding outcome Step.replied Step.ended
silent-ends m place p k = refl

-- what a settled reply does
module _ (m : Machine) (place p k : ℕ) where
  abbrev settled_effect : TimedReply → Effect
  settled_effect (settleds.Gives v) = Step.replied (dequeued m place) p (token_at m.tokens p) k (gives v)
  settled_effect settleds.Silent = Step.replied (dequeued m place) p (token_at m.tokens p) k silent
  settled_effect (settleds.Due due) = moves (in_time (dequeued m place) p (token_at m.tokens p) k due)

  settled-due : (o : Option ℕ)
      → Step.deferred (dequeued m place) p (token_at m.tokens p) k o ≡ settled_effect (settled_due m.clock o)
  unfolding Step.deferred Step.replied with_orders
  settled-due none = refl
  settled-due (some due) = go (ltb m.clock due)
    where
      go : (b : Bool)
          → elim b as (λ b. Effect) [
            | false ↦ Step.goes_on (dequeued m place) p (with_node k (with_value (Some (pos 0)) (token_at m.tokens p)))
            | true ↦ moves (in_time (dequeued m place) p (token_at m.tokens p) k due)
          ]
          ≡ settled_effect (elim b as (λ b. TimedReply) [ true ↦ settleds.Due due | false ↦ settleds.Gives (pos 0) ])
      go true = refl
      go false = refl

  settled-does : (r : BuiltinReply)
      → Step.replied (dequeued m place) p (token_at m.tokens p) k r ≡ settled_effect (settled_at m.clock r)
  unfolding Step.replied with_orders
  settled-does (gives v) = refl
  settled-does silent = refl
  settled-does (later t) = settled-due (due_time m.clock t)

-- a built-in's call, by what the code settled
pub settles : {ws dag : List ℕ} {used : Marks} {actor : Actor} {vs : List ℤ} {m : Machine}
    → (k : Evaluated ws used dag actor vs m) → {s : TimedReply} (u : TimedReply) → get_or dag (actor.row + 1) 0 < 8
    → s ≡ settled_at m.clock (builtin (get_or dag (actor.row + 1) 0) k.values) → s ≡ u
    → Step.step paper (dag_of dag) m actor.place ≡ outcome m (settled_effect m actor.place actor.token (get_or dag (actor.row + 2) 0) u)
settles {dag = dag} {actor = actor} {m = m} k u l e f =
    says dag actor m k _ l refl
    ∙ ap (outcome m) (settled-does m actor.place actor.token _ _ ∙ ap (settled_effect m actor.place actor.token _) (sym e ∙ f))

-- what the code got is what the site says to all values
pub replied-by : {s i : ℕ} (vs xs : List ℤ) (x : SiteReply) → i < 8 → xs ≡ report_values vs → s ≡ i
    → builtin_reply_of x ≡ builtin s (at xs 0 ∷ at xs 1 ∷ []) → builtin_reply_of x ≡ builtin i vs
replied-by {s} {i} vs xs x l e same got =
    got ∙ ap (λ j. builtin j (at xs 0 ∷ at xs 1 ∷ [])) same ∙ says-to-front i vs xs l e
