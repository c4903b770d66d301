-- A whole call: the token that a step takes and the node at which it acts; how an answer ends; the words of a start. The tests before it
-- have left one case of the definition. Assumes nothing.
use mathlib.Core.Path.{◌≡◌, refl, sym, ap, subst, ◌∙◌}
use mathlib.Core.Bool.{Bool, true, false}
use mathlib.Core.List.{List, []}
use Prim.Native.Nat.{ℕ, ◌<◌, ◌≤◌}
use native.Mathlib.Omega.{arith}
use lib.ListN.{length, get_or, set, replicate}
use lib.IntN.{ℤ}
use Rattle.std.specs.Prelude.{Some, None, Result, Ok, Err}
use Rattle.std.proofs.lemmas.Result.{IfErr-at_err}
use Rattle.job.specs.Test.{padded}
use Rattle.job.specs.Words.{dag_of}
use Rattle.model.specs.Machine.Active.{upward, under_set, is_active}
use Rattle.model.specs.Machine.Answer as Answer
use Rattle.model.specs.Machine.Answer.{holder}
use Rattle.model.specs.Machine.Blank.{blank_token, is_place, token_at}
use Rattle.model.specs.Machine.InUse.{mark_chain, mark_from_each, reached, active_places}
use Rattle.model.specs.Machine.InUse.{bound_cell, cells_of, cells_of_marked, used_tokens}
use Rattle.model.specs.Machine.InUse.{used_cells, tokens_used, cells_used}
use Rattle.model.specs.Machine.Limits.{paper}
use Rattle.model.specs.Machine.Reply.{outcome, unless}
use Rattle.model.specs.Machine.Start.{start_token, start_machine}
use Rattle.model.specs.Machine.State.{is_live}
use Rattle.model.specs.Machine.Update.{queue_of, waits_of, timers_of}
use Rattle.model.specs.declared.record.Machine.{Machine}
use Rattle.model.specs.declared.reply.Refusal.{Refusal}
use Rattle.model.specs.declared.reply.Refusal.TheVariants as refusals
use Rattle.model.specs.declared.reply.Reply.TheVariants as replies
use Rattle.model.specs.Machine.Held.{Place}
use Rattle.model.specs.declared.token.Token.{Token}
use Rattle.job.proofs.Test.{clash}
use Rattle.demand3.proofs.Carried.{Carried, answered-carried}
use Rattle.record.specs.Layout.{words_of}
use Rattle.record.specs.Holds.{Holds}
use Rattle.record.proofs.HoldsShape.{binds-after, queue-fits}
use Rattle.sites.specs.Answer.{answered_by, answer_says, Answered}
use Rattle.sites.specs.Row.{row_of}
use Rattle.sites.proofs.AnswerLaws.{answered-moves, answered-refuses}
use Rattle.unchecked.proofs.AnswerUnknown.{unknown-handle}
use Rattle.reach.specs.Marks.{BlankFrom}
use Rattle.acts.specs.Acting.{Lawful, QueueHasToken, Taking, Acting, Gives, call_report}
use Rattle.reach.specs.declared.used.Marks.{Marks}
use Rattle.writes.specs.declared.actor.Actor.{Actor}
use Rattle.acts.proofs.Outcomes.{gives_whole, gives-refused}
use Rattle.job.proofs.Lists.{replicate-at}

-- the token that acts
module _ {ws dag : List ℕ} {used : Marks} {place : ℕ} {m : Machine} (r : QueueHasToken ws used dag place m) where
  pub place_inside : place < 64
  place_inside =
      let f = queue-fits r.lawful.holds in
      let e = r.lawful.holds.ordered.queued in
      let l = r.queued in
      omega arith

  pub taking-of : {token row : ℕ} → token ≡ get_or m.queue place 0
      → Taking ws used dag (record { place = place; token = token; row = row }) m
  taking-of e = record { lawful = r.lawful; queued = r.queued; token = e }

  pub acting-of : {token row : ℕ} → token ≡ get_or m.queue place 0 → row ≡ row_of (token_at m.tokens token).node
      → Acting ws used dag (record { place = place; token = token; row = row }) (get_or dag row 0) m
  acting-of e f = record { taking = taking-of e; row = f; kind = refl }

pub of-kind : {ws dag : List ℕ} {used : Marks} {actor : Actor} {i : ℕ} (k : ℕ) {m : Machine} → get_or dag actor.row 0 ≡ i → i ≡ k
    → Acting ws used dag actor (get_or dag actor.row 0) m → Acting ws used dag actor k m
of-kind k e f a = record { taking = a.taking; row = a.row; kind = e ∙ f }

-- an answer to a handle that no call was given
module _ {ws dag : List ℕ} {used : Marks} {m : Machine} (a : Lawful ws used dag m) (handle : ℕ) (v : ℤ) where
  tested : Answer.answer paper (dag_of dag) m handle v ≡ outcome m (Answer.answered m v (holder handle 0 m.tokens))
  unfolding Answer.answer unless
  tested = rw (a.rules, unless)

  pub answer-unknown : m.calls ≤ handle
      → Gives (Answer.answer paper (dag_of dag) m handle v) m ws used (call_report (Err refusals.NotOpen))
  unfolding is_place
  answer-unknown l =
      let none = ap is_place (unknown-handle (dag_of dag) m handle a.rules l) in
      gives-refused 12 _ a (tested ∙ ap (outcome m) (answered-refuses m v _ none)) refl

-- an answer
module _ {ws after dag : List ℕ} {used : Marks} {m : Machine} (a : Lawful ws used dag m) (handle : ℕ) (v : ℤ)
    (r : Result Unit Refusal) (end : ℕ) (k : Answered end handle v r ws after) (blank : BlankFrom m end) where
  at_place : (q : Place) → holder handle 0 m.tokens ≡ q → is_place q ≡ true → Carried (answered_by m v q) (tokens_used m) (cells_used m)
  unfolding is_place answered_by
  at_place None e f = clash f refl
  at_place (Some p) e f = answered-carried paper (dag_of dag) m a.rules handle v p e

  pub answer-gives : Gives (Answer.answer paper (dag_of dag) m handle v) m after used (call_report r)
  unfolding outcome answer_says
  answer-gives = go (is_place (holder handle 0 m.tokens)) refl
    where
      go : (x : Bool) → is_place (holder handle 0 m.tokens) ≡ x
          → Gives (Answer.answer paper (dag_of dag) m handle v) m after used (call_report r)
      go true here =
          let c = at_place (holder handle 0 m.tokens) refl here in
          subst (λ y. Gives (Answer.answer paper (dag_of dag) m handle v) m after used (call_report y))
          (sym (k.says m a.holds blank ∙ ap answer_says here))
          (gives_whole (answered_by m v (holder handle 0 m.tokens)) replies.Done [] (call_report (Ok tt))
          (tested a handle v ∙ ap (outcome m) (answered-moves m v _ here)) refl refl (k.does (dag_of dag) m a.holds blank a.rules)
          c.whole
          (λ framed. record { whole = c.whole; tokens = c.tokens ∙ sym a.marks.tokens; cells = c.cells ∙ sym a.marks.cells }))
      go false none =
          let e : r ≡ Err refusals.NotOpen = k.says m a.holds blank ∙ ap answer_says none in
          let same = IfErr-at_err (λ (e : Refusal). (e ≡ refusals.NotOpen) × (after ≡ ws)) e k.stays in
          subst (λ y. Gives (Answer.answer paper (dag_of dag) m handle v) m after used (call_report y)) (sym e)
          (subst (λ x. Gives (Answer.answer paper (dag_of dag) m handle v) m x used (call_report (Err refusals.NotOpen)))
          (sym same.1)
          (gives-refused 12 _ a (tested a handle v ∙ ap (outcome m) (answered-refuses m v _ none)) refl))

-- the words of a start
pub start-holds : {ws : List ℕ} (goal : ℕ) → ws ≡ words_of (start_machine paper goal) → Holds ws (start_machine paper goal)
unfolding padded queue_of waits_of timers_of token_at
start-holds goal e =
    record {
      codes =
          record {
            words = e;
            shaped =
                record {
                  tokens = refl;
                  cells = refl;
                  queue = refl;
                  waits = refl;
                  timers = refl;
                  binds =
                      binds-after (replicate 64 blank_token) 0 (start_token goal) refl
                      (λ i. ap (λ (t : Token). length t.binds) (replicate-at 64 i blank_token));
                };
          };
      ordered = record { queue = refl; queued = refl; waits = refl; waiting = refl; timers = refl; timed = refl };
    }

-- the marks of a start: one token is in use, and no cell
pub start-tokens : (goal : ℕ) → set (replicate 64 false) 0 true ≡ tokens_used (start_machine paper goal)
unfolding used_tokens reached mark_from_each mark_chain active_places is_active is_live under_set upward
start-tokens goal = refl

pub start-cells : (goal : ℕ) → replicate 32 false ≡ cells_used (start_machine paper goal)
unfolding used_tokens used_cells reached mark_from_each mark_chain active_places is_active is_live under_set upward cells_of_marked cells_of bound_cell
start-cells goal = refl
