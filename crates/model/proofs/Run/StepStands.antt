-- An accepted step that takes the front of the queue leaves a token behind it as it is, at the position that its fate says, unless the step
-- ends it: each instruction writes at the front's place, at a place that was not in use, or, at choke, what is within its cell. Assumes
-- nothing.
use mathlib.Core.Path.{◌≡◌, refl, sym, ◌∙◌, ap, subst}
use mathlib.Core.Logic.{◌⊎◌, inl, inr}
use mathlib.Core.Bool.{true, false, not}
use mathlib.Core.List.{List, [], ◌∷◌, ◌++◌}
use Prim.Native.Nat.{ℕ, suc, ◌+◌, ◌≤◌, ◌<◌}
use native.Mathlib.Omega.{arith}
use lib.ListN.{length, get_or, take, length-append, length-take, get_or-append}
use lib.Seq.{get_or-take}
use Rattle.std.specs.Prelude.{Some, None}
use Rattle.job.specs.Test.{select, without}
use Rattle.job.specs.Node.{Node, Dag, node_at}
use Rattle.model.specs.Machine.Limits.{Limits}
use Rattle.model.specs.Machine.Blank.{blank_token}
use Rattle.model.specs.Machine.Active.{under_set, within}
use Rattle.model.specs.Machine.InUse.{tokens_used, marked}
use Rattle.model.specs.Machine.FreePlace.{next_place}
use Rattle.model.specs.Machine.Rules.{rules_hold}
use Rattle.model.specs.Machine.Reply.{Effect, is_refused}
use Rattle.model.specs.Machine.Update.{with_tables, with_orders, with_counts}
use Rattle.model.specs.Machine.Update.{queue_of, waits_of, put, new_token}
use Rattle.model.specs.Machine.Step.{ended, goes_on, forked, split, entered, waited}
use Rattle.model.specs.Machine.Step.{called_out, choke_at, has_token_place, act, takes, step}
use Rattle.model.specs.Run.Follow.{queued_token, cell_set, ends_token, front_ends, survivors, stays, fate, Stands}
use Rattle.model.specs.Machine.Held.{Place}
use Rattle.model.specs.declared.token.Token.{Token}
use Rattle.model.specs.declared.record.Machine.{Machine}
use Rattle.model.specs.declared.reply.Outcome.{Outcome}
use Rattle.job.proofs.Test.{never, clash, ltb-lt, not-false}
use Rattle.model.proofs.Machine.InUse.{tokens-used}
use Rattle.model.proofs.Machine.ActCases.{Does, act-does}
use Rattle.model.proofs.Machine.Places.{next-place-free}
use Rattle.model.proofs.Machine.Refused.{After, after-outcome, StepAccepted, step-accepted}
use Rattle.model.proofs.Machine.Rules.{tokens-sized, lasttoken-inside}
use Rattle.model.proofs.Run.Queue.{QueueRulesHold, queue-rules-hold}
use Rattle.model.proofs.Run.Survivors.{sets-only, among, Behind, select-finds, survivors-all, survivors-pass, fate-stays}
use Rattle.model.proofs.Run.ChokeStands.{ready_then, queue_then, within-ready, untouched-choked}
use Rattle.model.proofs.Run.Bystander.{Unharmed, Untouched, queue-orders, untouched-orders, untouched-waits, untouched-enqueue}
use Rattle.model.proofs.Run.Bystander.{untouched-timers, untouched-put, untouched-counts, untouched-token, untouched-cell}
use Rattle.model.proofs.Run.Bystander.{unharmed-marked, queued-unharmed, untouched-stands}

-- if no cell is set no token is ended
spares-all :
    (d : Dag) (m : Machine)
    → cell_set (node_at d (queued_token m 0).node) (queued_token m 0) ≡ None
    → (i : ℕ)
    → front_ends d m i ≡ false
unfolding front_ends ends_token
spares-all d m e i = ap (λ q. ends_token m q (queued_token m i)) e

-- the queue without its front
without-front : (xs : List ℕ) (k : ℕ) → get_or (without 0 xs) k 0 ≡ get_or xs (suc k) 0
unfolding without
without-front [] k = refl
without-front (x ∷ xs) k = refl

length_without : (xs : List ℕ) (k : ℕ) → suc k < length xs → k < length (without 0 xs)
unfolding without
length_without [] k l = absurd (omega arith)
length_without (x ∷ xs) k l = omega arith

module _ (lim : Limits) (d : Dag) (m : Machine) (h : QueueRulesHold m) (k : ℕ) (l : suc k < m.queued) where
  -- the token that acts, and its place; the token that is watched, and its place
  abbrev front : ℕ
  front = get_or m.queue 0 0

  abbrev actor : Token
  actor = queued_token m 0

  abbrev place : ℕ
  place = get_or m.queue (suc k) 0

  abbrev watched : Token
  watched = queued_token m (suc k)

  -- the machine with the front taken from its queue
  abbrev taken : Machine
  taken = with_orders (without 0 (queue_of m)) (waits_of m) m

  queue-length : length (queue_of m) ≡ m.queued
  unfolding queue_of
  queue-length = let z = length-take m.queued m.queue in let s = h.short in omega arith

  rest_at : (j : ℕ) → suc j < m.queued → get_or (without 0 (queue_of m)) j 0 ≡ get_or m.queue (suc j) 0
  unfolding queue_of
  rest_at j i = without-front (queue_of m) j ∙ get_or-take m.queued m.queue (suc j) 0 i

  rest-long : k < length (without 0 (queue_of m))
  rest-long = length_without (queue_of m) k (let z = queue-length in omega arith)

  apart : place ≡ front → ⊥
  apart e = h.apart k l (sym e)

  unharmed : Unharmed watched place m
  unharmed = queued-unharmed m h (suc k) l

  -- the token watched is one position nearer to the front, and else untouched
  abbrev Leaves : Effect → Type 0
  Leaves e = After (Untouched watched place k) e

  base : Untouched watched place k taken
  base = untouched-orders (without 0 (queue_of m)) (waits_of m) m rest-long (rest_at k l) unharmed

  front-clear : under_set m.cells actor.cell ≡ false
  front-clear = h.clear 0 (omega arith)

  -- the place of a new token was not in use, and the one watched is
  used-length : length (tokens_used m) ≡ length m.tokens
  used-length = (tokens-used m.tokens m.cells).size

  module _ (fits : lim.tokens ≤ lim.token_places) (holds : rules_hold lim d m ≡ true) where
    fresh : has_token_place lim m ≡ true → place ≡ next_place (tokens_used m) m.lasttoken → ⊥
    unfolding has_token_place
    fresh e p =
        clash (unharmed-marked (h.ready (suc k) l) m unharmed)
        (ap (λ i. get_or (tokens_used m) i true) p ∙ next-place-free (tokens_used m) m.lasttoken inside room)
      where
        sized : length m.tokens ≡ lim.token_places
        sized = tokens-sized lim d m holds

        inside : m.lasttoken < length (tokens_used m)
        inside = let z = lasttoken-inside lim d m holds in let s = sized in let u = used-length in omega arith

        room : marked (tokens_used m) < length (tokens_used m)
        room = let z = ltb-lt (marked (tokens_used m)) lim.tokens e in let s = sized in let u = used-length in omega arith

    -- what each instruction does but choke, which alone sets a cell: the token watched is left
    does-leaves : {N : Node} {e : Effect} → Does lim d m taken front actor N e → cell_set N actor ≡ None → Leaves e
    unfolding After cell_set ended goes_on waited called_out forked entered split queue_of put with_tables new_token with_counts with_orders
    does-leaves (Does.refused r) n = tt
    does-leaves Does.ends n = untouched-put front blank_token taken apart base
    does-leaves Does.publishes n = untouched-put front blank_token taken apart base
    does-leaves (Does.goes_on a) n = untouched-enqueue front _ (untouched-put front _ taken apart base)
    does-leaves (Does.waits e i) n = untouched-waits (waits_of taken ++ (front ∷ [])) _ (untouched-put front _ taken apart base)
    does-leaves (Does.due_later time e i l) n = untouched-timers _ _ (untouched-put front _ taken apart base)
    does-leaves (Does.calls_out e i l) n = untouched-counts _ _ _ _ (untouched-put front _ taken apart base)
    does-leaves (Does.forks e r) n =
        untouched-enqueue _ _ (untouched-enqueue front _ (untouched-token _ _ _ (fresh r) (untouched-put front _ taken apart base)))
    does-leaves (Does.enters e i r) n = untouched-enqueue _ _ (untouched-token _ _ _ (fresh r) (untouched-put front _ taken apart base))
    does-leaves (Does.splits e r c) n =
        untouched-enqueue _ _
        (untouched-enqueue front _
        (untouched-cell _ actor.cell _ front-clear
        (untouched-token _ _ _ (fresh r) (untouched-put front _ taken apart base))))
    does-leaves (Does.chokes e i) n = let z : actor.cell ≡ None = ap (λ N. cell_set N actor) (sym e) ∙ n in never cc

  -- choke: the test that it filters the queue with says who is ended, so the position after it is the count of survivors
  module _ (c : ℕ) (chokes-here : node_at d actor.node ≡ Node.choke) (cell : actor.cell ≡ Some c) where
    sets : cell_set (node_at d actor.node) actor ≡ Some c
    unfolding cell_set
    sets = ap (λ N. cell_set N actor) chokes-here ∙ cell

    ends : (j : ℕ) → front_ends d m j ≡ within m.cells c (queued_token m j).cell
    unfolding front_ends ends_token
    ends j = ap (λ q. ends_token m q (queued_token m j)) sets

    front-ended : (j : ℕ) → j < m.queued → front_ends d m j ≡ not (ready_then c taken (get_or m.queue j 0))
    unfolding with_orders
    front-ended j i = ends j ∙ within-ready c m (get_or m.queue j 0) (h.named j i) (h.ready j i)

    -- the queue that the choke filters, and where the token watched comes to stand in it
    abbrev both : List ℕ
    both = queue_of taken ++ waits_of taken

    both_at : (j : ℕ) → j ≤ k → get_or both j 0 ≡ get_or m.queue (suc j) 0
    both_at j i =
        get_or-append (queue_of taken) (waits_of taken) 0 j (let z = base.queued in omega arith)
        ∙ (ap (λ xs. get_or xs j 0) (queue-orders (without 0 (queue_of m)) (waits_of m) m) ∙ rest_at j (omega arith))

    both_long : k < length both
    both_long = let z = base.queued in let a = length-append (queue_of taken) (waits_of taken) in omega arith

    both-ended : (j : ℕ) → j ≤ k → front_ends d m (suc j) ≡ not (ready_then c taken (get_or both j 0))
    both-ended j i = front-ended (suc j) (omega arith) ∙ ap (λ x. not (ready_then c taken x)) (sym (both_at j i))

    position : survivors d m 1 k ≡ among (ready_then c taken) both k
    position =
        survivors-pass d m (ready_then c taken) 1 both k (let z = both_long in omega arith)
        (λ j i. subst (λ n. front_ends d m n ≡ not (ready_then c taken (get_or both j 0))) (let z : suc j ≡ 1 + j = omega arith in z)
        (both-ended j (omega arith)))

    chokes-leaves :
        (k' : ℕ) → front_ends d m (suc k) ≡ false → survivors d m 1 k ≡ k'
        → After (Untouched watched place k') (choke_at taken actor (Some c))
    unfolding choke_at After with_orders
    chokes-leaves k' f s =
        untouched-choked c taken actor.value (h.named (suc k) l) (h.ready (suc k) l) (sym (ends (suc k)) ∙ f) base.unharmed
        (subst (λ n. n < length (queue_then c taken)) here found.inside)
        (subst (λ n. get_or (queue_then c taken) n 0 ≡ place) here (found.found ∙ both_at k (omega arith)))
      where
        here : among (ready_then c taken) both k ≡ k'
        here = sym position ∙ s

        found : Behind (select (ready_then c taken) (take k both)) (queue_then c taken) (get_or both k 0)
        found = select-finds (ready_then c taken) both k both_long (not-false _ (sym (both-ended k (omega arith)) ∙ f))

  -- any instruction: at choke by its own law, else no cell is set and the token watched moves up by one
  module _ (fits : lim.tokens ≤ lim.token_places) (holds : rules_hold lim d m ≡ true) where
    acts-leaves :
        (k' : ℕ) → fate d m (suc k) ≡ stays k'
        → After (Untouched watched place k') (act lim d m taken front actor (node_at d actor.node))
    unfolding act
    acts-leaves k' e = go (sets-only N actor)
      where
        N : Node
        N = node_at d actor.node

        spared : front_ends d m (suc k) ≡ false
        spared = (fate-stays d m k k' e).0

        position-after : survivors d m 1 k ≡ k'
        position-after = (fate-stays d m k k' e).1

        choking : N ≡ Node.choke → (q : Place) → actor.cell ≡ q → After (Untouched watched place k') (choke_at taken actor q)
        choking n None i = unfold choke_at After in tt
        choking n (Some c) i = chokes-leaves c n i k' spared position-after

        go : (N ≡ Node.choke) ⊎ (cell_set N actor ≡ None) → After (Untouched watched place k') (act lim d m taken front actor N)
        go (inl n) =
            subst (λ N. After (Untouched watched place k') (act lim d m taken front actor N)) (sym n) (choking n actor.cell refl)
        go (inr sets) =
            subst (λ n. After (Untouched watched place n) (act lim d m taken front actor N))
            (sym (survivors-all d m (spares-all d m sets) 1 k) ∙ position-after)
            (does-leaves fits holds (act-does lim d m taken front actor N) sets)

-- an accepted step at the front, and a token behind it that it does not end
pub step-stands :
    (lim : Limits) (d : Dag) (m : Machine) (k k' : ℕ)
    → lim.tokens ≤ lim.token_places
    → is_refused (step lim d m 0).reply ≡ false
    → suc k < m.queued
    → fate d m (suc k) ≡ stays k'
    → Stands m (suc k) (step lim d m 0).machine k'
unfolding takes
step-stands lim d m k k' fits ok l e =
    subst (λ (o : Outcome). Stands m (suc k) o.machine k') (sym a.does)
    (after-outcome (Untouched (queued_token m (suc k)) (get_or m.queue (suc k) 0) k') (λ o. Stands m (suc k) o k')
    (λ o u. untouched-stands m (suc k) o k' (h.ready (suc k) l) u) m (takes lim d m 0)
    (acts-leaves lim d m h k l fits a.holds k' e)
    (subst (λ (o : Outcome). is_refused o.reply ≡ false) a.does ok))
  where
    a : StepAccepted lim d m 0
    a = step-accepted lim d m 0 ok

    h : QueueRulesHold m
    h = queue-rules-hold lim d m a.holds
