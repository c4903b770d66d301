-- A ready token, followed by its position in the queue from call to call (docs/DECISIONS.md, "Following a token"). Assumes nothing: these
-- are definitions.
use Rattle.std.specs.Prelude.{◌≡◌, Bool, true, false, List, [], ◌∷◌, ℕ, zero, suc, ◌<◌, get_or, ℤ, Some, None}
use Rattle.job.specs.Number.{Signed32}
use Rattle.job.specs.Node.{Node, Dag, node_at}
use Rattle.model.specs.Machine.Limits.{Limits}
use Rattle.model.specs.Machine.Blank.{blank_token, token_at}
use Rattle.model.specs.Machine.Active.{within}
use Rattle.model.specs.Machine.Reply.{outcome, is_refused}
use Rattle.model.specs.Machine.Step.{takes}
use Rattle.model.specs.Run.Call.{Call, step, answer, advance, Runner, outcome_of}
use Rattle.model.specs.Machine.Held.{Place}
use Rattle.model.specs.declared.token.Token.{Token}
use Rattle.model.specs.declared.record.Machine.{Machine}

-- the token at a position of the queue
abbrev pub queued_token : Machine → ℕ → Token
queued_token m k = token_at m.tokens (get_or m.queue k 0)

-- the cell that a token's step sets: its own, if it stands at choke
unfoldable pub cell_set : Node → Token → Place
cell_set Node.choke t = t.cell
cell_set Node.stop t = None
cell_set (Node.site s ps k) t = None
cell_set (Node.call e ps k) t = None
cell_set (Node.fork l r) t = None
cell_set (Node.assign x k) t = None
cell_set (Node.remove x k) t = None
cell_set (Node.where' x l r) t = None
cell_set Node.return t = None
cell_set Node.publish t = None
cell_set Node.unknown t = None

-- does setting this cell end this token: it is the token's cell or an ancestor of it
unfoldable pub ends_token : Machine → Place → Token → Bool
ends_token m None t = false
ends_token m (Some c) t = within m.cells c t.cell

-- does the step that takes the first position of the queue end the token at another position
unfoldable pub front_ends : Dag → Machine → ℕ → Bool
front_ends d m k = let t = queued_token m 0 in ends_token m (cell_set (node_at d t.node) t) (queued_token m k)

-- what becomes of the token at a position, in an accepted step that takes the first: "it acts in the step that takes it;
-- it is pruned when another token's choke ends it"; else as many stand before it as before, but for the one that acted and those that were
-- pruned
pub data Fate : Type 0 where
  acts : Fate
  falls : Fate
  stays : (position : ℕ) → Fate

-- how many of the n positions from i on are not ended
unfoldable pub survivors : Dag → Machine → (i n : ℕ) → ℕ
survivors d m i zero = 0
survivors d m i (suc n) =
    let rest = survivors d m (suc i) n in elim (front_ends d m i) as (λ b. ℕ) [ true ↦ rest | false ↦ suc rest ]

unfoldable pub fate : Dag → Machine → ℕ → Fate
fate d m zero = acts
fate d m (suc k) = elim (front_ends d m (suc k)) [ true ↦ falls | false ↦ stays (survivors d m 1 k) ]

-- the same token, at the same place, stands ready at a position of the queue after a call
pub record Stands (before : Machine) (k : ℕ) (after : Machine) (k' : ℕ) : Type 0 where
  pub queued : k' < after.queued
  pub place : get_or after.queue k' 0 ≡ get_or before.queue k 0
  pub token : queued_token after k' ≡ queued_token before k

-- "let every later step take place 0. Calls other than steps may come between"
pub data House : List Call → Type 0 where
  none : House []
  front : {cs : List Call} → House cs → House (step 0 ∷ cs)
  between : {h : ℕ} {v : ℤ} {fits : Signed32 v} {cs : List Call} → House cs → House (answer h v fits ∷ cs)
  ticking : {time : ℕ} {cs : List Call} → House cs → House (advance time ∷ cs)

-- The token at position k of m's queue, followed through later calls until it acts or is pruned, or a step is refused.
-- In each case it is where the position says, and n counts the accepted steps while neither has happened
module _ (R : Runner) (lim : Limits) (d : Dag) where
  pub data Followed : Machine → (k : ℕ) → List Call → (n : ℕ) → Type 0 where
    -- no call is left
    over : {m : Machine} {k : ℕ} → Followed m k [] 0
    -- a refused step
    refused : {m : Machine} {k : ℕ} {cs : List Call}
        → is_refused (outcome_of R lim d m (step 0)).reply ≡ true → Followed m k (step 0 ∷ cs) 0
    -- an accepted step that takes it: what the step does is this token's act
    acted : {m : Machine} {k : ℕ} {cs : List Call}
        → is_refused (outcome_of R lim d m (step 0)).reply ≡ false → fate d m k ≡ acts
        → outcome_of R lim d m (step 0) ≡ outcome m (takes lim d m k) → Followed m k (step 0 ∷ cs) 0
    -- an accepted step that ends it: its place is blank afterwards
    pruned : {m : Machine} {k : ℕ} {cs : List Call}
        → is_refused (outcome_of R lim d m (step 0)).reply ≡ false → fate d m k ≡ falls
        → token_at (outcome_of R lim d m (step 0)).machine.tokens (get_or m.queue k 0) ≡ blank_token → Followed m k (step 0 ∷ cs) 0
    -- an accepted step that leaves it in the queue
    passed : {m : Machine} {k k' n : ℕ} {cs : List Call}
        → is_refused (outcome_of R lim d m (step 0)).reply ≡ false → fate d m k ≡ stays k'
        → Stands m k (outcome_of R lim d m (step 0)).machine k'
        → Followed (outcome_of R lim d m (step 0)).machine k' cs n → Followed m k (step 0 ∷ cs) (suc n)
    -- an answer, accepted or not
    between : {m : Machine} {k n : ℕ} {h : ℕ} {v : ℤ} {fits : Signed32 v} {cs : List Call}
        → Stands m k (outcome_of R lim d m (answer h v fits)).machine k
        → Followed (outcome_of R lim d m (answer h v fits)).machine k cs n → Followed m k (answer h v fits ∷ cs) n
    -- a clock move, accepted or not
    ticking : {m : Machine} {k n : ℕ} {time : ℕ} {cs : List Call}
        → Stands m k (outcome_of R lim d m (advance time)).machine k
        → Followed (outcome_of R lim d m (advance time)).machine k cs n → Followed m k (advance time ∷ cs) n
