-- `callees::call_marked` meets its contract: nobody named the token that becomes a frame or the callee, and the test says which. Assumes
-- nothing.
use mathlib.Core.Path.{◌≡◌, sym, ap, ◌∙◌}
use mathlib.Core.Bool.{Bool}
use Prim.Native.Nat.{ℕ}
use native.Mathlib.Omega.{arith}
use Rattle.job.specs.Node.{Dag}
use Rattle.job.specs.Tail.{is_tail}
use Rattle.acts.proofs.Outcomes.{row, row_fits, token-inside}
use Rattle.tail_writes.proofs.TailLooks.{call_next}
use Rattle.unchecked.proofs.CalleeMarks.{call-leaves}
use Rattle.unchecked.proofs.callees.call_marked.Goals as goal

-- what the test says of the node that the row names

says : (d : Dag) (n : ℕ) {k : ℕ} {r b : Bool} → r ≡ is_tail d k → k ≡ n → r ≡ b → is_tail d n ≡ b
says d n e f g = ap (is_tail d) (sym f) ∙ (sym e ∙ g)

pub bounds-shared-actor : goal.bounds-shared-actor
bounds-shared-actor c = token-inside c.requires.is.taking

pub dag_word-next-requires : goal.dag_word-next-requires
dag_word-next-requires c = let l = row_fits c.requires.is in omega arith

pub is_tail-requires : goal.is_tail-requires
is_tail-requires c = call_next _ _ (row c.requires.is) (c.dag_word-next.ensures)

pub returns-then-is_tail : goal.returns-then-is_tail
returns-then-is_tail c = λ m a one.
    call-leaves c.args.shared.now a one
    (c.tail_call.ensures m a
    (says _ _ c.is_tail.ensures (c.dag_word-next.ensures)
    c.if-is_tail.true))

pub returns : goal.returns
returns c = λ m a one.
    call-leaves c.args.shared.now a one
    (c.definition_call.ensures.gives m a
    (says _ _ c.is_tail.ensures (c.dag_word-next.ensures)
    c.if-is_tail.false))
