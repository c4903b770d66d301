-- A well-formed program begins: the start accepts its dag, also read back from the words that it was written to.
-- The dag keeps the index rules, and the start tests nothing else. Assumes nothing.
use mathlib.Core.Path.{◌≡◌, ap}
use mathlib.Core.Bool.{false}
use mathlib.Core.List.{List}
use Prim.Native.Nat.{ℕ}
use lib.ListN.{length}
use Rattle.job.specs.Syntax.{Program}
use Rattle.job.specs.WellFormed.{WellFormed}
use Rattle.job.specs.Construct.{construct}
use Rattle.job.specs.Words.{array_words, dag_of, written}
use Rattle.model.specs.Machine.Limits.{Limits}
use Rattle.model.specs.Machine.Reply.{is_refused}
use Rattle.model.specs.Machine.Start.{start, start_machine}
use Rattle.model.specs.declared.reply.Reply.TheVariants as replies
use Rattle.job.proofs.DagHolds.{construct-holds}
use Rattle.model.proofs.Machine.Refused.{begun, start-begun}
use Rattle.job.proofs.Words.{decode-written}

pub start-begins : (lim : Limits) (p : Program) → WellFormed p → start lim (construct p) ≡ begun lim (construct p)
start-begins lim p w = start-begun lim (construct p) (construct-holds p w)

pub start-accepts : (lim : Limits) (p : Program) → WellFormed p → (start lim (construct p)).reply ≡ replies.Done
start-accepts lim p w = ap (λ o. o.reply) (start-begins lim p w)

pub accepted-starts : (lim : Limits) (p : Program) → WellFormed p → is_refused (start lim (construct p)).reply ≡ false
unfolding is_refused
accepted-starts lim p w = ap is_refused (start-accepts lim p w)

pub start-machine : (lim : Limits) (p : Program) → WellFormed p → (start lim (construct p)).machine ≡ start_machine lim (construct p).goal
start-machine lim p w = ap (λ o. o.machine) (start-begins lim p w)

-- an array that a program's dag was written into holds that dag, and the start accepts what it holds
pub words-construct : (p : Program) (ws : List ℕ) → WellFormed p → length ws ≡ array_words → dag_of (written (construct p) ws) ≡ construct p
words-construct p ws w l = decode-written (construct p) ws (construct-holds p w) l
