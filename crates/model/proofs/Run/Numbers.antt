-- The numbers of the refusals 9 to 15, the values beside a reply, and the text of `limit`, by small runs that the papers' sentences decide:
-- each is computed, and compared with what the sentence says. Assumes nothing.
use mathlib.Core.Path.{◌≡◌, refl}
use mathlib.Core.List.{List, [], ◌∷◌, map}
use lib.IntN.{pos, negsuc}
use Rattle.job.specs.Decimal.{ascii}
use Rattle.job.specs.Syntax.{constant, Exp, stop, site}
use Rattle.job.specs.Encode.{encode}
use Rattle.job.specs.Construct.{construct}
use Rattle.job.specs.Node.{Dag}
use Rattle.job.specs.Notation.{◌∥◌, ◌<[◌]<◌, signal, goal, calling}
use Rattle.model.specs.Machine.Limits.{Limits, limits, paper}
use Rattle.model.specs.Machine.Blank.{blank_machine}
use Rattle.model.specs.Machine.Reply.{refusal_of}
use Rattle.model.specs.Machine.Start.{start}
use Rattle.model.specs.Machine.Step.{step}
use Rattle.model.specs.Machine.Answer.{answer}
use Rattle.model.specs.Machine.Clock.{advance}
use Rattle.model.specs.Output.Line.{refused, text_of_all}
use Rattle.model.specs.Output.Orcrun.{reported_lines, input_lines}
use Rattle.model.specs.declared.record.Machine.{Machine}
use Rattle.model.specs.declared.reply.Reply.TheVariants as replies
use Rattle.model.specs.declared.reply.Outcome.{Outcome}
use Rattle.model.proofs.Run.Computing.{computing}

abbrev pub dag_of_goal : Exp → Dag
dag_of_goal e = construct (goal e)

abbrev pub first : Limits → Exp → Machine
first lim e = (start lim (dag_of_goal e)).machine

-- a limit of no cell, in a table that has a place
abbrev pub no_cells : Limits
no_cells = record { token_places = 2; cell_places = 1; tokens = 2; cells = 0; calls = 1 }

-- a dag without a node: the goal names none
abbrev pub no_dag : Dag
no_dag = record { nodes = []; bodies = []; goal = 0 }

-- refused calls, each under its paper's words
abbrev pub refusals : List Outcome
refusals =
    -- "9: no ready token at the chosen place of the queue"
    step paper (dag_of_goal stop) (first paper stop) 1
    -- "10: fork, where or definition call with 64 tokens in use", here with 1
    ∷ step (limits 1 1 1) (dag_of_goal (signal ∥ signal)) (first (limits 1 1 1) (signal ∥ signal)) 0
    -- "11: where with 32 cells in use", here with none
    ∷ step no_cells (dag_of_goal (stop <[ 0 ]< stop)) (first no_cells (stop <[ 0 ]< stop)) 0
    -- "12: answer to a handle that is not open"
    ∷ answer paper (dag_of_goal stop) (first paper stop) 0 (pos 7)
    -- "13: outside call, all values there, after 1,000,000 such calls", here after none
    ∷ step (limits 1 1 0) (dag_of_goal (site 16 [])) (first (limits 1 1 0) (site 16 [])) 0
    -- "15, the clock would go back", "or leave its range"
    ∷ advance paper (dag_of_goal stop) (advance paper (dag_of_goal stop) (first paper stop) 3).machine 2
    ∷ advance paper (dag_of_goal stop) (first paper stop) 2147483648
    -- "14: dag or machine record breaks an index rule": of each call; "15, .. after 14"
    ∷ start paper no_dag
    ∷ step paper no_dag (blank_machine paper) 0
    ∷ answer paper no_dag (blank_machine paper) 0 (pos 0)
    ∷ advance paper no_dag (blank_machine paper) 2147483648
    ∷ []

pub numbers :
    map (λ (o : Outcome). reported_lines o.reply o.values) refusals
    ≡ map (λ n. refused n ∷ []) (9 ∷ 10 ∷ 11 ∷ 12 ∷ 13 ∷ 15 ∷ 15 ∷ 14 ∷ 14 ∷ 14 ∷ 14 ∷ [])
unfolding computing
numbers = refl

-- "A step tests 14, 9, then 10, 11 or 13": with both tables full a where is refused with 10, here with 1 token and no cell
abbrev pub both_full : Limits
both_full = record { token_places = 1; cell_places = 1; tokens = 1; cells = 0; calls = 1 }

pub ten-before-eleven :
    (step both_full (dag_of_goal (stop <[ 0 ]< stop)) (first both_full (stop <[ 0 ]< stop)) 0).reply ≡ replies.Refused (refusal_of 10)
unfolding computing
ten-before-eleven = refl

-- the values beside a reply: those of an outside call in order, then zeros; all zeros beside another reply
pub values-of-a-call :
    (step paper (dag_of_goal (site 16 (constant (pos 7) ∷ constant (negsuc 1) ∷ [])))
    (first paper (site 16 (constant (pos 7) ∷ constant (negsuc 1) ∷ []))) 0).values
    ≡ pos 7 ∷ negsuc 1 ∷ pos 0 ∷ pos 0 ∷ []
unfolding computing
values-of-a-call = refl

pub values-of-a-refusal : (step paper (dag_of_goal stop) (first paper stop) 1).values ≡ pos 0 ∷ pos 0 ∷ pos 0 ∷ pos 0 ∷ []
unfolding computing
values-of-a-refusal = refl

-- E() = E(), with 3 steps in place of 100,000; and with no step: a token is ready, and nothing else is printed
pub limit-printed : text_of_all (input_lines paper 3 (encode (calling (Exp.call 0 [])))) ≡ ascii "limit\nend 3\n"
unfolding computing
limit-printed = refl

-- a goal that ends at its second step is not stopped by a limit of 2
pub limit-not-printed : text_of_all (input_lines paper 2 (encode (goal signal))) ≡ ascii "publish 0\nend 2\n"
unfolding computing
limit-not-printed = refl
