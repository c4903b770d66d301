-- House order of E() = E() never ends, since E()'s call hands back the record that it was given: that step is computed once, and the rest
-- is counted. Assumes nothing.
use mathlib.Core.Path.{◌≡◌, refl, ◌∙◌, ap}
use mathlib.Core.Bool.{true}
use mathlib.Core.List.{[], ◌∷◌}
use Prim.Native.Nat.{ℕ, zero, suc, ◌≤◌}
use native.Mathlib.Omega.{arith}
use lib.ListN.{length, take, drop}
use Rattle.job.specs.Decimal.{ascii}
use Rattle.job.specs.Entry.{table_length}
use Rattle.job.specs.Encode.{encode}
use Rattle.job.specs.Read.{accepted, read_table}
use Rattle.model.specs.Machine.Limits.{Limits, limits, paper}
use Rattle.model.specs.Machine.InUse.{tokens_used, marked}
use Rattle.model.specs.Output.Line.{end, limit, text_of_all}
use Rattle.model.specs.Output.Orcrun.{orcrun}
use Rattle.model.specs.Run.Call.{step, runner, started, outcome_of, machine_after, none_refused}
use Rattle.marked_runs.specs.Marked.{looping}
use Rattle.marked_runs.specs.Endless.{Endless, dag, house, after}
use Rattle.job.proofs.Test.{leb-le}
use Rattle.model.proofs.Run.Computing.{computing}
use Rattle.model.proofs.Run.Printing.{orcrun-runs}
use Rattle.model.proofs.Run.Looping.{ComesBack, QuietStep, comes_back, none-refused, run-loops}

-- the goal's call leads to a record with two tokens in use, and E()'s own call hands that record back
record Calls (lim : Limits) : Type 0 where
  first : QuietStep lim dag (started runner lim dag) (after lim 1)
  again : QuietStep lim dag (after lim 1) (after lim 1)
  two : marked (tokens_used (after lim 1)) ≡ 2

-- so it does after any number of calls
module _ (lim : Limits) (calls : Calls lim) where
  back : ComesBack lim dag (after lim 1) (step 0)
  unfolding outcome_of
  back = record { accepted = calls.again.accepted; same = calls.again.hands }

  same : (n : ℕ) → after lim (suc n) ≡ after lim 1
  unfolding machine_after
  same n = comes_back lim dag back n

  fine : (n : ℕ) → none_refused runner lim dag (started runner lim dag) (house n) ≡ true
  unfolding none_refused machine_after outcome_of
  fine zero = refl
  fine (suc n) = rw (calls.first.accepted, none_refused) (none-refused lim dag back n)

  counted : Endless lim
  counted =
      record { none-refused = fine; same-record = same; two-tokens = λ n. ap (λ m. marked (tokens_used m)) (same n) ∙ calls.two }

-- with the paper's numbers, and with two tokens in all: "10 is then not given for such a call"
calls-of-paper : Calls paper
unfolding computing outcome_of machine_after
calls-of-paper =
    record {
      first = record { ready = refl; accepted = refl; quiet = refl; hands = refl };
      again = record { ready = refl; accepted = refl; quiet = refl; hands = refl };
      two = refl;
    }

calls-of-two : Calls (limits 2 1 0)
unfolding computing outcome_of machine_after
calls-of-two =
    record {
      first = record { ready = refl; accepted = refl; quiet = refl; hands = refl };
      again = record { ready = refl; accepted = refl; quiet = refl; hands = refl };
      two = refl;
    }

pub endless : Endless paper
endless = counted paper calls-of-paper

pub endless-with-two : Endless (limits 2 1 0)
endless-with-two = counted (limits 2 1 0) calls-of-two

-- its marked run: a short input, whose table is read as this program; what the run prints, as text
short : length (encode looping) ≤ 65536
unfolding computing
short = leb-le (length (encode looping)) 65536 refl

read : read_table (take (table_length (encode looping)) (encode looping)) ≡ accepted looping
unfolding computing
read = refl

text : text_of_all (limit ∷ end 100000 ∷ []) ≡ ascii "limit\nend 100000\n"
unfolding computing
text = refl

pub loop-prints : orcrun (encode looping) ≡ ascii "limit\nend 100000\n"
loop-prints =
    let rest = drop (table_length (encode looping)) (encode looping) in
    orcrun-runs (encode looping) looping short read
    ∙ (ap text_of_all (run-loops paper dag 100000 rest calls-of-paper.first calls-of-paper.again (omega arith)) ∙ text)
