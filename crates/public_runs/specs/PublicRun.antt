-- A run by the public calls, on the words of a dag and of a record that a host keeps between them. Assumes nothing: these are definitions.
use Rattle.std.specs.Prelude.{List, [], ◌∷◌, ◌++◌, ℕ}
use Rattle.calculus.specs.Event.{Event}
use Rattle.model.specs.Run.Call.{Call, step, answer, advance, events_of}
use Rattle.model.specs.declared.reply.Outcome.{Outcome}
use Rattle.record.specs.Layout.{words_of}
use Rattle.machine.specs.PublicCalls.{Result, step_on, answer_on, advance_on}

-- an outcome, with its record as words
unfoldable pub in_words : Outcome → Result
in_words o = record { reply = o.reply; values = o.values; words = words_of o.machine }

module _ (dag : List ℕ) where
  -- what a public call gives and leaves
  unfoldable pub result_of : (words : List ℕ) → Call → Result
  result_of ws (step place) = step_on dag ws place
  result_of ws (answer h v fits) = answer_on dag ws h v
  result_of ws (advance time) = advance_on dag ws time

  -- "each later one [gets] the record that the call before returned, or left when refused"
  unfoldable pub words_after : (words : List ℕ) → List Call → List ℕ
  words_after ws [] = ws
  words_after ws (c ∷ cs) = words_after (result_of ws c).words cs

  -- document 01: event list, "read from calls and replies alone, in order"
  unfoldable pub event_list : (words : List ℕ) → List Call → List Event
  event_list ws [] = []
  event_list ws (c ∷ cs) = let r = result_of ws c in events_of c r.reply r.values ++ event_list r.words cs
