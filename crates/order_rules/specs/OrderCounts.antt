-- The names of an order among the words, and what it says of each token, from how often it names each place. Assumes nothing: these are
-- definitions.
use Rattle.std.specs.Prelude.{◌≡◌, Bool, true, false, List, ℕ, zero, suc, ◌+◌, Option, MatchOption, get_or, eqb}
use Rattle.job.specs.Test.{◌and◌, all_from, once}
use Rattle.model.specs.Machine.Rules.{names_once}
use Rattle.model.specs.declared.token.Token.{Token}
use Rattle.model.specs.declared.record.Machine.{Machine}
use Rattle.record.specs.Layout.{state_kind}
use Rattle.record.specs.OrderWords.{Which, state_of, in_state, array_of, count_of}

-- a token in the state of that kind is named once, any other never
abbrev pub named_as : (kind : ℕ) → (counts : List ℕ) → ℕ → Token → Bool
named_as kind counts p t = eqb (get_or counts p 0) (once (eqb (state_kind t.state) kind))

-- an order's rule: it names each token in its state once, and nothing else
abbrev pub order_rule : Which → Machine → Bool
order_rule k m = names_once (in_state k) m.tokens (array_of k m) (count_of k m)

-- counts say of the tokens what the order's rule says of its names; where there are none the rule doesn't hold
abbrev pub CountedOnce : Which → Machine → Option (List ℕ) → Type 0
CountedOnce k m counts =
    MatchOption counts (order_rule k m ≡ false) (λ c. all_from (named_as (state_of k) c) 0 m.tokens ≡ order_rule k m)

-- the queue names the ready ones, the wait order those that wait, the order of call those that are due later
abbrev pub named_by_orders : (queue waits timers : List ℕ) → ℕ → Token → Bool
named_by_orders queue waits timers p t = named_as 1 queue p t and named_as 2 waits p t and named_as 4 timers p t

-- no order names the place, by how often each names it
abbrev pub unnamed : (queue waits timers : List ℕ) → ℕ → Bool
unnamed queue waits timers p = eqb (get_or queue p 0) 0 and eqb (get_or waits p 0) 0 and eqb (get_or timers p 0) 0

-- a test of n places, from one on
unfoldable pub each_from : (ℕ → Bool) → (from n : ℕ) → Bool
each_from test from zero = true
each_from test from (suc n) = each_from test from n and test (from + n)
