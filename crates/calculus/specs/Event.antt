-- What a rewriting shows. Assumes nothing: these are definitions.
use Rattle.std.specs.Prelude.{List, ℕ, ℤ}

-- what a goal shows: "publishing (value), outside calls (handle, site, parameter values) and answers (handle, value)"
pub data Event : Type 0 where
  publish : ℤ → Event
  call : (handle site : ℕ) → List ℤ → Event
  answer : (handle : ℕ) → ℤ → Event
  -- document 02, request 1: "A run's calls now hold clock moves; an accepted one is an event (its time)"
  move : (time : ℕ) → Event

pub data Label : Type 0 where
  silently : Label
  showing : Event → Label
