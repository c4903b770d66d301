-- `head::put_definition` meets its contract: its two stores are at one index and at the next. Assumes nothing.
use native.Mathlib.Numerals.{add-one}
use Rattle.loader.proofs.head.put_definition.Goals as goal

pub returns : goal.returns
returns c = rw add-one
