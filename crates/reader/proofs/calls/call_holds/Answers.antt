-- `calls::call_holds` meets its contract: there is a law for each way out. Assumes nothing.
use Rattle.reader.proofs.CallsLaws.{call-missing, call-counted}
use Rattle.reader.proofs.calls.call_holds.Goals as goal

pub returns-in-Some : goal.returns-in-Some
returns-in-Some c = let h = c.in-Some.ensures in call-counted _ _ h.lookup.0 _ (h.lookup.3.1 0)

pub returns-in-None : goal.returns-in-None
returns-in-None c = let h = c.in-None.ensures in call-missing _ _ h.lookup.0
