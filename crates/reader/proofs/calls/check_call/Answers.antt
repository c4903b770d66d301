-- `calls::check_call` meets its contract: there is a law for each way out. Assumes nothing.
use mathlib.Core.Path.{sym, ap, ◌∙◌}
use Rattle.std.specs.Prelude.{Ok}
use Rattle.entries.proofs.RefusalNumbers.{clash, same-value}
use Rattle.reader.proofs.CallsLaws.{call-other, call-holds, call-refused}
use Rattle.reader.proofs.calls.check_call.Goals as goal

pub returns-in_default : goal.returns-in_default
returns-in_default c = call-other _ _ _ _ _ c.kind_at.ensures (λ h. clash (sym h ∙ c.in_default.is))

pub returns-in_default-kind : goal.returns-in_default-kind
returns-in_default-kind c =
    call-other _ _ _ _ _ c.kind_at.ensures (λ h. c.in_default-kind.not-Call (same-value (sym c.in-Ok.is ∙ h)))

pub returns-then-call_holds : goal.returns-then-call_holds
returns-then-call_holds c = let h = c.in-Ok.is ∙ ap Ok c.in-Call.is in search call-holds

pub returns : goal.returns
returns c = let h = c.in-Ok.is ∙ ap Ok c.in-Call.is in search call-refused
