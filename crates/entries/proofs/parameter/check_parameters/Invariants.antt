use Rattle.entries.specs.Scope.{ForEvery}
use Rattle.entries.proofs.ParameterLaws.{Left}
use Rattle.entries.proofs.parameter.check_parameters.Given as goal

abbrev pub invariant-loop : goal.invariant-loop
invariant-loop l = ForEvery l.scope (λ s. Left l.parts.kinds.now l.parts.operands.now s l.count l.at l.next l.counter)
