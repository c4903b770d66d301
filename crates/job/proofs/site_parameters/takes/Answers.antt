-- `site_parameters::takes` meets its contract: each answer is that of the site's range. Assumes nothing.
use Rattle.std.proofs.Common.{sym, arith}
use Rattle.job.proofs.Site.{takes-builtin, takes-unknown, takes-far, takes-outside}
use Rattle.job.proofs.site_parameters.takes.Goals as goal

pub returns-in-0-to-7 : goal.returns-in-0-to-7
returns-in-0-to-7 c = sym (takes-builtin _ _ (omega arith))

pub returns-in-16-to-1023 : goal.returns-in-16-to-1023
returns-in-16-to-1023 c = sym (takes-outside _ _ (omega arith) (omega arith))

pub returns-in_default : goal.returns-in_default
returns-in_default c = sym (takes-unknown _ _ (omega arith) (omega arith))

pub returns-in_default-2 : goal.returns-in_default-2
returns-in_default-2 c = sym (takes-far _ _ (omega arith) (omega arith))
