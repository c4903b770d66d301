-- `site::builtin` meets its contract: iff's test is whether its parameter is 0. Assumes nothing.
use mathlib.Core.Path.{ap, ◌∙◌}
use Rattle.job.specs.Site as Site
use Rattle.sites.specs.SiteReply.{site_reply_of}
use Rattle.sites.proofs.SiteBuiltins.{zero-test}
use Rattle.sites.proofs.site.builtin.Goals as goal

pub returns-in-Iff : goal.returns-in-Iff
unfolding Site.builtin
returns-in-Iff c =
    rw c.in-Iff.is (c.zero_if-in-Iff.ensures ∙ ap (λ t. site_reply_of (Site.zero_if t)) (zero-test c.args.a c.ranges.a))
