-- Names for what examples compute with: under `unfolding meant` a program becomes its goal, and under `unfolding rewritten` sites reply and
-- substitution acts. Assumes nothing.
unfoldable pub meant : Unit {0}
unfolding Rattle.job.specs.Syntax.levels Rattle.job.specs.Syntax.scope_left Rattle.job.specs.Syntax.scope_right
    Rattle.calculus.specs.Meaning.position Rattle.calculus.specs.Meaning.param_meant
    Rattle.calculus.specs.Meaning.join_meant Rattle.calculus.specs.Meaning.exp_meant Rattle.calculus.specs.Meaning.body_meant
    Rattle.calculus.specs.Meaning.meaning
meant = tt

unfoldable pub rewritten : Unit {0}
unfolding Rattle.job.specs.Test.◌and◌ Rattle.job.specs.Number.fits Rattle.job.specs.Number.equal_z Rattle.job.specs.Site.zero_if
    Rattle.job.specs.Site.not_zero Rattle.job.specs.Site.truth Rattle.job.specs.Site.sum_reply Rattle.job.specs.Site.due_time
    Rattle.job.specs.Site.is_builtin Rattle.job.specs.Site.is_outside Rattle.job.specs.Site.builtin
    Rattle.calculus.specs.Expression.raise
    Rattle.calculus.specs.Expression.lift Rattle.calculus.specs.Expression.subst_param
    Rattle.calculus.specs.Expression.substitute Rattle.calculus.specs.Expression.innermost
    Rattle.calculus.specs.Expression.formals Rattle.calculus.specs.Rewriting.param_values
    Rattle.calculus.specs.Allowed.next_handle
rewritten = tt
