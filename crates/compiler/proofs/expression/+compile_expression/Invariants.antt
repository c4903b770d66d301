use Rattle.compiler.proofs.expression.+compile_expression.Given as goal

-- what falls: the levels of depth that are left
abbrev pub decreases-compile_expression : goal.decreases-compile_expression
decreases-compile_expression l = l.left
