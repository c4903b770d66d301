-- After i turns the first i values are there, and the look-up goes on with the parameters that are left. Assumes nothing.
use mathlib.Core.Path.{refl, sym, ap, ◌∙◌}
use borrow.Author.Rules.{rules}
use Prim.Native.Nat.{◌<◌, ◌+◌}
use native.Mathlib.Omega.{arith}
use mir.Syntax.{w32}
use mir.Val.{SFits}
use mir.Facts.{to_z-of_z}
use lib.ListN.{get_or}
use Rattle.std.specs.Prelude.{Ok}
use Rattle.std.proofs.lemmas.Result.{err_from_is_err_and}
use Rattle.job.specs.Syntax.{variable}
use Rattle.model.specs.Machine.Blank.{token_at}
use Rattle.sites.proofs.LookParams.{params-count}
use Rattle.sites.proofs.LookLaws.{filled_more, looking-on, look-up-unset, look-up-nothing, look-up-all, param-here, param-there}
use Rattle.sites.proofs.LookLaws.{param-small, param-in-range, behind-none}
use Rattle.sites.specs.Look.{param_found}
use Rattle.sites.specs.Row.{params_at}
use Rattle.sites.proofs.look.look_up.Goals as goal

pub loop-i-init : goal.loop-i-init
loop-i-init c = (record { size = refl; zeros = refl }, λ m h o. behind-none _)

pub param_argument-requires : goal.param_argument-requires
param_argument-requires c = let a = c.args in
    let o = c.requires.1 in
    let i = c.loop-i.i in
    let l : i < get_or a.dag.now (a.at + 3) 0 = omega arith in
    (c.requires.0, omega (arith, o.inside, param-small a.dag.now a.at i o l), param-in-range a.dag.now a.at i o l)

pub returns-in_err-v : goal.returns-in_err-v
returns-in_err-v c = λ m h f.
    let a = c.args in
    let o = c.requires.1 in
    let i = c.loop-i.i in
    let l : i < get_or a.dag.now (a.at + 3) 0 = omega arith in
    let bs = (token_at m.tokens a.p).binds in
    let r = err_from_is_err_and c.from_residual.result c.from_residual.ensures.1 in
    rw (r.1, r.2)
    (look-up-unset m.cells bs (params_at a.dag.now a.at) i _ (c.loop-i.invariant.1 m h f)
    c.loop-i.invariant.0 (variable 0) c.in_err-v.field-0.0 (param-there a.dag.now a.at i o l)
    (ap (param_found m.cells bs) (sym (param-here a.dag.now a.at i o l)) ∙ sym (c.in_err-v.ensures m h f)))

pub loop-i-preserved : goal.loop-i-preserved
loop-i-preserved c = let a = c.args in
    let o = c.requires.1 in
    let i = c.loop-i.i in
    let l : i < get_or a.dag.now (a.at + 3) 0 = omega arith in
    let fit : SFits w32 c.in-Some.v = search rules in
    rw (to_z-of_z fit) (
      filled_more i _ _ (param-small a.dag.now a.at i o l) c.loop-i.invariant.0,
      λ m h f.
          let bs = (token_at m.tokens a.p).binds in
          looking-on m.cells bs (params_at a.dag.now a.at) i _ (c.loop-i.invariant.1 m h f)
          c.loop-i.invariant.0 (variable 0) _ (param-there a.dag.now a.at i o l)
          (param-small a.dag.now a.at i o l)
          (ap (param_found m.cells bs) (sym (param-here a.dag.now a.at i o l))
          ∙ sym (c.in_ok-v.ensures m h f) ∙ ap Ok c.in-Some.is),
    )

pub returns-after-loop-i : goal.returns-after-loop-i
returns-after-loop-i c = λ m h f.
    let a = c.args in
    let o = c.requires.1 in
    let n = params-count a.dag.now a.at o.size o.inside o.few in
    look-up-all m.cells (token_at m.tokens a.p).binds (params_at a.dag.now a.at) c.loop-i.i _ (c.loop-i.invariant.1 m h f)
    c.loop-i.invariant.0 (omega arith) (omega (arith, o.few))

pub returns-in_default : goal.returns-in_default
returns-in_default c = λ m h f.
    let a = c.args in
    let o = c.requires.1 in
    let i = c.loop-i.i in
    let l : i < get_or a.dag.now (a.at + 3) 0 = omega arith in
    let bs = (token_at m.tokens a.p).binds in
    look-up-nothing m.cells bs (params_at a.dag.now a.at) i _ (c.loop-i.invariant.1 m h f)
    c.loop-i.invariant.0 (variable 0) (param-there a.dag.now a.at i o l)
    (omega (arith, param-small a.dag.now a.at i o l))
    (ap (param_found m.cells bs) (sym (param-here a.dag.now a.at i o l)) ∙ sym (c.in_ok-v.ensures m h f)
    ∙ ap Ok c.in_default.is)
