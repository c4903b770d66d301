-- The token found gets the value, is ready and joins the queue, which has room since it was not ready. Assumes nothing.
use mathlib.Core.Path.{◌≡◌, ap, ◌∙◌, refl, sym, subst}
use mir.Facts.{to_z-of_z}
use native.Mathlib.Omega.{arith}
use Rattle.std.specs.Prelude.{Some, None}
use Rattle.std.proofs.lemmas.Result.{err_from_is_err_and}
use Rattle.job.specs.Number.{unsigned}
use Rattle.model.specs.Machine.Update.{put, with_tables, with_value}
use Rattle.model.specs.declared.reply.Refusal.TheVariants as refusals
use Rattle.model.specs.declared.token.State.TheVariants as states
use Rattle.model.specs.Machine.Blank.{token_at}
use Rattle.record.proofs.TokenRow.{put_self}
use Rattle.record.specs.Holds.{Holds}
use Rattle.sites.proofs.AnswerLaws.{not-answered, is-answered}
use Rattle.sites.proofs.answer.answer.Goals as goal

pub returns-in_err-p : goal.returns-in_err-p
returns-in_err-p c =
    let r = err_from_is_err_and c.from_residual.result c.from_residual.ensures.1 in
    let none : c.find_open.result ≡ None = grind arith in
    let refused : c.in_err-p.field-0.0 ≡ refusals.NotOpen = grind arith in
    rw (r.1, r.2, refused) (not-answered _ _ _ _ _ _ c.find_open.ensures.place none refl)

pub returns : goal.returns
unfolding put with_tables
returns c = let p = c.in_ok-p.p in
    let found : c.find_open.result ≡ Some p = grind arith in
    is-answered _ _ _ _ _ _ c.find_open.ensures.place p found (λ m h l.
    let t = token_at m.tokens p in
    let v = Some c.args.value in
    let code = sym (c.unsigned.ensures ∙ ap unsigned (to_z-of_z c.ranges.value)) in
    let one = c.set_value.ensures m t v (subst (Holds _) (sym (put_self m p)) h) refl code in
    let two = c.set_state.ensures m (with_value v t) states.Ready one refl refl in
    c.join.ensures _ two l)
