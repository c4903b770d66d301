-- `site_call::built_in` meets its contract: each way out is how the definition's step ends there. Assumes nothing.
use Rattle.std.specs.Prelude.{Some}
use Rattle.calls.proofs.SiteCall.{replied-by}
use Rattle.acts.proofs.EndRebind.{gives_as}
use Rattle.calls.proofs.SiteCall.{reply-gives, due-gives, settles, silent-ends}
use Rattle.acts.proofs.Outcomes.{row_fits, token-inside}
use Rattle.sites.proofs.RuleFacts.{timers-room}
use Rattle.sites.proofs.SiteBuiltins.{number_small}
use Rattle.sites.proofs.SiteCalls.{reply-back}
use Rattle.calls.specs.TimedReply.{settled_at}
use Rattle.calls.specs.declared.rwait.TimedReply.TheVariants as settleds
use mir.Syntax.{w32}
use mir.Val.{SFits}
use mir.Facts.{to_z-of_z}
use lib.IntN.{pos}
use lib.ListN.{get_or}
use mathlib.Core.Path.{refl, sym, ◌∙◌, ap, subst}
use Prim.Native.Nat.{◌<◌}
use native.Mathlib.Omega.{arith}
use borrow.Author.Rules.{rules}
use Rattle.calls.proofs.site_call.built_in.Goals as goal

pub dag_word-requires : goal.dag_word-requires
dag_word-requires c = let l = row_fits c.requires.0.is.acting in
    omega arith

pub reply-requires : goal.reply-requires
reply-requires c = token-inside
    c.requires.0.is.acting.taking

pub end-requires : goal.end-requires
end-requires c = token-inside
    c.requires.0.is.acting.taking

pub dag_word-requires-in-Due : goal.dag_word-requires-in-Due
dag_word-requires-in-Due c = let l = row_fits c.requires.0.is.acting in omega arith

pub due_later-requires : goal.due_later-requires
due_later-requires c = token-inside
    c.requires.0.is.acting.taking

pub returns-in-Gives : goal.returns-in-Gives
returns-in-Gives c = λ m k.
    let vs = c.args.values in
    let f : SFits w32 (get_or vs 0 (pos 0)) = search rules in
    let g : SFits w32 (get_or vs 1 (pos 0)) = search rules in
    let v = c.in-Gives.v in
    let h : SFits w32 v = search rules in
    let back = reply-back _ _ (rw (to_z-of_z f, to_z-of_z g) at c.builtin-said.ensures) in
    let small = subst (λ n. n < 8) c.requires.1 (number_small c.args.site) in
    let reply = replied-by k.values vs c.builtin-said.result small k.padded c.requires.1 back in
    let at = c.settle.ensures m k.acting.taking.lawful.holds.codes ∙ ap (settled_at m.clock) reply in
    reply-gives k.acting.taking v _ _ _ (settles k (settleds.Gives v) small at c.in-Gives.is)
    c.dag_word.ensures c.plain.ensures
    (c.reply.ensures m (Some v) k.acting.taking.lawful.holds k.acting.taking.queued refl
    (sym (rw (to_z-of_z h) at c.unsigned.ensures)))

pub returns-in-Silent : goal.returns-in-Silent
returns-in-Silent c = λ m k.
    let vs = c.args.values in
    let f : SFits w32 (get_or vs 0 (pos 0)) = search rules in
    let g : SFits w32 (get_or vs 1 (pos 0)) = search rules in
    let back = reply-back _ _ (rw (to_z-of_z f, to_z-of_z g) at c.builtin-said.ensures) in
    let small = subst (λ n. n < 8) c.requires.1 (number_small c.args.site) in
    let reply = replied-by k.values vs c.builtin-said.result small k.padded c.requires.1 back in
    let at = c.settle.ensures m k.acting.taking.lawful.holds.codes ∙ ap (settled_at m.clock) reply in
    gives_as (settles k settleds.Silent small at c.in-Silent.is ∙ silent-ends m _ _ _)
    (c.end.ensures m _ k.acting.taking)

pub returns-in-Due : goal.returns-in-Due
returns-in-Due c = λ m k.
    let vs = c.args.values in
    let f : SFits w32 (get_or vs 0 (pos 0)) = search rules in
    let g : SFits w32 (get_or vs 1 (pos 0)) = search rules in
    let due = c.in-Due.due in
    let back = reply-back _ _ (rw (to_z-of_z f, to_z-of_z g) at c.builtin-said.ensures) in
    let small = subst (λ n. n < 8) c.requires.1 (number_small c.args.site) in
    let reply = replied-by k.values vs c.builtin-said.result small k.padded c.requires.1 back in
    let at = c.settle.ensures m k.acting.taking.lawful.holds.codes ∙ ap (settled_at m.clock) reply in
    due-gives k.acting.taking due _ _ _ (settles k (settleds.Due due) small at c.in-Due.is)
    c.dag_word-in-Due.ensures c.plain-in-Due.ensures
    (c.due_later.ensures m k.acting.taking.lawful.holds k.acting.taking.queued
    (timers-room _ m k.acting.taking.lawful.rules _ k.acting.taking.queued))
