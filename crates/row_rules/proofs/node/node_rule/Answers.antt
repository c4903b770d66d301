-- Kind by kind; a row of no kind has no rule.
use Rattle.std.proofs.Common.{◌∙◌, ap, sym, ltb, Some}
use Rattle.job.specs.DagKinds.{word_of_kind}
use Rattle.job.specs.Words.{node_by}
use Rattle.job.proofs.Both.{both}
use Rattle.job.proofs.DagKinds.{kind-known, no-kind}
use Rattle.model.specs.Machine.Rules.{node_rule}
use Rattle.row_rules.proofs.NodeLaws.{rule-past}
use Rattle.row_rules.proofs.RangeLaws.{place_is}
use Rattle.row_rules.proofs.node.node_rule.Goals as goal

pub returns-in_default : goal.returns-in_default
returns-in_default c = λ m h. rule-past _ _ _ (no-kind _ (sym c.from_word.ensures ∙ c.in_default.is))

pub returns-in-Stop : goal.returns-in-Stop
unfolding node_by node_rule word_of_kind
returns-in-Stop c = λ m h.
    let e = kind-known _ _ (sym c.from_word.ensures ∙ c.in-Some.is ∙ ap Some c.in-Stop.is) in
    rw (← e)

pub returns-in-Site : goal.returns-in-Site
unfolding node_by node_rule word_of_kind
returns-in-Site c = λ m h.
    let e = kind-known _ _ (sym c.from_word.ensures ∙ c.in-Some.is ∙ ap Some c.in-Site.is) in
    rw (← e) (c.params_are_bound.ensures m h)

pub returns-in-Call : goal.returns-in-Call
unfolding node_by node_rule word_of_kind
returns-in-Call c = λ m h.
    let e = kind-known _ _ (sym c.from_word.ensures ∙ c.in-Some.is ∙ ap Some c.in-Call.is) in
    rw (← e) (c.params_are_bound-in-Call.ensures m h)

pub returns-in-Fork : goal.returns-in-Fork
unfolding node_by node_rule word_of_kind
returns-in-Fork c = λ m h.
    let e = kind-known _ _ (sym c.from_word.ensures ∙ c.in-Some.is ∙ ap Some c.in-Fork.is) in
    rw (← e)

pub returns-in-Assign : goal.returns-in-Assign
unfolding node_by node_rule word_of_kind
returns-in-Assign c = λ m h.
    let e = kind-known _ _ (sym c.from_word.ensures ∙ c.in-Some.is ∙ ap Some c.in-Assign.is) in
    rw (← e) (c.value_if_ready.ensures m h)

pub returns-in-Remove : goal.returns-in-Remove
unfolding node_by node_rule word_of_kind
returns-in-Remove c = λ m h.
    let e = kind-known _ _ (sym c.from_word.ensures ∙ c.in-Some.is ∙ ap Some c.in-Remove.is) in
    rw (← e) (c.value_if_ready-in-Remove.ensures m h)

pub returns-in-Where : goal.returns-in-Where
unfolding node_by node_rule word_of_kind
returns-in-Where c = λ m h.
    let e = kind-known _ _ (sym c.from_word.ensures ∙ c.in-Some.is ∙ ap Some c.in-Where.is) in
    rw (← e)

pub returns-in-Choke : goal.returns-in-Choke
unfolding node_by node_rule word_of_kind
returns-in-Choke c = λ m h.
    let e = kind-known _ _ (sym c.from_word.ensures ∙ c.in-Some.is ∙ ap Some c.in-Choke.is) in
    rw (← e) (both (ap (ltb 0) (c.cell.ensures m h) ∙ place_is _) (c.value_if_ready-in-Choke.ensures m h))

pub returns-in-Return : goal.returns-in-Return
unfolding node_by node_rule word_of_kind
returns-in-Return c = λ m h.
    let e = kind-known _ _ (sym c.from_word.ensures ∙ c.in-Some.is ∙ ap Some c.in-Return.is) in
    rw (← e) (both (c.names_frame.ensures m h) (c.value_if_ready-in-Return.ensures m h))

pub returns-in-Publish : goal.returns-in-Publish
unfolding node_by node_rule word_of_kind
returns-in-Publish c = λ m h.
    let e = kind-known _ _ (sym c.from_word.ensures ∙ c.in-Some.is ∙ ap Some c.in-Publish.is) in
    rw (← e) (c.value_if_ready-in-Publish.ensures m h)
