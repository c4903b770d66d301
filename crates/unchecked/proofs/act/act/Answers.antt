-- `unchecked::act` meets its contract: each way out is how the definition's call ends there. Assumes nothing.
use Rattle.sites.proofs.RowKinds.{kind-below, node-holds}
use Rattle.unchecked.proofs.CalleeMarks.{same-leaves, fork-leaves, where-leaves}
use Rattle.acts.proofs.CalleeSteps.{stop-keeps, site-keeps, assign-keeps, remove-keeps, choke-keeps, publish-keeps}
use Rattle.unchecked.proofs.WholeCall.{of-kind}
use Rattle.acts.proofs.Outcomes.{row, row_fits, token-inside}
use Rattle.std.proofs.Common.{Option, Some, ◌≡◌, ℕ, ◌∙◌, ap, sym}
use Rattle.job.specs.declared.dag.NodeKind.{NodeKind}
use Rattle.job.specs.declared.dag.NodeKind.TheVariants as kinds
use Rattle.job.specs.DagKinds.{word_of_kind, kind_of}
use Rattle.job.proofs.DagKinds.{kind-known, no-kind}
use native.Mathlib.Omega.{arith}
use borrow.Author.Rules.{rules}
use Rattle.unchecked.proofs.act.act.Goals as goal

-- a word of which this kind was found
word-of : {i : ℕ} {found : Option NodeKind} {k : NodeKind} (n : NodeKind) → found ≡ kind_of i → found ≡ Some k → k ≡ n → i ≡ word_of_kind n
word-of n e f g = sym (kind-known _ n (sym e ∙ f ∙ ap Some g))

pub dag_word-requires : goal.dag_word-requires
dag_word-requires c = let l = row_fits c.requires.is in omega arith

-- the dag's rules hold, so the node has one of the ten kinds
pub unreachable-requires : goal.unreachable-requires
unreachable-requires c =
    let l = kind-below _ _ _ _ _ _ (node-holds _ _ _ (row c.requires.is)) in
    let u = no-kind _ (sym c.from_word.ensures ∙ c.in_default.is) in
    let e = c.dag_word.ensures in
    omega arith

pub stop-requires : goal.stop-requires
unfolding word_of_kind
stop-requires c = record {
  machine = c.requires.machine;
  is =
      of-kind 0 (sym c.dag_word.ensures)
      (word-of kinds.Stop c.from_word.ensures c.in-Some.is c.in-Stop.is)
      c.requires.is;
}

pub site_call-requires : goal.site_call-requires
unfolding word_of_kind
site_call-requires c = record {
  machine = c.requires.machine;
  is =
      of-kind 1 (sym c.dag_word.ensures)
      (word-of kinds.Site c.from_word.ensures c.in-Some.is c.in-Site.is)
      c.requires.is;
}

pub call_marked-requires : goal.call_marked-requires
unfolding word_of_kind
call_marked-requires c = record {
  machine = c.requires.machine;
  is =
      of-kind 2 (sym c.dag_word.ensures)
      (word-of kinds.Call c.from_word.ensures c.in-Some.is c.in-Call.is)
      c.requires.is;
}

pub share_caller-requires : goal.share_caller-requires
share_caller-requires c = (token-inside c.requires.is.taking, search rules)

pub fork-requires : goal.fork-requires
unfolding word_of_kind
fork-requires c = record {
  machine = c.requires.machine;
  is =
      of-kind 3 (sym c.dag_word.ensures)
      (word-of kinds.Fork c.from_word.ensures c.in-Some.is c.in-Fork.is)
      c.requires.is;
}

pub assign-requires : goal.assign-requires
unfolding word_of_kind
assign-requires c = record {
  machine = c.requires.machine;
  is =
      of-kind 4 (sym c.dag_word.ensures)
      (word-of kinds.Assign c.from_word.ensures c.in-Some.is c.in-Assign.is)
      c.requires.is;
}

pub remove-requires : goal.remove-requires
unfolding word_of_kind
remove-requires c = record {
  machine = c.requires.machine;
  is =
      of-kind 5 (sym c.dag_word.ensures)
      (word-of kinds.Remove c.from_word.ensures c.in-Some.is c.in-Remove.is)
      c.requires.is;
}

pub share_caller-requires-in-Where : goal.share_caller-requires-in-Where
share_caller-requires-in-Where c = (token-inside c.requires.is.taking, search rules)

pub where_split-requires : goal.where_split-requires
unfolding word_of_kind
where_split-requires c = record {
  machine = c.requires.machine;
  is =
      of-kind 6 (sym c.dag_word.ensures)
      (word-of kinds.Where c.from_word.ensures c.in-Some.is c.in-Where.is)
      c.requires.is;
}

pub choke_cell-requires : goal.choke_cell-requires
unfolding word_of_kind
choke_cell-requires c = record {
  machine = c.requires.machine;
  is =
      of-kind 7 (sym c.dag_word.ensures)
      (word-of kinds.Choke c.from_word.ensures c.in-Some.is c.in-Choke.is)
      c.requires.is;
}

pub return_marked-requires : goal.return_marked-requires
unfolding word_of_kind
return_marked-requires c = record {
  machine = c.requires.machine;
  is =
      of-kind 8 (sym c.dag_word.ensures)
      (word-of kinds.Return c.from_word.ensures c.in-Some.is c.in-Return.is)
      c.requires.is;
}

pub publish-requires : goal.publish-requires
unfolding word_of_kind
publish-requires c = record {
  machine = c.requires.machine;
  is =
      of-kind 9 (sym c.dag_word.ensures)
      (word-of kinds.Publish c.from_word.ensures c.in-Some.is c.in-Publish.is)
      c.requires.is;
}

pub returns-in-Stop : goal.returns-in-Stop
unfolding word_of_kind
returns-in-Stop c = λ m a one. let b = of-kind 0 (sym c.dag_word.ensures)
    (word-of kinds.Stop c.from_word.ensures c.in-Some.is c.in-Stop.is) a in
    same-leaves c.args.shared.now 0 stop-keeps b one (c.stop.ensures m b)

pub returns-in-Site : goal.returns-in-Site
unfolding word_of_kind
returns-in-Site c = λ m a one. let b = of-kind 1 (sym c.dag_word.ensures)
    (word-of kinds.Site c.from_word.ensures c.in-Some.is c.in-Site.is) a in
    same-leaves c.args.shared.now 1 site-keeps b one (c.site_call.ensures m b)

pub returns-in-Call : goal.returns-in-Call
unfolding word_of_kind
returns-in-Call c = λ m a one. c.call_marked.ensures m
    (of-kind 2 (sym c.dag_word.ensures)
    (word-of kinds.Call c.from_word.ensures c.in-Some.is c.in-Call.is) a) one

pub returns-in-Fork : goal.returns-in-Fork
unfolding word_of_kind
returns-in-Fork c = λ m a one. let b = of-kind 3 (sym c.dag_word.ensures)
    (word-of kinds.Fork c.from_word.ensures c.in-Some.is c.in-Fork.is) a in
    fork-leaves c.args.shared.now _ b one (c.fork.ensures.gives m b) (c.share_caller.ensures m b.taking.lawful.holds.codes)

pub returns-in-Assign : goal.returns-in-Assign
unfolding word_of_kind
returns-in-Assign c = λ m a one. let b = of-kind 4 (sym c.dag_word.ensures)
    (word-of kinds.Assign c.from_word.ensures c.in-Some.is c.in-Assign.is) a in
    same-leaves c.args.shared.now 4 assign-keeps b one (c.assign.ensures m b)

pub returns-in-Remove : goal.returns-in-Remove
unfolding word_of_kind
returns-in-Remove c = λ m a one. let b = of-kind 5 (sym c.dag_word.ensures)
    (word-of kinds.Remove c.from_word.ensures c.in-Some.is c.in-Remove.is) a in
    same-leaves c.args.shared.now 5 remove-keeps b one (c.remove.ensures m b)

pub returns-in-Where : goal.returns-in-Where
unfolding word_of_kind
returns-in-Where c = λ m a one. let b = of-kind 6 (sym c.dag_word.ensures)
    (word-of kinds.Where c.from_word.ensures c.in-Some.is c.in-Where.is) a in
    where-leaves c.args.shared.now _ b one (c.where_split.ensures m b)
    (c.share_caller-in-Where.ensures m b.taking.lawful.holds.codes)

pub returns-in-Choke : goal.returns-in-Choke
unfolding word_of_kind
returns-in-Choke c = λ m a one. let b = of-kind 7 (sym c.dag_word.ensures)
    (word-of kinds.Choke c.from_word.ensures c.in-Some.is c.in-Choke.is) a in
    same-leaves c.args.shared.now 7 choke-keeps b one (c.choke_cell.ensures m b)

pub returns-in-Return : goal.returns-in-Return
unfolding word_of_kind
returns-in-Return c = λ m a one. c.return_marked.ensures m
    (of-kind 8 (sym c.dag_word.ensures)
    (word-of kinds.Return c.from_word.ensures c.in-Some.is c.in-Return.is) a) one

pub returns-in-Publish : goal.returns-in-Publish
unfolding word_of_kind
returns-in-Publish c = λ m a one. let b = of-kind 9 (sym c.dag_word.ensures)
    (word-of kinds.Publish c.from_word.ensures c.in-Some.is c.in-Publish.is) a in
    same-leaves c.args.shared.now 9 publish-keeps b one (c.publish.ensures m b)
