-- `tokens::token_holds` meets its contract: the words are a token's, and then its rules are tested. Assumes nothing.
use mathlib.Core.Bool.{Bool, ◌&&◌}
use mathlib.Core.Path.{sym, ◌∙◌, ap}
use native.Mathlib.Omega.{arith}
use Rattle.model.specs.Machine.Blank.{token_at}
use Rattle.job.specs.Words.{dag_of}
use Rattle.rules.proofs.OneRow.{node-past, node_in, due-last}
use Rattle.rules.proofs.RestBlank.{first-true}
use Rattle.coded.proofs.IsRecordRows.{codes-token}
use Rattle.job.proofs.Both.{three}
use Rattle.job.proofs.Test.{clash, le-not-ltb}
use Rattle.dag_rules.proofs.DagLaws.{nodes-length}
use borrow.Author.Rules.{rules}
use Rattle.rules.proofs.tokens.token_holds.Goals as goal

pub returns-else-at-dag : goal.returns-else-at-dag
returns-else-at-dag c = let no = le-not-ltb _ _ c.if-at-dag.false in (
  λ e. clash e no,
  λ m h.
      let t = token_at m.tokens c.args.p in
      let d = dag_of c.args.dag.now in
      no ∙ node-past d m t (h.codes.shaped.binds _) (c.node-at.ensures m h.codes)
      (omega (arith, nodes-length c.args.dag.now)),
)

pub returns-then-at-dag : goal.returns-then-at-dag
returns-then-at-dag c = let start = c.args in
    let coded = c.token_coded.result in
    let ranged = c.token_in_range.result in
    let placed = c.at_node.result in
    let words = c.token_coded.ensures in (
      λ e. sym words
          ∙ first-true coded ranged (first-true (coded && ranged) placed (first-true (coded && ranged && placed) c.is_free.result e)),
      λ m h.
          let t = token_at m.tokens start.p in
          let d = dag_of start.dag.now in
          let node = c.node-at.ensures m h.codes in
          ap (λ (b : Bool). b && ranged && placed && c.is_free.result) (words ∙ codes-token h.codes start.p (search rules))
          ∙ three
          (c.token_in_range.ensures m h
          ∙ node_in d m t (h.codes.shaped.binds _) node (omega (arith, nodes-length start.dag.now)) (h.values start.p))
          (c.at_node.ensures m h.codes (c.wide.ensures ∙ node))
          (c.is_free.ensures m h.codes)
          ∙ due-last _ _ _ _ _,
    )
