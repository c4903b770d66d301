-- `tokens::tokens_hold` meets its contract: after i turns the flag says whether the first i tokens pass, and where it stands the list has
-- their open handles; no token from the end on is in use. Assumes nothing.
use mathlib.Core.Bool.{◌&&◌}
use mathlib.Core.Path.{◌≡◌, refl, sym, ◌∙◌, ap}
use Prim.Native.Nat.{◌+◌, ◌-◌, ◌<◌}
use native.Mathlib.Omega.{arith}
use lib.Dec.{eqb}
use lib.ListN.{length, get_or, take, length-set}
use Rattle.model.specs.Machine.Blank.{blank_token, token_at}
use Rattle.model.specs.Machine.Rules.{open_handles}
use Rattle.job.specs.Test.{◌and◌, once, distinct}
use Rattle.job.specs.Words.{dag_of}
use Rattle.job.proofs.Lists.{before-and-behind}
use Rattle.job.proofs.Test.{and_right}
use Rattle.order_rules.specs.OrderCounts.{unnamed}
use Rattle.rules.proofs.HandlesLaws.{handle-more, blank-more, blank-rest}
use Rattle.rules.proofs.OneRow.{token-blank}
use Rattle.rules.proofs.RestBlank.{first-true, second-true, grouped, where-true}
use Rattle.rules.proofs.RulesRows.{seen, seen_none, used_turn, vacant-turn, seen-rest, seen_done}
use borrow.Author.Count.{below_more}
use borrow.Author.Rules.{rules}
use Rattle.rules.proofs.tokens.tokens_hold.Goals as goal
use Rattle.rules.proofs.tokens.tokens_hold.Goals.{then-used-i, else-used-i}

pub loop-i-init : goal.loop-i-init
unfolding open_handles
loop-i-init c = let args = c.args in (
  search rules,
  refl,
  λ e p l. absurd (omega arith),
  λ m h l. seen_none (dag_of args.dag.now) m args.used.now args.counts.now.queue args.counts.now.waits args.counts.now.timers,
  λ m h e. refl,
)

pub overflow_add-count : goal.overflow_add-count
overflow_add-count c = omega (arith, c.handles_of-count.ensures.1)

pub loop-i-preserved : goal.loop-i-preserved
unfolding token_at
loop-i-preserved c = let args = c.args in
    let now = c.loop-i in
    let queue = args.counts.now.queue in
    let waits = args.counts.now.waits in
    let timers = args.counts.now.timers in
    let room : now.count < length now.handles = omega arith in (
      elim c.if-used-i.branch [
        | then-used-i w ↦ omega (arith, w.handles_of-count.ensures.1, w.count-is)
        | else-used-i w ↦ omega (arith, w.count-is)
      ],
      elim c.if-used-i.branch [
        | then-used-i w ↦ ap length w.handles-is ∙ length-set now.handles _ _ ∙ now.invariant.1
        | else-used-i w ↦ ap length w.handles-is ∙ now.invariant.1
      ],
      λ e.
          elim c.if-used-i.branch [
            | then-used-i w ↦
                let f = first-true (now.ok && w.token_holds.result) w.counts_agree.result (sym (w.ok-is ∙ grouped now.ok w.token_holds.result w.counts_agree.result) ∙ e) in
                below_more _ _ (now.invariant.2 (first-true now.ok w.token_holds.result f))
                (w.token_holds.ensures.0 (second-true now.ok w.token_holds.result f))
            | else-used-i w ↦
                let f = sym w.ok-is ∙ e in
                below_more _ _ (now.invariant.2 (first-true now.ok w.is_vacant-ok.result f))
                (w.is_vacant-ok.ensures.0 (second-true now.ok w.is_vacant-ok.result f))
          ],
      λ m h l.
          let inside : now.i < length m.tokens = omega (arith, h.codes.shaped.tokens) in
          elim c.if-used-i.branch [
            | then-used-i w ↦
                w.ok-is ∙ grouped now.ok w.token_holds.result w.counts_agree.result
                ∙ used_turn (dag_of args.dag.now) m args.used.now queue waits timers now.i (omega arith) inside (now.invariant.3 m h l)
                w.if-used-i.true
                (w.token_holds.ensures.1 m h)
                (w.counts_agree.ensures
                ∙ ap
                (λ k.
                eqb (get_or queue now.i 0) (once (eqb k 1))
                and eqb (get_or waits now.i 0) (once (eqb k 2))
                and eqb (get_or timers now.i 0) (once (eqb k 4)))
                (w.state-kind.ensures m h.codes))
            | else-used-i w ↦
                w.ok-is
                ∙ vacant-turn (dag_of args.dag.now) m args.used.now queue waits timers now.i (omega arith) inside (now.invariant.3 m h l)
                w.if-used-i.false
                (token-blank (dag_of args.dag.now) m (token_at m.tokens now.i) (h.codes.shaped.binds now.i)
                c.requires)
                (w.is_vacant-ok.ensures.1 m h.codes)
          ],
      λ m h e.
          let inside : now.i < length m.tokens = omega (arith, h.codes.shaped.tokens) in
          elim c.if-used-i.branch [
            | then-used-i w ↦
                let f = first-true (now.ok && w.token_holds.result) w.counts_agree.result (sym (w.ok-is ∙ grouped now.ok w.token_holds.result w.counts_agree.result) ∙ e) in
                ap (take c.if-used-i.count) w.handles-is
                ∙ handle-more m.tokens now.handles now.count now.i blank_token inside room
                (now.invariant.4 m h (first-true now.ok w.token_holds.result f)) (w.state_number.ensures m h.codes)
                (w.state-kind.ensures m h.codes)
                c.if-used-i.count
                (w.count-is ∙ ap (λ k. now.count + k) w.handles_of-count.ensures.0)
            | else-used-i w ↦
                let f = sym w.ok-is ∙ e in
                let blank = and_right (unnamed queue waits timers now.i) _
                (sym (w.is_vacant-ok.ensures.1 m h.codes) ∙ second-true now.ok w.is_vacant-ok.result f) in
                ap (λ n. take n c.if-used-i.handles) w.count-is
                ∙ ap (take now.count) w.handles-is
                ∙ blank-more m.tokens now.i blank_token inside blank (now.invariant.4 m h (first-true now.ok w.is_vacant-ok.result f))
          ],
    )

pub returns : goal.returns
unfolding token_at
returns c = let args = c.args in
    let last = c.loop-i in
    let end = c.few_or_all-end in
    let names = c.unnamed_from in
    let blank = c.tokens_are_blank in
    let rest = names.result && blank.result in
    let e : last.i ≡ end.result = omega arith in
    let d = dag_of args.dag.now in (
      λ f.
          let g = first-true (last.ok && rest) c.all_differ.result f in
          before-and-behind last.i 64 (last.invariant.2 (first-true last.ok rest g))
          (λ p b. blank.ensures.0 (second-true names.result blank.result (second-true last.ok rest g)) p (omega arith)),
      λ m h l.
          let long = h.codes.shaped.tokens in
          let n = 64 - end.result in
          where-true (last.ok && rest) c.all_differ.result (distinct (open_handles m.tokens))
          (λ f.
          let none = second-true names.result blank.result (second-true last.ok rest f) in
          c.all_differ.ensures
          ∙ ap distinct
          (last.invariant.4 m h (first-true last.ok rest f)
          ∙ ap (λ i. open_handles (take i m.tokens)) e
          ∙ blank-rest m.tokens end.result (sym (blank.ensures.1 m h.codes) ∙ none)))
          ∙ ap (λ b. b and distinct (open_handles m.tokens))
          (seen-rest d m args.used.now args.counts.now.queue args.counts.now.waits args.counts.now.timers end.result n (omega (arith, long))
          (l ∙ sym long)
          (λ i f b. end.ensures.upper_bound.1 i f (omega (arith, long)))
          (λ i. token-blank d m (token_at m.tokens i) (h.codes.shaped.binds i) c.requires)
          (last.invariant.3 m h l ∙ ap (seen d m args.used.now args.counts.now.queue args.counts.now.waits args.counts.now.timers) e)
          names.ensures
          (blank.ensures.1 m h.codes)
          ∙ seen_done d m args.used.now args.counts.now.queue args.counts.now.waits args.counts.now.timers (end.result + n)
          (omega (arith, long))),
    )
