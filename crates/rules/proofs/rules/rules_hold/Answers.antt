-- `rules::rules_hold` meets its contract: the dag's rules first, then all the record's together. Assumes nothing.
use mathlib.Core.Bool.{Bool, false, ◌&&◌}
use mathlib.Core.List.{List}
use mathlib.Core.Path.{◌≡◌, refl, sym, ◌∙◌}
use lib.ListN.{length}
use Prim.Native.Nat.{ℕ}
use Rattle.job.specs.Test.{◌and◌}
use Rattle.job.specs.Words.{dag_of}
use Rattle.model.specs.declared.record.Machine.{Machine}
use Rattle.record.specs.Holds.{Codes}
use Rattle.record.specs.OrderWords as orders
use Rattle.order_rules.specs.OrderCounts.{order_rule}
use Rattle.order_rules.proofs.OrderCounts.{first-fails, second-fails, third-fails}
use Rattle.rules.specs.Tested.{Tested}
use Rattle.job.proofs.Test.{clash}
use Rattle.record.specs.LayoutDecoded.{machine_of}
use Rattle.coded.proofs.IsRecord.{Small}
use Rattle.coded.proofs.IsRecordRows.{row_by_row}
use Rattle.rules.proofs.RulesGrouped.{dag-breaks, orders-break, tokens-marked, cells-marked, rules-are}
use Rattle.rules.proofs.RestBlank.{first-true, second-true}
use Rattle.rules.proofs.RulesDecoded.{decoded}
use Rattle.rules.proofs.rules.rules_hold.Goals as goal

pub returns-then-not-dag_holds : goal.returns-then-not-dag_holds
returns-then-not-dag_holds c = record {
  words = λ e. clash e refl;
  codes = (row_by_row _ c.told-w c.fits-w).codes;
  rules = λ h e f. dag-breaks _ _ (sym c.dag_holds.ensures ∙ c.if-not-dag_holds.true);
}

-- one of the three is no order
refused : {ws ds : List ℕ} {us cs : List Bool} → length ws ≡ 1863 → Small ws
    → ((m : Machine) → Codes ws m → (order_rule orders.queue m and order_rule orders.waits m and order_rule orders.timers m) ≡ false)
    → Tested ws ds us cs false
refused {ws} long small breaks = record {
  words = λ e. clash e refl;
  codes = (row_by_row ws long small).codes;
  rules = λ h e f. orders-break _ (machine_of ws) (breaks (machine_of ws) h);
}

pub returns-in_default : goal.returns-in_default
returns-in_default c = refused c.told-w c.fits-w (λ m h. first-fails _ _ (c.in_default.ensures m h))

pub returns-in_default-order_counts : goal.returns-in_default-order_counts
returns-in_default-order_counts c = refused c.told-w c.fits-w (λ m h. second-fails _ _ (c.in_default-order_counts.ensures m h))

pub returns-in_default-order_counts-2 : goal.returns-in_default-order_counts-2
returns-in_default-order_counts-2 c = refused c.told-w c.fits-w (λ m h. third-fails _ _ (c.in_default-order_counts-2.ensures m h))

pub tokens_hold-requires : goal.tokens_hold-requires
tokens_hold-requires c = sym c.dag_holds.ensures ∙ c.if-not-dag_holds.false

pub returns : goal.returns
returns c = let args = c.args in
    let tokens = c.tokens_hold.result in
    let cells = c.cells_hold.result in
    record {
      words =
          λ e.
          let both = first-true (tokens && cells) c.sizes_in_range.result e in
          (row_by_row _ c.told-w c.fits-w).passes (c.tokens_hold.ensures.0 (first-true tokens cells both))
          (c.cells_hold.ensures.0 (second-true tokens cells both));
      codes = (row_by_row _ c.told-w c.fits-w).codes;
      rules =
          λ k e f.
          let d = dag_of args.dag.now in
          let m = machine_of args.w.now in
          let h = decoded k in
          let long = k.shaped.tokens in
          let short = k.shaped.cells in
          rules-are d m long short (sym c.dag_holds.ensures ∙ c.if-not-dag_holds.false) e f
          c.in-Some.queue c.in-Some-order_counts.waits c.in-Some-order_counts-2.timers
          (c.tokens_hold.ensures.1 m h (tokens-marked d m long short e))
          (c.cells_hold.ensures.1 m h (cells-marked d m long short f))
          (c.sizes_in_range.ensures m k) (c.in-Some.ensures m k) (c.in-Some-order_counts.ensures m k) (c.in-Some-order_counts-2.ensures m k);
    }
