-- The rules of a dag and a record, regrouped: the tables' first, then the others. A conjunction may be taken in any order. Assumes nothing.
use mathlib.Core.Path.{◌≡◌, sym, ◌∙◌, ap, ap₂}
use mathlib.Core.Bool.{Bool, true, false, ◌&&◌}
use mathlib.Core.List.{List}
use lib.ListN.{length}
use lib.Dec.{ltb, leb}
use Prim.Native.Nat.{ℕ}
use Rattle.job.specs.Test.{◌and◌, for_all, all_from, distinct}
use Rattle.job.specs.Node.{Dag, dag_holds}
use Rattle.job.specs.Site.{last_time}
use Rattle.model.specs.Machine.Limits.{paper}
use Rattle.model.specs.Machine.Blank.{token_is_blank, cell_is_blank}
use Rattle.model.specs.Machine.InUse.{tokens_used, cells_used}
use Rattle.model.specs.Machine.Rules.{sizes_in_range, token_in_range, cell_in_range, machine_holds, rules_hold}
use Rattle.model.specs.Machine.State.{is_ready, is_waiting, is_due}
use Rattle.model.specs.Machine.Rules.{names_once, chain_ends, chains_end, not_under_set}
use Rattle.model.specs.Machine.Rules.{open_handles, waits_at_unset, at_node, rest_is_blank}
use Rattle.model.specs.Machine.Rules.{due_in_range, clock_holds}
use Rattle.model.specs.declared.token.Token.{Token}
use Rattle.model.specs.declared.cell.Cell.{Cell}
use Rattle.model.specs.declared.record.Machine.{Machine}
use Rattle.job.proofs.Test.{and_left, and_right, and_both, false_of, clash}
use Rattle.model.proofs.Machine.InUse.{tokens-used, cells-used}
use Rattle.job.proofs.Lists.{same-when}
use Rattle.job.proofs.Both.{both, and_assoc}
use Rattle.row_rules.specs.RowRules.{token_rule, cell_rule}
use Rattle.record.specs.OrderWords as orders
use Rattle.order_rules.specs.OrderCounts.{named_as, named_by_orders, order_rule}
use Rattle.model.proofs.Machine.Rules.{each-rule-holds}
use Rattle.rules.proofs.RestBlank.{all_both}
use Rattle.rules.proofs.RulesRows.{from-both}

-- the tests in the code's order and in the sentences'
regrouped : (s k r cr ce tu h tw ta du tb cb a b c : Bool)
    → (((((((r and ta and tu and tw and du) and tb) and (a and b and c)) and h) and ((cr and ce) and cb)) and (s and k)))
    ≡ (s and r and cr and a and ce and tu and h and b and tw and ta and tb and cb and (k and du and c))
regrouped s k r cr ce tu h tw ta du tb cb a b c =
    same-when _ _ (λ e. search (and_left, and_right, and_both) depth 18) (λ e. search (and_left, and_right, and_both) depth 18)

with-orders : (s k r cr ce tu h tw ta du tb cb : Bool) {a b c queue waits timers : Bool} → a ≡ queue → b ≡ waits → c ≡ timers
    → (((((((r and ta and tu and tw and du) and tb) and (a and b and c)) and h) and ((cr and ce) and cb)) and (s and k)))
    ≡ (s and r and cr and queue and ce and tu and h and waits and tw and ta and tb and cb and (k and du and timers))
with-orders s k r cr ce tu h tw ta du tb cb e f g = rw (e, f, g) (regrouped s k r cr ce tu h tw ta du tb cb _ _ _)

module _ (d : Dag) (m : Machine) where
  -- the dag's rules first
  pub dag-breaks : dag_holds d ≡ false → false ≡ rules_hold paper d m
  unfolding rules_hold ◌and◌
  dag-breaks e = rw e

  -- .. and each of the three orders
  pub orders-break : (order_rule orders.queue m and order_rule orders.waits m and order_rule orders.timers m) ≡ false
      → false ≡ rules_hold paper d m
  orders-break f = sym (false_of (rules_hold paper d m) (λ e.
      let each = each-rule-holds paper d m e in
      clash (and_both each.queue (and_both each.waits each.timers)) f))

  dag-keeps : dag_holds d ≡ true → machine_holds paper d m ≡ rules_hold paper d m
  unfolding rules_hold ◌and◌
  dag-keeps e = rw e

  -- rule by rule
  token-rules : for_all (token_rule d m) m.tokens
      ≡ (for_all (token_in_range paper d m.calls) m.tokens and for_all (at_node d m.tokens) m.tokens
      and for_all (not_under_set m.cells) m.tokens and for_all (λ (t : Token). waits_at_unset m.cells t.state) m.tokens
      and for_all (λ (t : Token). due_in_range m.clock t.state) m.tokens)
  token-rules =
      all_both (token_in_range paper d m.calls) _ m.tokens
      ∙ ap (◌and◌ (for_all (token_in_range paper d m.calls) m.tokens))
      (all_both (at_node d m.tokens) _ m.tokens
      ∙ ap (◌and◌ (for_all (at_node d m.tokens) m.tokens))
      (all_both (not_under_set m.cells) _ m.tokens
      ∙ ap (◌and◌ (for_all (not_under_set m.cells) m.tokens))
      (all_both (λ (t : Token). waits_at_unset m.cells t.state) (λ (t : Token). due_in_range m.clock t.state) m.tokens)))

  module _ (tokens : length m.tokens ≡ 64) (cells : length m.cells ≡ 32) where
    cell-rules : for_all (cell_rule m.cells) m.cells ≡ (for_all (cell_in_range paper) m.cells and chains_end m.cells)
    unfolding chains_end
    cell-rules =
        all_both (cell_in_range paper) (λ (c : Cell). chain_ends m.cells 32 c.parent) m.cells
        ∙ ap (λ n. for_all (cell_in_range paper) m.cells and for_all (λ (c : Cell). chain_ends m.cells n c.parent) m.cells)
        (sym cells)

    sizes-in : sizes_in_range paper m ≡ (leb m.calls 1000000 and ltb m.lasttoken 64 and ltb m.lastcell 32)
    unfolding sizes_in_range ◌and◌
    sizes-in = rw (tokens, cells)

    sizes-parts : (sizes_in_range paper m and leb m.clock last_time)
        ≡ (leb m.calls 1000000 and ltb m.lasttoken 64 and ltb m.lastcell 32 and leb m.clock last_time)
    sizes-parts = ap (λ b. b and leb m.clock last_time) sizes-in ∙ and_assoc _ _ _ ∙ ap (◌and◌ _) (and_assoc _ _ _)

    -- how many marks there are
    pub tokens-marked : {used : List Bool} → used ≡ tokens_used m → length used ≡ 64
    tokens-marked e = ap length e ∙ (tokens-used m.tokens m.cells).size ∙ tokens

    pub cells-marked : {used : List Bool} → used ≡ cells_used m → length used ≡ 32
    cells-marked e = ap length e ∙ (cells-used (tokens_used m) m.tokens m.cells (tokens-used m.tokens m.cells).size).size ∙ cells

    -- all results together
    pub rules-are : dag_holds d ≡ true → {used marks : List Bool} → used ≡ tokens_used m → marks ≡ cells_used m
        → (queue waits timers : List ℕ) {first second sizes : Bool}
        → first
        ≡ (((for_all (token_rule d m) m.tokens and rest_is_blank token_is_blank used m.tokens) and all_from
        (named_by_orders queue waits timers) 0 m.tokens)
        and distinct (open_handles m.tokens))
        → second ≡ (for_all (cell_rule m.cells) m.cells and rest_is_blank cell_is_blank marks m.cells)
        → sizes ≡ (leb m.calls 1000000 and ltb m.lasttoken 64 and ltb m.lastcell 32 and leb m.clock last_time)
        → all_from (named_as 1 queue) 0 m.tokens ≡ names_once is_ready m.tokens m.queue m.queued
        → all_from (named_as 2 waits) 0 m.tokens ≡ names_once is_waiting m.tokens m.waits m.waiting
        → all_from (named_as 4 timers) 0 m.tokens ≡ names_once is_due m.tokens m.timers m.timed
        → (first && second && sizes) ≡ rules_hold paper d m
    unfolding machine_holds clock_holds
    rules-are holds e f queue waits timers firsts seconds sized queues delays dues =
        both
        (both
        (firsts
        ∙ ap₂ (λ x y. (x and y) and distinct (open_handles m.tokens))
        (ap₂ ◌and◌ token-rules (ap (λ us. rest_is_blank token_is_blank us m.tokens) e))
        (from-both (named_as 1 queue) (λ p t. named_as 2 waits p t and named_as 4 timers p t) 0 m.tokens
        ∙ ap (◌and◌ _) (from-both (named_as 2 waits) (named_as 4 timers) 0 m.tokens)))
        (seconds ∙ ap₂ ◌and◌ cell-rules (ap (λ us. rest_is_blank cell_is_blank us m.cells) f)))
        (sized ∙ sym sizes-parts)
        ∙ with-orders _ _ _ _ _ _ _ _ _ _ _ _ queues delays dues
        ∙ dag-keeps holds
