use mathlib.Core.Bool.{true}
use mathlib.Core.Path.{◌≡◌}
use Prim.Native.Nat.{ℕ, ◌<◌}
use lib.ListN.{length}
use Rattle.model.specs.declared.record.Machine.{Machine}
use Rattle.model.specs.Machine.Blank.{cell_is_blank}
use Rattle.rules.proofs.RestBlank.{passed}
use Rattle.row_rules.specs.RowRules.{cell_rule}
use Rattle.row_rules.specs.ValuesFit.{ValuesFit}
use Rattle.coded.specs.WordTests.{cell_at_coded}
use Rattle.rules.proofs.cells.cells_hold.Given as goal

abbrev pub invariant-loop-i : goal.invariant-loop-i
invariant-loop-i l = (l.ok ≡ true → (c : ℕ) → c < l.i → cell_at_coded l.w c ≡ true)
    × ((m : Machine) → ValuesFit l.w m → length l.used ≡ 32 → l.ok ≡ passed (cell_rule m.cells) cell_is_blank l.used m.cells l.i)
