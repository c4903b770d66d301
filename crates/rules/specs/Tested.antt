-- What the test 14 says of any words. Assumes nothing: this is a definition.
use Rattle.std.specs.Prelude.{◌≡◌, Bool, true, List, ℕ}
use Rattle.job.specs.Words.{dag_of}
use Rattle.model.specs.Machine.InUse.{tokens_used, cells_used}
use Rattle.model.specs.Machine.Limits.{paper}
use Rattle.model.specs.Machine.Rules.{rules_hold}
use Rattle.record.specs.LayoutDecoded.{machine_of}
use Rattle.record.specs.Holds.{Codes}
use Rattle.coded.specs.IsRecord.{is_record}

-- words that pass are a record's; of words that are a record's, with the marks of what is in use, the result says whether the rules hold
pub record Tested (ws dag : List ℕ) (tokens cells : List Bool) (r : Bool) : Type 0 where
  pub words : r ≡ true → is_record ws ≡ true
  pub codes : is_record ws ≡ true → Codes ws (machine_of ws)
  pub rules : Codes ws (machine_of ws) → tokens ≡ tokens_used (machine_of ws) → cells ≡ cells_used (machine_of ws)
      → r ≡ rules_hold paper (dag_of dag) (machine_of ws)
