-- An answer on the words of a record. Assumes nothing: these are definitions.
use Rattle.std.specs.Prelude.{◌≡◌, Bool, true, false, List, ℕ, ℤ, Some, None, Result, Ok, Err, IfErr}
use Rattle.job.specs.Node.{Dag}
use Rattle.model.specs.Machine.Answer.{holder}
use Rattle.model.specs.Machine.Blank.{is_place, token_at}
use Rattle.model.specs.Machine.Limits.{paper}
use Rattle.model.specs.Machine.Rules.{rules_hold}
use Rattle.model.specs.Machine.Update.{with_value, with_state, put, enqueue}
use Rattle.model.specs.declared.reply.Refusal.{Refusal}
use Rattle.model.specs.declared.reply.Refusal.TheVariants as refusals
use Rattle.model.specs.Machine.Held.{Place}
use Rattle.model.specs.declared.token.State.TheVariants as states
use Rattle.model.specs.declared.record.Machine.{Machine}
use Rattle.record.specs.Holds.{Holds}
use Rattle.reach.specs.Marks.{BlankFrom}

-- "An answer gives its token the value and makes it ready"; without a token the record stays as it is
unfoldable pub answered_by : Machine → ℤ → Place → Machine
answered_by m v None = m
answered_by m v (Some p) = enqueue p (put p (with_state states.Ready (with_value (Some v) (token_at m.tokens p))) m)

-- what an answer says: a handle that isn't open is refused with 12
unfoldable pub answer_says : (is_open : Bool) → Result Unit Refusal
answer_says true = Ok tt
answer_says false = Err refusals.NotOpen

-- what an answer does, where every token from the end on is blank
pub record Answered (end handle : ℕ) (v : ℤ) (r : Result Unit Refusal) (before after : List ℕ) : Type 0 where
  pub says : (m : Machine) → Holds before m → BlankFrom m end → r ≡ answer_says (is_place (holder handle 0 m.tokens))
  pub does : (d : Dag) (m : Machine) → Holds before m → BlankFrom m end → rules_hold paper d m ≡ true
      → Holds after (answered_by m v (holder handle 0 m.tokens))
  pub stays : IfErr r (λ (e : Refusal). (e ≡ refusals.NotOpen) × (after ≡ before))
