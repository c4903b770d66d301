-- A call is not refused with 10 or 11 where there is room for what its token adds: the instruction table tests for room at fork, where and
-- a definition call that is no tail call, and nowhere else. Assumes nothing.
use mathlib.Core.Path.{◌≡◌}
use mathlib.Core.Bool.{true}
use Prim.Native.Nat.{ℕ, ◌<◌}
use Rattle.job.specs.Node.{Dag}
use Rattle.model.specs.Machine.Limits.{Limits}
use Rattle.model.specs.Machine.Rules.{rules_hold}
use Rattle.model.specs.Machine.Step.{has_token_place, has_cell_place}
use Rattle.model.specs.Run.Call.{Call, runner, outcome_of}
use Rattle.model.specs.declared.record.Machine.{Machine}
use Rattle.model.specs.declared.reply.Refusal.{Refusal}
use Rattle.model.specs.declared.reply.Refusal.TheVariants as refusals
use Rattle.model.specs.declared.reply.Reply.{Reply}
use Rattle.model.specs.declared.reply.Reply.TheVariants as replies
use Rattle.job.proofs.Test.{clash}
use Rattle.model.proofs.Machine.Added.{tokens_added, cells_added, node_taken}
use Rattle.demand3.proofs.RefusesOnly.{StepTests, call-only}

-- not 10, and not 11
data Other : Refusal → Type 0 where
  no_token : Other refusals.NoToken
  not_open : Other refusals.NotOpen
  call_limit : Other refusals.CallLimit
  rule : Other refusals.Rule
  wrong_time : Other refusals.WrongTime

abbrev pub NotFullReply : Reply → Type 0
NotFullReply r = (r ≡ replies.Refused refusals.TokenLimit → ⊥) × (r ≡ replies.Refused refusals.CellLimit → ⊥)

-- where a step takes a token, there is room for what it adds
abbrev pub RoomFor : Limits → Dag → Machine → (place : ℕ) → Type 0
RoomFor lim d m k =
    (tokens_added d (node_taken d m k) ≡ 1 → has_token_place lim m ≡ true) × (cells_added (node_taken d m k) ≡ 1
    → has_cell_place lim m ≡ true)

module _ (lim : Limits) (d : Dag) (m : Machine)
    (room : (k : ℕ) → rules_hold lim d m ≡ true → k < m.queued → RoomFor lim d m k) where
  tests : (k : ℕ) → StepTests Other lim d m k
  tests k =
      record {
        rules = λ e. rule;
        queued = λ l. no_token;
        takes =
            λ h l.
            let r = room k h l in
            record {
              token = λ full a. clash (r.0 a) full;
              cell = λ full a. clash (r.1 a) full;
              call = λ full. call_limit;
              rule = λ x. rule;
            };
      }

  pub not_full : (c : Call) → NotFullReply (outcome_of runner lim d m c).reply
  not_full c = (
    call-only Other lim d m tests not_open wrong_time c refusals.TokenLimit (λ x. elim x [ ]),
    call-only Other lim d m tests not_open wrong_time c refusals.CellLimit (λ x. elim x [ ]),
  )
