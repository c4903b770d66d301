-- What a return leaves where its token binds no cell and is in its frame's cell: the record of the definition, swept, with the frame made
-- blank or left as it was. Assumes nothing.
use mathlib.Core.Path.{◌≡◌, refl, sym, ap, subst, ◌∙◌}
use mathlib.Core.Bool.{Bool, true, false}
use mathlib.Core.List.{List}
use Prim.Native.Nat.{ℕ, ◌<◌}
use native.Mathlib.Omega.{arith}
use lib.ListN.{set}
use Rattle.std.specs.Prelude.{Some}
use Rattle.job.specs.Words.{dag_of}
use Rattle.model.specs.Machine.State.{is_live, is_frame}
use Rattle.model.specs.Machine.Blank.{token_at}
use Rattle.model.specs.Machine.InUse.{tokens_used, cells_used}
use Rattle.model.specs.Machine.Limits.{paper}
use Rattle.model.specs.Machine.Rules.{names_frame, node_rule}
use Rattle.model.specs.Machine.Update.{with_tables, with_orders, with_value, with_state, put, enqueue}
use Rattle.model.specs.declared.record.Machine.{Machine}
use Rattle.model.specs.declared.token.State.{State}
use Rattle.model.specs.declared.token.State.TheVariants as states
use Rattle.model.specs.declared.token.Token.{Token}
use Rattle.job.proofs.Test.{clash, and_left}
use Rattle.model.proofs.Keeps.Clean.{sweep-tokens, sweep-cells}
use Rattle.demand3.proofs.Carried.{acting-live}
use Rattle.demand3.proofs.Returned.{Returns, returned-cells, returned-shared, returned-tokens, returned-swept}
use Rattle.record.specs.Changes.{dequeued}
use Rattle.record.specs.Holds.{Holds}
use Rattle.sites.proofs.RuleFacts.{tokens-size}
use Rattle.acts.specs.Acting.{Acting}
use Rattle.acts.proofs.EndRebind.{Swept}
use Rattle.acts.proofs.Outcomes.{node-rule}
use Rattle.returns.specs.Frame.{SameCells, AfterRelease, shared, alone}
use Rattle.reach.specs.declared.used.Marks.{Marks}
use Rattle.writes.specs.declared.actor.Actor.{Actor}

frame-idle : (s : State) → is_frame s ≡ true → is_live s ≡ false
unfolding is_frame is_live
frame-idle states.Blank e = clash e refl
frame-idle states.Ready e = clash e refl
frame-idle (states.Waiting c) e = clash e refl
frame-idle (states.Called h) e = clash e refl
frame-idle (states.Due d) e = clash e refl
frame-idle states.Frame e = refl

module _ {ws dag : List ℕ} {used : Marks} {actor : Actor} {m : Machine} (a : Acting ws used dag actor 8 m)
    (f : ℕ) (few : f < 64) (caller : (token_at m.tokens actor.token).caller ≡ Some f) where
  abbrev t : Token
  t = token_at m.tokens actor.token

  abbrev written : Token
  written = with_state states.Ready (with_value t.value (token_at m.tokens f))

  abbrev after : Machine
  after = enqueue actor.token (put actor.token written (dequeued m actor.place))

  pub frame : is_live (token_at m.tokens f).state ≡ false
  unfolding node_rule names_frame
  frame = frame-idle _ (ap (names_frame m.tokens) (sym caller) ∙ and_left _ _ (node-rule a))

  pub returns : Returns m after actor.token f written
  unfolding put with_tables with_orders enqueue with_state with_value is_live
  returns =
      record {
        live = acting-live paper (dag_of dag) m a.taking.lawful.rules actor.place a.taking.queued actor.token a.taking.token;
        caller = caller;
        inside = let z = tokens-size (dag_of dag) m a.taking.lawful.rules in omega arith;
        frame = frame;
        tokens = refl;
        cells = refl;
        alive = refl;
        same_caller = refl;
        same_cell = refl;
        same_binds = refl;
      }

  pub released-swept : {now : List ℕ} {marks : List Bool} → SameCells m actor.token f → AfterRelease after f now used.tokens marks
      → Swept after now (record { tokens = marks; cells = used.cells })
  released-swept {now} {marks} s (shared i k h e) =
      let c = returned-shared paper (dag_of dag) m a.taking.lawful.rules after actor.token f written returns s.cell s.binds i k in (
        subst (Holds now) (sym c.whole) h,
        record {
          tokens = e ∙ (a.taking.lawful.marks.tokens ∙ (sym c.tokens ∙ ap (λ o. tokens_used o) (sym c.whole)));
          cells = a.taking.lawful.marks.cells ∙ (sym c.cells ∙ ap (λ o. cells_used o) (sym c.whole));
        },
      )
  released-swept {now} {marks} s (alone n h e) =
      let rules = a.taking.lawful.rules in (
        subst (Holds now) (sym (returned-swept paper (dag_of dag) m rules after actor.token f written returns s.cell s.binds n)) h,
        record {
          tokens = e
              ∙ (ap (λ us. set us f false) a.taking.lawful.marks.tokens
              ∙ (sym (returned-tokens paper (dag_of dag) m rules after actor.token f written returns s.cell s.binds n)
              ∙ sym (sweep-tokens after)));
          cells = a.taking.lawful.marks.cells
              ∙ (sym (returned-cells paper (dag_of dag) m rules after actor.token f written returns s.cell s.binds) ∙ sym (sweep-cells after));
        },
      )
