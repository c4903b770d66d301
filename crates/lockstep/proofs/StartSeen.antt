-- The start's machine is seen as the abstract machine's first state: one token, with nothing bound, at the goal. Assumes nothing.
use mathlib.Core.Path.{◌≡◌, refl, sym, ◌∙◌, ap, subst}
use mathlib.Core.Bool.{true}
use mathlib.Core.List.{[], ◌∷◌}
use mathlib.Core.Option.{none}
use Prim.Native.Nat.{ℕ, zero, suc, ◌<◌}
use native.Mathlib.Omega.{arith}
use lib.ListN.{replicate, length-replicate}
use lib.Dec.{eqb}
use lib.IntN.{pos}
use Rattle.job.specs.Test.{occurrences, once}
use Rattle.job.specs.Node.{Dag, dag_holds}
use Rattle.model.specs.Machine.Limits.{Limits}
use Rattle.model.specs.Machine.Blank.{unbound, blank_token, token_at}
use Rattle.model.specs.Machine.State.{is_live}
use Rattle.model.specs.Machine.Start.{start_token, start_machine, start}
use Rattle.model.specs.declared.token.Token.{Token}
use Rattle.model.specs.declared.record.Machine.{Machine}
use Rattle.job.proofs.Test.{eqb_same, ne_eqb}
use Rattle.simulation.proofs.AbstractMachine.{at, running, start_at}
use Rattle.lockstep.proofs.Labels.{Labels, Flow}
use Rattle.lockstep.proofs.View.{World, absent, ready, root, nothing, outermost, BindingsSeen, PlaceSeen, TokenSeen, sees, nobody}
use Rattle.lockstep.proofs.View.{also}
use Rattle.lockstep.proofs.Seen.{world, Sees, seen_as}
use Rattle.model.proofs.Machine.InUse.{unbound-empty}
use Rattle.model.proofs.Machine.TableRows.{token-same, token-other}
use Rattle.job.proofs.Lists.{replicate-at}

blank-at : (n i : ℕ) → token_at (replicate n blank_token) i ≡ blank_token
unfolding token_at
blank-at n i = replicate-at n i blank_token

module _ (lim : Limits) (d : Dag) (M : Labels) (flow : Flow d M) (some : 0 < lim.token_places) where
  abbrev m : Machine
  m = start_machine lim d.goal

  abbrev W : World
  W = world m.tokens m.cells (λ c. c) (λ c. c) (λ c. none) 0

  first-place : token_at m.tokens 0 ≡ start_token d.goal
  first-place =
      token-same (replicate lim.token_places blank_token) 0 (start_token d.goal)
      (let z = length-replicate lim.token_places blank_token in omega arith)

  other_place : (r : ℕ) → token_at m.tokens (suc r) ≡ blank_token
  other_place r =
      token-other (replicate lim.token_places blank_token) 0 (suc r) (start_token d.goal) (λ e. omega arith)
      ∙ blank-at lim.token_places (suc r)

  start-place : PlaceSeen W M (start_token d.goal) d.goal [] [] []
  start-place =
      record {
        node = refl;
        binds =
            record {
              size = refl;
              views = subst (λ scope. BindingsSeen W unbound scope []) (sym flow.goal-scope) nothing;
              rest = λ x f. unbound-empty 8 x;
            };
        caller = outermost;
        cell = root;
        nested = record { own = []; size = sym flow.goal-nest; parts = refl; body = flow.goal-body };
      }

  start-token : TokenSeen W M (token_at m.tokens 0) (running (at d.goal [] [] []) (pos 0))
  start-token =
      subst (λ t. TokenSeen W M t (running (at d.goal [] [] []) (pos 0))) (sym first-place)
      (sees start-place (λ c i. refl) (ready (absent flow.goal-value)))

  each : (r : ℕ) → occurrences r (0 ∷ []) ≡ once (is_live (token_at m.tokens r).state)
  unfolding occurrences is_live
  each zero =
      let a : once (eqb 0 0) ≡ 1 = ap once (eqb_same 0) in
      let b : once (is_live (token_at m.tokens 0).state) ≡ 1 = ap (λ (t : Token). once (is_live t.state)) first-place in
      omega arith
  each (suc r) =
      let a : once (eqb (suc r) 0) ≡ 0 = ap once (ne_eqb (suc r) 0 (λ e. omega arith)) in
      let b : once (is_live (token_at m.tokens (suc r)).state) ≡ 0 = ap (λ (t : Token). once (is_live t.state)) (other_place r) in
      omega arith

  pub start-machine-sees : Sees M (start_machine lim d.goal) (start_at d.goal)
  start-machine-sees =
      seen_as (λ c. c) (λ c. c) (0 ∷ [])
      (record {
        seen = also start-token nobody;
        each = each;
        clean = λ n l. refl;
      })

  -- "The start tests 14"
  pub start-sees : dag_holds d ≡ true → Sees M (start lim d).machine (start_at d.goal)
  unfolding start
  start-sees e = rw (e, start) start-machine-sees
