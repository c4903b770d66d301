-- What was not in use before an instruction is blank after it: an instruction writes to the row of the token that acts, which is in use,
-- and to rows that it gives out. So sweeping need only look at rows that were in use. Assumes nothing.
use mathlib.Core.Path.{◌≡◌, sym, ap, ◌∙◌}
use mathlib.Core.Bool.{Bool, true, false}
use mathlib.Core.List.{List}
use Prim.Native.Nat.{ℕ}
use lib.ListN.{get_or, set}
use lib.Seq.{get_or-set_other}
use Rattle.std.specs.Prelude.{Some}
use Rattle.job.specs.Words.{dag_of}
use Rattle.model.specs.Machine.Blank.{blank_token, blank_cell, token_at, cell_at}
use Rattle.model.specs.Machine.Limits.{paper}
use Rattle.model.specs.declared.record.Machine.{Machine}
use Rattle.model.specs.declared.token.Token.{Token}
use Rattle.model.specs.Machine.Step as Step
use Rattle.model.specs.Machine.Update.{with_tables, with_orders, with_timers}
use Rattle.model.specs.Machine.Step.{after_choke}
use Rattle.model.specs.Machine.Held.{Held}
use Rattle.record.specs.Changes.{dequeued}
use Rattle.model.proofs.Machine.WrittenTokens.{choked-blank}
use Rattle.model.proofs.Machine.Choke.{choke-at}
use Rattle.job.proofs.Test.{clash}
use Rattle.model.proofs.Machine.Rules.{ready-live, each-rule-holds}
use Rattle.model.proofs.Machine.Used.{Used, live-used}
use Rattle.model.proofs.Keeps.Clean.{Clean, cells_of}
use Rattle.demand3.proofs.Unblanked.{rules-clean}
use Rattle.reach.specs.Marks.{Vacant}
use Rattle.acts.specs.Acting.{Lawful, Taking}
use Rattle.reach.specs.declared.used.Marks.{Marks}
use Rattle.writes.specs.declared.actor.Actor.{Actor}
use Rattle.acts.proofs.Outcomes.{token-ready}
use Rattle.model.proofs.Machine.TableRows.{token-other}

module _ {ws dag : List ℕ} {used : Marks} {m : Machine} (a : Lawful ws used dag m) where
  pub clean : Clean m
  clean = rules-clean paper (dag_of dag) m a.rules

  -- a row that is not marked
  pub free-token : (i : ℕ) → get_or used.tokens i true ≡ false → token_at m.tokens i ≡ blank_token
  free-token i e = clean.tokens i (ap (λ u. get_or u i true) (sym a.marks.tokens) ∙ e)

  pub free-cell : (c : ℕ) → get_or used.cells c true ≡ false → cell_at m.cells c ≡ blank_cell
  free-cell c e = clean.cells c (ap (λ u. get_or u c true) (sym a.marks.cells) ∙ e)

module _ {ws dag : List ℕ} {used : Marks} {actor : Actor} {m : Machine} (a : Taking ws used dag actor m) where
  pub token-used : Used m actor.token
  token-used = live-used paper (dag_of dag) m (each-rule-holds paper (dag_of dag) m a.lawful.rules) actor.token (ready-live _ (token-ready a))

  other_row : (i : ℕ) → get_or used.tokens i true ≡ false → i ≡ actor.token → ⊥
  other_row i e f = clash (ap (λ u. get_or u actor.token true) a.lawful.marks.tokens ∙ token-used) (ap (λ j. get_or used.tokens j true) (sym f) ∙ e)

  -- an instruction that writes to its token's row alone
  pub vacant-row : (o : Machine) (u : Token) → o.tokens ≡ set m.tokens actor.token u → o.cells ≡ m.cells → Vacant o used
  vacant-row o u tokens same =
      record {
        tokens = λ i l e. ap (λ ts. token_at ts i) tokens ∙ (token-other m.tokens actor.token i u (other_row i e) ∙ free-token a.lawful i e);
        cells = λ c l e. ap (λ cs. cell_at cs c) same ∙ free-cell a.lawful c e;
      }

-- a choke writes to rows of tokens in use and to the cell of the token that acts, which is in use
pub choke-vacant : {ws dag : List ℕ} {used : Marks} {actor : Actor} {m : Machine} → Taking ws used dag actor m
    → (c : ℕ) (v : Held)
    → (token_at m.tokens actor.token).cell ≡ Some c → Vacant (after_choke c v (dequeued m actor.place)) used
unfolding after_choke with_tables with_timers with_orders cell_at
choke-vacant {ws} {dag} {used} {actor} {m} a c v e =
    record {
      tokens = λ i l f. choke-at m.cells c m.tokens i ∙ ap (Step.choke_token m.cells c) (free-token a.lawful i f)
          ∙ choked-blank m.cells c;
      cells = λ k l f. get_or-set_other m.cells c k _ blank_cell (λ g. apart k f g) ∙ free-cell a.lawful k f;
    }
  where
    apart : (k : ℕ) → get_or used.cells k true ≡ false → k ≡ c → ⊥
    apart k f g =
        clash (ap (λ u. get_or u c true) a.lawful.marks.cells ∙ ((cells_of m).named actor.token (token-used a)).cell c e)
        (ap (λ j. get_or used.cells j true) (sym g) ∙ f)
