-- What a choke does to ready tokens: those within its cell end, the others are as they were, and the queue keeps just these. Assumes
-- nothing.
use mathlib.Core.Path.{◌≡◌, refl, sym, ◌∙◌, ap}
use mathlib.Core.Bool.{Bool, true, false, not}
use mathlib.Core.List.{List, [], ◌∷◌, ◌++◌, map}
use Prim.Native.Nat.{ℕ, zero, suc, ◌<◌}
use native.Mathlib.Omega.{arith}
use lib.ListN.{length, get_or, set}
use Rattle.job.specs.Test.{select}
use Rattle.model.specs.Machine.Blank.{blank_token, token_at, cell_at}
use Rattle.model.specs.Machine.Active.{within}
use Rattle.model.specs.Machine.State.{is_ready, waits_at}
use Rattle.model.specs.Machine.Update.{with_tables, queue_of, waits_of}
use Rattle.model.specs.Machine.Step.{choke_token, after_choke}
use Rattle.model.specs.Machine.Held.{Held}
use Rattle.model.specs.declared.token.State.{State}
use Rattle.model.specs.declared.token.State.TheVariants as states
use Rattle.model.specs.declared.token.Token.{Token}
use Rattle.model.specs.declared.cell.Cell.{Cell}
use Rattle.model.specs.declared.record.Machine.{Machine}
use Rattle.job.proofs.Test.{clash}
use Rattle.model.proofs.Machine.Choke.{choke-ends}
use Rattle.model.proofs.Run.Chain.{set-cell-clear}
use Rattle.model.proofs.Run.Bystander.{Unharmed, Untouched, unharmed-timers, untouched-orders}

map_at :
    {A B : Type 0} (f : A → B) (xs : List A) (i : ℕ) (a : A) (b : B) → i < length xs → get_or (map f xs) i b ≡ f (get_or xs i a)
map_at f [] i a b l = absurd (omega arith)
map_at f (x ∷ xs) zero a b l = refl
map_at f (x ∷ xs) (suc i) a b l = map_at f xs i a b (omega arith)

ready-awake : (c : ℕ) (s : State) → is_ready s ≡ true → waits_at c s ≡ false
unfolding is_ready waits_at
ready-awake c states.Blank e = refl
ready-awake c states.Ready e = refl
ready-awake c (states.Waiting b) e = clash e refl
ready-awake c (states.Called h) e = refl
ready-awake c (states.Due d) e = refl
ready-awake c states.Frame e = refl

module _ (cs : List Cell) (c : ℕ) (t : Token) where
  choke-spares : is_ready t.state ≡ true → within cs c t.cell ≡ false → choke_token cs c t ≡ t
  unfolding choke_token
  choke-spares r e = rw (e, ready-awake c t.state r, choke_token)

  -- a ready token is ended exactly if it is not ready afterwards
  choke-ready : is_ready t.state ≡ true → within cs c t.cell ≡ not (is_ready (choke_token cs c t).state)
  unfolding is_ready
  choke-ready r = go (within cs c t.cell) refl
    where
      go : (b : Bool) → within cs c t.cell ≡ b → b ≡ not (is_ready (choke_token cs c t).state)
      go true e = ap (λ (u : Token). not (is_ready u.state)) (sym (choke-ends cs c t e))
      go false e = ap not (sym (ap (λ (u : Token). is_ready u.state) (choke-spares r e) ∙ r))

module _ (c : ℕ) (m : Machine) where
  -- the tokens after the choke of the cell c; who of them is ready; the queue then
  abbrev choked_tokens : List Token
  choked_tokens = map (choke_token m.cells c) m.tokens

  abbrev pub ready_then : ℕ → Bool
  ready_then p = is_ready (token_at choked_tokens p).state

  abbrev pub queue_then : List ℕ
  queue_then = select (λ (p : ℕ). is_ready (token_at (map (choke_token m.cells c) m.tokens) p).state) (queue_of m ++ waits_of m)

  choked-token : (p : ℕ) → p < length m.tokens → token_at choked_tokens p ≡ choke_token m.cells c (token_at m.tokens p)
  unfolding token_at
  choked-token p l = map_at (choke_token m.cells c) m.tokens p blank_token blank_token l

  pub within-ready :
      (p : ℕ) → p < length m.tokens → is_ready (token_at m.tokens p).state ≡ true
      → within m.cells c (token_at m.tokens p).cell ≡ not (ready_then p)
  within-ready p l r =
      choke-ready m.cells c (token_at m.tokens p) r ∙ ap (λ (u : Token). not (is_ready u.state)) (sym (choked-token p l))

  -- a ready token that is not within the cell, where the queue then says
  pub untouched-choked :
      (v : Held) {u : Token} {p k : ℕ} → p < length m.tokens → is_ready u.state ≡ true → within m.cells c u.cell ≡ false
      → Unharmed u p m → k < length queue_then → get_or queue_then k 0 ≡ p → Untouched u p k (after_choke c v m)
  unfolding after_choke
  untouched-choked v {u} {p} {k} l r w h i e = untouched-orders queue_then _ _ i e (unharmed-timers _ _ tables)
    where
      cells : List Cell
      cells = set m.cells c (record { parent = (cell_at m.cells c).parent; value = v })

      tables : Unharmed u p (with_tables choked_tokens cells m)
      tables = unfold with_tables in
          record {
            token = choked-token p l ∙ (ap (choke_token m.cells c) h.token ∙ choke-spares m.cells c u r w);
            clear = set-cell-clear m.cells c _ u.cell h.clear w;
          }
