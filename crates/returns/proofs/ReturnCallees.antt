-- A return keeps one callee at most for a place that is not marked: the token takes its frame's caller, and a frame with no other callee
-- goes. Assumes nothing.
use mathlib.Core.Path.{◌≡◌, refl, sym, ◌∙◌, ap, subst}
use mathlib.Core.Logic.{◌⊎◌, inl, inr}
use mathlib.Core.Bool.{Bool, true, false}
use mathlib.Core.List.{List}
use Prim.Native.Nat.{ℕ, ◌<◌}
use native.Mathlib.Omega.{arith}
use lib.ListN.{length, get_or, length-set}
use Rattle.std.specs.Prelude.{Some}
use Rattle.job.specs.Words.{dag_of}
use Rattle.model.specs.Machine.Blank.{blank_token, token_at}
use Rattle.model.specs.Machine.InUse.{tokens_used, sweep}
use Rattle.model.specs.Machine.Limits.{paper}
use Rattle.model.specs.Machine.Reply.{accepted}
use Rattle.model.specs.Machine.State.{is_live}
use Rattle.model.specs.Machine.Step as Step
use Rattle.model.specs.Machine.Update.{put, with_tables, with_orders, with_value, with_state, enqueue}
use Rattle.model.specs.declared.record.Machine.{Machine}
use Rattle.model.specs.declared.reply.Outcome.{Outcome}
use Rattle.model.specs.declared.token.State.TheVariants as states
use Rattle.model.specs.declared.token.Token.{Token}
use Rattle.job.proofs.Test.{clash}
use Rattle.model.proofs.Machine.Inside.{active-live}
use Rattle.model.proofs.Machine.Blanking.{kept_free}
use Rattle.model.proofs.Machine.Used.{Used}
use Rattle.model.proofs.Keeps.Clean.{tokens_of}
use Rattle.demand3.proofs.Returned.{Returns}
use Rattle.record.specs.Changes.{dequeued}
use Rattle.acts.specs.Acting.{Acting}
use Rattle.acts.specs.SharedFrames.{NamesAsCaller, OneCallee, Alone, caller_shared, return_shared}
use Rattle.reach.specs.declared.used.Marks.{Marks}
use Rattle.writes.specs.declared.actor.Actor.{Actor}
use Rattle.acts.proofs.SharedFrames.{unshared, blank-names, callees-kept, swept-callees, swept-names, put-names}
use Rattle.acts.proofs.StepAtNode.{return-step}
use Rattle.returns.proofs.ReturnValue.{returns}
use Rattle.model.proofs.Machine.TableRows.{token-other}

module _ {ws dag : List ℕ} {used : Marks} {actor : Actor} {m : Machine} (a : Acting ws used dag actor 8 m)
    (f : ℕ) (few : f < 64) (caller : (token_at m.tokens actor.token).caller ≡ Some f) where
  abbrev written : Token
  written = with_state states.Ready (with_value (token_at m.tokens actor.token).value (token_at m.tokens f))

  abbrev after : Machine
  after = enqueue actor.token (put actor.token written (dequeued m actor.place))

  is : Returns m after actor.token f written
  is = returns a f few caller

  other : f ≡ actor.token → ⊥
  other e = clash is.live (ap (λ k. is_live (token_at m.tokens k).state) (sym e) ∙ is.frame)

  -- who names g after it
  After : (g i : ℕ) → Type 0
  After g i = ((i ≡ actor.token) × NamesAsCaller m g f) ⊎ ((i ≡ actor.token → ⊥) × NamesAsCaller m g i)

  names-after : (g i : ℕ) → NamesAsCaller after g i → After g i
  unfolding After enqueue with_orders with_state with_value
  names-after g i e = put-names (dequeued m actor.place) actor.token written g i e

  module _ (alone : Alone m actor.token) where
    -- no other token named the frame, so none does
    pub nobody : (i : ℕ) → NamesAsCaller after f i → ⊥
    unfolding After
    nobody i e = go (names-after f i e)
      where
        go : ((i ≡ actor.token) × NamesAsCaller m f f) ⊎ ((i ≡ actor.token → ⊥) × NamesAsCaller m f i) → ⊥
        go (inl w) = other (alone f f caller w.1)
        go (inr w) = w.0 (alone f i caller w.1)

    frame_row : token_at after.tokens f ≡ token_at m.tokens f
    unfolding enqueue with_orders put with_tables
    frame_row = token-other m.tokens actor.token f written other

    NotFrame : ℕ → Type 0
    NotFrame i = i ≡ f → ⊥

    unused : Used after f → ⊥
    unfolding NotFrame
    unused u =
        (tokens_of after).least NotFrame
        (λ i e q. clash (active-live after.cells _ e)
        (ap (λ k. is_live (token_at after.tokens k).state) q ∙ (ap (λ (t : Token). is_live t.state) frame_row ∙ is.frame)))
        (λ i l h j e q. nobody i (e ∙ ap Some q))
        f (let z = is.inside in let y = lengths in omega arith) u refl
      where
        lengths : length after.tokens ≡ length m.tokens
        lengths = ap length is.tokens ∙ length-set m.tokens actor.token written

    frame-gone : token_at (sweep after).tokens f ≡ blank_token
    unfolding sweep token_at
    frame-gone = go (get_or (tokens_used after) f true) refl
      where
        go : (b : Bool) → get_or (tokens_used after) f true ≡ b → token_at (sweep after).tokens f ≡ blank_token
        go true u = absurd (unused u)
        go false u = kept_free blank_token (tokens_used after) after.tokens f u

  module _ (s : List Bool) (one : OneCallee s m) where
    shared-callees : OneCallee (caller_shared (token_at m.tokens f).caller s) after
    unfolding After
    shared-callees =
        callees-kept s (caller_shared (token_at m.tokens f).caller s) m after (λ g e. (unshared (token_at m.tokens f).caller s g e).1)
        old one
      where
        old : (g i : ℕ) → get_or (caller_shared (token_at m.tokens f).caller s) g true ≡ false → NamesAsCaller after g i
            → NamesAsCaller m g i
        old g i e c = go (names-after g i c)
          where
            go : ((i ≡ actor.token) × NamesAsCaller m g f) ⊎ ((i ≡ actor.token → ⊥) × NamesAsCaller m g i) → NamesAsCaller m g i
            go (inl w) = absurd ((unshared (token_at m.tokens f).caller s g e).0 w.1)
            go (inr w) = w.1

    alone-callees : Alone m actor.token → OneCallee s (sweep after)
    unfolding After
    alone-callees alone g i j e b c = go (names-after g i (swept-names after g i b)) (names-after g j (swept-names after g j c))
      where
        not-frame : (k : ℕ) → NamesAsCaller (sweep after) g k → f ≡ k → ⊥
        not-frame k d q = blank-names (sweep after) g f (frame-gone alone) (ap (λ l. (token_at (sweep after).tokens l).caller) q ∙ d)

        go : ((i ≡ actor.token) × NamesAsCaller m g f) ⊎ ((i ≡ actor.token → ⊥) × NamesAsCaller m g i)
            → ((j ≡ actor.token) × NamesAsCaller m g f) ⊎ ((j ≡ actor.token → ⊥) × NamesAsCaller m g j)
            → i ≡ j
        go (inl x) (inl y) = x.0 ∙ sym y.0
        go (inl x) (inr y) = absurd (not-frame j c (one g f j e x.1 y.1))
        go (inr x) (inl y) = absurd (not-frame i b (one g f i e y.1 x.1))
        go (inr x) (inr y) = one g i j e x.1 y.1

    pub alone_of : get_or s f true ≡ false → Alone m actor.token
    alone_of e g i c d =
        let w : Some f ≡ Some g = sym caller ∙ c in
        let z : g ≡ f = cc in
        one f i actor.token e (d ∙ ap Some z) caller

    pub return-keeps : OneCallee (return_shared m f s) (Step.step paper (dag_of dag) m actor.place).machine
    unfolding return_shared accepted
    return-keeps =
        subst (λ (o : Outcome). OneCallee (return_shared m f s) o.machine) (sym (return-step dag actor m f caller a))
        (go (get_or s f true) refl)
      where
        go : (b : Bool) → get_or s f true ≡ b
            → OneCallee (elim b [ true ↦ caller_shared (token_at m.tokens f).caller s | false ↦ s ]) (sweep after)
        go true e = swept-callees (caller_shared (token_at m.tokens f).caller s) after shared-callees
        go false e = alone-callees (λ g i c d. alone_of e g i c d)
