-- In a run, who is named as a caller is a frame: the frames of each active token are seen from its caller on, and so are those of each
-- token that is reached by callers. Assumes nothing.
use mathlib.Core.Path.{◌≡◌, sym, ◌∙◌, ap}
use mathlib.Core.Bool.{true}
use mathlib.Core.List.{List}
use Prim.Native.Nat.{ℕ, ◌<◌}
use native.Mathlib.Decide.{dec_lt}
use native.Mathlib.Omega.{arith}
use lib.ListN.{length}
use Rattle.std.specs.Prelude.{Some}
use Rattle.job.specs.Node.{Dag}
use Rattle.model.specs.Machine.Limits.{Limits}
use Rattle.model.specs.Machine.Blank.{token_at}
use Rattle.model.specs.Machine.Active.{is_active}
use Rattle.model.specs.declared.token.State.TheVariants as states
use Rattle.model.specs.declared.token.Token.{Token}
use Rattle.model.specs.declared.record.Machine.{Machine}
use Rattle.model.proofs.Machine.Reach.{Names, names-nowhere}
use Rattle.model.proofs.Machine.Inside.{active-live}
use Rattle.model.proofs.Machine.Used.{Used}
use Rattle.simulation.proofs.AbstractMachine as Abstract
use Rattle.simulation.proofs.AbstractMachine.{Frame}
use Rattle.lockstep.proofs.Labels.{Labels}
use Rattle.lockstep.proofs.View.{World, FramesSeen, TokenSeen, sees, FrameSeen, frame_at, frame-seen}
use Rattle.lockstep.proofs.Seen.{Core, Sees, seen_as, UsedToken, tokens-of, token-at, live-listed}
use Rattle.demand3.proofs.Runs.{InRun, seen_with}
use Rattle.model.proofs.Machine.TableRows.{token-outside}

-- the caller of a token in use is a frame
abbrev pub Framed : Machine → Type 0
Framed m = (i j : ℕ) → Used m i → (token_at m.tokens i).caller ≡ Some j → (token_at m.tokens j).state ≡ states.Frame

module _ {M : Labels} {W : World} {A : List ℕ} {S : List Abstract.Token} (K : Core M W A S) where
  -- the frames from a token's caller on are seen
  abbrev Calls : ℕ → Type 0
  Calls i = (F : List Frame) × FramesSeen W M (token_at W.tokens i).caller F

  active-calls : (i : ℕ) → is_active W.cells (token_at W.tokens i) ≡ true → Calls i
  active-calls i e = go (token-at i (live-listed i K (active-live W.cells (token_at W.tokens i) e)) K.seen).1
    where
      go : {x : Abstract.Token} → TokenSeen W M (token_at W.tokens i) x → Calls i
      go (sees v u s) = (_, v.caller)

  next-calls : (i : ℕ) → i < length W.tokens → Calls i → Names Calls (token_at W.tokens i).caller
  next-calls i l c j e = go (frame-seen j e c.1)
    where
      go : {F : List Frame} → FrameSeen W M j F → Calls j
      go (frame_at k s v) = (_, v.caller)

  caller-frame : (i j : ℕ) → i < length W.tokens → UsedToken W i → (token_at W.tokens i).caller ≡ Some j
      → (token_at W.tokens j).state ≡ states.Frame
  caller-frame i j l u e = go (frame-seen j e ((tokens-of W).least Calls active-calls next-calls i l u).1)
    where
      go : {F : List Frame} → FrameSeen W M j F → (token_at W.tokens j).state ≡ states.Frame
      go (frame_at k s v) = s

pub sees-framed : {M : Labels} {m : Machine} {s : Abstract.State} → Sees M m s → Framed m
sees-framed {m = m} (seen_as name place A K) i j u e = go (dec_lt i (length m.tokens)) (λ l. caller-frame K i j l u e)
  where
    IsFrame : ℕ → Type 0
    IsFrame k = (token_at m.tokens k).state ≡ states.Frame

    go : Dec (i < length m.tokens) → (i < length m.tokens → IsFrame j) → IsFrame j
    go (yes l) f = f l
    go (no n) f =
        names-nowhere IsFrame j (sym (ap (λ (t : Token). t.caller) (token-outside m.tokens i (omega arith))) ∙ e)

pub in-run-framed : {lim : Limits} {d : Dag} {M : Labels} {m : Machine} → InRun lim d M m → Framed m
in-run-framed (seen_with s r) = sees-framed r.view
