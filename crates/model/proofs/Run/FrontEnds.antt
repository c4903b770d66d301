-- What an accepted step at the front does to the token at a position, where it takes or ends it: the step is that token's act, or its place
-- is blank afterwards. Only a choke ends another token, and what a choke ends is blank, before and after blanking. Assumes nothing.
use mathlib.Core.Path.{◌≡◌, refl, sym, ◌∙◌, ap}
use mathlib.Core.Logic.{◌⊎◌, inl, inr}
use mathlib.Core.Bool.{Bool, true, false}
use Prim.Native.Nat.{ℕ, zero, suc}
use lib.ListN.{get_or}
use Rattle.std.specs.Prelude.{Some, None}
use Rattle.job.specs.Node.{Node, Dag, node_at}
use Rattle.job.specs.Test.{without}
use Rattle.model.specs.Machine.Limits.{Limits}
use Rattle.model.specs.Machine.Blank.{blank_token, token_at}
use Rattle.model.specs.Machine.InUse.{tokens_used, sweep}
use Rattle.model.specs.Machine.Reply.{accepted, outcome, is_refused}
use Rattle.model.specs.Machine.Update.{with_orders, with_timers, with_tables, queue_of, waits_of}
use Rattle.model.specs.Machine.Step.{after_choke, choke_at, act, takes, step}
use Rattle.model.specs.Run.Follow.{queued_token, cell_set, ends_token, front_ends, Fate, acts, falls, stays, survivors, fate}
use Rattle.model.specs.Machine.Held.{Place}
use Rattle.model.specs.declared.token.Token.{Token}
use Rattle.model.specs.declared.record.Machine.{Machine}
use Rattle.model.specs.declared.reply.Outcome.{Outcome}
use Rattle.job.proofs.Test.{clash, never}
use Rattle.model.proofs.Machine.Blanking.{kept-cases}
use Rattle.model.proofs.Machine.Choke.{choke-at, choke-ends}
use Rattle.model.proofs.Machine.Refused.{step-accepted}
use Rattle.model.proofs.Run.Survivors.{sets-only}

-- only the front acts, and what falls was ended
pub fate-acts : (d : Dag) (m : Machine) (k : ℕ) → fate d m k ≡ acts → k ≡ 0
unfolding fate
fate-acts d m zero e = refl
fate-acts d m (suc k) e = go (survivors d m 1 k) (front_ends d m (suc k)) e
  where
    go : (k' : ℕ) (b : Bool) → elim b as (λ b. Fate) [ true ↦ falls | false ↦ stays k' ] ≡ acts → suc k ≡ 0
    go k' true e = never cc
    go k' false e = never cc

pub fate-falls : (d : Dag) (m : Machine) (k : ℕ) → fate d m k ≡ falls → front_ends d m k ≡ true
unfolding fate
fate-falls d m zero e = never cc
fate-falls d m (suc k) e = go (survivors d m 1 k) (front_ends d m (suc k)) e
  where
    go : (k' : ℕ) (b : Bool) → elim b as (λ b. Fate) [ true ↦ falls | false ↦ stays k' ] ≡ falls → b ≡ true
    go k' true e = refl
    go k' false e = never cc

-- blanking leaves a blank place blank
swept-blank : (m : Machine) (p : ℕ) → token_at m.tokens p ≡ blank_token → token_at (sweep m).tokens p ≡ blank_token
unfolding sweep token_at
swept-blank m p e = go (kept-cases blank_token (tokens_used m) m.tokens p)
  where
    go : {x : Token} → (x ≡ get_or m.tokens p blank_token) ⊎ (x ≡ blank_token) → x ≡ blank_token
    go (inl s) = s ∙ e
    go (inr s) = s

module _ (lim : Limits) (d : Dag) (m : Machine) (k : ℕ) where
  abbrev place : ℕ
  place = get_or m.queue k 0

  abbrev front : Token
  front = queued_token m 0

  abbrev taken : Machine
  taken = with_orders (without 0 (queue_of m)) (waits_of m) m

  by-cell : (q : Place) → ends_token m q (queued_token m k) ≡ true
      → token_at (outcome m (choke_at taken front q)).machine.tokens place ≡ blank_token
  unfolding ends_token choke_at outcome accepted after_choke with_orders with_timers with_tables
  by-cell None e = clash e refl
  by-cell (Some c) e = swept-blank _ place (choke-at m.cells c m.tokens place ∙ choke-ends m.cells c (queued_token m k) e)

  by-node : (N : Node) → ends_token m (cell_set N front) (queued_token m k) ≡ true
      → token_at (outcome m (act lim d m taken (get_or m.queue 0 0) front N)).machine.tokens place ≡ blank_token
  unfolding cell_set ends_token act
  by-node N e = go (sets-only N front)
    where
      go : (N ≡ Node.choke) ⊎ (cell_set N front ≡ None)
          → token_at (outcome m (act lim d m taken (get_or m.queue 0 0) front N)).machine.tokens place ≡ blank_token
      go (inl n) =
          ap (λ N. token_at (outcome m (act lim d m taken (get_or m.queue 0 0) front N)).machine.tokens place) n
          ∙ by-cell front.cell (ap (λ N. ends_token m (cell_set N front) (queued_token m k)) (sym n) ∙ e)
      go (inr n) = clash e (ap (λ q. ends_token m q (queued_token m k)) n)

  pub step-ends : is_refused (step lim d m 0).reply ≡ false → front_ends d m k ≡ true
      → token_at (step lim d m 0).machine.tokens (get_or m.queue k 0) ≡ blank_token
  unfolding front_ends takes
  step-ends ok e =
      ap (λ (o : Outcome). token_at o.machine.tokens place) (step-accepted lim d m 0 ok).does ∙ by-node (node_at d front.node) e

  pub step-acts : is_refused (step lim d m 0).reply ≡ false → k ≡ 0 → step lim d m 0 ≡ outcome m (takes lim d m k)
  step-acts ok e = (step-accepted lim d m 0 ok).does ∙ ap (λ j. outcome m (takes lim d m j)) (sym e)
