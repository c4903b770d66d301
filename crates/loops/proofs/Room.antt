-- A token that may add a token needs one more than it and its callers are; one that adds a cell needs a cell. Assumes nothing.
use mathlib.Core.Path.{◌≡◌, ap}
use mathlib.Core.Bool.{Bool, true, false}
use mathlib.Core.List.{List}
use Prim.Native.Nat.{ℕ, suc, ◌+◌, ◌≤◌}
use native.Mathlib.Omega.{arith}
use lib.ListN.{length}
use Rattle.simulation.proofs.AbstractMachine.{Node, Program, Binding, Frame, at, Token}
use Rattle.loops.proofs.Weights.{place_of, frames_of, made_at, Weighs, Steady, Chain, PlaceWeighs, in_goal, in_body, Weighed, nobody}
use Rattle.loops.proofs.Weights.{also}
use Rattle.loops.proofs.Weights.{weighs-some, chain_length, place-uses}
use Rattle.loops.proofs.Covered.{uses}
use Rattle.model.proofs.Machine.Added.{unless_tail}

-- the tokens that an instruction adds, with those of frames
abbrev pub added_at : Program → Node → ℕ
added_at G Node.stop = 0
added_at G (Node.site s ps k) = 0
added_at G (Node.call d ps k) = unless_tail (G.tail k)
added_at G (Node.fork l r) = 1
added_at G (Node.assign k) = 0
added_at G (Node.remove k) = 0
added_at G (Node.where' l r) = 1
added_at G Node.choke = 0
added_at G Node.return = 0
added_at G Node.publish = 0

module _ (G : Program) (rank : ℕ → ℕ) (top : ℕ) where
  tail-adds-none : {k : ℕ} → G.tail k ≡ true → unless_tail (G.tail k) ≡ 0
  tail-adds-none e = ap unless_tail e

  added-few : (b : Bool) → unless_tail b ≤ 1
  added-few true = omega arith
  added-few false = omega arith

  goal-room : {n w v : ℕ} → Weighs G rank top n w v → added_at G (G.node n) + 1 ≤ w
  goal-room (Weighs.stop e) = let z = ap (added_at G) e in omega arith
  goal-room (Weighs.choke e) = let z = ap (added_at G) e in omega arith
  goal-room (Weighs.publish e) = let z = ap (added_at G) e in omega arith
  goal-room (Weighs.site e x) = let z = ap (added_at G) e in let y = weighs-some G rank top x in omega arith
  goal-room (Weighs.assign e x) = let z = ap (added_at G) e in let y = weighs-some G rank top x in omega arith
  goal-room (Weighs.remove e x) = let z = ap (added_at G) e in let y = weighs-some G rank top x in omega arith
  goal-room (Weighs.fork e x y) =
      let z = ap (added_at G) e in let a = weighs-some G rank top x in let b = weighs-some G rank top y in omega arith
  goal-room (Weighs.where' e x y) =
      let z = ap (added_at G) e in let a = weighs-some G rank top x in let b = weighs-some G rank top y in omega arith
  goal-room (Weighs.call {k = k} e d t x l j) = let z = ap (added_at G) e in let y = added-few (G.tail k) in omega arith

  body-room : {r n u w v : ℕ} {F : List Frame} → Steady G rank top r n → Chain G rank top r F u v → suc (suc top) ≤ w
      → added_at G (G.node n) + suc (length F) ≤ w
  body-room (Steady.stop e) c l = let z = ap (added_at G) e in let y = chain_length G rank top c in omega arith
  body-room (Steady.return e) c l = let z = ap (added_at G) e in let y = chain_length G rank top c in omega arith
  body-room (Steady.site e x) c l = let z = ap (added_at G) e in let y = chain_length G rank top c in omega arith
  body-room (Steady.assign e x) c l = let z = ap (added_at G) e in let y = chain_length G rank top c in omega arith
  body-room (Steady.remove e x) c l = let z = ap (added_at G) e in let y = chain_length G rank top c in omega arith
  body-room (Steady.tail_call {k = k} e d t i) c l =
      let z = ap (added_at G) e in let a = tail-adds-none t in let y = chain_length G rank top c in omega arith
  -- a call of a lower rank: the caller's own rank is not the least
  body-room (Steady.call {k = k} e d t i x) c l =
      let z = ap (added_at G) e in let a = added-few (G.tail k) in let y = chain_length G rank top c in omega arith

  pub place-room : {n w v : ℕ} {B : List Binding} {F : List Frame} {U : List ℕ} → PlaceWeighs G rank top (at n B F U) w v
      → added_at G (G.node n) + suc (length F) ≤ w
  place-room (in_goal x i) = let z = goal-room x in omega arith
  place-room (in_body s c i j) = body-room s c j

  goal-cells : {n w v : ℕ} → Weighs G rank top n w v → made_at (G.node n) ≤ v
  goal-cells (Weighs.stop e) = let z = ap made_at e in omega arith
  goal-cells (Weighs.choke e) = let z = ap made_at e in omega arith
  goal-cells (Weighs.publish e) = let z = ap made_at e in omega arith
  goal-cells (Weighs.site e x) = let z = ap made_at e in omega arith
  goal-cells (Weighs.assign e x) = let z = ap made_at e in omega arith
  goal-cells (Weighs.remove e x) = let z = ap made_at e in omega arith
  goal-cells (Weighs.fork e x y) = let z = ap made_at e in omega arith
  goal-cells (Weighs.where' e x y) = let z = ap made_at e in omega arith
  goal-cells (Weighs.call e d t x l j) = let z = ap made_at e in omega arith

  body-cells : {r n : ℕ} → Steady G rank top r n → made_at (G.node n) ≡ 0
  body-cells (Steady.stop e) = ap made_at e
  body-cells (Steady.return e) = ap made_at e
  body-cells (Steady.site e x) = ap made_at e
  body-cells (Steady.assign e x) = ap made_at e
  body-cells (Steady.remove e x) = ap made_at e
  body-cells (Steady.tail_call e d t i) = ap made_at e
  body-cells (Steady.call e d t i x) = ap made_at e

  pub place-cells : {n w v : ℕ} {B : List Binding} {F : List Frame} {U : List ℕ} → PlaceWeighs G rank top (at n B F U) w v
      → made_at (G.node n) ≤ v
  place-cells (in_goal x i) = goal-cells x
  place-cells (in_body s c i j) = let z = body-cells s in omega arith

  token-uses : {w v : ℕ} (t : Token) → PlaceWeighs G rank top (place_of t) w v → suc (length (frames_of t)) ≤ w
  token-uses (Token.running (at n B F U) z) p = place-uses G rank top p
  token-uses (Token.called_out h (at n B F U)) p = place-uses G rank top p
  token-uses (Token.due_later d (at n B F U)) p = place-uses G rank top p

  pub weighed-uses : {S : List Token} {w v : ℕ} → Weighed G rank top S w v → uses S ≤ w
  unfolding uses
  weighed-uses nobody = omega arith
  weighed-uses (also {t = t} p r i j) = let z = token-uses t p in let y = weighed-uses r in omega arith
