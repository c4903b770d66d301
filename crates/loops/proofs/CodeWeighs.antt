-- The code of a goal needs what the table says, and that of a body which loops in tail position has no branch: nodes follow the same
-- recursion as these numbers. A node that leads to assign, choke or publish is no tail, one that leads to return is. Assumes nothing.
use mathlib.Core.Path.{◌≡◌, refl, ◌∙◌, subst}
use mathlib.Core.Logic.{◌⊎◌, inl, inr}
use mathlib.Core.Bool.{Bool, true, false}
use mathlib.Core.List.{List, [], ◌∷◌}
use Prim.Native.Nat.{ℕ, zero, suc, ◌+◌, ◌<◌, ◌≤◌}
use native.Mathlib.Nat.{le-max_left, le-max_right}
use native.Mathlib.Omega.{arith}
use lib.ListN.{length}
use Rattle.job.specs.Syntax.{Join, Exp, Definition, levels, scope_left, scope_right}
use Rattle.job.proofs.Test.{never, clash, holds-or-fails, and_left, and_right, leb-le, ltb-lt}
use Rattle.calculus.specs.Expression as Calculus
use Rattle.calculus.specs.Meaning.{join_meant, exp_meant, body_meant}
use Rattle.simulation.proofs.AbstractMachine.{Node, Program}
use Rattle.simulation.proofs.Relation.{Code}
use Rattle.simulation.proofs.Relation as Relation
use Rattle.simulation.proofs.Relation.{Tail}
use Rattle.simulation.proofs.Coded.{Laid, Bodies}
use Rattle.loops.specs.Looping.{unbranching, bodies_loop}
use Rattle.loops.specs.Needed.{tokens_toward, cells_toward}
use Rattle.loops.proofs.Weights.{Weighs, Steady, Entries}

module _ (G : Program) where
  -- a value at this node is assigned, chokes or is published, perhaps behind removes
  pub data Ending : ℕ → Type 0 where
    assign : {n k : ℕ} → G.node n ≡ Node.assign k → Ending n
    choke : {n : ℕ} → G.node n ≡ Node.choke → Ending n
    publish : {n : ℕ} → G.node n ≡ Node.publish → Ending n
    remove : {n k : ℕ} → G.node n ≡ Node.remove k → Ending k → Ending n

  ending-no-tail : {n : ℕ} → Ending n → Tail G n → ⊥
  ending-no-tail (assign e) (Relation.return f) = never cc
  ending-no-tail (assign e) (Relation.remove f t) = never cc
  ending-no-tail (choke e) (Relation.return f) = never cc
  ending-no-tail (choke e) (Relation.remove f t) = never cc
  ending-no-tail (publish e) (Relation.return f) = never cc
  ending-no-tail (publish e) (Relation.remove f t) = never cc
  ending-no-tail (remove e x) (Relation.return f) = never cc
  ending-no-tail (remove {k = k} e x) (Relation.remove {k = j} f t) =
      ending-no-tail x (subst (Tail G) (let z : j ≡ k = cc in z) t)

  -- what an expression leads to: a tail where it stands in tail position
  pub data Toward : (tail : Bool) → ℕ → Type 0 where
    return : {n : ℕ} → Tail G n → Toward true n
    ending : {n : ℕ} → Ending n → Toward false n

  toward-remove : {b : Bool} {n k : ℕ} → G.node n ≡ Node.remove k → Toward b k → Toward b n
  toward-remove e (return t) = return (Relation.remove e t)
  toward-remove e (ending x) = ending (remove e x)

  -- the program says which nodes are tails
  pub record Tails : Type 0 where
    pub sound : (k : ℕ) → G.tail k ≡ true → Tail G k
    pub complete : (k : ℕ) → Tail G k → G.tail k ≡ true

  module _ (tails : Tails) (rank : ℕ → ℕ) (top : ℕ) where
    not-tail : {k : ℕ} → Ending k → G.tail k ≡ false
    not-tail {k} x = go (holds-or-fails (G.tail k))
      where
        go : (G.tail k ≡ true) ⊎ (G.tail k ≡ false) → G.tail k ≡ false
        go (inl t) = absurd (ending-no-tail x (tails.sound k t))
        go (inr f) = f

    pub goal-weighs : (scope : List ℕ) {n k w v : ℕ} (e : Exp) → Code G (exp_meant scope e) n k → Ending k → Weighs G rank top k w v
        → Weighs G rank top n (tokens_toward (suc top) e w) (cells_toward e v)
    unfolding exp_meant join_meant tokens_toward cells_toward
    goal-weighs scope Exp.stop (Code.stop i) l x = Weighs.stop i
    goal-weighs scope (Exp.site s ps) (Code.site known i) l x = Weighs.site i x
    goal-weighs scope {w = w} (Exp.call d ps) (Code.call there i) l x =
        Weighs.call i there (not-tail l) x (le-max_right (suc (suc top)) w) (le-max_left (suc (suc top)) w)
    goal-weighs scope (Exp.join Join.par f g) (Code.par i cf cg) l x =
        Weighs.fork i (goal-weighs (scope_left Join.par scope) f cf l x) (goal-weighs (scope_right Join.par scope) g cg l x)
    goal-weighs scope (Exp.join (Join.seq y) f g) (Code.seq cf i cg j) l x =
        goal-weighs (scope_left (Join.seq y) scope) f cf (assign i)
        (Weighs.assign i (goal-weighs (scope_right (Join.seq y) scope) g cg (remove j l) (Weighs.remove j x)))
    goal-weighs scope (Exp.join (Join.prune y) f g) (Code.prune i cf j cg c) l x =
        Weighs.where' i (goal-weighs (scope_left (Join.prune y) scope) f cf (remove j l) (Weighs.remove j x))
        (goal-weighs (scope_right (Join.prune y) scope) g cg (choke c) (Weighs.choke c))

    body-steady : {r : ℕ} (scope : List ℕ) {n k : ℕ} (b : Bool) (e : Exp) → unbranching rank r b e ≡ true → Code G (exp_meant scope e) n k
        → Toward b k → Steady G rank top r k → Steady G rank top r n
    unfolding exp_meant join_meant unbranching
    body-steady scope b Exp.stop u (Code.stop i) t x = Steady.stop i
    body-steady scope b (Exp.site s ps) u (Code.site known i) t x = Steady.site i x
    body-steady {r} scope {k = k} true (Exp.call d ps) u (Code.call there i) (return t) x =
        Steady.tail_call i there (tails.complete k t) (leb-le (rank d) r u)
    body-steady {r} scope false (Exp.call d ps) u (Code.call there i) (ending l) x =
        Steady.call i there (not-tail l) (ltb-lt (rank d) r u) x
    body-steady scope b (Exp.join Join.par f g) u c t x = clash u refl
    body-steady scope b (Exp.join (Join.seq y) f g) u (Code.seq cf i cg j) t x =
        body-steady (scope_left (Join.seq y) scope) false f (and_left _ _ u) cf (ending (assign i))
        (Steady.assign i (body-steady (scope_right (Join.seq y) scope) b g (and_right _ _ u) cg (toward-remove j t) (Steady.remove j x)))
    body-steady scope b (Exp.join (Join.prune y) f g) u c t x = clash u refl

-- the definition of a number: what its body means, and that it loops
module _ (rank : ℕ → ℕ) (top : ℕ) where
  pub data Looping (i : ℕ) (ds : List Definition) (d : ℕ) : Type 0 where
    loops : (x : Definition) → body_meant ds d ≡ exp_meant (levels x.formals) x.body → rank (i + d) ≤ top
        → unbranching rank (rank (i + d)) true x.body ≡ true → Looping i ds d

  looping-later : {i d : ℕ} {x : Definition} {ds : List Definition} → Looping (suc i) ds d → Looping i (x ∷ ds) (suc d)
  unfolding body_meant
  looping-later {i} {d} (loops y e l u) =
      let z : suc i + d ≡ i + suc d = omega arith in
      loops y e (subst (λ k. rank k ≤ top) z l) (subst (λ k. unbranching rank (rank k) true y.body ≡ true) z u)

  pub looping-at : (i : ℕ) (ds : List Definition) → bodies_loop rank top i ds ≡ true → (d : ℕ) → d < length ds → Looping i ds d
  unfolding bodies_loop body_meant
  looping-at i [] h d l = absurd (omega arith)
  looping-at i (x ∷ ds) h zero l =
      let z : i ≡ i + zero = omega arith in
      loops x refl (subst (λ k. rank k ≤ top) z (leb-le (rank i) top (and_left _ _ h)))
      (subst (λ k. unbranching rank (rank k) true x.body ≡ true) z (and_left _ _ (and_right _ _ h)))
  looping-at i (x ∷ ds) h (suc d) l = looping-later (looping-at (suc i) ds (and_right _ _ (and_right _ _ h)) d (omega arith))

-- each definition's body has no branch
module _ (G : Program) (tails : Tails G) (rank : ℕ → ℕ) (top : ℕ) where
  entry-steady : {r : ℕ} {e : Calculus.Exp} {n : ℕ} (x : Definition) → e ≡ exp_meant (levels x.formals) x.body
      → unbranching rank r true x.body ≡ true → Laid G Node.return e n → Steady G rank top r n
  entry-steady {n = n} x i u b =
      body-steady G tails rank top _ true x.body u (subst (λ e. Code G e n b.sink) i b.laid)
      (return (Relation.return b.at-sink)) (Steady.return b.at-sink)

  pub entries-steady : (ds : List Definition) → bodies_loop rank top 0 ds ≡ true → G.count ≡ length ds
      → ((d : ℕ) → G.body d ≡ body_meant ds d) → Bodies G → Entries G rank top
  entries-steady ds h c m bs d there = go (looping-at rank top 0 ds h d (let z = c in omega arith))
    where
      go : Looping rank top 0 ds d → (rank d ≤ top) × Steady G rank top (rank d) (G.entry d)
      go (loops x e l u) =
          let z : 0 + d ≡ d = omega arith in (
            subst (λ k. rank k ≤ top) z l,
            entry-steady x (m d ∙ e) (subst (λ k. unbranching rank (rank k) true x.body ≡ true) z u) (bs.laid d there),
          )
