-- `is_tail` holds of a node exactly if `Tail` does. Where the looks that a node needs are one more, one more node passes with so many
-- looks;
-- so none needs more looks than the dag has nodes. Assumes nothing.
use mathlib.Core.Path.{◌≡◌, refl, sym, ◌∙◌, ap}
use mathlib.Core.Logic.{⊎_elim}
use mathlib.Core.Bool.{Bool, true, false}
use Prim.Native.Nat.{ℕ, zero, suc, ◌+◌, ◌<◌, ◌≤◌}
use native.Mathlib.Decide.{dec_lt, ℕ_discrete, le_ind}
use native.Mathlib.Omega.{arith}
use lib.ListN.{length, get_or-eq_default}
use Rattle.job.specs.Test.{once}
use Rattle.job.specs.Node.{Node, Dag, node_at}
use Rattle.job.specs.Tail.{Tail, is_tail_within, is_tail}
use Rattle.job.specs.Tail.Tail.{return, remove}
use Rattle.job.proofs.Test.{clash, holds-or-fails, once-small}

-- how many numbers below n pass a test
unfoldable count : (ℕ → Bool) → ℕ → ℕ
count p zero = 0
count p (suc n) = once (p n) + count p n

count_small : (p : ℕ → Bool) (n : ℕ) → count p n ≤ n
unfolding count
count_small p zero = omega arith
count_small p (suc n) = omega (arith, once-small (p n), count_small p n)

once_more : (a b : Bool) → (a ≡ true → b ≡ true) → once a ≤ once b
once_more true b f = rw (f refl) (omega arith)
once_more false b f = omega (arith, once-small b)

module _ (p q : ℕ → Bool) (f : (i : ℕ) → p i ≡ true → q i ≡ true) where
  -- a wider test passes no fewer
  count-more : (n : ℕ) → count p n ≤ count q n
  unfolding count
  count-more zero = omega arith
  count-more (suc n) = omega (arith, once_more (p n) (q n) (f n), count-more n)

  -- and one more, where one passes it alone
  count-gains : (n i : ℕ) → i < n → p i ≡ false → q i ≡ true → count p n < count q n
  unfolding count
  count-gains zero i l e g = absurd (omega arith)
  count-gains (suc n) i l e g = here (ℕ_discrete i n) (λ b. count-gains n i b e g)
    where
      here : Dec (i ≡ n) → (i < n → count p n < count q n) → count p (suc n) < count q (suc n)
      here (yes s) below = omega (arith, count-more n, ap once (rw s at e), ap once (rw s at g))
      here (no d) below = omega (arith, once_more (p n) (q n) (f n), below (omega arith))

module _ (d : Dag) where
  -- one look, at return and at remove
  pub at_return : (looks n : ℕ) → node_at d n ≡ Node.return → is_tail_within d (suc looks) n ≡ true
  unfolding is_tail_within
  at_return looks n e = rw (e, is_tail_within)

  pub at-remove : (looks n : ℕ) {x k : ℕ} → node_at d n ≡ Node.remove x k → is_tail_within d (suc looks) n ≡ is_tail_within d looks k
  unfolding is_tail_within
  at-remove looks n e = rw (e, is_tail_within)

  -- a node that passes is one of the two
  data Passes (rest : ℕ → Bool) (n : ℕ) : Type 0 where
    returns : node_at d n ≡ Node.return → Passes rest n
    removes : (x k : ℕ) → node_at d n ≡ Node.remove x k → rest k ≡ true → Passes rest n

  passes : (looks n : ℕ) → is_tail_within d (suc looks) n ≡ true → Passes (is_tail_within d looks) n
  unfolding is_tail_within
  passes looks n t = go (node_at d n) refl
    where
      go : (node : Node) → node_at d n ≡ node → Passes (is_tail_within d looks) n
      go Node.stop e = clash t (rw (e, is_tail_within))
      go (Node.site s ps k) e = clash t (rw (e, is_tail_within))
      go (Node.call f ps k) e = clash t (rw (e, is_tail_within))
      go (Node.fork l r) e = clash t (rw (e, is_tail_within))
      go (Node.assign x k) e = clash t (rw (e, is_tail_within))
      go (Node.remove x k) e = removes x k e (sym (at-remove looks n e) ∙ t)
      go (Node.where' x l r) e = clash t (rw (e, is_tail_within))
      go Node.choke e = clash t (rw (e, is_tail_within))
      go Node.return e = returns e
      go Node.publish e = clash t (rw (e, is_tail_within))
      go Node.unknown e = clash t (rw (e, is_tail_within))

  -- more looks do not harm
  one-more-look : (looks n : ℕ) → is_tail_within d looks n ≡ true → is_tail_within d (suc looks) n ≡ true
  unfolding is_tail_within
  one-more-look zero n h = clash h refl
  one-more-look (suc looks) n h = go (passes looks n h) (one-more-look looks)
    where
      go : Passes (is_tail_within d looks) n → ((k : ℕ) → is_tail_within d looks k ≡ true → is_tail_within d (suc looks) k ≡ true)
          → is_tail_within d (suc (suc looks)) n ≡ true
      go (returns e) more = at_return (suc looks) n e
      go (removes x k e t) more = at-remove (suc looks) n e ∙ more k t

  more-looks : {few : ℕ} (n : ℕ) → is_tail_within d few n ≡ true → (looks : ℕ) → few ≤ looks → is_tail_within d looks n ≡ true
  more-looks n h = le_ind (λ looks. is_tail_within d looks n ≡ true) h (λ looks l. one-more-look looks n)

  -- past the last node there is none that passes
  passes-inside : (looks n : ℕ) → is_tail_within d (suc looks) n ≡ true → n < length d.nodes
  unfolding node_at is_tail_within
  passes-inside looks n h = go (dec_lt n (length d.nodes))
    where
      outside : node_at d n ≡ Node.unknown → is_tail_within d (suc looks) n ≡ false
      outside e = rw (e, is_tail_within)

      go : Dec (n < length d.nodes) → n < length d.nodes
      go (yes l) = l
      go (no l) = clash h (outside (get_or-eq_default d.nodes Node.unknown (omega arith)))

  -- how many nodes pass with so many looks
  unfoldable passing : (looks : ℕ) → ℕ
  passing looks = count (is_tail_within d looks) (length d.nodes)

  one-more-passes : (looks n : ℕ) → is_tail_within d looks n ≡ false → is_tail_within d (suc looks) n ≡ true
      → passing looks < passing (suc looks)
  unfolding passing
  one-more-passes looks n few enough = count-gains _ _ (one-more-look looks) _ n (passes-inside looks n enough) few enough

  -- a node that needs more than so many looks: more than so many nodes pass
  needed : (looks n : ℕ) → is_tail_within d looks n ≡ false → is_tail_within d (suc looks) n ≡ true → looks < passing (suc looks)
  needed zero n few enough = omega (arith, one-more-passes zero n few enough)
  needed (suc looks) n few enough = go (passes (suc looks) n enough) (needed looks)
    where
      go : Passes (is_tail_within d (suc looks)) n
          → ((k : ℕ) → is_tail_within d looks k ≡ false → is_tail_within d (suc looks) k ≡ true → looks < passing (suc looks))
          → suc looks < passing (suc (suc looks))
      go (returns e) below = clash (at_return looks n e) few
      go (removes x k e t) below =
          omega (arith, below k (sym (at-remove looks n e) ∙ few) t, one-more-passes (suc looks) n few enough)

  -- as many looks as there are nodes are enough
  enough-looks : (looks n : ℕ) → is_tail_within d looks n ≡ true → is_tail d n ≡ true
  unfolding is_tail passing is_tail_within
  enough-looks zero n h = clash h refl
  enough-looks (suc looks) n h = ⊎_elim (enough-looks looks n) last (holds-or-fails (is_tail_within d looks n))
    where
      last : is_tail_within d looks n ≡ false → is_tail_within d (length d.nodes) n ≡ true
      last few =
          more-looks {few = suc looks} n h (length d.nodes)
          (omega (arith, needed looks n few h, count_small (is_tail_within d (suc looks)) (length d.nodes)))

  looks-needed : {n : ℕ} → Tail d n → (looks : ℕ) × (is_tail_within d looks n ≡ true)
  looks-needed (return e) = (1, at_return 0 _ e)
  looks-needed (remove e t) = let r = looks-needed t in (suc r.0, at-remove r.0 _ e ∙ r.1)

  tail_within : (looks n : ℕ) → is_tail_within d looks n ≡ true → Tail d n
  unfolding is_tail_within
  tail_within zero n h = clash h refl
  tail_within (suc looks) n h = go (passes looks n h) (tail_within looks)
    where
      go : Passes (is_tail_within d looks) n → ((k : ℕ) → is_tail_within d looks k ≡ true → Tail d k) → Tail d n
      go (returns e) rest = return e
      go (removes x k e t) rest = remove e (rest k t)

  pub tail-exactly : (n : ℕ) → (is_tail d n ≡ true → Tail d n) × (Tail d n → is_tail d n ≡ true)
  unfolding is_tail
  tail-exactly n = (tail_within _ n, λ t. let r = looks-needed t in enough-looks r.0 n r.1)
