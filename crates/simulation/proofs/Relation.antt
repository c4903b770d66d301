-- The relation between expressions and tokens: `Rep now σ Γ e K S C` says that the tokens S stand for e, whose values go to the place K. It
-- is kept where values are put in for cells and where the clock moves, and it tells which tokens are under which cells. What is due by now
-- is a token that carries 0, although the calculus may not have answered it yet. By recursion on the relation. Assumes nothing.
use mathlib.Core.Path.{◌≡◌, refl, sym}
use mathlib.Core.Path.{subst}
use mathlib.Core.Logic.{◌⊎◌}
use mathlib.Core.Bool.{true}
use mathlib.Core.List.Memᴰ
use mathlib.Core.List.{List, [], ◌∷◌, map}
use mathlib.Core.Option.{none}
use Prim.Native.Nat.{ℕ, ◌<◌, ◌≤◌}
use native.Mathlib.Omega.{arith}
use native.Mathlib.Decide.{dec_lt}
use lib.IntN.{ℤ, pos}
use Rattle.job.specs.Test.{All, more}
use Rattle.job.specs.Site.{is_builtin, is_outside}
use Rattle.calculus.specs.Expression.{Param, Exp, Substitution, lift, substitute}
use Rattle.job.proofs.Test.{never}
use Rattle.calculus.proofs.Substitution.{◌after◌, subst-after, lift-after, subst-itself}
use Rattle.simulation.proofs.Shuffle.{Mix, mix_all, mix-map}
use Rattle.simulation.proofs.AbstractMachine.{Node, Program, Binding, Frame, frame, Place, at, above, Token, running, called_out}
use Rattle.simulation.proofs.AbstractMachine.{due_later, cells_of, Store, with_set, out_of, wake}
use Rattle.simulation.proofs.Store.{◌is-in◌, ◌not-in◌, all_stay, all_end, wakes-due, stays-due}
use Rattle.simulation.proofs.Cells.{Within, Parts, parts_within, not-in-cons}
use Rattle.simulation.proofs.Binding.{Env, Change, change-lift, change-set, env-changed}

module _ (G : Program) where
  -- node n is the root of e, laid out toward k
  pub data Code : Exp → (n k : ℕ) → Type 0 where
    stop : {n k : ℕ} → G.node n ≡ Node.stop → Code Exp.stop n k
    site : {n k s : ℕ} {ps : List Param}
        → (is_builtin s ≡ true) ⊎ (is_outside s ≡ true) → G.node n ≡ Node.site s ps k → Code (Exp.site s ps) n k
    call : {n k d : ℕ} {ps : List Param} → d < G.count → G.node n ≡ Node.call d ps k → Code (Exp.call d ps) n k
    par : {n k l r : ℕ} {f g : Exp} → G.node n ≡ Node.fork l r → Code f l k → Code g r k → Code (Exp.par f g) n k
    seq : {n k a b r : ℕ} {f g : Exp}
        → Code f n a → G.node a ≡ Node.assign b → Code g b r → G.node r ≡ Node.remove k → Code (Exp.seq f g) n k
    prune : {n k l r b c : ℕ} {f g : Exp}
        → G.node n ≡ Node.where' l b → Code f l r → G.node r ≡ Node.remove k → Code g b c → G.node c ≡ Node.choke
        → Code (Exp.prune f g) n k

  -- from this node removes alone lead to return
  pub data Tail : ℕ → Type 0 where
    return : {n : ℕ} → G.node n ≡ Node.return → Tail n
    remove : {n k : ℕ} → G.node n ≡ Node.remove k → Tail k → Tail n

  -- a value at this place is assigned, chokes a cell, or is published: so it is neither removed nor returned
  pub data Lands : Place → Type 0 where
    assign : {n k : ℕ} {B : List Binding} {F : List Frame} {U : List ℕ} → G.node n ≡ Node.assign k → Lands (at n B F U)
    choke : {n : ℕ} {B : List Binding} {F : List Frame} {U : List ℕ} → G.node n ≡ Node.choke → Lands (at n B F U)
    publish : {n : ℕ} {B : List Binding} {F : List Frame} {U : List ℕ} → G.node n ≡ Node.publish → Lands (at n B F U)

  -- a token with a value at the first place comes to the second, where it lands, by remove and return alone
  pub data Leads : Place → Place → Type 0 where
    here : {K : Place} → Lands K → Leads K K
    removes : {n k : ℕ} {b : Binding} {B : List Binding} {F : List Frame} {U : List ℕ} {K : Place}
        → G.node n ≡ Node.remove k → Leads (at k B F U) K → Leads (at n (b ∷ B) F U) K
    returns : {n k : ℕ} {B A : List Binding} {F : List Frame} {U : List ℕ} {K : Place}
        → G.node n ≡ Node.return → Leads (at k B F U) K → Leads (at n A (frame k B U ∷ F) U) K

  -- at this place a value is assigned, then g runs, whose values go to K
  pub data Then (σ : Store) (Γ : List ℕ) (ρ : Substitution) (g : Exp) (K : Place) : Place → Type 0 where
    then : {n b r k : ℕ} {B : List Binding} {F : List Frame} {U : List ℕ}
        → G.node n ≡ Node.assign b → Code g b r → G.node r ≡ Node.remove k → Env σ Γ ρ B → Leads (at k B F U) K
        → Then σ Γ ρ g K (at n B F U)

  -- at this place a value chokes the cell c, which is directly under the cells U
  pub data Chokes (c : ℕ) (U : List ℕ) : Place → Type 0 where
    chokes : {n : ℕ} {B : List Binding} {F : List Frame} → G.node n ≡ Node.choke → Chokes c U (at n B F (c ∷ U))

  -- Γ: the cells of the prunes on whose left side e stands, its variables; C has the cells of the prunes in e, and may have more
  pub data Rep (now : ℕ) (σ : Store) : List ℕ → Exp → Place → List Token → List ℕ → Type 0 where
    stop : {Γ C : List ℕ} {K : Place} → Rep now σ Γ Exp.stop K [] C
    hand : {Γ C : List ℕ} {K L : Place} {v : ℤ} → Leads L K → Rep now σ Γ (Exp.hand v) K (running L v ∷ []) C
    pending : {Γ C : List ℕ} {K L : Place} {h : ℕ} → Leads L K → Rep now σ Γ (Exp.pending h) K (called_out h L ∷ []) C
    due : {Γ C : List ℕ} {K L : Place} {d : ℕ} → now < d → Leads L K → Rep now σ Γ (Exp.due d) K (due_later d L ∷ []) C
    -- the token runs already, and the calculus has not answered yet
    late : {Γ C : List ℕ} {K L : Place} {d : ℕ} → d ≤ now → Leads L K → Rep now σ Γ (Exp.due d) K (running L (pos 0) ∷ []) C
    code : {Γ C : List ℕ} {K : Place} {e : Exp} {n k : ℕ} {B : List Binding} {F : List Frame} {U : List ℕ} {v : ℤ} (ρ : Substitution)
        → Code e n k → Env σ Γ ρ B → Leads (at k B F U) K → Rep now σ Γ (substitute ρ e) K (running (at n B F U) v ∷ []) C
    par : {Γ C D E : List ℕ} {K : Place} {f g : Exp} {S T Q : List Token}
        → Parts C D E → Mix S T Q → Rep now σ Γ f K S C → Rep now σ Γ g K T D → Rep now σ Γ (Exp.par f g) K Q E
    seq : {Γ C : List ℕ} {K L : Place} {f g : Exp} {S : List Token} (ρ : Substitution)
        → Then σ Γ ρ g K L → Rep now σ Γ f L S C → Rep now σ Γ (Exp.seq f (substitute (lift ρ) g)) K S C
    prune : {Γ C D E : List ℕ} {c : ℕ} {K L : Place} {f g : Exp} {S T Q : List Token}
        → c not-in D → Parts C (c ∷ D) E → Mix S T Q → Chokes c (above K) L
        → Rep now σ (c ∷ Γ) f K S C → Rep now σ Γ g L T D → Rep now σ Γ (Exp.prune f g) K Q E

  then-changed : {θ ρ : Substitution} {σ τ : Store} {Γ Δ : List ℕ} {g : Exp} {K L : Place}
      → Change θ σ Γ τ Δ → Then σ Γ ρ g K L → Then τ Δ (θ after ρ) g K L
  then-changed m (then a c r env l) = then a c r (env-changed m env) l

  -- tokens, place and cells stay where the expression is substituted
  pub rep-changed : {now : ℕ} {σ τ : Store} {θ : Substitution} {Γ Δ C : List ℕ} {e : Exp} {K : Place} {S : List Token}
      → Change θ σ Γ τ Δ → Rep now σ Γ e K S C → Rep now τ Δ (substitute θ e) K S C
  unfolding substitute
  rep-changed m stop = stop
  rep-changed m (hand l) = hand l
  rep-changed m (pending l) = pending l
  rep-changed m (due x l) = due x l
  rep-changed m (late x l) = late x l
  rep-changed {θ} m (code {e = e} ρ c env l) = rw (subst-after θ ρ e) (code (θ after ρ) c (env-changed m env) l)
  rep-changed m (par p mx f g) = par p mx (rep-changed m f) (rep-changed m g)
  rep-changed {θ} m (seq {g = g} ρ t f) =
      rw (subst-after (lift θ) (lift ρ) g, lift-after θ ρ) (seq (θ after ρ) (then-changed m t) (rep-changed m f))
  rep-changed {θ} m (prune {c = c} n p mx ch f g) =
      prune n p mx ch (rep-changed {θ = lift θ} (change-lift c m) f) (rep-changed m g)

  -- where it is not its variable, a cell that is set changes nothing
  pub rep_set : {now : ℕ} {σ : Store} {Γ C : List ℕ} {e : Exp} {K : Place} {S : List Token} (c : ℕ) (v : ℤ)
      → σ c ≡ none → Rep now σ Γ e K S C → Rep now (with_set σ c v) Γ e K S C
  rep_set {now} {σ} {Γ} {C} {e} {K} {S} c v n r =
      subst (λ x. Rep now (with_set σ c v) Γ x K S C) (subst-itself e) (rep-changed (change-set σ c v n) r)

  -- more cells may be set aside
  pub rep-more : {now : ℕ} {σ : Store} {Γ C D : List ℕ} {e : Exp} {K : Place} {S : List Token}
      → Within C D → Rep now σ Γ e K S C → Rep now σ Γ e K S D
  rep-more w stop = stop
  rep-more w (hand l) = hand l
  rep-more w (pending l) = pending l
  rep-more w (due x l) = due x l
  rep-more w (late x l) = late x l
  rep-more w (code ρ c env l) = code ρ c env l
  rep-more w (par p mx f g) = par (parts_within w p) mx f g
  rep-more w (seq ρ t f) = seq ρ t (rep-more w f)
  rep-more w (prune n p mx ch f g) = prune n (parts_within w p) mx ch f g

  -- a tail leads where its body's return does: the frame that a tail call does not keep is passed by
  tail-lands : {n : ℕ} {B : List Binding} {F : List Frame} {U : List ℕ} {A : Type 0} → Tail n → Lands (at n B F U) → A
  tail-lands (return e) (assign f) = never cc
  tail-lands (return e) (choke f) = never cc
  tail-lands (return e) (publish f) = never cc
  tail-lands (remove e t) (assign f) = never cc
  tail-lands (remove e t) (choke f) = never cc
  tail-lands (remove e t) (publish f) = never cc

  pub tail-leads : {s k : ℕ} {A B : List Binding} {F : List Frame} {U : List ℕ} {K : Place}
      → G.node s ≡ Node.return → Tail k → Leads (at k B F U) K → Leads (at s A F U) K
  tail-leads s t (here x) = tail-lands t x
  tail-leads s (return e) (removes f l) = never cc
  tail-leads s (remove {k = k} e t) (removes {k = j} f l) =
      tail-leads s (subst Tail (let z : k ≡ j = cc in z) t) l
  tail-leads s (return e) (returns f l) = returns s l
  tail-leads s (remove e t) (returns f l) = never cc

  pub leads-above : {K L : Place} → Leads K L → above K ≡ above L
  leads-above (here x) = refl
  leads-above (removes e l) = leads-above l
  leads-above (returns e l) = leads-above l

  -- what holds of the cells above the second place holds of those above the first
  leads-cells : {K L : Place} (P : List ℕ → Type 0) → Leads L K → P (above K) → P (above L)
  leads-cells P l u = subst P (sym (leads-above l)) u

  -- on the right side of a prune, under its cell
  pub leads-under-new : {c k : ℕ} {B : List Binding} {F : List Frame} {U : List ℕ} {K : Place} (new : ℕ)
      → G.node c ≡ Node.choke → Leads (at k B F U) K → Leads (at c B F (new ∷ U)) (at c B F (new ∷ above K))
  leads-under-new {c} {B = B} {F} {U} new e l =
      subst (λ x. Leads (at c B F (new ∷ U)) (at c B F (new ∷ x))) (leads-above l) (here (choke e))

  pub then-above : {σ : Store} {Γ : List ℕ} {ρ : Substitution} {g : Exp} {K L : Place} → Then σ Γ ρ g K L → above L ≡ above K
  then-above (then a c r env l) = leads-above l

  pub chokes-above : {c : ℕ} {U : List ℕ} {L : Place} → Chokes c U L → above L ≡ c ∷ U
  chokes-above (chokes e) = refl

  -- no token is under a cell that K is not under and that is not set aside
  rep-out : {now : ℕ} {σ : Store} {Γ C : List ℕ} {e : Exp} {K : Place} {S : List Token} (c : ℕ)
      → c not-in C → c not-in above K → Rep now σ Γ e K S C → All (λ t. c not-in cells_of t) S
  rep-out c n u stop = All.none
  rep-out c n u (hand l) = more (leads-cells (λ U. c not-in U) l u) All.none
  rep-out c n u (pending l) = more (leads-cells (λ U. c not-in U) l u) All.none
  rep-out c n u (due x l) = more (leads-cells (λ U. c not-in U) l u) All.none
  rep-out c n u (late x l) = more (leads-cells (λ U. c not-in U) l u) All.none
  rep-out c n u (code ρ d env l) = more (leads-cells (λ U. c not-in U) l u) All.none
  rep-out c n u (par p mx f g) = mix_all mx (rep-out c (λ m. n (p.in_left c m)) u f) (rep-out c (λ m. n (p.in_right c m)) u g)
  rep-out c n u (seq ρ t f) = rep-out c n (rw (then-above t) u) f
  rep-out c n u (prune k p mx ch f g) =
      mix_all mx
      (rep-out c (λ m. n (p.in_left c m)) u f)
      (rep-out c (λ m. n (p.in_right c (Memᴰ.tail m)))
      (rw (chokes-above ch) (not-in-cons (λ q. n (p.in_right c (Memᴰ.head q))) u)) g)

  -- all tokens are under each cell that K is under
  rep-under : {now : ℕ} {σ : Store} {Γ C : List ℕ} {e : Exp} {K : Place} {S : List Token} (c : ℕ)
      → c is-in above K → Rep now σ Γ e K S C → All (λ t. c is-in cells_of t) S
  rep-under c u stop = All.none
  rep-under c u (hand l) = more (leads-cells (λ U. c is-in U) l u) All.none
  rep-under c u (pending l) = more (leads-cells (λ U. c is-in U) l u) All.none
  rep-under c u (due x l) = more (leads-cells (λ U. c is-in U) l u) All.none
  rep-under c u (late x l) = more (leads-cells (λ U. c is-in U) l u) All.none
  rep-under c u (code ρ d env l) = more (leads-cells (λ U. c is-in U) l u) All.none
  rep-under c u (par p mx f g) = mix_all mx (rep-under c u f) (rep-under c u g)
  rep-under c u (seq ρ t f) = rep-under c (rw (then-above t) u) f
  rep-under c u (prune k p mx ch f g) = mix_all mx (rep-under c u f) (rep-under c (rw (chokes-above ch) (Memᴰ.tail u)) g)

  pub rep-stays : {now : ℕ} {σ : Store} {Γ C : List ℕ} {e : Exp} {K : Place} {S : List Token} (c : ℕ)
      → c not-in C → c not-in above K → Rep now σ Γ e K S C → out_of c S ≡ S
  rep-stays c n u r = all_stay (rep-out c n u r)

  pub rep-ends : {now : ℕ} {σ : Store} {Γ C : List ℕ} {e : Exp} {K : Place} {S : List Token} (c : ℕ)
      → c is-in above K → Rep now σ Γ e K S C → out_of c S ≡ []
  rep-ends c u r = all_end (rep-under c u r)

  -- a token due at d, at a time
  pub rep-due : {now : ℕ} {σ : Store} {Γ C : List ℕ} {K L : Place} (d : ℕ)
      → Leads L K → Rep now σ Γ (Exp.due d) K (wake now (due_later d L) ∷ []) C
  rep-due {now} {σ} {Γ} {C} {K} {L} d l = go (dec_lt now d)
    where
      go : Dec (now < d) → Rep now σ Γ (Exp.due d) K (wake now (due_later d L) ∷ []) C
      go (yes x) = subst (λ t. Rep now σ Γ (Exp.due d) K (t ∷ []) C) (sym (stays-due L x)) (due x l)
      go (no n) =
          let x : d ≤ now = omega arith in
          subst (λ t. Rep now σ Γ (Exp.due d) K (t ∷ []) C) (sym (wakes-due L x)) (late x l)

  -- the clock moves: what is due then wakes, and the expression stays
  pub rep-ticks : {now t : ℕ} {σ : Store} {Γ C : List ℕ} {e : Exp} {K : Place} {S : List Token}
      → now ≤ t → Rep now σ Γ e K S C → Rep t σ Γ e K (map (wake t) S) C
  rep-ticks k stop = stop
  rep-ticks k (hand l) = hand l
  rep-ticks k (pending l) = pending l
  rep-ticks k (due {d = d} x l) = rep-due d l
  rep-ticks k (late {d = d} x l) = late {d = d} (omega arith) l
  rep-ticks k (code ρ c env l) = code ρ c env l
  rep-ticks {t} k (par p mx f g) = par p (mix-map (wake t) mx) (rep-ticks k f) (rep-ticks k g)
  rep-ticks k (seq ρ h f) = seq ρ h (rep-ticks k f)
  rep-ticks {t} k (prune n p mx ch f g) = prune n p (mix-map (wake t) mx) ch (rep-ticks k f) (rep-ticks k g)
