-- An expression with a hole, one operator deep, and the tokens of its other side. Whatever stands for what fills the hole makes, with them,
-- what stands for the whole; and the whole acts as its filling does, but where it catches what the filling publishes. By cases on the
-- operator. Assumes nothing.
use mathlib.Core.Path.{◌≡◌, refl, sym}
use mathlib.Core.Path.{subst}
use mathlib.Core.List.Memᴰ
use mathlib.Core.List.{List, [], ◌∷◌}
use mathlib.Core.Option.{none}
use Prim.Native.Nat.{ℕ}
use lib.IntN.{ℤ}
use Rattle.job.specs.Test.{select}
use Rattle.calculus.specs.Event.{Event, Label, silently, showing}
use Rattle.calculus.specs.Expression.{Exp, Substitution, lift, substitute, innermost}
use Rattle.calculus.specs.Rewriting.{NotPublishing, Rewrites}
use Rattle.simulation.proofs.Shuffle.{Mix, mix-swap, mix-unit}
use Rattle.simulation.proofs.AbstractMachine.{Program, Place, above, Token, Store, with_set, out_of}
use Rattle.simulation.proofs.Store.{◌not-in◌}
use Rattle.simulation.proofs.Cells.{Parts, parts-swap, parts-move, not-in-cons, Tidy, tidy-part, tidy-under, tidy-left, tidy-right}
use Rattle.simulation.proofs.Binding.{env-set}
use Rattle.simulation.proofs.Relation.{Then, then, Chokes, Rep, rep_set, rep-more, rep-stays, then-above, chokes-above}

-- what a hole does with a published value: it lets it through, or the whole silently becomes what the function says
pub data Gate : Type 0 where
  free : Gate
  catching : (ℤ → Exp → Exp) → Gate

pub data Lets : Gate → Label → Type 0 where
  through : {a : Label} → Lets free a
  passing : {k : ℤ → Exp → Exp} {a : Label} → NotPublishing a → Lets (catching k) a

-- where the filling becomes f with the label a, the whole becomes e with the label b
pub data Lifts : Gate → (Exp → Exp) → Label → Exp → Label → Exp → Type 0 where
  acting : {gate : Gate} {plug : Exp → Exp} {a : Label} {f : Exp} → Lets gate a → Lifts gate plug a f a (plug f)
  caught : {k : ℤ → Exp → Exp} {plug : Exp → Exp} {v : ℤ} {f : Exp} → Lifts (catching k) plug (showing (Event.publish v)) f silently (k v f)

module _ (G : Program) where
  -- in an expression at K, on the left side of Γ: the hole is at L, on the left side of Δ; Z and D are the other side's tokens and cells
  pub data Hole (now : ℕ) (σ : Store) (Γ : List ℕ) (K : Place)
      : Gate → (Δ : List ℕ) (L : Place) → List Token → List ℕ → (Exp → Exp) → Type 0 where
    par-left : {g : Exp} {Z : List Token} {D : List ℕ} → Rep G now σ Γ g K Z D → Hole now σ Γ K free Γ K Z D (λ f. Exp.par f g)
    par-right : {f : Exp} {Z : List Token} {D : List ℕ} → Rep G now σ Γ f K Z D → Hole now σ Γ K free Γ K Z D (λ g. Exp.par f g)
    seq : {ρ : Substitution} {g : Exp} {L : Place} → Then G σ Γ ρ g K L
        → Hole now σ Γ K
        (catching (λ v f. Exp.par (Exp.seq f (substitute (lift ρ) g)) (substitute (innermost v) (substitute (lift ρ) g))))
        Γ L [] [] (λ f. Exp.seq f (substitute (lift ρ) g))
    prune-left : {c : ℕ} {g : Exp} {L : Place} {Z : List Token} {D : List ℕ} → c not-in D → Chokes G c (above K) L → Rep G now σ Γ g L Z D
        → Hole now σ Γ K free (c ∷ Γ) K Z (c ∷ D) (λ f. Exp.prune f g)
    prune-right : {c : ℕ} {f : Exp} {L : Place} {Z : List Token} {D : List ℕ} → c not-in D → Chokes G c (above K) L
        → Rep G now σ (c ∷ Γ) f K Z D
        → Hole now σ Γ K (catching (λ v g. substitute (innermost v) f)) Γ L Z (c ∷ D) (λ g. Exp.prune f g)

  pub fill : {now : ℕ} {σ : Store} {Γ Δ C D E : List ℕ} {K L : Place} {gate : Gate} {plug : Exp → Exp} {f : Exp} {S Z Q : List Token}
      → Hole now σ Γ K gate Δ L Z D plug → Parts C D E → Mix S Z Q → Rep G now σ Δ f L S C → Rep G now σ Γ (plug f) K Q E
  fill (par-left g) p mx r = Rep.par p mx r g
  fill (par-right f) p mx r = Rep.par (parts-swap p) (mix-swap mx) f r
  fill {now} {σ} {Γ} {E = E} {K} {f = f} (seq {ρ = ρ} {g = g} t) p mx r =
      subst (λ Q. Rep G now σ Γ (Exp.seq f (substitute (lift ρ) g)) K Q E) (mix-unit mx) (Rep.seq ρ t (rep-more G p.in_left r))
  fill (prune-left n ch g) p mx r = Rep.prune n p mx ch r g
  fill (prune-right n ch f) p mx r =
      Rep.prune (λ m. p.apart _ m (Memᴰ.head refl)) (parts-move n p) (mix-swap mx) ch f r

  pub hole-tidy : {now : ℕ} {σ : Store} {new : ℕ} {Γ Δ C D E : List ℕ} {K L : Place} {gate : Gate} {plug : Exp → Exp} {Z : List Token}
      → Hole now σ Γ K gate Δ L Z D plug → Parts C D E → Tidy σ new Γ (above K) E → Tidy σ new Δ (above L) C
  hole-tidy (par-left g) p t = tidy-part t p.in_left
  hole-tidy (par-right f) p t = tidy-part t p.in_left
  hole-tidy (seq h) p t = tidy-under (tidy-part t p.in_left) (sym (then-above G h))
  hole-tidy (prune-left n ch g) p t = tidy-left p t
  hole-tidy (prune-right n ch f) p t = tidy-under (tidy-right p t) (sym (chokes-above G ch))

  then-set : {σ : Store} {Γ : List ℕ} {ρ : Substitution} {g : Exp} {K L : Place} (c : ℕ) (v : ℤ)
      → σ c ≡ none → Then G σ Γ ρ g K L → Then G (with_set σ c v) Γ ρ g K L
  then-set c v u (then a d r env l) = then a d r (env-set c v u env) l

  pub hole-set : {now : ℕ} {σ : Store} {Γ Δ D : List ℕ} {K L : Place} {gate : Gate} {plug : Exp → Exp} {Z : List Token} (c : ℕ) (v : ℤ)
      → σ c ≡ none → Hole now σ Γ K gate Δ L Z D plug → Hole now (with_set σ c v) Γ K gate Δ L Z D plug
  hole-set c v u (par-left g) = par-left (rep_set G c v u g)
  hole-set c v u (par-right f) = par-right (rep_set G c v u f)
  hole-set c v u (seq t) = seq (then-set c v u t)
  hole-set c v u (prune-left n ch g) = prune-left n ch (rep_set G c v u g)
  hole-set c v u (prune-right n ch f) = prune-right n ch (rep_set G c v u f)

  -- the other side's tokens are not under a cell of the hole's
  pub hole-stays : {now : ℕ} {σ : Store} {Γ Δ D : List ℕ} {K L : Place} {gate : Gate} {plug : Exp → Exp} {Z : List Token} (c : ℕ)
      → c not-in D → c not-in above K → Hole now σ Γ K gate Δ L Z D plug → out_of c Z ≡ Z
  unfolding select
  hole-stays c n u (par-left g) = rep-stays G c n u g
  hole-stays c n u (par-right f) = rep-stays G c n u f
  hole-stays c n u (seq t) = refl
  hole-stays c n u (prune-left k ch g) =
      rep-stays G c (λ m. n (Memᴰ.tail m)) (rw (chokes-above G ch) (not-in-cons (λ q. n (Memᴰ.head q)) u)) g
  hole-stays c n u (prune-right k ch f) = rep-stays G c (λ m. n (Memᴰ.tail m)) u f

  pub hole-place : {now : ℕ} {σ : Store} {Γ Δ D : List ℕ} {K L : Place} {plug : Exp → Exp} {Z : List Token}
      → Hole now σ Γ K free Δ L Z D plug → L ≡ K
  hole-place (par-left g) = refl
  hole-place (par-right f) = refl
  hole-place (prune-left n ch g) = refl

  pub hole-acts : {now : ℕ} {σ : Store} {Γ Δ D : List ℕ} {K L : Place} {gate : Gate} {plug : Exp → Exp} {Z : List Token}
      {h : ℕ} {a b : Label} {f f' e : Exp}
      → Hole now σ Γ K gate Δ L Z D plug → Lifts gate plug a f' b e → Rewrites G.body h now f a f'
      → Rewrites G.body h now (plug f) b e
  hole-acts (par-left g) (acting l) s = Rewrites.par-left s
  hole-acts (par-right f) (acting l) s = Rewrites.par-right s
  hole-acts (seq t) (acting (passing p)) s = Rewrites.seq-acts s p
  hole-acts (seq t) caught s = Rewrites.seq-publishes s
  hole-acts (prune-left n ch g) (acting l) s = Rewrites.prune-left s
  hole-acts (prune-right n ch f) (acting (passing p)) s = Rewrites.prune-right s p
  hole-acts (prune-right n ch f) caught s = Rewrites.prune-publishes s
