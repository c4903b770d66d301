-- What a token's move does to the expression that its list of tokens stands for, and that this goes through a hole: what a token does in a
-- part, it does in the whole. Another side is untouched, since its cells are others. Assumes nothing.
use mathlib.Core.Path.{◌≡◌, refl, sym, ◌∙◌, ap}
use mathlib.Core.Path.{subst}
use mathlib.Core.List.Memᴰ
use mathlib.Core.List.{List, [], ◌∷◌, ◌++◌}
use Prim.Native.Nat.{ℕ, suc}
use lib.IntN.{ℤ}
use Rattle.calculus.specs.Event.{Event, Label, silently, showing}
use Rattle.calculus.specs.Expression.{Exp, Substitution, lift, substitute, innermost}
use Rattle.calculus.specs.Rewriting.{NotPublishing, silence, Rewrites}
use Rattle.calculus.proofs.Substitution.{bound, innermost-lift}
use Rattle.simulation.proofs.Shuffle.{Mix, mix-filter, mix-unit, mix-middle, mix-swap, Gap}
use Rattle.simulation.proofs.AbstractMachine.{Node, Program, Binding, Frame, Place, at, above, Token, running, Store, with_set}
use Rattle.simulation.proofs.AbstractMachine.{is_out_of}
use Rattle.simulation.proofs.AbstractMachine.{out_of, Effect, Move, acts, acts_at, act, effect}
use Rattle.simulation.proofs.Store.{◌is-in◌, ◌not-in◌}
use Rattle.simulation.proofs.Cells.{Parts, parts-alone, Grows, grows-within, grows_from, grown, whole-grows, not-in-append, Tidy}
use Rattle.simulation.proofs.Binding.{change-innermost, env-value}
use Rattle.simulation.proofs.Relation.{Then, then, Chokes, chokes, removes, Rep, rep-changed, rep-ends, rep-stays}
use Rattle.simulation.proofs.Hole.{Gate, free, catching, Lets, through, passing, Lifts, acting, caught, Hole, fill, hole-set}
use Rattle.simulation.proofs.Hole.{hole-stays, hole-place, hole-acts}

-- publishing passes no gate that catches
publish-stays : {v : ℤ} {A : Type 0} → NotPublishing (showing (Event.publish v)) → A
publish-stays p = elim p [ ]

-- silence passes every gate
silence-passes : (gate : Gate) → Lets gate silently
silence-passes free = through
silence-passes (catching k) = passing silence

module _ (G : Program) (now : ℕ) where
  -- rewritings, all of them silent but the last: two where the calculus has not answered yet what is published
  pub data Acts (h : ℕ) : Exp → Label → Exp → Type 0 where
    by : {e e' : Exp} {a : Label} → Rewrites G.body h now e a e' → Acts h e a e'
    quietly : {e e₁ e' : Exp} {a : Label} → Rewrites G.body h now e silently e₁ → Acts h e₁ a e' → Acts h e a e'

  -- no rewriting, or some
  pub data AtMost (h : ℕ) : Exp → Label → Exp → Type 0 where
    same : {e : Exp} → AtMost h e silently e
    once : {e e' : Exp} {a : Label} → Acts h e a e' → AtMost h e a e'

module _ (G : Program) (now : ℕ) (σ : Store) (new h : ℕ) where
  -- the token t of e, at K, between X and Y, makes its move; C are the cells of e
  pub data Outcome (Γ : List ℕ) (e : Exp) (K : Place) (X Y : List Token) (C : List ℕ) : (t : Token) → Move t → Label → Exp → Type 0 where
    publishes : {T : Place} {w : ℤ} {e' : Exp} {C₁ : List ℕ}
        → T ≡ K → Acts G now h e (showing (Event.publish w)) e' → Rep G now σ Γ e' K (X ++ Y) C₁ → Grows new (suc new) C C₁
        → Outcome Γ e K X Y C (running T w) acts (showing (Event.publish w)) e'
    makes : {t : Token} {m : Move t} {a : Label} {N : List Token} {e' : Exp} {C₁ : List ℕ}
        → effect G now σ new h t m ≡ Effect.makes a N → NotPublishing a → AtMost G now h e a e' → Rep G now σ Γ e' K (X ++ (N ++ Y)) C₁
        → Grows new (suc new) C C₁
        → Outcome Γ e K X Y C t m a e'
    sets : {t : Token} {m : Move t} {c : ℕ} {v : ℤ} {e' : Exp} {C₁ : List ℕ}
        → effect G now σ new h t m ≡ Effect.sets c v → c is-in C → c not-in C₁ → AtMost G now h e silently e'
        → Rep G now (with_set σ c v) Γ e' K (out_of c (X ++ Y)) C₁ → Grows new (suc new) C C₁
        → Outcome Γ e K X Y C t m silently e'

  -- what a token does at a node that is known
  pub act-at : {T : Place} {n : ℕ} {B : List Binding} {F : List Frame} {U : List ℕ} {d : Node} (w : ℤ)
      → T ≡ at n B F U → G.node n ≡ d → act G now σ new h T w ≡ acts_at G now σ new h d (at n B F U) w
  act-at {n} {B} {F} {U} w p e = ap (λ K. act G now σ new h K w) p ∙ ap (λ d. acts_at G now σ new h d (at n B F U) w) e

  acts-inside : {Γ Δ D : List ℕ} {K L : Place} {gate : Gate} {plug : Exp → Exp} {Z : List Token} {a b : Label} {f f' e : Exp}
      → Hole G now σ Γ K gate Δ L Z D plug → Lifts gate plug a f' b e → Acts G now h f a f' → Acts G now h (plug f) b e
  acts-inside H l (by s) = by (hole-acts G H l s)
  acts-inside {gate} H l (quietly s r) = quietly (hole-acts G H (acting (silence-passes gate)) s) (acts-inside H l r)

  at_most-acts : {Γ Δ D : List ℕ} {K L : Place} {gate : Gate} {plug : Exp → Exp} {Z : List Token} {a : Label} {f f' : Exp}
      → Hole G now σ Γ K gate Δ L Z D plug → Lets gate a → AtMost G now h f a f' → AtMost G now h (plug f) a (plug f')
  at_most-acts H l same = same
  at_most-acts H l (once s) = once (acts-inside H (acting l) s)

  -- where f publishes into f >x> g, a token begins g with the value bound
  sequel : {Γ C E : List ℕ} {K L T : Place} {X Y X₁ Y₁ : List Token} {ρ : Substitution} {e f g : Exp} (w : ℤ)
      → T ≡ L → Grows new (suc new) E C → Gap X₁ Y₁ [] X Y → Then G σ Γ ρ g K L → Rep G now σ Γ f L (X₁ ++ Y₁) C
      → Acts G now h e silently (Exp.par (Exp.seq f (substitute (lift ρ) g)) (substitute (innermost w) (substitute (lift ρ) g)))
      → Outcome Γ e K X Y E (running T w) acts silently (Exp.par (Exp.seq f (substitute (lift ρ) g))
      (substitute (innermost w) (substitute (lift ρ) g)))
  sequel {Γ} {C} {K = K} {X = X} {Y} {X₁} {Y₁} {ρ} {f = f} {g} w q i gap (then {b = b} {B = B} {F = F} {U = U} a d r env l) rf s =
      let began : List Token = running (at b (Binding.value w ∷ B) F U) w ∷ [] in
      makes (act-at w q a) silence (once s)
      (subst (λ Q. Rep G now σ Γ (Exp.par (Exp.seq f (substitute (lift ρ) g)) (substitute (innermost w) (substitute (lift ρ) g))) K Q C)
      (mix-unit (gap.filled began))
      (Rep.par parts-alone (mix-middle X₁ began Y₁) (Rep.seq ρ (then a d r env l) rf)
      (rw (innermost-lift w ρ g) (Rep.code (bound w ρ) d (env-value env w) (removes r l)))))
      i

  -- where g publishes into f <x< g, the cell is set, all tokens of g end, and those of f stay
  pruned : {Γ C C₁ D E : List ℕ} {c : ℕ} {K L T : Place} {X Y X₁ Y₁ Z : List Token} {e f g : Exp} (w : ℤ)
      → T ≡ L → Parts C (c ∷ D) E → Tidy σ new Γ (above K) E → Gap X₁ Y₁ Z X Y → c not-in D → Chokes G c (above K) L
      → Rep G now σ (c ∷ Γ) f K Z D → Rep G now σ Γ g L (X₁ ++ Y₁) C₁ → Acts G now h e silently (substitute (innermost w) f)
      → Outcome Γ e K X Y E (running T w) acts silently (substitute (innermost w) f)
  pruned {Γ} {D = D} {c = c} {K = K} {X = X} {Y} {X₁} {Y₁} {Z} {f = f} w q p t gap n (chokes ec) rf rg s =
      let own = p.in_right c (Memᴰ.head refl) in
      let stay : out_of c Z ≡ Z = rep-stays G c n (t.not-over c own) rf in
      let gone : out_of c (X₁ ++ Y₁) ≡ [] = rep-ends G c (Memᴰ.head refl) rg in
      let mixed : Mix (out_of c Z) (out_of c (X₁ ++ Y₁)) (out_of c (X ++ Y)) = mix-filter (is_out_of c) (mix-swap (gap.filled [])) in
      let left : Z ≡ out_of c (X ++ Y) = sym stay ∙ mix-unit (subst (λ x. Mix (out_of c Z) x (out_of c (X ++ Y))) gone mixed) in
      sets (act-at w q ec) own n (once s)
      (subst (λ x. Rep G now (with_set σ c w) Γ (substitute (innermost w) f) K x D) left
      (rep-changed G (change-innermost σ c w (t.own c own).unset) rf))
      (grows-within (λ b m. p.in_right b (Memᴰ.tail m)))

  -- where an own cell of the filling is set, the other side of the hole stays
  other-stays : {Γ Δ C D E : List ℕ} {K L : Place} {gate : Gate} {plug : Exp → Exp} {Z X Y X₁ Y₁ : List Token}
      → Hole G now σ Γ K gate Δ L Z D plug → Parts C D E → Tidy σ new Γ (above K) E → Gap X₁ Y₁ Z X Y
      → (c : ℕ) → c is-in C → Mix (out_of c (X₁ ++ Y₁)) Z (out_of c (X ++ Y))
  other-stays {X = X} {Y} {X₁} {Y₁} H p t gap c m =
      subst (λ z. Mix (out_of c (X₁ ++ Y₁)) z (out_of c (X ++ Y)))
      (hole-stays G c (p.apart c m) (t.not-over c (p.in_left c m)) H)
      (mix-filter (is_out_of c) (gap.filled []))

  -- a filling that publishes: the whole publishes too, or it catches the value
  publishing : {Γ Δ C C₁ D E : List ℕ} {K L T : Place} {gate : Gate} {plug : Exp → Exp} {Z X Y X₁ Y₁ : List Token} {w : ℤ}
      {b : Label} {f f' e : Exp}
      → Hole G now σ Γ K gate Δ L Z D plug → Parts C D E → Tidy σ new Γ (above K) E → Gap X₁ Y₁ Z X Y
      → Lifts gate plug (showing (Event.publish w)) f' b e → T ≡ L
      → Acts G now h f (showing (Event.publish w)) f' → Rep G now σ Δ f' L (X₁ ++ Y₁) C₁ → Grows new (suc new) C C₁
      → Outcome Γ (plug f) K X Y E (running T w) acts b e
  publishing H p t gap (acting through) q s r g =
      publishes (q ∙ hole-place G H) (acts-inside H (acting through) s) (fill G H (grown p t g) (gap.filled []) r) (whole-grows p g)
  publishing H p t gap (acting (passing n)) q s r g = publish-stays n
  publishing {w = w} (Hole.seq b) p t gap caught q s r g =
      sequel w q (grows_from p.in_left g) gap b r (acts-inside (Hole.seq b) caught s)
  publishing {w = w} (Hole.prune-right n ch rf) p t gap caught q s r g =
      pruned w q p t gap n ch rf r (acts-inside (Hole.prune-right n ch rf) caught s)

  -- what a token does in a hole, it does in the whole
  pub inside : {Γ Δ C D E : List ℕ} {K L : Place} {gate : Gate} {plug : Exp → Exp} {Z X Y X₁ Y₁ : List Token}
      {u : Token} {m : Move u} {a b : Label} {f f' e : Exp}
      → Hole G now σ Γ K gate Δ L Z D plug → Parts C D E → Tidy σ new Γ (above K) E → Gap X₁ Y₁ Z X Y → Lifts gate plug a f' b e
      → Outcome Δ f L X₁ Y₁ C u m a f' → Outcome Γ (plug f) K X Y E u m b e
  inside H p t gap l (publishes q s r g) = publishing H p t gap l q s r g
  inside H p t gap (acting l) (makes {N = N} q n s r g) =
      makes q n (at_most-acts H l s) (fill G H (grown p t g) (gap.filled N) r) (whole-grows p g)
  inside H p t gap (acting l) (sets {c = c} {v = v} q m n s r g) =
      sets q (p.in_left c m) (not-in-append n (p.apart c m)) (at_most-acts H l s)
      (fill G (hole-set G c v (t.own c (p.in_left c m)).unset H) (grown p t g) (other-stays H p t gap c m) r)
      (whole-grows p g)
  inside H p t gap caught (makes q n s r g) = publish-stays n

  -- some outcome
  pub data Moves (Γ : List ℕ) (e : Exp) (K : Place) (X Y : List Token) (C : List ℕ) (t : Token) (m : Move t) : Type 0 where
    moves : {a : Label} {e' : Exp} → Outcome Γ e K X Y C t m a e' → Moves Γ e K X Y C t m

  pub moves-inside : {Γ Δ C D E : List ℕ} {K L : Place} {plug : Exp → Exp} {Z X Y X₁ Y₁ : List Token}
      {u : Token} {m : Move u} {f : Exp} (gate : Gate)
      → Hole G now σ Γ K gate Δ L Z D plug → Parts C D E → Tidy σ new Γ (above K) E → Gap X₁ Y₁ Z X Y
      → Moves Δ f L X₁ Y₁ C u m → Moves Γ (plug f) K X Y E u m
  moves-inside free H p t gap (moves o) = moves (inside H p t gap (acting through) o)
  moves-inside (catching k) H p t gap (moves (publishes q s r g)) = moves (publishing H p t gap caught q s r g)
  moves-inside (catching k) H p t gap (moves (makes q n s r g)) = moves (inside H p t gap (acting (passing n)) (makes q n s r g))
  moves-inside (catching k) H p t gap (moves (sets q m n s r g)) = moves (inside H p t gap (acting (passing silence)) (sets q m n s r g))
