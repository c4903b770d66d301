-- Completeness of a rewriting: where an expression is rewritten, the tokens that stand for it come by steps that show nothing to a token
-- whose move is that rewriting, or stand for what it becomes already. By recursion on the relation and on the code, through holes. Assumes
-- nothing.
use mathlib.Core.Path.{◌≡◌, refl}
use mathlib.Core.List.Memᴰ
use mathlib.Core.List.{List, [], ◌∷◌, ◌++◌}
use Prim.Native.Nat.{ℕ, suc, ◌<◌, ◌≤◌}
use native.Mathlib.Omega.{arith}
use lib.IntN.{ℤ}
use Rattle.calculus.specs.Event.{Event, Label, silently, showing}
use Rattle.calculus.specs.Expression.{Exp, Substitution, lift, substitute}
use Rattle.calculus.specs.Rewriting.{answering, Rewrites}
use Rattle.simulation.proofs.Shuffle.{Split, first, Mix, mix-swap, mix-nothing, pair, Kept, kept, keeps}
use Rattle.simulation.proofs.AbstractMachine.{Program, Binding, Frame, Place, at, above, Token, running, Store, Effect, Move, acts}
use Rattle.simulation.proofs.AbstractMachine.{answered, effect}
use Rattle.simulation.proofs.Cells.{Parts, parts-swap, parts-move, parts-alone, parts-own, parts_none, Grows, grows_all, grows-new}
use Rattle.simulation.proofs.Cells.{grows_then, grown, whole-grows, Tidy, tidy-grown}
use Rattle.simulation.proofs.Binding.{Env, env-cell}
use Rattle.simulation.proofs.Relation.{Code, assign, Leads, here, removes, returns, then, chokes, Rep, leads-under-new}
use Rattle.simulation.proofs.Hole.{Gate, Lifts, acting, caught, through, passing, Hole, fill, hole-tidy}
use Rattle.simulation.proofs.Outcome.{by, once, Outcome, publishes, makes, act-at, inside}
use Rattle.simulation.proofs.Coded.{Bodies, site-outcome, call-outcome}

-- silence, as a family
pub data IsSilent : Label → Type 0 where
  silence : IsSilent silently

not-silent : {e : Event} {A : Type 0} → IsSilent (showing e) → A
not-silent s = elim s [ ]

not_yet : {d now : ℕ} {A : Type 0} → now < d → d ≤ now → A
not_yet k l = absurd (omega arith)

module _ (G : Program) (now : ℕ) (σ : Store) (h : ℕ) where
  -- moves that show nothing and set nothing
  pub data Quiet : List Token → ℕ → List Token → ℕ → Type 0 where
    done : {S : List Token} {new : ℕ} → Quiet S new S new
    quiet : {S X Y N S₁ : List Token} {new new₁ : ℕ} {t : Token} (m : Move t)
        → Split t S X Y → effect G now σ new h t m ≡ Effect.makes silently N → Quiet (X ++ (N ++ Y)) (suc new) S₁ new₁ → Quiet S new S₁ new₁

  data QuietInMix (S₁ Z Q : List Token) (new new₁ : ℕ) : Type 0 where
    in-mix : {Q₁ : List Token} → Quiet Q new Q₁ new₁ → Mix S₁ Z Q₁ → QuietInMix S₁ Z Q new new₁

  quiet-in-mix : {S S₁ Z Q : List Token} {new new₁ : ℕ} → Quiet S new S₁ new₁ → Mix S Z Q → QuietInMix S₁ Z Q new new₁
  quiet-in-mix done mx = in-mix done mx
  quiet-in-mix {S₁ = S₁} {Z} {Q} {new} {new₁} (quiet {X = X} {Y} {N} {t = t} m z e r) mx = go (keeps z mx) (λ q x. quiet-in-mix r x)
    where
      next : {X' Y' : List Token} → Split t Q X' Y' → QuietInMix S₁ Z (X' ++ (N ++ Y')) (suc new) new₁ → QuietInMix S₁ Z Q new new₁
      next s (in-mix r' mx') = in-mix (quiet m s e r') mx'

      go : Kept t X Y Z Q → ((q : List Token) → Mix (X ++ (N ++ Y)) Z q → QuietInMix S₁ Z q (suc new) new₁) → QuietInMix S₁ Z Q new new₁
      go (kept s gap) rec = next s (rec _ (gap.filled N))

  -- quiet moves, then one that is the rewriting of e to e'; or, where the calculus is late, quiet moves after which the tokens stand for e'
  pub data Ready (Γ : List ℕ) (e : Exp) (K : Place) (S : List Token) (C : List ℕ) (new : ℕ) (a : Label) (e' : Exp) : Type 0 where
    ready : {S₁ X Y : List Token} {C₁ : List ℕ} {new₁ : ℕ} {t : Token} {m : Move t}
        → Quiet S new S₁ new₁ → new ≤ new₁ → Grows new new₁ C C₁ → Split t S₁ X Y → Outcome G now σ new₁ h Γ e K X Y C₁ t m a e'
        → Ready Γ e K S C new a e'
    already : {S₁ : List Token} {C₁ : List ℕ} {new₁ : ℕ}
        → IsSilent a → Quiet S new S₁ new₁ → new ≤ new₁ → Grows new new₁ C C₁ → Rep G now σ Γ e' K S₁ C₁ → Ready Γ e K S C new a e'

  ready-now : {Γ C : List ℕ} {e e' : Exp} {K : Place} {S X Y : List Token} {new : ℕ} {a : Label} {t : Token} {m : Move t}
      → Split t S X Y → Outcome G now σ new h Γ e K X Y C t m a e' → Ready Γ e K S C new a e'
  ready-now z o = ready done (omega arith) grows_all z o

  ready-after : {Γ C C₁ : List ℕ} {e e' : Exp} {K : Place} {S X Y N : List Token} {new : ℕ} {a : Label} {t : Token} (m : Move t)
      → Split t S X Y → effect G now σ new h t m ≡ Effect.makes silently N → Grows new (suc new) C C₁
      → Ready Γ e K (X ++ (N ++ Y)) C₁ (suc new) a e' → Ready Γ e K S C new a e'
  ready-after m z q g (ready r l g₁ z₁ o) = ready (quiet m z q r) (omega arith) (grows_then (omega arith) l g g₁) z₁ o
  ready-after m z q g (already s r l g₁ x) = already s (quiet m z q r) (omega arith) (grows_then (omega arith) l g g₁) x

  ready-inside : {Γ Δ C D E : List ℕ} {K L : Place} {gate : Gate} {plug : Exp → Exp} {S Z Q : List Token} {new : ℕ} {a b : Label}
      {f f' e : Exp}
      → Hole G now σ Γ K gate Δ L Z D plug → Parts C D E → Tidy σ new Γ (above K) E → Mix S Z Q → Lifts gate plug a f' b e
      → Ready Δ f L S C new a f' → Ready Γ (plug f) K Q E new b e
  ready-inside {Γ} {Δ} {C} {D} {E} {K} {L} {gate} {plug} {S} {Z} {Q} {new} {a} {b} {f} {f'} {e} H p t mx l
      (ready {S₁ = S₁} {X} {Y} {C₁} {new₁} {t = u} {m} r le g z o) = go (quiet-in-mix r mx)
    where
      go₁ : {Q₁ : List Token} → Quiet Q new Q₁ new₁ → Kept u X Y Z Q₁ → Ready Γ (plug f) K Q E new b e
      go₁ r' (kept s gap) =
          ready r' le (whole-grows p g) s
          (inside G now σ new₁ h H
          (grown p t g) (tidy-grown t le (whole-grows p g)) gap l o)

      go : QuietInMix S₁ Z Q new new₁ → Ready Γ (plug f) K Q E new b e
      go (in-mix r' mx') = go₁ r' (keeps z mx')
  ready-inside H p t mx caught (already s r le g x) = not-silent s
  ready-inside {Γ} {D = D} {E = E} {K} {plug = plug} {Z = Z} {Q} {new} {a} {f = f} {f'} H p t mx (acting l)
      (already {S₁ = S₁} {C₁} {new₁} s r le g x) = go (quiet-in-mix r mx)
    where
      go : QuietInMix S₁ Z Q new new₁ → Ready Γ (plug f) K Q E new a (plug f')
      go (in-mix r' mx') = already s r' le (whole-grows p g) (fill G H (grown p t g) mx' x)

  no_stop : {a : Label} {e : Exp} {A : Type 0} → Rewrites G.body h now Exp.stop a e → A
  no_stop s = elim s [ ]

  hand-ready : {Γ C : List ℕ} {K L : Place} {new : ℕ} (v : ℤ)
      → Leads G L K → Ready Γ (Exp.hand v) K (running L v ∷ []) C new (showing (Event.publish v)) Exp.stop
  hand-ready v (here x) = ready-now first (publishes refl (by Rewrites.published) Rep.stop grows_all)
  hand-ready {new = new} v (removes e l) = ready-after acts first (act-at G now σ new h v refl e) grows_all (hand-ready v l)
  hand-ready {new = new} v (returns e l) = ready-after acts first (act-at G now σ new h v refl e) grows_all (hand-ready v l)

  later-tidy : {Γ U C C₁ : List ℕ} {new : ℕ} → Tidy σ new Γ U C → Grows new (suc new) C C₁ → Tidy σ (suc new) Γ U C₁
  later-tidy t g = tidy-grown t (omega arith) g

  code-ready : {e : Exp} {Γ C U : List ℕ} {K : Place} {a : Label} {n k new : ℕ} {B : List Binding} {F : List Frame} (w : ℤ)
      (ρ : Substitution) {e' : Exp}
      → Bodies G → Tidy σ new Γ (above K) C → Code G e n k → Env σ Γ ρ B → Leads G (at k B F U) K
      → Rewrites G.body h now (substitute ρ e) a e' → Ready Γ (substitute ρ e) K (running (at n B F U) w ∷ []) C new a e'
  unfolding substitute
  code-ready w ρ bs t (Code.stop e) env l s = no_stop s
  code-ready {new = new} w ρ bs t (Code.site known e) env l s =
      ready-now first (site-outcome G now σ new h w env l (λ c m. (t.left c m).unset) e s)
  code-ready {new = new} w ρ bs t (Code.call {d = d} d< e) env l Rewrites.entered =
      ready-now first (call-outcome G now σ new h w env l bs d< e)
  code-ready {new = new} w ρ bs t (Code.par e cf cg) env l (Rewrites.par-left s) =
      let t' = later-tidy t grows_all in
      let H = Hole.par-left (Rep.code ρ cg env l) in
      ready-after acts first (act-at G now σ new h w refl e) grows_all
      (ready-inside H parts_none t' pair (acting through) (code-ready w ρ bs (hole-tidy G H parts_none t') cf env l s))
  code-ready {new = new} w ρ bs t (Code.par e cf cg) env l (Rewrites.par-right s) =
      let t' = later-tidy t grows_all in
      let H = Hole.par-right (Rep.code ρ cf env l) in
      ready-after acts first (act-at G now σ new h w refl e) grows_all
      (ready-inside H parts_none t' (mix-swap pair) (acting through) (code-ready w ρ bs (hole-tidy G H parts_none t') cg env l s))
  code-ready w ρ bs t (Code.seq cf ea cg er) env l (Rewrites.seq-acts s p) =
      let H = Hole.seq (then ea cg er env l) in
      ready-inside H parts-alone t (mix-nothing _) (acting (passing p))
      (code-ready w ρ bs (hole-tidy G H parts-alone t) cf env (here (assign ea)) s)
  code-ready w ρ bs t (Code.seq cf ea cg er) env l (Rewrites.seq-publishes s) =
      let H = Hole.seq (then ea cg er env l) in
      ready-inside H parts-alone t (mix-nothing _) caught (code-ready w ρ bs (hole-tidy G H parts-alone t) cf env (here (assign ea)) s)
  code-ready {new = new} w ρ bs t (Code.prune e cf er cg ec) env l (Rewrites.prune-left s) =
      let t' = later-tidy t grows-new in
      let H = Hole.prune-left Memᴰ.not-nil (chokes ec) (Rep.code ρ cg env (leads-under-new G new ec l)) in
      ready-after acts first (act-at G now σ new h w refl e) grows-new
      (ready-inside H parts-own t' pair (acting through)
      (code-ready w (lift ρ) bs (hole-tidy G H parts-own t') cf (env-cell env new) (removes er l) s))
  code-ready {new = new} w ρ bs t (Code.prune e cf er cg ec) env l (Rewrites.prune-right s p) =
      let t' = later-tidy t grows-new in
      let H = Hole.prune-right Memᴰ.not-nil (chokes ec) (Rep.code (lift ρ) cf (env-cell env new) (removes er l)) in
      ready-after acts first (act-at G now σ new h w refl e) grows-new
      (ready-inside H parts-own t' (mix-swap pair) (acting (passing p))
      (code-ready w ρ bs (hole-tidy G H parts-own t') cg env (leads-under-new G new ec l) s))
  code-ready {new = new} w ρ bs t (Code.prune e cf er cg ec) env l (Rewrites.prune-publishes s) =
      let t' = later-tidy t grows-new in
      let H = Hole.prune-right Memᴰ.not-nil (chokes ec) (Rep.code (lift ρ) cf (env-cell env new) (removes er l)) in
      ready-after acts first (act-at G now σ new h w refl e) grows-new
      (ready-inside H parts-own t' (mix-swap pair) caught
      (code-ready w ρ bs (hole-tidy G H parts-own t') cg env (leads-under-new G new ec l) s))

  pub rep-ready : {Γ C : List ℕ} {K : Place} {e e' : Exp} {a : Label} {S : List Token} {new : ℕ}
      → Bodies G → Tidy σ new Γ (above K) C → Rep G now σ Γ e K S C → Rewrites G.body h now e a e' → Ready Γ e K S C new a e'
  rep-ready bs t Rep.stop s = no_stop s
  rep-ready bs t (Rep.hand l) Rewrites.published = hand-ready _ l
  rep-ready bs t (Rep.pending l) (Rewrites.answered {v = v} fits) =
      ready-now {m = answered v fits} first (makes refl answering (once (by (Rewrites.answered fits))) (Rep.hand l) grows_all)
  rep-ready bs t (Rep.due x l) (Rewrites.fell-due k) = not_yet x k
  rep-ready bs t (Rep.late x l) (Rewrites.fell-due k) = already silence done (omega arith) grows_all (Rep.hand l)
  rep-ready bs t (Rep.code ρ c env l) s = code-ready _ ρ bs t c env l s
  rep-ready bs t (Rep.par p mx f g) (Rewrites.par-left s) =
      let H = Hole.par-left g in ready-inside H p t mx (acting through) (rep-ready bs (hole-tidy G H p t) f s)
  rep-ready bs t (Rep.par p mx f g) (Rewrites.par-right s) =
      let H = Hole.par-right f in
      let q = parts-swap p in
      ready-inside H q t (mix-swap mx) (acting through) (rep-ready bs (hole-tidy G H q t) g s)
  rep-ready bs t (Rep.seq ρ b f) (Rewrites.seq-acts s p) =
      let H = Hole.seq b in
      ready-inside H parts-alone t (mix-nothing _) (acting (passing p)) (rep-ready bs (hole-tidy G H parts-alone t) f s)
  rep-ready bs t (Rep.seq ρ b f) (Rewrites.seq-publishes s) =
      let H = Hole.seq b in ready-inside H parts-alone t (mix-nothing _) caught (rep-ready bs (hole-tidy G H parts-alone t) f s)
  rep-ready bs t (Rep.prune n p mx ch f g) (Rewrites.prune-left s) =
      let H = Hole.prune-left n ch g in ready-inside H p t mx (acting through) (rep-ready bs (hole-tidy G H p t) f s)
  rep-ready bs t (Rep.prune {c = c} n p mx ch f g) (Rewrites.prune-right s r) =
      let H = Hole.prune-right (λ k. p.apart c k (Memᴰ.head refl)) ch f in
      let q = parts-move n p in
      ready-inside H q t (mix-swap mx) (acting (passing r)) (rep-ready bs (hole-tidy G H q t) g s)
  rep-ready bs t (Rep.prune {c = c} n p mx ch f g) (Rewrites.prune-publishes s) =
      let H = Hole.prune-right (λ k. p.apart c k (Memᴰ.head refl)) ch f in
      let q = parts-move n p in
      ready-inside H q t (mix-swap mx) caught (rep-ready bs (hole-tidy G H q t) g s)
