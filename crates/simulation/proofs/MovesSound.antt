-- Soundness of a move: whatever a token does, the expression that the tokens stand for is rewritten with the same label, or stays, and the
-- tokens stand for the result. By recursion on the relation, through holes. Assumes nothing.
use mathlib.Core.Path.{◌≡◌, refl, ◌∙◌, ap}
use mathlib.Core.Logic.{◌⊎◌, inl, inr}
use mathlib.Core.Bool.{true}
use mathlib.Core.List.Memᴰ
use mathlib.Core.List.{List, [], map}
use mathlib.Core.Option.{Option, some, none}
use Prim.Native.Nat.{ℕ}
use lib.IntN.{ℤ, pos}
use Rattle.job.specs.Site.{BuiltinReply, gives, silent, due_time, is_builtin, is_outside, builtin}
use Rattle.job.specs.Site as Site
use Rattle.calculus.specs.Expression.{Param, Exp, Substitution, lift, subst_param, substitute}
use Rattle.calculus.specs.Rewriting.{param_values, silence, answering, Rewrites}
use Rattle.simulation.proofs.Shuffle.{Split, first, later, pair, split-none, gap-alone, found, either_side}
use Rattle.simulation.proofs.AbstractMachine.{Node, Program, Binding, Frame, Place, at, above, Token, running, Store, asks_site, Move}
use Rattle.simulation.proofs.AbstractMachine.{due_later, acts, answered}
use Rattle.simulation.proofs.Cells.{parts-swap, parts-move, parts-alone, parts-own, parts_none, grows_all, grows-new, Tidy}
use Rattle.simulation.proofs.Binding.{Env, Unset, env-cell, values_agree}
use Rattle.simulation.proofs.Relation.{Code, assign, Leads, here, removes, returns, then, chokes, Rep, leads-under-new}
use Rattle.simulation.proofs.Hole.{free, Hole, hole-tidy}
use Rattle.simulation.proofs.Outcome.{by, quietly, same, once, publishes, makes, act-at, Moves, moves, moves-inside}
use Rattle.simulation.proofs.Coded.{Bodies, site-outcome, call-outcome}

-- a token that is due later makes no move
no_move : {d : ℕ} {K : Place} {A : Type 0} → Move (due_later d K) → A
no_move m = elim m [ ]

module _ (G : Program) (now : ℕ) (σ : Store) (new h : ℕ) where
  -- a call with all values rewrites; one without stays
  site-moves : {Γ C U : List ℕ} {K : Place} {n k s : ℕ} {ps : List Param} {B : List Binding} {F : List Frame} (w : ℤ) (ρ : Substitution)
      → Unset σ Γ → (is_builtin s ≡ true) ⊎ (is_outside s ≡ true) → G.node n ≡ Node.site s ps k → Env σ Γ ρ B → Leads G (at k B F U) K
      → Moves G now σ new h Γ (substitute ρ (Exp.site s ps)) K [] [] C (running (at n B F U) w) acts
  unfolding substitute
  site-moves {Γ} {C} {U} {K} {n} {k} {s} {ps} {B} {F} w ρ u known e env l = go (param_values (map (subst_param ρ) ps)) refl
    where
      Goal : Type 0
      Goal = Moves G now σ new h Γ (substitute ρ (Exp.site s ps)) K [] [] C (running (at n B F U) w) acts

      await : (vs : List ℤ) (t : ℤ) (o : Option ℕ) → param_values (map (subst_param ρ) ps) ≡ some vs → is_builtin s ≡ true
          → builtin s vs ≡ Site.later t → due_time now t ≡ o → Goal
      await vs t (some d) p b q f = moves (site-outcome G now σ new h w env l u e (Rewrites.builtin-later p b q f))
      await vs t none p b q f = moves (site-outcome G now σ new h w env l u e (Rewrites.builtin-never p b q f))

      ask : (vs : List ℤ) (x : BuiltinReply) → param_values (map (subst_param ρ) ps) ≡ some vs → is_builtin s ≡ true → builtin s vs ≡ x
          → Goal
      ask vs (gives v) p b q = moves (site-outcome G now σ new h w env l u e (Rewrites.builtin-gives p b q))
      ask vs silent p b q = moves (site-outcome G now σ new h w env l u e (Rewrites.builtin-silent p b q))
      ask vs (Site.later t) p b q = await vs t (due_time now t) p b q refl

      known-site : (vs : List ℤ) → param_values (map (subst_param ρ) ps) ≡ some vs → (is_builtin s ≡ true) ⊎ (is_outside s ≡ true) → Goal
      known-site vs p (inl b) = ask vs (builtin s vs) p b refl
      known-site vs p (inr o) = moves (site-outcome G now σ new h w env l u e (Rewrites.outside-call p o))

      go : (o : Option (List ℤ)) → param_values (map (subst_param ρ) ps) ≡ o → Goal
      go none p =
          moves
          (makes
          (act-at G now σ new h w refl e ∙ ap (λ o. asks_site now h s (running (at n B F U) w) o (at k B F U)) (values_agree u env ps ∙ p))
          silence same (Rep.code {v = w} ρ (Code.site known e) env l) grows_all)
      go (some vs) p = known-site vs p known

  -- code that has not begun
  code-moves : {Γ C U : List ℕ} {K : Place} {e : Exp} {n k : ℕ} {B : List Binding} {F : List Frame} (w : ℤ) (ρ : Substitution)
      → Bodies G → Tidy σ new Γ (above K) C → Code G e n k → Env σ Γ ρ B → Leads G (at k B F U) K
      → Moves G now σ new h Γ (substitute ρ e) K [] [] C (running (at n B F U) w) acts
  unfolding substitute
  code-moves w ρ bs t (Code.stop e) env l = moves (makes (act-at G now σ new h w refl e) silence same Rep.stop grows_all)
  code-moves w ρ bs t (Code.site known e) env l = site-moves w ρ (λ c m. (t.left c m).unset) known e env l
  code-moves w ρ bs t (Code.call {d = d} d< e) env l = moves (call-outcome G now σ new h w env l bs d< e)
  code-moves w ρ bs t (Code.par e cf cg) env l =
      moves
      (makes (act-at G now σ new h w refl e) silence same
      (Rep.par parts_none pair (Rep.code ρ cf env l) (Rep.code ρ cg env l)) grows_all)
  code-moves w ρ bs t (Code.seq cf ea cg er) env l =
      let H = Hole.seq (then ea cg er env l) in
      moves-inside G now σ new h _ H parts-alone t gap-alone (code-moves w ρ bs (hole-tidy G H parts-alone t) cf env (here (assign ea)))
  code-moves w ρ bs t (Code.prune e cf er cg ec) env l =
      moves
      (makes (act-at G now σ new h w refl e) silence same
      (Rep.prune Memᴰ.not-nil parts-own pair (chokes ec)
      (Rep.code (lift ρ) cf (env-cell env new) (removes er l))
      (Rep.code ρ cg env (leads-under-new G new ec l))) grows-new)

  -- a token among those that stand for e
  pub token-moves : {Γ C : List ℕ} {K : Place} {e : Exp} {S X Y : List Token} {u : Token}
      → Bodies G → Tidy σ new Γ (above K) C → Rep G now σ Γ e K S C → (m : Move u) → Split u S X Y → Moves G now σ new h Γ e K X Y C u m
  token-moves bs t Rep.stop m z = split-none z
  token-moves bs t (Rep.hand (here y)) acts first = moves (publishes refl (by Rewrites.published) Rep.stop grows_all)
  token-moves bs t (Rep.hand {v = v} (removes e l)) acts first =
      moves (makes (act-at G now σ new h v refl e) silence same (Rep.hand l) grows_all)
  token-moves bs t (Rep.hand {v = v} (returns e l)) acts first =
      moves (makes (act-at G now σ new h v refl e) silence same (Rep.hand l) grows_all)
  token-moves bs t (Rep.hand l) m (later z) = split-none z
  token-moves bs t (Rep.pending l) (answered v fits) first =
      moves (makes refl answering (once (by (Rewrites.answered fits))) (Rep.hand l) grows_all)
  token-moves bs t (Rep.pending l) m (later z) = split-none z
  token-moves bs t (Rep.due x l) m first = no_move m
  token-moves bs t (Rep.due x l) m (later z) = split-none z
  token-moves bs t (Rep.late x (here y)) acts first =
      moves (publishes refl (quietly (Rewrites.fell-due x) (by Rewrites.published)) Rep.stop grows_all)
  token-moves bs t (Rep.late x (removes e l)) acts first =
      moves (makes (act-at G now σ new h (pos 0) refl e) silence same (Rep.late x l) grows_all)
  token-moves bs t (Rep.late x (returns e l)) acts first =
      moves (makes (act-at G now σ new h (pos 0) refl e) silence same (Rep.late x l) grows_all)
  token-moves bs t (Rep.late x l) m (later z) = split-none z
  token-moves bs t (Rep.code {v = w} ρ c env l) acts first = code-moves w ρ bs t c env l
  token-moves bs t (Rep.code ρ c env l) m (later z) = split-none z
  token-moves bs t (Rep.par p mx f g) m z =
      let L = Hole.par-left g in
      let R = Hole.par-right f in
      either_side
      (λ x y s gap. moves-inside G now σ new h free L p t gap (token-moves bs (hole-tidy G L p t) f m s))
      (λ x y s gap. moves-inside G now σ new h free R (parts-swap p) t gap (token-moves bs (hole-tidy G R (parts-swap p) t) g m s))
      (found mx z)
  token-moves bs t (Rep.seq ρ b f) m z =
      let H = Hole.seq b in
      moves-inside G now σ new h _ H parts-alone t gap-alone (token-moves bs (hole-tidy G H parts-alone t) f m z)
  token-moves bs t (Rep.prune {C = C} {c = c} n p mx ch f g) m z =
      let L = Hole.prune-left n ch g in
      let R = Hole.prune-right (λ k. p.apart c k (Memᴰ.head refl)) ch f in
      let q = parts-move n p in
      either_side
      (λ x y s gap. moves-inside G now σ new h _ L p t gap (token-moves bs (hole-tidy G L p t) f m s))
      (λ x y s gap. moves-inside G now σ new h _ R q t gap (token-moves bs (hole-tidy G R q t) g m s))
      (found mx z)
