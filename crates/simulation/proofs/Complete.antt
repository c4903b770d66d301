-- Completeness of runs: what rewritings of an expression show, a run of the abstract machine shows from any state that stands for it. By
-- recursion on the rewritings. Assumes nothing.
use mathlib.Core.Path.{◌≡◌, refl, sym, ◌∙◌, ap}
use mathlib.Core.Path.{subst}
use mathlib.Core.List.{List, [], ◌∷◌}
use Prim.Native.Nat.{ℕ, ◌≤◌}
use native.Mathlib.Omega.{arith}
use Rattle.job.specs.Site.{last_time}
use Rattle.calculus.specs.Event.{Event, Label}
use Rattle.calculus.specs.Expression.{Exp}
use Rattle.calculus.specs.Rewriting.{Rewrites}
use Rattle.calculus.specs.Allowed.{Configuration, next_handle, shown, CanShow}
use Rattle.simulation.proofs.Shuffle.{Split}
use Rattle.simulation.proofs.AbstractMachine.{Node, Program, at, Token, Store, Effect, Move, effect, State, state, handle_of, after}
use Rattle.simulation.proofs.AbstractMachine.{clock_of, label_of, Step, step, ticks, Run, rests}
use Rattle.simulation.proofs.Cells.{tidy-grown}
use Rattle.simulation.proofs.Relation.{rep-ticks}
use Rattle.simulation.proofs.Coded.{Bodies}
use Rattle.simulation.proofs.Ready.{IsSilent, silence, Quiet, done, quiet, Ready, ready, already, rep-ready}
use Rattle.simulation.proofs.RunsSound.{Stands, stands, follows}

module _ (G : Program) where
  -- a step with a known effect
  step_by : {S X Y : List Token} {now : ℕ} {σ : Store} {new h : ℕ} {t : Token} {x : Effect} (m : Move t)
      → Split t S X Y → effect G now σ new h t m ≡ x → Step G (state S σ new h now) (label_of x) (after X Y now σ new h x)
  step_by {S} {X} {Y} {now} {σ} {new} {h} m z q =
      subst (λ x. Step G (state S σ new h now) (label_of x) (after X Y now σ new h x)) q (step m z)

  -- quiet moves in front of a run
  quiet-run : {now : ℕ} {σ : Store} {h new new₁ : ℕ} {S S₁ : List Token} {es : List Event} {u : State}
      → Quiet G now σ h S new S₁ new₁ → Run G (state S₁ σ new₁ h now) es u → Run G (state S σ new h now) es u
  unfolding shown next_handle
  quiet-run done r = r
  quiet-run (quiet m z e q) r = Run.then (step_by m z e) (quiet-run q r)

module _ (G : Program) (sink : ℕ) (bodies : Bodies G) (is-publish : G.node sink ≡ Node.publish) where
  -- by quiet moves and one step, or by quiet moves alone
  data Reaches (e' : Exp) (a : Label) : State → Type 0 where
    reaches : {S S₁ : List Token} {now : ℕ} {σ : Store} {new new₁ h : ℕ} {s' : State}
        → Quiet G now σ h S new S₁ new₁ → Step G (state S₁ σ new₁ h now) a s' → handle_of s' ≡ next_handle a h → clock_of s' ≡ now
        → Stands G sink e' s' → Reaches e' a (state S σ new h now)
    is-there : {S S₁ : List Token} {now : ℕ} {σ : Store} {new new₁ h : ℕ}
        → IsSilent a → Quiet G now σ h S new S₁ new₁ → Stands G sink e' (state S₁ σ new₁ h now) → Reaches e' a (state S σ new h now)

  step-complete : {e e' : Exp} {s : State} {a : Label}
      → Stands G sink e s → Rewrites G.body (handle_of s) (clock_of s) e a e' → Reaches e' a s
  step-complete {e} {e'} {a = a} (stands {S = S} {now} {σ} {new} {h} {C} t r) x = go (rep-ready G now σ h bodies t r x)
    where
      go : Ready G now σ h [] e (at sink [] [] []) S C new a e' → Reaches e' a (state S σ new h now)
      go (ready {S₁ = S₁} {X} {Y} {new₁ = new₁} {t = u} {m = m} q l g z o) =
          let f = follows G sink is-publish (tidy-grown t l g) o in
          let y = effect G now σ new₁ h u m in
          reaches q (subst (λ b. Step G (state S₁ σ new₁ h now) b (after X Y now σ new₁ h y)) f.label (step m z))
          f.handle f.clock f.standing
      go (already s q l g y) = is-there s q (stands (tidy-grown t l g) y)

  abbrev Shown : State → List Event → Type 0
  Shown s es = (u : State) × Run G s es u

  link : {f : Exp} {s : State} {a : Label} {h now : ℕ} {es : List Event} → handle_of s ≡ h → clock_of s ≡ now
      → ((s' : State) → handle_of s' ≡ next_handle a h → clock_of s' ≡ now → Stands G sink f s' → Shown s' es)
      → Reaches f a s → Shown s (shown a es)
  unfolding shown next_handle
  link {a = a} p q rest (reaches {s' = s'} before x k c t) =
      let r = rest s' (k ∙ ap (next_handle a) p) (c ∙ q) t in (r.0, quiet-run G before (Run.then x r.1))
  link p q rest (is-there silence before t) = let r = rest _ p q t in (r.0, quiet-run G before r.1)

  -- the clock moves
  tick : {e : Exp} {s : State} {t h now : ℕ} {es : List Event} → handle_of s ≡ h → clock_of s ≡ now → now ≤ t → t ≤ last_time
      → ((s' : State) → handle_of s' ≡ h → clock_of s' ≡ t → Stands G sink e s' → Shown s' es)
      → Stands G sink e s → Shown s (Event.move t ∷ es)
  unfolding shown
  tick {t = t} p q l k rest (stands {now = now} y r) =
      let l' : now ≤ t = omega arith in
      let x = rest _ p refl (stands y (rep-ticks G l' r)) in (x.0, Run.then (ticks l' k) x.1)

  pub run-complete : {c : Configuration} {es : List Event} {s : State}
      → Stands G sink c.exp s → handle_of s ≡ c.handle → clock_of s ≡ c.clock → CanShow G.body c es → (u : State) × Run G s es u
  run-complete {s = s} t p q CanShow.ends = (s, rests)
  run-complete {c} {s = s} t p q (CanShow.then {a = a} {f = f} x r) =
      link p q (λ s' k j t'. run-complete t' k j r)
      (step-complete t
      (subst (λ k. Rewrites G.body k (clock_of s) c.exp a f) (sym p)
      (subst (λ k. Rewrites G.body c.handle k c.exp a f) (sym q) x)))
  run-complete t p q (CanShow.moves l k r) = tick p q l k (λ s' i j t'. run-complete t' i j r) t
