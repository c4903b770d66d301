-- Soundness of runs: what a run of the abstract machine shows from a state that stands for an expression, rewritings of it show. By
-- recursion on the run. Assumes nothing.
use mathlib.Core.Path.{◌≡◌, refl, sym, ◌∙◌, ap}
use mathlib.Core.Path.{subst}
use mathlib.Core.List.Memᴰ
use mathlib.Core.List.{List, []}
use Prim.Native.Nat.{ℕ, ◌≤◌}
use native.Mathlib.Omega.{arith}
use lib.IntN.{pos}
use Rattle.job.specs.Site.{last_time}
use Rattle.calculus.specs.Event.{Event, Label, showing}
use Rattle.calculus.specs.Expression.{Exp, Substitution, substitute}
use Rattle.calculus.specs.Expression as Calculus
use Rattle.calculus.specs.Allowed.{next_handle, shown, CanShow}
use Rattle.simulation.proofs.AbstractMachine.{Node, Program, at, Token, Store, Effect, Move, effect, State, state, handle_of, after}
use Rattle.simulation.proofs.AbstractMachine.{clock_of, label_of, Step, step, ticks, Run, rests, start_at}
use Rattle.simulation.proofs.Cells.{apart_none, Tidy, tidy-grown, tidy-set}
use Rattle.simulation.proofs.Binding as Binding
use Rattle.simulation.proofs.Relation.{Code, publish, here, Rep, rep-ticks}
use Rattle.simulation.proofs.Outcome.{Acts, by, quietly, AtMost, same, once, Outcome, publishes, makes, sets, act-at, Moves, moves}
use Rattle.simulation.proofs.Coded.{Bodies}
use Rattle.simulation.proofs.MovesSound.{token-moves}

-- 0 for each variable: a goal has none
abbrev pub zeros : Substitution
zeros i = Calculus.value (pos 0)

module _ (G : Program) (sink : ℕ) where
  -- a state stands for an expression whose values come to the sink
  pub data Stands : Exp → State → Type 0 where
    stands : {e : Exp} {S : List Token} {now : ℕ} {σ : Store} {new h : ℕ} {C : List ℕ}
        → Tidy σ new [] [] C → Rep G now σ [] e (at sink [] [] []) S C → Stands e (state S σ new h now)

  -- the effect x of a token between X and Y follows rewritings of e to e', or none
  pub record Follows (now : ℕ) (σ : Store) (new h : ℕ) (X Y : List Token) (x : Effect) (e : Exp) (a : Label) (e' : Exp) : Type 0 where
    pub label : label_of x ≡ a
    pub rewritten : AtMost G now h e a e'
    pub standing : Stands e' (after X Y now σ new h x)
    pub handle : handle_of (after X Y now σ new h x) ≡ next_handle a h
    pub clock : clock_of (after X Y now σ new h x) ≡ now

  pub follows : {now : ℕ} {σ : Store} {new h : ℕ} {X Y : List Token} {C : List ℕ} {t : Token} {m : Move t} {e e' : Exp} {a : Label}
      → G.node sink ≡ Node.publish → Tidy σ new [] [] C → Outcome G now σ new h [] e (at sink [] [] []) X Y C t m a e'
      → Follows now σ new h X Y (effect G now σ new h t m) e a e'
  unfolding next_handle
  follows {now} {σ} {new} {h} {X} {Y} {e = e} {e'} {a} is-publish t (publishes {w = w} q s r g) =
      subst (λ x. Follows now σ new h X Y x e a e') (sym (act-at G now σ new h w q is-publish))
      (record { label = refl; rewritten = once s; standing = stands (tidy-grown t (omega arith) g) r; handle = refl; clock = refl })
  follows {now} {σ} {new} {h} {X} {Y} {e = e} {e'} {a} is-publish t (makes q n s r g) =
      subst (λ x. Follows now σ new h X Y x e a e') (sym q)
      (record { label = refl; rewritten = s; standing = stands (tidy-grown t (omega arith) g) r; handle = refl; clock = refl })
  follows {now} {σ} {new} {h} {X} {Y} {e = e} {e'} {a} is-publish t (sets {v = v} q m n s r g) =
      subst (λ x. Follows now σ new h X Y x e a e') (sym q)
      (record { label = refl; rewritten = s; standing = stands (tidy-set v t m n g) r; handle = refl; clock = refl })

  pub start-stands : {goal : Exp} {n : ℕ} → G.node sink ≡ Node.publish → Code G goal n sink → Stands (substitute zeros goal) (start_at n)
  start-stands is-publish c =
      stands {C = []}
      (record {
        left = λ b m. absurd (Memᴰ.not-nil m);
        over = λ b m. absurd (Memᴰ.not-nil m);
        own = λ b m. absurd (Memᴰ.not-nil m);
        not_left = apart_none;
        not-over = apart_none;
        clean = λ b l. refl;
      })
      (Rep.code zeros c (record { binds = λ i. Binding.value }) (here (publish is-publish)))

  module _ (bodies : Bodies G) (is-publish : G.node sink ≡ Node.publish) where
    -- what a step of a state that stands for e is in the calculus: rewritings, or none; or a move of the clock, by which e stays
    pub data Rewritten (e : Exp) (h now : ℕ) : Label → State → Type 0 where
      acted : {e' : Exp} {a : Label} {s' : State}
          → AtMost G now h e a e' → Stands e' s' → handle_of s' ≡ next_handle a h → clock_of s' ≡ now → Rewritten e h now a s'
      moved : {t : ℕ} {s' : State}
          → now ≤ t → t ≤ last_time → Stands e s' → handle_of s' ≡ h → clock_of s' ≡ t → Rewritten e h now (showing (Event.move t)) s'

    pub step-sound : {e : Exp} {s s' : State} {a : Label} → Stands e s → Step G s a s' → Rewritten e (handle_of s) (clock_of s) a s'
    step-sound {e} (stands {now = now} {σ = σ} {new = new} {h = h} {C = C} t r) (step {t = u} {L = X} {R = Y} m z) =
        go (token-moves G now σ new h bodies t r m z)
      where
        go : Moves G now σ new h [] e (at sink [] [] []) X Y C u m
            → Rewritten e h now (label_of (effect G now σ new h u m)) (after X Y now σ new h (effect G now σ new h u m))
        go (moves {a = a} {e' = e'} o) =
            let f = follows is-publish t o in
            acted
            (subst (λ b. AtMost G now h e b e') (sym f.label) f.rewritten)
            f.standing
            (f.handle ∙ ap (λ b. next_handle b h) (sym f.label))
            f.clock
    step-sound (stands t r) (ticks l k) = moved l k (stands t (rep-ticks G l r)) refl refl

    -- in front of what rewritings leave to show
    acts-front : {h now : ℕ} {e f : Exp} {a : Label} {es : List Event}
        → Acts G now h e a f → CanShow G.body (record { exp = f; handle = next_handle a h; clock = now }) es
        → CanShow G.body (record { exp = e; handle = h; clock = now }) (shown a es)
    unfolding shown next_handle
    acts-front (by s) r = CanShow.then s r
    acts-front (quietly s x) r = CanShow.then s (acts-front x r)

    at-most-front : {e f : Exp} {h now : ℕ} {a : Label} {es : List Event}
        → AtMost G now h e a f → CanShow G.body (record { exp = f; handle = next_handle a h; clock = now }) es
        → CanShow G.body (record { exp = e; handle = h; clock = now }) (shown a es)
    unfolding shown next_handle
    at-most-front same r = r
    at-most-front (once x) r = acts-front x r

    same_numbers : {f : Exp} {h k now c : ℕ} {es : List Event} → h ≡ k → now ≡ c
        → CanShow G.body (record { exp = f; handle = h; clock = now }) es
        → CanShow G.body (record { exp = f; handle = k; clock = c }) es
    same_numbers {f} {k = k} {now} {es = es} p q r =
        subst (λ x. CanShow G.body (record { exp = f; handle = k; clock = x }) es) q
        (subst (λ x. CanShow G.body (record { exp = f; handle = x; clock = now }) es) p r)

    -- in front of what a step leaves to show
    in-front : {e : Exp} {h now : ℕ} {a : Label} {s' : State} {es : List Event} → Rewritten e h now a s'
        → ((f : Exp) → Stands f s' → CanShow G.body (record { exp = f; handle = handle_of s'; clock = clock_of s' }) es)
        → CanShow G.body (record { exp = e; handle = h; clock = now }) (shown a es)
    unfolding shown
    in-front (acted {e' = f} x t p q) rest = at-most-front x (same_numbers p q (rest f t))
    in-front {e} (moved l k t p q) rest = CanShow.moves l k (same_numbers p q (rest e t))

    pub run_sound : {s s' : State} {e : Exp} {es : List Event}
        → Stands e s → Run G s es s' → CanShow G.body (record { exp = e; handle = handle_of s; clock = clock_of s }) es
    run_sound t rests = CanShow.ends
    run_sound t (Run.then x r) = in-front (step-sound t x) (λ f u. run_sound u r)
