-- A step of the abstract machine leaves tokens that need no more than those before it: the token that acts is replaced by what it becomes,
-- a cell that is set ends tokens, a clock move leaves each where it stands. Assumes nothing.
use mathlib.Core.Path.{◌≡◌, refl, sym, subst}
use mathlib.Core.Bool.{Bool, true, false}
use mathlib.Core.List.{List, ◌∷◌, ◌++◌, map}
use Prim.Native.Nat.{ℕ, ◌+◌, ◌≤◌}
use native.Mathlib.Omega.{arith}
use lib.Dec.{leb}
use Rattle.job.specs.Test.{select}
use Rattle.calculus.specs.Event.{Label}
use Rattle.simulation.proofs.Shuffle.{Split, first, later}
use Rattle.simulation.proofs.AbstractMachine.{Program, Token, running, called_out, due_later, Store}
use Rattle.simulation.proofs.AbstractMachine.{wake, woken_if, is_out_of, Effect, Move}
use Rattle.simulation.proofs.AbstractMachine.{answered, effect, State, state, after, Step, step, ticks}
use Rattle.loops.proofs.Weights.{place_of, node_of, made_at, PlaceWeighs, Weighed, nobody, also, Lighter, makes, sets, Entries}
use Rattle.loops.proofs.Weights.{act-lighter}
use Rattle.loops.proofs.Weights.{cell-less, alone}

-- the cells that a move makes, and so a step
abbrev made_by : (G : Program) (t : Token) → Move t → ℕ
made_by G (running K z) m = made_at (G.node (node_of K))
made_by G (called_out h K) m = 0
made_by G (due_later d K) m = 0

abbrev pub cells_made : {G : Program} {s s' : State} {a : Label} → Step G s a s' → ℕ
cells_made {G} (step {t = t} m z) = made_by G t m
cells_made (ticks l k) = 0

pub wake-place : (now : ℕ) (t : Token) → place_of (wake now t) ≡ place_of t
wake-place now (running K z) = refl
wake-place now (called_out h K) = refl
wake-place now (due_later d K) = go (leb d now)
  where
    go : (b : Bool) → place_of (woken_if b d K) ≡ K
    go true = refl
    go false = refl

module _ (G : Program) (rank : ℕ → ℕ) (top : ℕ) where
  abbrev Needs : List Token → (tokens cells : ℕ) → Type 0
  Needs = Weighed G rank top

  weighed-more : {S : List Token} {a x w v : ℕ} → Needs S a x → a ≤ w → x ≤ v → Needs S w v
  weighed-more nobody i j = nobody
  weighed-more {w = w} {v} (also p r c d) i j = also {w = w} {v = v} p r (omega arith) (omega arith)

  weighed-append : {L R : List Token} {a x b y w v : ℕ} → Needs L a x → Needs R b y → a + b ≤ w → x + y ≤ v → Needs (L ++ R) w v
  weighed-append {b = b} {y} {w} {v} nobody r i j =
      let k : b ≤ w = omega arith in let l : y ≤ v = omega arith in weighed-more r k l
  weighed-append {b = b} {y} {w} {v} (also {x = c} {y = d} p l e f) r i j =
      let k : c + b ≤ c + b = omega arith in
      let m : d + y ≤ d + y = omega arith in
      also {w = w} {v = v} {x = c + b} {y = d + y} p (weighed-append l r k m) (omega arith) (omega arith)

  weighed-if : {S : List Token} {a b w v x y : ℕ} (t : Token) (keep : Bool) → PlaceWeighs G rank top (place_of t) a b → Needs S x y
      → a + x ≤ w → b + y ≤ v → Needs (elim keep [ true ↦ t ∷ S | false ↦ S ]) w v
  weighed-if t true p r i j = also p r i j
  weighed-if {w = w} {v} {x} {y} t false p r i j = let k : x ≤ w = omega arith in let l : y ≤ v = omega arith in weighed-more r k l

  weighed-select : {S : List Token} {w v : ℕ} (p : Token → Bool) → Needs S w v → Needs (select p S) w v
  unfolding select
  weighed-select p nobody = nobody
  weighed-select p (also {t = t} x r i j) = weighed-if t (p t) x (weighed-select p r) i j

  weighed-wake : {S : List Token} {w v : ℕ} (now : ℕ) → Needs S w v → Needs (map (wake now) S) w v
  weighed-wake now nobody = nobody
  weighed-wake now (also {t = t} {a = a} {b = b} x r i j) =
      also (subst (λ K. PlaceWeighs G rank top K a b) (sym (wake-place now t)) x) (weighed-wake now r) i j

  -- a token, with those before and behind it
  pub data Around (t : Token) (L R : List Token) (w v : ℕ) : Type 0 where
    around : {a b c x y z : ℕ} → Needs L a x → PlaceWeighs G rank top (place_of t) b y → Needs R c z
        → a + (b + c) ≤ w → x + (y + z) ≤ v → Around t L R w v

  around-more : {t u : Token} {L R : List Token} {a b c d w v : ℕ} → PlaceWeighs G rank top (place_of u) a b → Around t L R c d
      → a + c ≤ w → b + d ≤ v → Around t (u ∷ L) R w v
  around-more {a = a} {b} p (around {a = e} {x = f} l y q g h) i j =
      let k : a + e ≤ a + e = omega arith in
      let m : b + f ≤ b + f = omega arith in
      around {a = a + e} {x = b + f} (also p l k m) y q (omega arith) (omega arith)

  pub weighed-around : {t : Token} {S L R : List Token} {w v : ℕ} → Split t S L R → Needs S w v → Around t L R w v
  weighed-around first (also x r i j) = around {a = 0} {x = 0} nobody x r (omega arith) (omega arith)
  weighed-around (later s) (also x r i j) = around-more x (weighed-around s r) i j

  -- what a step leaves, so many cells made
  pub data Leaves (made w v : ℕ) : State → Type 0 where
    leaves : {S : List Token} {σ : Store} {new h now y : ℕ} → Needs S w y → made + y ≤ v → Leaves made w v (state S σ new h now)

  module _ (L R : List Token) (now : ℕ) (σ : Store) (new h : ℕ) where
    effect-leaves : {a b c x y z w v made : ℕ} {e : Effect} → Needs L a x → Needs R c z → a + (b + c) ≤ w → x + (y + z) ≤ v
        → Lighter G rank top e made b y → Leaves made w v (after L R now σ new h e)
    effect-leaves {b = b} {c} {x} {z = z} l r i j (makes {y = u} n k) =
        let p : b + c ≤ b + c = omega arith in
        let q : u + z ≤ u + z = omega arith in
        let s : x + (u + z) ≤ x + (u + z) = omega arith in
        leaves {y = x + (u + z)} (weighed-append l (weighed-append n r p q) i s) (omega arith)
    effect-leaves {a = a} {c = c} {x} {z = z} {w} l r i j (sets {c = d}) =
        let p : a + c ≤ w = omega arith in
        let q : x + z ≤ x + z = omega arith in
        leaves {y = x + z} (weighed-select (is_out_of d) (weighed-append l r p q)) (omega arith)

  pub data StateWeighs (w v : ℕ) : State → Type 0 where
    weighs : {S : List Token} {σ : Store} {new h now : ℕ} → Needs S w v → StateWeighs w v (state S σ new h now)

  module _ (entries : Entries G rank top) where
    module _ (now : ℕ) (σ : Store) (new h : ℕ) where
      move-lighter : {w v : ℕ} (t : Token) (m : Move t) → PlaceWeighs G rank top (place_of t) w v
          → Lighter G rank top (effect G now σ new h t m) (made_by G t m) w v
      move-lighter (running K z) m p = act-lighter G rank top entries now σ new h z p
      move-lighter (called_out k K) (answered v fits) p = cell-less G rank top (alone G rank top p)
      move-lighter (due_later d K) m p = elim m [ ]

      around-leaves : {L R : List Token} {w v : ℕ} (t : Token) (m : Move t) → Around t L R w v
          → Leaves (made_by G t m) w v (after L R now σ new h (effect G now σ new h t m))
      around-leaves {L} {R} t m (around l p r i j) = effect-leaves L R now σ new h l r i j (move-lighter t m p)

    pub step-leaves : {s s' : State} {a : Label} {w v : ℕ} (st : Step G s a s') → StateWeighs w v s → Leaves (cells_made st) w v s'
    step-leaves (step {t = t} {now = now} {σ = σ} {new = new} {h = h} m z) (weighs n) =
        around-leaves now σ new h t m (weighed-around z n)
    step-leaves {v = v} (ticks {t = t} l k) (weighs n) = leaves {y = v} (weighed-wake t n) (omega arith)
