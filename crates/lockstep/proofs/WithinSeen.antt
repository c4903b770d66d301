-- The machine's test of being within a cell says whether the cell's name is among those that are seen above. The test looks at as many
-- cells as the table has, and that is enough: a chain that is seen ends, so no cell comes twice in it. Assumes nothing.
use mathlib.Core.Path.{◌≡◌, refl, sym, ◌∙◌, ap, subst}
use mathlib.Core.Bool.{Bool, true, false}
use mathlib.Core.List.Memᴰ
use mathlib.Core.List.{List, [], ◌∷◌, ◌++◌}
use Prim.Native.Nat.{ℕ, zero, suc, ◌+◌, ◌<◌, ◌≤◌}
use native.Mathlib.Decide.{ℕ_discrete}
use native.Mathlib.Omega.{arith}
use lib.ListN.{length, set, replicate, length-set, length-replicate}
use lib.Seq.{get_or-set_other}
use lib.Dec.{eqb}
use Rattle.std.specs.Prelude.{Some}
use Rattle.job.specs.Test.{◌or◌, for_some}
use Rattle.model.specs.Machine.Blank.{cell_at}
use Rattle.model.specs.Machine.Active.{upward, within}
use Rattle.model.specs.Machine.InUse.{marked}
use Rattle.model.specs.Machine.Held.{Place}
use Rattle.job.proofs.WellFormed.{member-some}
use Rattle.job.proofs.Test.{never, clash, eq-eqb, ne_eqb}
use Rattle.model.proofs.Machine.Marks.{Free, marked-le-length, marked-set-free}
use Rattle.simulation.proofs.Store.{◌not-in◌}
use Rattle.lockstep.proofs.View.{World, CellSeen, CellsSeen, root, below}

-- names in a list
pub not_some : (n : ℕ) (U : List ℕ) → for_some (eqb n) U ≡ false → n not-in U
not_some n U e m = clash (member-some m) e

pub some_first : (n : ℕ) (U : List ℕ) → for_some (eqb n) (n ∷ U) ≡ true
some_first n U = member-some (Memᴰ.head refl)

pub some-rest : (test : ℕ → Bool) (C D : List ℕ) → for_some test (C ++ D) ≡ false → for_some test D ≡ false
unfolding for_some ◌or◌
some-rest test [] D e = e
some-rest test (c ∷ C) D e = go (test c) e (λ f. some-rest test C D f)
  where
    go : (b : Bool) → (b or for_some test (C ++ D)) ≡ false → (for_some test (C ++ D) ≡ false → for_some test D ≡ false)
        → for_some test D ≡ false
    go true x f = clash refl x
    go false x f = f x

none-marked : (k b : ℕ) → b < k → Free (replicate k false) b
none-marked zero b l = absurd (omega arith)
none-marked (suc k) zero l = refl
none-marked (suc k) (suc b) l = none-marked k b (omega arith)

module _ {W : World} where
  -- two views of one place are as long
  chain_length : {q r : Place} {U X : List ℕ} → q ≡ r → CellsSeen W q U → CellsSeen W r X → length U ≡ length X
  chain_length e root root = refl
  chain_length e root (below s v) = never cc
  chain_length e (below s v) root = never cc
  chain_length e (below {c = b} s v) (below {c = c} t w) =
      ap suc (chain_length (ap (λ i. (cell_at W.cells i).parent) (let z : b ≡ c = cc in z)) v w)

  -- cells with no longer a chain are not marked yet, and each cell of the chain takes a mark
  chain-marks : (marks : List Bool) {q : Place} {U : List ℕ}
      → length marks ≡ length W.cells
      → ((b : ℕ) (X : List ℕ) → CellsSeen W (Some b) X → length X ≤ length U → Free marks b)
      → CellsSeen W q U → length U + marked marks ≤ length W.cells
  chain-marks marks l h root = let z = marked-le-length marks in omega arith
  chain-marks marks l h (below {c = c} {n = n} {U = U} s v) =
      let here : Free marks c = h c (n ∷ U) (below s v) (omega arith) in
      let one = marked-set-free marks c here in
      let more = chain-marks (set marks c true) (length-set marks c true ∙ l) (λ b X w k. further b X w k) v in
      omega arith
    where
      further : (b : ℕ) (X : List ℕ) → CellsSeen W (Some b) X → length X ≤ length U → Free (set marks c true) b
      further b X w k = get_or-set_other marks c b true true apart ∙ h b X w (omega arith)
        where
          apart : b ≡ c → ⊥
          apart e = let z : length X ≡ length (n ∷ U) = chain_length (ap Some e) w (below s v) in omega arith

  chain-inside : (b : ℕ) {q : Place} {X : List ℕ} → q ≡ Some b → CellsSeen W q X → b < length W.cells
  chain-inside b e root = never cc
  chain-inside b e (below {c = c} s v) = subst (λ i. i < length W.cells) (let z : c ≡ b = cc in z) s.inside

  pub chain-short : {q : Place} {U : List ℕ} → CellsSeen W q U → length U ≤ length W.cells
  chain-short v =
      let z =
      chain-marks (replicate (length W.cells) false) (length-replicate (length W.cells) false)
      (λ b X w k. none-marked (length W.cells) b (chain-inside b refl w)) v in
      omega arith

  -- a place and its name
  same-cell : {c n b i : ℕ} → CellSeen W c n → CellSeen W b i → eqb c b ≡ eqb n i
  same-cell {c} {n} {b} {i} s t = go (ℕ_discrete c b)
    where
      go : Dec (c ≡ b) → eqb c b ≡ eqb n i
      go (yes e) = eq-eqb c b e ∙ sym (eq-eqb n i (sym s.name ∙ (ap W.name e ∙ t.name)))
      go (no e) = ne_eqb c b e ∙ sym (ne_eqb n i (λ f. e (sym s.place ∙ (ap W.place f ∙ t.place))))

  within-up : {c n : ℕ} → CellSeen W c n → (k : ℕ) {q : Place} {U : List ℕ} → length U ≤ k
      → CellsSeen W q U → upward (λ b j. eqb c b) W.cells k q ≡ for_some (eqb n) U
  unfolding upward for_some ◌or◌
  within-up s zero l root = refl
  within-up s zero l (below t v) = absurd (omega arith)
  within-up s (suc k) l root = refl
  within-up {c} {n} s (suc k) l (below {c = b} {n = i} {U = U} t v) = go (eqb c b) (eqb n i) (same-cell s t) (within-up s k (omega arith) v)
    where
      rest : Bool
      rest = upward (λ b j. eqb c b) W.cells k (cell_at W.cells b).parent

      go : (x y : Bool) → x ≡ y → rest ≡ for_some (eqb n) U → elim x as (λ x. Bool) [ true ↦ true | false ↦ rest ] ≡ (y or for_some (eqb
          n) U)
      go true true e f = refl
      go true false e f = clash refl e
      go false true e f = clash e refl
      go false false e f = f

  pub within-seen : {c n : ℕ} {q : Place} {U : List ℕ} → CellSeen W c n → CellsSeen W q U → within W.cells c q ≡ for_some (eqb n) U
  unfolding within
  within-seen s v = within-up s (length W.cells) (chain-short v) v
