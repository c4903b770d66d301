-- The labels of the nodes that `construct` makes, built beside it: by the same recursion, as many as the nodes, in their order.
-- Assumes nothing: these are definitions, and that the numbers agree.
use mathlib.Core.Path.{◌≡◌, refl, ap}
use mathlib.Core.Bool.{Bool, true, false}
use mathlib.Core.List.{List, [], ◌∷◌, ◌++◌}
use Prim.Native.Nat.{ℕ, suc, ◌+◌}
use lib.ListN.{length, get_or, length-append}
use Rattle.job.specs.Syntax.{Join, par, seq, prune, Exp, stop, site, call, join, Definition, Program, levels, scope_left, scope_right}
use Rattle.job.specs.Construct.{own, node_count}
use Rattle.lockstep.proofs.Labels.{Labels}
use Rattle.lockstep.proofs.Each.{Each, Three, each_map, each_left, each_right, each_three, each-own}

pub record Label : Type 0 where
  pub scope : List ℕ
  pub nest : ℕ
  pub value : Bool
  pub body : Bool

-- a node where a token need not have a value, and one where it has
abbrev pub plain : List ℕ → ℕ → Bool → Label
plain scope nest body = record { scope = scope; nest = nest; value = false; body = body }

abbrev pub valued : List ℕ → ℕ → Bool → Label
valued scope nest body = record { scope = scope; nest = nest; value = true; body = body }

-- the right side of a prune is under one more cell
unfoldable pub nest_right : Join → ℕ → ℕ
nest_right par nest = nest
nest_right (seq x) nest = nest
nest_right (prune x) nest = suc nest

unfoldable pub own_labels : Join → List ℕ → ℕ → Bool → List Label
own_labels par scope nest body = plain scope nest body ∷ []
own_labels (seq x) scope nest body = valued scope nest body ∷ valued (x ∷ scope) nest body ∷ []
own_labels (prune x) scope nest body = plain scope nest body ∷ valued (x ∷ scope) nest body ∷ valued scope (suc nest) body ∷ []

unfoldable pub exp_labels : Exp → List ℕ → ℕ → Bool → List Label
exp_labels stop scope nest body = plain scope nest body ∷ []
exp_labels (site s ps) scope nest body = plain scope nest body ∷ []
exp_labels (call d ps) scope nest body = plain scope nest body ∷ []
exp_labels (join j f g) scope nest body =
    own_labels j scope nest body
    ++ exp_labels f (scope_left j scope) nest body
    ++ exp_labels g (scope_right j scope) (nest_right j nest) body

-- a body's last label is its return's, the goal's last is publish's
unfoldable pub program_labels : List Definition → Exp → List Label
program_labels [] g = exp_labels g [] 0 false ++ (valued [] 0 false ∷ [])
program_labels (d ∷ ds) g =
    exp_labels d.body (levels d.formals) 0 true ++ (valued (levels d.formals) 0 true ∷ program_labels ds g)

unfoldable pub label_at : Program → ℕ → Label
label_at p n = get_or (program_labels p.definitions p.goal) n (plain [] 0 false)

abbrev pub labels_of : Program → Labels
labels_of p =
    record {
      scope = λ n. (label_at p n).scope;
      nest = λ n. (label_at p n).nest;
      value = λ n. (label_at p n).value;
      body = λ n. (label_at p n).body;
    }

-- a node that has a label
pub record Has (M : Labels) (n : ℕ) (l : Label) : Type 0 where
  pub scope : M.scope n ≡ l.scope
  pub nest : M.nest n ≡ l.nest
  pub value : M.value n ≡ l.value
  pub body : M.body n ≡ l.body

pub own-labels-length : (j : Join) (scope : List ℕ) (nest : ℕ) (body : Bool) → length (own_labels j scope nest body) ≡ own j
unfolding own_labels own
own-labels-length par scope nest body = refl
own-labels-length (seq x) scope nest body = refl
own-labels-length (prune x) scope nest body = refl

pub exp-labels-length : (e : Exp) (scope : List ℕ) (nest : ℕ) (body : Bool) → length (exp_labels e scope nest body) ≡ node_count e
unfolding exp_labels node_count
exp-labels-length stop scope nest body = refl
exp-labels-length (site s ps) scope nest body = refl
exp-labels-length (call d ps) scope nest body = refl
exp-labels-length (join j f g) scope nest body =
    let o = own-labels-length j scope nest body in
    let l = exp-labels-length f (scope_left j scope) nest body in
    let r = exp-labels-length g (scope_right j scope) (nest_right j nest) body in
    simp (length-append, o, l, r)

-- labels stand for the nodes from n on; those of a join: its own, its left side's, its right side's
abbrev pub Labelled : Labels → ℕ → List Label → Type 0
Labelled M n ls = Each (Has M) n ls

abbrev pub JoinLabelled : Labels → ℕ → Join → (f g : Exp) → List ℕ → ℕ → Bool → Type 0
JoinLabelled M n j f g scope nest body =
    Three (Has M) n (own j) (node_count f)
    (own_labels j scope nest body)
    (exp_labels f (scope_left j scope) nest body)
    (exp_labels g (scope_right j scope) (nest_right j nest) body)

module _ (M : Labels) where
  pub join-labelled : {n : ℕ} (j : Join) (f g : Exp) (scope : List ℕ) (nest : ℕ) (body : Bool)
      → Labelled M n (exp_labels (join j f g) scope nest body) → JoinLabelled M n j f g scope nest body
  unfolding exp_labels
  join-labelled j f g scope nest body ls =
      each_three (own j) (node_count f) _ _ _ (own-labels-length j scope nest body) (exp-labels-length f (scope_left j scope) nest body) ls

  module _ {n : ℕ} (e : Exp) (scope : List ℕ) (nest : ℕ) (body : Bool) (ls : List Label)
      (labelled : Labelled M n (exp_labels e scope nest body ++ ls)) where
    pub here-labelled : Labelled M n (exp_labels e scope nest body)
    here-labelled = each_left _ ls labelled

    pub then-labelled : Labelled M (n + node_count e) ls
    then-labelled = each_right (exp_labels e scope nest body) ls (n + node_count e)
        (ap (λ m. n + m) (exp-labels-length e scope nest body)) labelled

-- the labels of a program stand for its nodes
pub labelled-whole : (p : Program) → Labelled (labels_of p) 0 (program_labels p.definitions p.goal)
unfolding label_at
labelled-whole p = each_map has (each-own (program_labels p.definitions p.goal) (plain [] 0 false))
  where
    has : (n : ℕ) (l : Label) → label_at p n ≡ l → Has (labels_of p) n l
    has n l e =
        record {
          scope = ap (λ (x : Label). x.scope) e;
          nest = ap (λ (x : Label). x.nest) e;
          value = ap (λ (x : Label). x.value) e;
          body = ap (λ (x : Label). x.body) e;
        }
