-- What a token may still need, tokens and cells, by where it stands: a token of the goal by its node, one of a body by the frame of the
-- goal that it returns to. No act of a token makes it more: the tokens that it becomes need no more than it did. Assumes nothing.
use mathlib.Core.Path.{◌≡◌, refl, sym, subst}
use mathlib.Core.Bool.{Bool, true, false}
use mathlib.Core.List.{List, [], ◌∷◌, map, reverse}
use mathlib.Core.Option.{Option, some, none}
use Prim.Native.Nat.{ℕ, suc, ◌+◌, ◌<◌, ◌≤◌}
use native.Mathlib.Omega.{arith}
use lib.ListN.{length}
use lib.Dec.{leb}
use lib.IntN.{ℤ}
use Rattle.job.specs.Site.{BuiltinReply, gives, silent, due_time, is_builtin, builtin}
use Rattle.calculus.specs.Event.{Label, silently}
use Rattle.calculus.specs.Expression.{Param}
use Rattle.simulation.proofs.AbstractMachine as Abstract
use Rattle.simulation.proofs.AbstractMachine.{named, values_in}
use Rattle.simulation.proofs.AbstractMachine.{Node, Program, Binding, Frame, frame, Place, at, Token, running, called_out, due_later, Store}
use Rattle.simulation.proofs.AbstractMachine.{woken_if, Effect, asks_site, calls_site, replies, falls_due, goes_on, acts, acts_at}
use Rattle.simulation.proofs.AbstractMachine.{act, effect}

abbrev pub place_of : Token → Place
place_of (running K v) = K
place_of (called_out h K) = K
place_of (due_later d K) = K

abbrev pub node_of : Place → ℕ
node_of (at n B F U) = n

abbrev pub frames_of : Token → List Frame
frames_of t = elim (place_of t) [ at n B F U ↦ F ]

-- a where makes a cell
abbrev pub made_at : Node → ℕ
made_at Node.stop = 0
made_at (Node.site s ps k) = 0
made_at (Node.call d ps k) = 0
made_at (Node.fork l r) = 0
made_at (Node.assign k) = 0
made_at (Node.remove k) = 0
made_at (Node.where' l r) = 1
made_at Node.choke = 0
made_at Node.return = 0
made_at Node.publish = 0

module _ (G : Program) (rank : ℕ → ℕ) (top : ℕ) where
  -- at this node of the goal a token needs so many tokens and cells
  pub data Weighs : (node tokens cells : ℕ) → Type 0 where
    stop : {n : ℕ} → G.node n ≡ Node.stop → Weighs n 1 0
    choke : {n : ℕ} → G.node n ≡ Node.choke → Weighs n 1 0
    publish : {n : ℕ} → G.node n ≡ Node.publish → Weighs n 1 0
    site : {n s k w v : ℕ} {ps : List Param} → G.node n ≡ Node.site s ps k → Weighs k w v → Weighs n w v
    assign : {n k w v : ℕ} → G.node n ≡ Node.assign k → Weighs k w v → Weighs n w v
    remove : {n k w v : ℕ} → G.node n ≡ Node.remove k → Weighs k w v → Weighs n w v
    fork : {n l r w v x y : ℕ} → G.node n ≡ Node.fork l r → Weighs l w v → Weighs r x y → Weighs n (w + x) (v + y)
    where' : {n l r w v x y : ℕ} → G.node n ≡ Node.where' l r → Weighs l w v → Weighs r x y → Weighs n (w + x) (suc (v + y))
    -- the callee has its frames; what follows may need more
    call : {n d k u w v : ℕ} {ps : List Param}
        → G.node n ≡ Node.call d ps k → d < G.count → G.tail k ≡ false → Weighs k u v → u ≤ w → suc (suc top) ≤ w → Weighs n w v

  -- a node of a body of rank r that neither forks nor prunes
  pub data Steady (r : ℕ) : (node : ℕ) → Type 0 where
    stop : {n : ℕ} → G.node n ≡ Node.stop → Steady r n
    return : {n : ℕ} → G.node n ≡ Node.return → Steady r n
    site : {n s k : ℕ} {ps : List Param} → G.node n ≡ Node.site s ps k → Steady r k → Steady r n
    assign : {n k : ℕ} → G.node n ≡ Node.assign k → Steady r k → Steady r n
    remove : {n k : ℕ} → G.node n ≡ Node.remove k → Steady r k → Steady r n
    tail_call : {n d k : ℕ} {ps : List Param}
        → G.node n ≡ Node.call d ps k → d < G.count → G.tail k ≡ true → rank d ≤ r → Steady r n
    call : {n d k : ℕ} {ps : List Param}
        → G.node n ≡ Node.call d ps k → d < G.count → G.tail k ≡ false → rank d < r → Steady r k → Steady r n

  -- the callers of a token in a body of rank r: bodies of ever higher ranks, then the goal, where it needs so much
  pub data Chain : (rank : ℕ) → List Frame → (tokens cells : ℕ) → Type 0 where
    goal : {r k w v : ℕ} {B : List Binding} {U : List ℕ} → r ≤ top → Weighs k w v → Chain r (frame k B U ∷ []) w v
    body : {r s k w v : ℕ} {B : List Binding} {U : List ℕ} {F : List Frame}
        → r < s → Steady s k → Chain s F w v → Chain r (frame k B U ∷ F) w v

  pub data PlaceWeighs : Place → (tokens cells : ℕ) → Type 0 where
    in_goal : {n u w v : ℕ} {B : List Binding} {U : List ℕ} → Weighs n u v → u ≤ w → PlaceWeighs (at n B [] U) w v
    in_body : {r n u w v : ℕ} {B : List Binding} {F : List Frame} {U : List ℕ}
        → Steady r n → Chain r F u v → u ≤ w → suc (suc top) ≤ w → PlaceWeighs (at n B F U) w v

  -- tokens that need no more than so many tokens and cells in all
  pub data Weighed : List Token → (tokens cells : ℕ) → Type 0 where
    nobody : {w v : ℕ} → Weighed [] w v
    also : {t : Token} {S : List Token} {a b w v x y : ℕ}
        → PlaceWeighs (place_of t) a b → Weighed S x y → a + x ≤ w → b + y ≤ v → Weighed (t ∷ S) w v

  -- what an effect leaves needs no more tokens, and cells but for those that it made
  pub data Lighter : Effect → (made tokens cells : ℕ) → Type 0 where
    makes : {a : Label} {N : List Token} {made w v y : ℕ} → Weighed N w y → made + y ≤ v → Lighter (Effect.makes a N) made w v
    sets : {c w v : ℕ} {z : ℤ} → Lighter (Effect.sets c z) 0 w v

  chain-lower : {r s w v : ℕ} {F : List Frame} → r ≤ s → Chain s F w v → Chain r F w v
  chain-lower {r} l (goal k x) = let z : r ≤ top = omega arith in goal z x
  chain-lower {r} l (body {s = s} k x c) = let z : r < s = omega arith in body z x c

  -- ranks rise from caller to caller
  pub chain_length : {r w v : ℕ} {F : List Frame} → Chain r F w v → length F + r ≤ suc top
  chain_length (goal l x) = omega arith
  chain_length (body l x c) = let z = chain_length c in omega arith

  pub weighs-some : {n w v : ℕ} → Weighs n w v → 1 ≤ w
  weighs-some (stop e) = omega arith
  weighs-some (choke e) = omega arith
  weighs-some (publish e) = omega arith
  weighs-some (site e x) = weighs-some x
  weighs-some (assign e x) = weighs-some x
  weighs-some (remove e x) = weighs-some x
  weighs-some (fork e x y) = let z = weighs-some x in omega arith
  weighs-some (where' e x y) = let z = weighs-some x in omega arith
  weighs-some (call e d t x l k) = omega arith

  -- a token and its callers
  pub place-uses : {n w v : ℕ} {B : List Binding} {F : List Frame} {U : List ℕ} → PlaceWeighs (at n B F U) w v → suc (length F) ≤ w
  place-uses (in_goal x l) = let z = weighs-some x in omega arith
  place-uses (in_body s c l k) = let z = chain_length c in omega arith

  -- one token, at a place that needs no more
  pub alone : {t : Token} {w v : ℕ} → PlaceWeighs (place_of t) w v → Weighed (t ∷ []) w v
  alone {w = w} {v} x = also {w = w} {v = v} {x = 0} {y = 0} x nobody (omega arith) (omega arith)

  -- no cell is made
  pub cell-less : {a : Label} {N : List Token} {w v : ℕ} → Weighed N w v → Lighter (Effect.makes a N) 0 w v
  cell-less {v = v} x = makes {made = 0} {v = v} {y = v} x (omega arith)

  goes : {K : Place} {w v : ℕ} (z : ℤ) → PlaceWeighs K w v → Lighter (goes_on K z) 0 w v
  goes z x = cell-less (alone x)

  ends : {a : Label} {w v : ℕ} → Lighter (Effect.makes a []) 0 w v
  ends = cell-less nobody

  -- two tokens, one of which may be in a new cell
  both : {K L : Place} {w v x y made tokens cells : ℕ} (z : ℤ) → PlaceWeighs K w v → PlaceWeighs L x y
      → w + x ≤ tokens → made + (v + y) ≤ cells → Lighter (Effect.makes silently (running K z ∷ running L z ∷ [])) made tokens cells
  both {v = v} {y = y} z a b i j = makes {y = v + y} (also {v = v + y} a (alone b) i (omega arith)) j

  chokes-lighter : {w v : ℕ} (U : List ℕ) (z : ℤ) → Lighter (Abstract.chokes U z) 0 w v
  chokes-lighter [] z = ends
  chokes-lighter (c ∷ U) z = sets

  returns-lighter : {r u w v : ℕ} {F : List Frame} (z : ℤ) → Chain r F u v → u ≤ w → suc (suc top) ≤ w
      → Lighter (Abstract.returns F z) 0 w v
  returns-lighter z (goal l x) i j = goes z (in_goal x i)
  returns-lighter z (body l x c) i j = goes z (in_body x c i j)

  -- site calls: the token stays, ends, or stands at the next node
  module _ (now h s : ℕ) {K : Place} {w v : ℕ} (next : PlaceWeighs K w v) where
    at_next : {t : Token} {a : Label} → place_of t ≡ K → Lighter (Effect.makes a (t ∷ [])) 0 w v
    at_next e = cell-less (alone (subst (λ L. PlaceWeighs L w v) (sym e) next))

    woken : (d : ℕ) (b : Bool) → Lighter (Effect.makes silently (woken_if b d K ∷ [])) 0 w v
    woken d true = at_next refl
    woken d false = at_next refl

    falls : (o : Option ℕ) → Lighter (falls_due now o K) 0 w v
    falls none = ends
    falls (some d) = woken d (leb d now)

    replied : (r : BuiltinReply) → Lighter (replies now r K) 0 w v
    replied (gives z) = goes z next
    replied silent = ends
    replied (BuiltinReply.later t) = falls (due_time now t)

    calls : (vs : List ℤ) (b : Bool) → Lighter (calls_site now h s vs b K) 0 w v
    calls vs true = replied (builtin s vs)
    calls vs false = at_next refl

    asks : {L : Place} (z : ℤ) (o : Option (List ℤ)) → PlaceWeighs L w v → Lighter (asks_site now h s (running L z) o K) 0 w v
    asks z none x = cell-less (alone x)
    asks z (some vs) x = calls vs (is_builtin s)

  -- what each definition must be: its rank is no higher than the top, and its body has no branch
  abbrev pub Entries : Type 0
  Entries = (d : ℕ) → d < G.count → (rank d ≤ top) × Steady (rank d) (G.entry d)

  module _ (entries : Entries) (now : ℕ) (σ : Store) (new h : ℕ) where
    -- the token that acts
    module _ (n : ℕ) (B : List Binding) (F : List Frame) (U : List ℕ) (z : ℤ) where
      -- at a node that is known
      at-node : {w v : ℕ} {N : Node} → G.node n ≡ N → Lighter (acts_at G now σ new h N (at n B F U) z) (made_at N) w v
          → Lighter (act G now σ new h (at n B F U) z) (made_at (G.node n)) w v
      at-node {w} {v} e x = subst (λ N. Lighter (acts_at G now σ new h N (at n B F U) z) (made_at N) w v) (sym e) x

      -- a callee, with a frame of its own or without
      enters : {d r k u w v : ℕ} {ps : List Param} (b : Bool) → G.node n ≡ Node.call d ps k → G.tail k ≡ b → d < G.count → rank d ≤ r
          → Chain r (Abstract.callers b (frame k B U) F) u v → u ≤ w → suc (suc top) ≤ w
          → Lighter (act G now σ new h (at n B F U) z) (made_at (G.node n)) w v
      enters {d} {k = k} {w = w} {v} {ps} b e t there l c i j =
          at-node e
          (subst (λ x. Lighter (goes_on (at (G.entry d) (map (named B) (reverse ps)) (Abstract.callers x (frame k B U) F) U) z) 0 w v)
          (sym t) (goes z (in_body (entries d there).1 (chain-lower l c) i j)))

      body-lighter : {r u w v : ℕ} → Steady r n → Chain r F u v → u ≤ w → suc (suc top) ≤ w
          → Lighter (act G now σ new h (at n B F U) z) (made_at (G.node n)) w v
      body-lighter (stop e) c i j = at-node e ends
      body-lighter (return e) c i j = at-node e (returns-lighter z c i j)
      body-lighter (site {s = s} {ps = ps} e x) c i j =
          at-node e (asks now h s (in_body x c i j) z (values_in σ B ps) (in_body (site e x) c i j))
      body-lighter (assign e x) c i j = at-node e (goes z (in_body x c i j))
      body-lighter (remove e x) c i j = at-node e (goes z (in_body x c i j))
      body-lighter (tail_call e there t l) c i j = enters true e t there l c i j
      body-lighter (call {d = d} e there t l x) c i j =
          let least : rank d ≤ rank d = omega arith in enters false e t there least (Chain.body l x c) i j

    goal-lighter : {u w v : ℕ} (n : ℕ) (B : List Binding) (U : List ℕ) (z : ℤ) → Weighs n u v → u ≤ w
        → Lighter (act G now σ new h (at n B [] U) z) (made_at (G.node n)) w v
    goal-lighter n B U z (stop e) i = at-node n B [] U z e ends
    goal-lighter n B U z (choke e) i = at-node n B [] U z e (chokes-lighter U z)
    goal-lighter n B U z (publish e) i = at-node n B [] U z e ends
    goal-lighter n B U z (site {s = s} {ps = ps} e x) i =
        at-node n B [] U z e (asks now h s (in_goal x i) z (values_in σ B ps) (in_goal (site e x) i))
    goal-lighter n B U z (assign e x) i = at-node n B [] U z e (goes z (in_goal x i))
    goal-lighter n B U z (remove e x) i = at-node n B [] U z e (goes z (in_goal x i))
    goal-lighter n B U z (fork {w = a} {x = b} e x y) i =
        at-node n B [] U z e (both z (in_goal {w = a} x (omega arith)) (in_goal {w = b} y (omega arith)) i (omega arith))
    goal-lighter n B U z (where' {w = a} {x = b} e x y) i =
        at-node n B [] U z e (both z (in_goal {w = a} x (omega arith)) (in_goal {w = b} y (omega arith)) i (omega arith))
    goal-lighter {w = w} n B U z (call {d = d} {u = u} e there t x l k) i =
        let least : rank d ≤ rank d = omega arith in
        let a : u ≤ w = omega arith in
        let b : suc (suc top) ≤ w = omega arith in
        enters n B [] U z false e t there least (Chain.goal (entries d there).0 x) a b

    pub act-lighter : {K : Place} {w v : ℕ} (z : ℤ) → PlaceWeighs K w v → Lighter (act G now σ new h K z) (made_at (G.node (node_of K))) w v
    act-lighter z (in_goal {n = n} {B = B} {U = U} x i) = goal-lighter n B U z x i
    act-lighter z (in_body {n = n} {B = B} {F = F} {U = U} s c i j) = body-lighter n B F U z s c i j
