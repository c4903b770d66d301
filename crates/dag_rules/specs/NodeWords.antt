-- The index rules of a node, said of its twelve words. (proofs/Rows.antt: these are the rules of the node that has the words.)
-- Assumes nothing: these are definitions.
use Rattle.std.specs.Prelude.{Bool, false, List, [], ◌∷◌, ℕ, get_or, drop, ltb, leb, eqb}
use Rattle.job.specs.Test.{◌and◌, for_all, same, once}
use Rattle.job.specs.Site.{site_takes}
use Rattle.job.specs.Node.{param_holds}
use Rattle.job.specs.Words.{param_words, params_from}

-- words at the places of n parameters, of which so many are in use: those of the parameters that they would be, whose rules hold
unfoldable pub param_words_hold : (n count : ℕ) → List ℕ → Bool
param_words_hold n count ws = let ps = params_from count ws in same ws (param_words n ps) and for_all param_holds ps

-- the two words at one place
abbrev pub pair_holds : Bool → (kind word : ℕ) → Bool
pair_holds named k w = param_words_hold 1 (once named) (k ∷ w ∷ [])

-- the number of parameters in use, by the node's kind and third number: only sites and calls have parameters
unfoldable pub count_of : (kind c : ℕ) → ℕ
count_of kind c = get_or (0 ∷ c ∷ c ∷ []) kind 0

-- the kind and the three numbers of a node, in a dag with so many nodes and bodies
unfoldable pub head_holds : (nodes bodies kind a b c : ℕ) → Bool
head_holds nodes bodies kind a b c =
    let unused = eqb a 0 and eqb b 0 and eqb c 0 in
    let slot = ltb a 8 and ltb b nodes and eqb c 0 in
    get_or
    (unused
    ∷ (site_takes a c and ltb b nodes)
    ∷ (ltb a bodies and leb c 4 and ltb b nodes)
    ∷ (ltb a nodes and ltb b nodes and eqb c 0)
    ∷ slot
    ∷ slot
    ∷ (ltb c 8 and ltb a nodes and ltb b nodes)
    ∷ unused
    ∷ unused
    ∷ unused
    ∷ [])
    kind false

-- the twelve words of a node
unfoldable pub row_holds : (nodes bodies : ℕ) → List ℕ → Bool
row_holds nodes bodies ws =
    let kind = get_or ws 0 0 in
    let c = get_or ws 3 0 in
    head_holds nodes bodies kind (get_or ws 1 0) (get_or ws 2 0) c and param_words_hold 4 (count_of kind c) (drop 4 ws)

-- the two words of a definition: its first node is one of the dag's, and it has four formals at most
abbrev pub root_in_dag : (nodes : ℕ) → List ℕ → Bool
root_in_dag nodes ws = ltb (get_or ws 0 0) nodes and leb (get_or ws 1 0) 4
