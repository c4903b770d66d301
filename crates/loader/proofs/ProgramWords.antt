-- The words of some definitions and of one more: its rows stand behind theirs, and so do its two words of the head. The construction is the
-- definitions' nodes, then the goal's. Assumes nothing.
use Prim.Native.Nat.{ℕ, suc, ◌+◌, ◌*◌, ◌<◌}
use mathlib.Core.Path.{◌≡◌, refl, sym, ap, ◌∙◌}
use mathlib.Core.List.{List, [], ◌∷◌, ◌++◌, append_assoc, append-nil}
use native.Mathlib.Nat.{add-zero}
use native.Mathlib.Omega.{arith}
use lib.ListN.{length, length-append}
use lib.Seq.{sets}
use Rattle.job.specs.Syntax.{Exp, Definition}
use Rattle.job.specs.Node.{Node, Body, Dag}
use Rattle.job.specs.Construct.{node_count, root, nodes_of, construct_from}
use Rattle.job.specs.Words.{head_words, param_words, node_words, rows_of_nodes, body_words, written}
use Rattle.job.proofs.Words.{body-words-length}
use Rattle.job.proofs.Stores.{sets-append, sets-swap}
use Rattle.job.proofs.NodeRows.{rows_append, rows-length}
use Rattle.reader.specs.Definition.{definition_nodes, definition_list_nodes}
use Rattle.compiler.specs.declared.body.SinkKind.TheVariants as sinks
use Rattle.compiler.specs.Body.{sink_of}
use Rattle.loader.specs.ProgramStored.{nodes_before, bodies_before, words_before}

-- one list of definitions behind another
pub definition-list-nodes-append : (a b : List Definition) → definition_list_nodes (a ++ b) ≡ definition_list_nodes a +
    definition_list_nodes b
unfolding definition_list_nodes
definition-list-nodes-append [] b = omega arith
definition-list-nodes-append (d ∷ a) b = omega (arith, definition-list-nodes-append a b)

nodes-append : (n : ℕ) (a b : List Definition) → nodes_before n (a ++ b) ≡ nodes_before n a ++ nodes_before (n + definition_list_nodes a) b
unfolding nodes_before definition_list_nodes
nodes-append n [] b = rw add-zero
nodes-append n (d ∷ a) b =
    let z : n + definition_nodes d + definition_list_nodes a ≡ n + (definition_nodes d + definition_list_nodes a) = omega arith in
    let body : List Node = nodes_of d.body n (n + node_count d.body) ++ (sink_of sinks.Return ∷ []) in
    ap (λ ns. body ++ ns) (nodes-append (n + definition_nodes d) a b ∙ rw z) ∙ sym (append_assoc body _ _)

bodies-append : (n : ℕ) (a b : List Definition) → bodies_before n (a ++ b) ≡ bodies_before n a ++ bodies_before (n + definition_list_nodes
    a) b
unfolding bodies_before definition_list_nodes
bodies-append n [] b = rw add-zero
bodies-append n (d ∷ a) b =
    let z : n + definition_nodes d + definition_list_nodes a ≡ n + (definition_nodes d + definition_list_nodes a) = omega arith in
    rw (bodies-append (n + definition_nodes d) a b, z)

words_append : (a b : List Body) → body_words (a ++ b) ≡ body_words a ++ body_words b
unfolding body_words
words_append [] b = refl
words_append (x ∷ a) b = rw (words_append a b)

-- how many words they are
pub bodies-length : (n : ℕ) (ds : List Definition) → length (bodies_before n ds) ≡ length ds
unfolding bodies_before
bodies-length n [] = refl
bodies-length n (d ∷ ds) = ap suc (bodies-length (n + definition_nodes d) ds)

return-length : length (node_words (sink_of sinks.Return)) ≡ 12
unfolding sink_of node_words param_words
return-length = refl

pub before-length : (n : ℕ) (ds : List Definition) → length (rows_of_nodes (nodes_before n ds)) ≡ 12 * definition_list_nodes ds
unfolding nodes_before definition_list_nodes rows_of_nodes
before-length n [] = refl
before-length n (d ∷ ds) =
    simp (rows_append, length-append)
    (omega (arith, rows-length d.body n (n + node_count d.body), return-length, before-length (n + definition_nodes d) ds))

-- rows stored behind those of definitions
behind : (done : List Definition) (ws l l1 X : List ℕ) (n : ℕ) → n ≡ definition_list_nodes done → l ≡ words_before done ws
    → l1 ≡ sets l (head_words + 12 * n) X
    → l1 ≡ sets (sets ws 3 (body_words (bodies_before 0 done))) head_words (rows_of_nodes (nodes_before 0 done) ++ X)
unfolding words_before
behind done ws l l1 X n placed e e1 =
    let Y : List ℕ = sets ws 3 (body_words (bodies_before 0 done)) in
    let R : List ℕ = rows_of_nodes (nodes_before 0 done) in
    let r : head_words + 12 * n ≡ head_words + length R = omega (arith, before-length 0 done) in
    e1 ∙ rw (e, r) (sym (sets-append Y head_words R X))

-- the rows and the head's words of one definition, stored behind those of others
pub one_more : (done : List Definition) (d : Definition) (ws l l1 l2 : List ℕ) (i n : ℕ) → length done ≡ i → n ≡ definition_list_nodes done
    → i < 32
    → l ≡ words_before done ws
    → l1 ≡ sets l (head_words + 12 * n) (rows_of_nodes (nodes_of d.body n (n + node_count d.body) ++ (sink_of sinks.Return ∷ [])))
    → l2 ≡ sets l1 (3 + 2 * i) (root d.body n ∷ d.formals ∷ [])
    → l2 ≡ words_before (done ++ (d ∷ [])) ws
unfolding words_before nodes_before bodies_before body_words
one_more done d ws l l1 l2 i n many placed few e e1 e2 =
    let B : List ℕ = body_words (bodies_before 0 done) in
    let R : List ℕ = rows_of_nodes (nodes_before 0 done) in
    let P : List ℕ = root d.body n ∷ d.formals ∷ [] in
    let X : List ℕ = rows_of_nodes (nodes_of d.body n (n + node_count d.body) ++ (sink_of sinks.Return ∷ [])) in
    let Y : List ℕ = sets ws 3 B in
    let b : 3 + 2 * i ≡ 3 + length B = omega (arith, body-words-length (bodies_before 0 done), bodies-length 0 done) in
    let z : 0 + definition_list_nodes done ≡ n = omega arith in
    let rows : rows_of_nodes (nodes_before 0 (done ++ (d ∷ []))) ≡ R ++ X =
    ap rows_of_nodes (nodes-append 0 done (d ∷ [])) ∙ rows_append (nodes_before 0 done) _ ∙ ap (λ w. R ++ w) (rw (z, append-nil)) in
    let words : body_words (bodies_before 0 (done ++ (d ∷ []))) ≡ B ++ P =
    ap body_words (bodies-append 0 done (d ∷ [])) ∙ words_append (bodies_before 0 done) _ ∙ ap (λ w. B ++ w) (rw z) in
    let a : l1 ≡ sets Y head_words (R ++ X) = behind done ws l l1 X n placed e e1 in
    let c : l2 ≡ sets (sets Y (3 + 2 * i) P) head_words (R ++ X) = e2 ∙ rw a (sets-swap Y (3 + 2 * i) head_words P (R ++ X) (omega arith))
    in
    let f : sets Y (3 + 2 * i) P ≡ sets ws 3 (B ++ P) = rw b (sym (sets-append ws 3 B P)) in
    c ∙ rw (f, words, rows)

-- the construction, definitions first: m is the goal's first node
dag : List Node → List Body → ℕ → Dag
dag ns bs g = record { nodes = ns; bodies = bs; goal = g }

split : (n m : ℕ) → List Definition → Exp → Dag
split n m ds g = dag (nodes_before n ds ++ (nodes_of g m (m + node_count g) ++ (sink_of sinks.Publish ∷ []))) (bodies_before n ds) (root g m)

ahead : ℕ → Definition → Dag → Dag
ahead n d rest =
    dag (nodes_of d.body n (n + node_count d.body) ++ (Node.return ∷ rest.nodes))
    (record { root = root d.body n; formals = d.formals } ∷ rest.bodies) rest.goal

regroup : (a b c : List Node) (x : Node) → a ++ (x ∷ (b ++ c)) ≡ ((a ++ (x ∷ [])) ++ b) ++ c
regroup a b c x = simp append_assoc

construct-split : (n m : ℕ) (ds : List Definition) (g : Exp) → m ≡ n + definition_list_nodes ds → construct_from n ds g ≡ split n m ds g
unfolding construct_from definition_list_nodes nodes_before bodies_before sink_of split ahead dag
construct-split n m [] g e = let z : n ≡ m = omega arith in rw z
construct-split n m (d ∷ ds) g e =
    let z : suc (n + node_count d.body) ≡ n + definition_nodes d = omega arith in
    let later = n + definition_nodes d in
    ap (ahead n d) (construct-split (suc (n + node_count d.body)) m ds g (omega arith))
    ∙ ap (λ k. ahead n d (split k m ds g)) z
    ∙ ap (λ ns. dag ns (record { root = root d.body n; formals = d.formals } ∷ bodies_before later ds) (root g m))
    (regroup (nodes_of d.body n (n + node_count d.body)) (nodes_before later ds)
    (nodes_of g m (m + node_count g) ++ (sink_of sinks.Publish ∷ [])) Node.return)

-- the goal's rows behind the definitions', and the head's first three words: the dag is written
pub all_words : (ds : List Definition) (g : Exp) (ws l l1 l2 : List ℕ) (m a b c : ℕ) → m ≡ definition_list_nodes ds → l ≡ words_before ds ws
    → l1 ≡ sets l (head_words + 12 * m) (rows_of_nodes (nodes_of g m (m + node_count g) ++ (sink_of sinks.Publish ∷ [])))
    → l2 ≡ sets l1 0 (a ∷ b ∷ c ∷ []) → a ≡ length (construct_from 0 ds g).nodes → b ≡ length ds → c ≡ root g m
    → l2 ≡ written (construct_from 0 ds g) ws
unfolding written split dag
all_words ds g ws l l1 l2 m a b c placed e e1 e2 ea eb ec =
    let B : List ℕ = body_words (bodies_before 0 ds) in
    let R : List ℕ = rows_of_nodes (nodes_before 0 ds) in
    let X : List ℕ = rows_of_nodes (nodes_of g m (m + node_count g) ++ (sink_of sinks.Publish ∷ [])) in
    let H : List ℕ = a ∷ b ∷ c ∷ [] in
    let Y : List ℕ = sets ws 3 B in
    let s : construct_from 0 ds g ≡ split 0 m ds g = construct-split 0 m ds g (omega arith) in
    let f : l1 ≡ sets Y head_words (R ++ X) = behind ds ws l l1 X m placed e e1 in
    let h : l2 ≡ sets (sets Y 0 H) head_words (R ++ X) = e2 ∙ rw f (sets-swap Y 0 head_words H (R ++ X) (omega arith)) in
    let i : sets Y 0 H ≡ sets ws 0 (H ++ B) = sets-swap ws 0 3 H B (omega arith) ∙ sym (sets-append ws 0 H B) in
    let rows : rows_of_nodes (construct_from 0 ds g).nodes ≡ R ++ X = ap (λ (d : Dag). rows_of_nodes d.nodes) s
    ∙ rows_append (nodes_before 0 ds) _ in
    let bodies : (construct_from 0 ds g).bodies ≡ bodies_before 0 ds = ap (λ (d : Dag). d.bodies) s in
    let goal : (construct_from 0 ds g).goal ≡ c = ap (λ (d : Dag). d.goal) s ∙ sym ec in
    let count : length (construct_from 0 ds g).bodies ≡ b = ap length bodies ∙ bodies-length 0 ds ∙ sym eb in
    h ∙ ap (λ w. sets w head_words (R ++ X)) i ∙ sym (rw (rows, count, goal, bodies, ← ea))
