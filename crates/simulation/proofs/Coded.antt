-- What a token does at a site call or a definition call, where the calculus rewrites that call: the same, with the same label.
-- Both sides read the same values. Assumes nothing.
use mathlib.Core.Path.{◌≡◌, refl, ◌∙◌, ap}
use mathlib.Core.Bool.{Bool, true, false}
use mathlib.Core.List.{List, [], map}
use mathlib.Core.Option.{some}
use Prim.Native.Nat.{ℕ, ◌<◌, ◌≤◌}
use native.Mathlib.Omega.{arith}
use lib.Dec.{leb}
use lib.IntN.{ℤ}
use Rattle.job.specs.Site.{BuiltinReply, is_builtin, is_outside, builtin}
use Rattle.calculus.specs.Event.{Label, silently}
use Rattle.calculus.specs.Expression.{Param, Exp, Substitution, subst_param, substitute, formals}
use Rattle.calculus.specs.Rewriting.{param_values, silence, calling, Rewrites}
use Rattle.job.proofs.Test.{and_left, leb-le, le-not-ltb}
use Rattle.simulation.proofs.AbstractMachine.{Node, Program, Binding, Frame, frame, Place, at, running, Store, acts, act, asks_site}
use Rattle.simulation.proofs.AbstractMachine.{callers, calls_site, replies, falls_due}
use Rattle.simulation.proofs.Cells.{grows_all}
use Rattle.simulation.proofs.Binding.{Env, Unset, env-formals, values_agree}
use Rattle.simulation.proofs.Relation.{Code, Tail, Leads, returns, Rep, tail-leads, rep-due}
use Rattle.simulation.proofs.Outcome.{by, once, Outcome, makes, act-at}

-- e is laid out from node n toward a node of its own
pub record Laid (G : Program) (last : Node) (e : Exp) (n : ℕ) : Type 0 where
  pub sink : ℕ
  pub laid : Code G e n sink
  pub at-sink : G.node sink ≡ last

-- each definition's body is laid out toward return; and what is said to be a tail is one
pub record Bodies (G : Program) : Type 0 where
  pub laid : (d : ℕ) → d < G.count → Laid G Node.return (G.body d) (G.entry d)
  pub tails : (k : ℕ) → G.tail k ≡ true → Tail G k

-- where a callee's values go: to the frame that was kept, or, of a tail call, to where the caller's own values go
callee-leads : {G : Program} {s k : ℕ} {A B : List Binding} {F : List Frame} {U : List ℕ} {K : Place} (b : Bool)
    → Bodies G → G.node s ≡ Node.return → G.tail k ≡ b → Leads G (at k B F U) K → Leads G (at s A (callers b (frame k B U) F) U) K
callee-leads {G} {k = k} true bs s e l = tail-leads G s (bs.tails k e) l
callee-leads false bs s e l = returns s l

pub outside-not-builtin : (s : ℕ) → is_outside s ≡ true → is_builtin s ≡ false
unfolding is_outside is_builtin
outside-not-builtin s e =
    let l : 16 ≤ s = leb-le 16 s (and_left (leb 16 s) (leb s 1023) e) in
    le-not-ltb s 8 (omega arith)

module _ (G : Program) (now : ℕ) (σ : Store) (new h : ℕ) where
  module _ {Γ U : List ℕ} {K : Place} {n k : ℕ} {ps : List Param} {B : List Binding} {F : List Frame} {ρ : Substitution}
      (w : ℤ) (env : Env σ Γ ρ B) (l : Leads G (at k B F U) K) where
    site-effect : {s : ℕ} {vs : List ℤ} → Unset σ Γ → G.node n ≡ Node.site s ps k → param_values (map (subst_param ρ) ps) ≡ some vs
        → act G now σ new h (at n B F U) w ≡ calls_site now h s vs (is_builtin s) (at k B F U)
    site-effect {s} u e p =
        act-at G now σ new h w refl e ∙ ap (λ o. asks_site now h s (running (at n B F U) w) o (at k B F U)) (values_agree u env ps ∙ p)

    builtin-effect : {s : ℕ} {vs : List ℤ} {r : BuiltinReply}
        → Unset σ Γ → G.node n ≡ Node.site s ps k → param_values (map (subst_param ρ) ps) ≡ some vs → is_builtin s ≡ true → builtin s vs ≡ r
        → act G now σ new h (at n B F U) w ≡ replies now r (at k B F U)
    builtin-effect {s} {vs} u e p b q =
        site-effect u e p ∙ ap (λ x. calls_site now h s vs x (at k B F U)) b ∙ ap (λ x. replies now x (at k B F U)) q

    pub site-outcome : {C : List ℕ} {s : ℕ} {a : Label} {e' : Exp} → Unset σ Γ → G.node n ≡ Node.site s ps k
        → Rewrites G.body h now (Exp.site s (map (subst_param ρ) ps)) a e'
        → Outcome G now σ new h Γ (Exp.site s (map (subst_param ρ) ps)) K [] [] C (running (at n B F U) w) acts a e'
    site-outcome u e (Rewrites.builtin-gives p b q) =
        makes (builtin-effect u e p b q) silence (once (by (Rewrites.builtin-gives p b q))) (Rep.hand l) grows_all
    site-outcome u e (Rewrites.builtin-silent p b q) =
        makes (builtin-effect u e p b q) silence (once (by (Rewrites.builtin-silent p b q))) Rep.stop grows_all
    site-outcome u e (Rewrites.builtin-later {d = d} p b q f) =
        makes (builtin-effect u e p b q ∙ ap (λ x. falls_due now x (at k B F U)) f)
        silence (once (by (Rewrites.builtin-later p b q f))) (rep-due G d l) grows_all
    site-outcome u e (Rewrites.builtin-never p b q f) =
        makes (builtin-effect u e p b q ∙ ap (λ x. falls_due now x (at k B F U)) f)
        silence (once (by (Rewrites.builtin-never p b q f))) Rep.stop grows_all
    site-outcome {s = s} u e (Rewrites.outside-call {vs = vs} p o) =
        makes
        (site-effect u e p ∙ ap (λ x. calls_site now h s vs x (at k B F U)) (outside-not-builtin s o))
        calling (once (by (Rewrites.outside-call p o))) (Rep.pending l) grows_all

    pub call-outcome : {C : List ℕ} {d : ℕ} → Bodies G → d < G.count → G.node n ≡ Node.call d ps k
        → Outcome G now σ new h Γ (Exp.call d (map (subst_param ρ) ps)) K [] [] C (running (at n B F U) w) acts
        silently (substitute (formals (map (subst_param ρ) ps)) (G.body d))
    call-outcome {d = d} bs there e =
        let b = bs.laid d there in
        makes (act-at G now σ new h w refl e) silence (once (by Rewrites.entered))
        (Rep.code (formals (map (subst_param ρ) ps)) b.laid (env-formals env ps)
        (callee-leads (G.tail k) bs b.at-sink refl l)) grows_all
