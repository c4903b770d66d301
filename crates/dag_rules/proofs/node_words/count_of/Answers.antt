use mathlib.Core.Logic.{inl, inr}
use Rattle.std.proofs.Common.{◌≡◌, ℕ, refl, ap, ap₂, ◌∙◌}
use Rattle.job.specs.declared.dag.NodeKind.{NodeKind}
use Rattle.job.specs.declared.dag.NodeKind.TheVariants as kinds
use Rattle.job.specs.DagKinds.{word_of_kind}
use Rattle.dag_rules.specs.NodeWords.{count_of}
use Rattle.dag_rules.proofs.node_words.count_of.Goals as goal

other : (k : NodeKind) (c : ℕ) → (k ≡ kinds.Site → ⊥) → (k ≡ kinds.Call → ⊥) → 0 ≡ count_of (word_of_kind k) c
unfolding count_of word_of_kind
other kinds.Stop c f g = refl
other kinds.Site c f g = absurd (f refl)
other kinds.Call c f g = absurd (g refl)
other kinds.Fork c f g = refl
other kinds.Assign c f g = refl
other kinds.Remove c f g = refl
other kinds.Where c f g = refl
other kinds.Choke c f g = refl
other kinds.Return c f g = refl
other kinds.Publish c f g = refl

pub returns-in-Site : goal.returns-in-Site
unfolding count_of word_of_kind
returns-in-Site c = elim c.in-Site.is [ inl e ↦ rw e | inr e ↦ rw e ]

pub returns-in_default : goal.returns-in_default
returns-in_default c = other _ _ c.in_default.not-Site c.in_default.not-Call
