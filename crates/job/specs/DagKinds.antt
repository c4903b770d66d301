-- The kinds of nodes, by their words. Assumes nothing: these are definitions.
use Rattle.std.specs.Prelude.{Option, Some, None, [], ◌∷◌, ℕ, get_or}
use Rattle.job.specs.declared.dag.NodeKind.{NodeKind}
use Rattle.job.specs.declared.dag.NodeKind.TheVariants as kinds

-- the word of a node's kind
unfoldable pub word_of_kind : NodeKind → ℕ
word_of_kind kinds.Stop = 0
word_of_kind kinds.Site = 1
word_of_kind kinds.Call = 2
word_of_kind kinds.Fork = 3
word_of_kind kinds.Assign = 4
word_of_kind kinds.Remove = 5
word_of_kind kinds.Where = 6
word_of_kind kinds.Choke = 7
word_of_kind kinds.Return = 8
word_of_kind kinds.Publish = 9

-- the kind that has the word
abbrev pub kind_of : ℕ → Option NodeKind
kind_of k =
    get_or
    (Some kinds.Stop
    ∷ Some kinds.Site
    ∷ Some kinds.Call
    ∷ Some kinds.Fork
    ∷ Some kinds.Assign
    ∷ Some kinds.Remove
    ∷ Some kinds.Where
    ∷ Some kinds.Choke
    ∷ Some kinds.Return
    ∷ Some kinds.Publish
    ∷ [])
    k None
