-- Where a join is entered. Assumes nothing: these are definitions.
use Rattle.std.specs.Prelude.{ℕ}
use Rattle.job.specs.Syntax.{Join, par, seq, prune}

-- n is its first node, l the root of its f
unfoldable pub join_root : Join → (n l : ℕ) → ℕ
join_root par n l = n
join_root (seq x) n l = l
join_root (prune x) n l = n
