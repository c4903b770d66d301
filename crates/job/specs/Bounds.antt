-- The paper's numbers for tables and dags, each named once. Assumes nothing: these are definitions.
use Rattle.std.specs.Prelude.{ℕ}

-- "counts are at most 4": parameters of a call, formals of a definition
abbrev pub parameter_limit : ℕ
parameter_limit = 4

-- "at most 8 are in scope"
abbrev pub scope_limit : ℕ
scope_limit = 8

-- "depth ends at 24"
abbrev pub depth_limit : ℕ
depth_limit = 24

-- "D is 0 to 32"
abbrev pub definition_limit : ℕ
definition_limit = 32

-- "N is 1 to 512"
abbrev pub entry_limit : ℕ
entry_limit = 512

-- "at most 1,022 nodes"
abbrev pub node_limit : ℕ
node_limit = 1022
