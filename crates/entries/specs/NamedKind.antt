-- The kinds of the code, and those of the table of kinds. Assumes nothing: these are definitions.
use Rattle.std.specs.Prelude.{ℕ, Result, Ok, Err}
use Rattle.job.specs.Syntax.{Join, par, seq, prune}
use Rattle.job.specs.Entry.{EntryKind}
use Rattle.entries.specs.declared.table_kind.JoinKind.{JoinKind}
use Rattle.entries.specs.declared.table_kind.JoinKind.TheVariants as joins
use Rattle.entries.specs.declared.table_kind.TableKind.{TableKind}
use Rattle.entries.specs.declared.table_kind.TableKind.TheVariants as kinds
use Rattle.entries.specs.declared.refusal.TableRefusal.{TableRefusal}
use Rattle.entries.specs.declared.refusal.TableRefusal.TheVariants as refusals

-- the code's kind for one of the table's; 3, "kind unknown", for none
unfoldable pub kind_named : EntryKind → Result TableKind TableRefusal
kind_named EntryKind.stop = Ok kinds.Stop
kind_named EntryKind.site = Ok kinds.Site
kind_named EntryKind.call = Ok kinds.Call
kind_named EntryKind.par = Ok (kinds.Join joins.Par)
kind_named EntryKind.seq = Ok (kinds.Join joins.Seq)
kind_named EntryKind.prune = Ok (kinds.Join joins.Prune)
kind_named EntryKind.definition = Ok kinds.Definition
kind_named EntryKind.variable = Ok kinds.Variable
kind_named EntryKind.constant = Ok kinds.Constant
kind_named EntryKind.unknown = Err refusals.Kind

-- the table's kind for one of the code's
unfoldable pub join_meant : JoinKind → EntryKind
join_meant joins.Par = EntryKind.par
join_meant joins.Seq = EntryKind.seq
join_meant joins.Prune = EntryKind.prune

unfoldable pub kind_meant : TableKind → EntryKind
kind_meant kinds.Stop = EntryKind.stop
kind_meant kinds.Site = EntryKind.site
kind_meant kinds.Call = EntryKind.call
kind_meant (kinds.Join j) = join_meant j
kind_meant kinds.Definition = EntryKind.definition
kind_meant kinds.Variable = EntryKind.variable
kind_meant kinds.Constant = EntryKind.constant

-- the join of this kind whose variable has this number
unfoldable pub join_of : JoinKind → ℕ → Join
join_of joins.Par x = par
join_of joins.Seq x = seq x
join_of joins.Prune x = prune x
