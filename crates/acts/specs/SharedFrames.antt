-- Which frames may have more than one callee, as marks: a Bool for each place. Assumes nothing: these are definitions.
use Rattle.std.specs.Prelude.{◌≡◌, Bool, true, false, List, ℕ, get_or, set, Some, None}
use Rattle.model.specs.Machine.Blank.{token_at}
use Rattle.model.specs.declared.record.Machine.{Machine}
use Rattle.model.specs.declared.reply.Outcome.{Outcome}
use Rattle.model.specs.declared.reply.Report.{Report}
use Rattle.model.specs.Machine.Held.{Place}
use Rattle.acts.specs.Acting.{Gives, CallersAreFrames}
use Rattle.reach.specs.declared.used.Marks.{Marks}

-- the token at i names the one at f as its caller
abbrev pub NamesAsCaller : Machine → (f i : ℕ) → Type 0
NamesAsCaller m f i = (token_at m.tokens i).caller ≡ Some f

-- a place that is not marked has one callee at most
abbrev pub OneCallee : List Bool → Machine → Type 0
OneCallee shared m = (f i j : ℕ) → get_or shared f true ≡ false → NamesAsCaller m f i → NamesAsCaller m f j → i ≡ j

-- no other token has the caller of the one at p
abbrev pub Alone : Machine → (p : ℕ) → Type 0
Alone m p = (f i : ℕ) → NamesAsCaller m f p → NamesAsCaller m f i → i ≡ p

-- one more token names this caller
unfoldable pub caller_shared : Place → List Bool → List Bool
caller_shared None shared = shared
caller_shared (Some f) shared = set shared f true

-- a return copies the frame's caller: where the frame f may have another callee it may stay, and then its caller has one more
unfoldable pub return_shared : Machine → (f : ℕ) → List Bool → List Bool
return_shared m f shared = elim (get_or shared f true) [ true ↦ caller_shared (token_at m.tokens f).caller shared | false ↦ shared ]

-- a step's report, words and marks are those of an outcome; and so are the marks of what may have more than one callee, where callers are
-- frames
pub record Stepped (o : Outcome) (m : Machine) (ws : List ℕ) (used : Marks) (shared : List Bool) (r : Report) : Type 0 where
  pub gives : Gives o m ws used r
  pub callees : CallersAreFrames m → OneCallee shared o.machine
