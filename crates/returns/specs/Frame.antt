-- A frame whose token has taken its links. Assumes nothing: these are definitions.
use Rattle.std.specs.Prelude.{◌≡◌, Bool, true, false, List, ℕ, set}
use Rattle.model.specs.Machine.Blank.{blank_token, token_at}
use Rattle.model.specs.Machine.Update.{put}
use Rattle.model.specs.declared.record.Machine.{Machine}
use Rattle.record.specs.Holds.{Holds}
use Rattle.acts.specs.SharedFrames.{NamesAsCaller}
use Rattle.acts.specs.Links.{BindsNoCell}

-- r says whether any token does
pub record IsCaller (m : Machine) (f : ℕ) (r : Bool) : Type 0 where
  pub some : r ≡ true → (i : ℕ) × NamesAsCaller m f i
  pub none : r ≡ false → (i : ℕ) → NamesAsCaller m f i → ⊥

-- the token at p binds no cell, and is in the cell of the one at f
pub record SameCells (m : Machine) (p f : ℕ) : Type 0 where
  pub cell : (token_at m.tokens p).cell ≡ (token_at m.tokens f).cell
  pub binds : BindsNoCell (token_at m.tokens p).binds

-- a frame that a token names stays, and so do the marks; another is blank, and not marked
pub data AfterRelease (o : Machine) (f : ℕ) (ws : List ℕ) (used marks : List Bool) : Type 0 where
  shared : (i : ℕ) → NamesAsCaller o f i → Holds ws o → marks ≡ used → AfterRelease o f ws used marks
  alone : ((i : ℕ) → NamesAsCaller o f i → ⊥) → Holds ws (put f blank_token o) → marks ≡ set used f false → AfterRelease o f ws used marks
