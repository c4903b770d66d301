-- What a window shows after a call. Assumes nothing: this is a definition.
use Rattle.std.specs.Prelude.{◌≡◌, List, ℕ}
use Rattle.lines.specs.Shown.{ShowsBytes}
use Rattle.lines.specs.declared.shown.Window.{Window}

-- a window that shows so many bytes more: its output is the same reference, of which it shows the part from the same byte on
pub record ShowsMore (before after : Window) (bytes : List ℕ) : Type 0 where
  pub same_reference : after.output.ghost_name ≡ before.output.ghost_name
  pub from : after.from ≡ before.from
  pub shows_bytes : ShowsBytes before.output.now before.from before.total bytes after.output.now after.total
