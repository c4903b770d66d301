-- `word::put_word` meets its contract: the word stands in the place of as many bytes. Assumes nothing.
use native.Mathlib.Omega.{arith}
use Rattle.lines.proofs.WordParts.{word-placed}
use Rattle.lines.proofs.word.put_word.Goals as goal

pub returns : goal.returns
returns c =
    record {
      stored = word-placed _ _ _ _ c.copy_from_slice.ensures.after c.requires;
      behind = omega arith;
      few = omega arith;
    }
