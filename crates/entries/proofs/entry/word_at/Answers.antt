-- `entry::word_at` meets its contract: its four bytes lie within the bytes, and their number is the lowest byte first. Assumes nothing.
use Rattle.entries.proofs.EntryWord.{number_at}
use Rattle.entries.proofs.entry.word_at.Goals as goal

pub returns : goal.returns
returns c = search number_at
