-- `word::put_feed` meets its contract: the line feed is one byte. Assumes nothing.
use Rattle.job.specs.Decimal.{ascii}
use Rattle.lines.specs.WordBytes.{line_feed}
use Rattle.decimal.proofs.Written.{one_written}
use Rattle.lines.proofs.word.put_feed.Goals as goal

pub returns : goal.returns
unfolding ascii line_feed
returns c = one_written _ _ 10
