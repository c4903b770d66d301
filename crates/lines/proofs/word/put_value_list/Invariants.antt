use Rattle.std.proofs.Common.{◌*◌, map, take}
use Rattle.job.specs.Decimal.{signed_decimal}
use Rattle.decimal.specs.Written.{Written}
use Rattle.lines.specs.WordBytes.{all_spaced}
use Rattle.lines.proofs.word.put_value_list.Given as goal

-- the values passed are written
abbrev pub invariant-loop-v : goal.invariant-loop-v
invariant-loop-v l = Written (12 * l.v-index) l.initial.buffer l.at (all_spaced (map signed_decimal (take l.v-index l.values))) l.buffer l.to
