-- `Line::put` meets its contract, line by line: its parts are written one behind the other. Assumes nothing.
use borrow.Author.Rules.{rules}
use native.Mathlib.Omega.{arith}
use mathlib.Core.Path.{refl}
use mathlib.Core.List.{[]}
use mir.Facts.{to_z-of_z}
use mir.Syntax.{w32}
use mir.Val.{SFits}
use Rattle.job.specs.Decimal.{ascii}
use Rattle.model.specs.Output.Line.{line_of, text_of}
use Rattle.decimal.proofs.Written.{then-written, written_as}
use Rattle.lines.specs.LineTold.{told}
use Rattle.lines.specs.WordBytes.{spaced, all_spaced, line_feed}
use Rattle.lines.proofs.LineParts.{two-spaced}
use Rattle.lines.proofs.line.Line.put.Goals as goal

pub put_value_list-to-requires : goal.put_value_list-to-requires
put_value_list-to-requires c = let few = rw c.in-Call.is at c.requires.1 in search rules

pub returns-in-Call : goal.returns-in-Call
unfolding ascii text_of told
returns-in-Call c = let values = then-written c.put_value_list-to.ensures c.put_feed.ensures in
    let site = then-written c.put_number-to-in-Call.ensures values in
    let handle = then-written c.put_number-to.ensures site in
    rw c.in-Call.is (written_as (then-written c.put_word-to.ensures handle) (two-spaced (ascii "call") _ _ _) (omega arith))

pub returns-in-Publish : goal.returns-in-Publish
unfolding ascii line_of text_of told spaced line_feed
returns-in-Publish c = let fits : SFits w32 c.in-Publish.v = search rules in
    let value = rw (to_z-of_z fits) at c.put_value-to.ensures in
    let line = then-written c.put_word-to-in-Publish.ensures (then-written value c.put_feed-in-Publish.ensures) in
    rw c.in-Publish.is (written_as line refl (omega arith))

pub returns-in-Refused : goal.returns-in-Refused
unfolding ascii text_of told
returns-in-Refused c = rw c.in-Refused.is c.put_counted.ensures

pub returns-in-Table : goal.returns-in-Table
unfolding ascii text_of told all_spaced
returns-in-Table c = let last = then-written c.put_number-to-in-Table-2.ensures c.put_feed-in-Table.ensures in
    let numbers = then-written c.put_number-to-in-Table.ensures last in
    let line = then-written c.put_word-to-in-Table.ensures numbers in
    rw c.in-Table.is (written_as line (two-spaced (ascii "table") _ _ []) (omega arith))

pub returns-in-End : goal.returns-in-End
unfolding ascii text_of told
returns-in-End c = rw c.in-End.is c.put_counted-in-End.ensures

pub returns-in-Limit : goal.returns-in-Limit
unfolding ascii line_of text_of told
returns-in-Limit c = rw c.in-Limit.is (written_as c.put_word.ensures refl (omega arith))

pub returns-in-Short : goal.returns-in-Short
unfolding ascii line_of text_of told
returns-in-Short c = rw c.in-Short.is (written_as c.put_word-in-Short.ensures refl (omega arith))

pub returns-in-Long : goal.returns-in-Long
unfolding ascii line_of text_of told
returns-in-Long c = rw c.in-Long.is (written_as c.put_word-in-Long.ensures refl (omega arith))
