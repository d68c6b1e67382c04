-- Those that have begun by the last byte, less those that have ended by the first.
use Rattle.std.proofs.Common.{◌≡◌, ◌<◌, arith}
use Rattle.type_layout.specs.Descriptions.{area_of}
use Rattle.symbol_table.specs.Rows.{symbols_of_rows}
use Rattle.symbol_table.specs.Ranges.{AreInRange}
use Rattle.symbol_table.proofs.RangeSearch.{none_in_range, in_range, range_ordered}
use Rattle.symbol_table.proofs.ranges.numbers_in.Goals as goal

pub returns-then-len-eq0 : goal.returns-then-len-eq0
returns-then-len-eq0 c = rw c.if-len-eq0.true (none_in_range (symbols_of_rows c.args.rows.now) (area_of c.args.area) c.args.«at»)

-- what has begun by the last byte is no less than what has ended by the first
pub slice_bounds-result-count : goal.slice_bounds-result-count
slice_bounds-result-count c =
    let ordered = range_ordered (symbols_of_rows c.args.rows.now) c.args.numbers.now
    (area_of c.args.area) c.args.«at» c.args.len c.requires.order c.requires.bytes
    (omega arith) c.ended-first.result c.begun-until.result c.ended-first.ensures c.begun-until.ensures in
    omega (arith, ordered)

pub slice_bounds-result-start : goal.slice_bounds-result-start
slice_bounds-result-start c =
    let ordered = range_ordered (symbols_of_rows c.args.rows.now) c.args.numbers.now
    (area_of c.args.area) c.args.«at» c.args.len c.requires.order c.requires.bytes
    (omega arith) c.ended-first.result c.begun-until.result c.ended-first.ensures c.begun-until.ensures in
    omega (arith, ordered)

pub returns : goal.returns
returns c =
    in_range (symbols_of_rows c.args.rows.now) c.args.numbers.now (area_of c.args.area) c.args.«at» c.args.len c.requires.order c.requires.bytes
    (omega arith) c.ended-first.result c.begun-until.result c.ended-first.ensures c.begun-until.ensures
