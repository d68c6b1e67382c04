-- The middle symbol begins by the byte, or does not, and so do those on its side.
use Rattle.std.proofs.Common.{◌+◌, ◌-◌, ◌/◌, ◌<◌, length, get_or, sym, ◌∙◌, arith}
use Rattle.type_layout.specs.Descriptions.{area_of}
use Rattle.symbol_table.specs.Rows.{symbol_of_row, symbols_of_rows}
use Rattle.symbol_table.proofs.RowsRead.{stands_at}
use Rattle.symbol_table.proofs.PlaceSearch.{halved_up, halved_down}
use Rattle.symbol_table.proofs.tiling.begun.Goals as goal

pub loop-low-preserved-then-begins_by : goal.loop-low-preserved-then-begins_by
loop-low-preserved-then-begins_by c =
    let rows = c.args.rows.now in let numbers = c.args.numbers.now in
    let low = c.loop-low.low in let high = c.loop-low.high in
    let middle = low + (high - low) / 2 in
    let test = c.loop-low-test.true in
    let within = c.loop-low.invariant.within in
    let row = c.index-rows-numbers.result in
    let below : middle < length numbers = omega (arith, test, within) in
    let stands = stands_at rows numbers middle row c.requires.each below c.index-rows-numbers.is in
    halved_up (symbols_of_rows rows) numbers (area_of c.args.area) c.args.«at» c.requires low high middle
    (get_or numbers middle 0) (symbol_of_row row) c.loop-low.invariant
    (omega arith) (omega arith) stands.listed stands.there (sym c.begins_by.ensures ∙ c.if-begins_by.true)

pub loop-low-preserved : goal.loop-low-preserved
loop-low-preserved c =
    let rows = c.args.rows.now in let numbers = c.args.numbers.now in
    let low = c.loop-low.low in let high = c.loop-low.high in
    let middle = low + (high - low) / 2 in
    let test = c.loop-low-test.true in
    let within = c.loop-low.invariant.within in
    let row = c.index-rows-numbers.result in
    let below : middle < length numbers = omega (arith, test, within) in
    let stands = stands_at rows numbers middle row c.requires.each below c.index-rows-numbers.is in
    halved_down (symbols_of_rows rows) numbers (area_of c.args.area) c.args.«at» c.requires low high middle
    (get_or numbers middle 0) (symbol_of_row row) c.loop-low.invariant
    (omega arith) (omega arith) stands.listed stands.there (sym c.begins_by.ensures ∙ c.if-begins_by.false)

pub returns : goal.returns
returns c =
    let within = c.loop-low.invariant.within in
    let ordered = c.loop-low.invariant.ordered in
    let test = c.loop-low-test.false in
    record {
      within = omega (arith, within, ordered);
      before = c.loop-low.invariant.before;
      behind = λ i m s least gm sm. c.loop-low.invariant.behind i m s (omega (arith, test, least)) gm sm;
    }
