-- The first symbol that begins behind the byte is of the area, or none is.
use Rattle.std.proofs.Common.{◌<◌, length, get_or, sym, ◌∙◌, arith}
use Rattle.type_layout.specs.Descriptions.{area_of}
use Rattle.symbol_table.specs.Rows.{symbol_of_row, symbols_of_rows}
use Rattle.symbol_table.proofs.RowsRead.{stands_at}
use Rattle.symbol_table.proofs.PlaceSearch.{all_begun, begins_first, none_behind}
use Rattle.symbol_table.proofs.tiling.first_behind.Goals as goal

pub returns-then-begun-numbers-clause-none : goal.returns-then-begun-numbers-clause-none
returns-then-begun-numbers-clause-none c =
    all_begun (symbols_of_rows c.args.rows.now) c.args.numbers.now (area_of c.args.area)
    c.args.«at» c.requires.order c.args.begun c.requires.begun c.if-begun-numbers.true

pub returns-then-is_same_area-clause-some : goal.returns-then-is_same_area-clause-some
returns-then-is_same_area-clause-some c =
    let rows = c.args.rows.now in let numbers = c.args.numbers.now in
    let some = c.if-begun-numbers.false in
    let within = c.requires.begun.within in
    let below : c.args.begun < length numbers = omega (arith, some, within) in
    let row = c.index-rows-numbers.result in
    let stands = stands_at rows numbers c.args.begun row c.requires.order.each below c.index-rows-numbers.is in
    begins_first (symbols_of_rows rows) numbers (area_of c.args.area) c.args.«at» c.requires.order
    c.args.begun c.requires.begun (get_or numbers c.args.begun 0) (symbol_of_row row)
    stands.listed stands.there (sym c.is_same_area.ensures ∙ c.if-is_same_area.true)

pub returns-else-is_same_area-clause-none : goal.returns-else-is_same_area-clause-none
returns-else-is_same_area-clause-none c =
    let rows = c.args.rows.now in let numbers = c.args.numbers.now in
    let some = c.if-begun-numbers.false in
    let within = c.requires.begun.within in
    let below : c.args.begun < length numbers = omega (arith, some, within) in
    let row = c.index-rows-numbers.result in
    let stands = stands_at rows numbers c.args.begun row c.requires.order.each below c.index-rows-numbers.is in
    none_behind (symbols_of_rows rows) numbers (area_of c.args.area) c.args.«at» c.requires.order
    c.args.begun c.requires.begun (get_or numbers c.args.begun 0) (symbol_of_row row)
    stands.listed stands.there (sym c.is_same_area.ensures ∙ c.if-is_same_area.false)
