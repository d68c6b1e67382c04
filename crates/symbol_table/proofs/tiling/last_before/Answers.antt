-- The last symbol that begins by the byte is of the area, or none is.
use Rattle.std.proofs.Common.{◌+◌, ◌-◌, ◌<◌, ◌≤◌, length, get_or, sym, ◌∙◌, arith}
use Rattle.spec_plant.proofs.TypeLemmas.{list_all-get}
use Rattle.type_layout.specs.Descriptions.{area_of}
use Rattle.symbol_table.specs.Rows.{symbol_of_row, symbols_of_rows}
use Rattle.symbol_table.specs.Tiling.{ends_by}
use Rattle.symbol_table.proofs.RowsRead.{stands_at}
use Rattle.symbol_table.proofs.Gaps.{end_within}
use Rattle.symbol_table.proofs.PlaceSearch.{none_begun, ends_last, none_before}
use Rattle.symbol_table.proofs.tiling.last_before.Goals as goal

pub returns-then-begun-eq0-clause-none : goal.returns-then-begun-eq0-clause-none
returns-then-begun-eq0-clause-none c =
    none_begun (symbols_of_rows c.args.rows.now) c.args.numbers.now
    (area_of c.args.area) c.args.«at» c.requires.order c.args.begun c.requires.begun c.if-begun-eq0.true

pub overflow_add-result : goal.overflow_add-result
overflow_add-result c =
    let rows = c.args.rows.now in let numbers = c.args.numbers.now in
    let some = c.if-begun-eq0.false in
    let within = c.requires.begun.within in
    let below : c.args.begun - 1 < length numbers = omega (arith, some, within) in
    let row = c.index-rows-number.result in
    let stands = stands_at rows numbers (c.args.begun - 1) row c.requires.order.each below c.index-rows-number.is in
    let inside = list_all-get (ends_by (area_of c.args.area) c.args.size) (symbols_of_rows rows)
    (get_or numbers (c.args.begun - 1) 0) (symbol_of_row row) c.requires.within stands.there in
    let end = end_within (area_of c.args.area) c.args.size (symbol_of_row row) inside (sym c.is_same_area.ensures ∙ c.if-is_same_area.true) in
    let upto : row.«at» + row.len ≤ c.args.size = end in
    let fits = c.ranges.size.fits in
    omega (arith, upto, fits)

pub returns-then-is_same_area-clause-some : goal.returns-then-is_same_area-clause-some
returns-then-is_same_area-clause-some c =
    let rows = c.args.rows.now in let numbers = c.args.numbers.now in
    let some = c.if-begun-eq0.false in
    let within = c.requires.begun.within in
    let below : c.args.begun - 1 < length numbers = omega (arith, some, within) in
    let row = c.index-rows-number.result in
    let stands = stands_at rows numbers (c.args.begun - 1) row c.requires.order.each below c.index-rows-number.is in
    ends_last (symbols_of_rows rows) numbers (area_of c.args.area) c.args.«at» c.requires.order
    c.args.begun c.requires.begun (get_or numbers (c.args.begun - 1) 0) (symbol_of_row row)
    (omega (arith, some)) stands.listed stands.there (sym c.is_same_area.ensures ∙ c.if-is_same_area.true)

pub returns-else-is_same_area-clause-none : goal.returns-else-is_same_area-clause-none
returns-else-is_same_area-clause-none c =
    let rows = c.args.rows.now in let numbers = c.args.numbers.now in
    let some = c.if-begun-eq0.false in
    let within = c.requires.begun.within in
    let below : c.args.begun - 1 < length numbers = omega (arith, some, within) in
    let row = c.index-rows-number.result in
    let stands = stands_at rows numbers (c.args.begun - 1) row c.requires.order.each below c.index-rows-number.is in
    none_before (symbols_of_rows rows) numbers (area_of c.args.area) c.args.«at» c.requires.order
    c.args.begun c.requires.begun (get_or numbers (c.args.begun - 1) 0) (symbol_of_row row)
    (omega (arith, some)) stands.listed stands.there (sym c.is_same_area.ensures ∙ c.if-is_same_area.false)
