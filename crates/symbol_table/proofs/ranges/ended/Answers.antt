-- The last symbol that begins by the byte covers it, or ends by it too.
use Rattle.std.proofs.Common.{◌-◌, ◌<◌, length, get_or, sym, ◌∙◌, arith}
use Rattle.type_layout.specs.Descriptions.{area_of}
use Rattle.symbol_table.specs.Rows.{symbol_of_row, symbols_of_rows}
use Rattle.symbol_table.proofs.RowsRead.{stands_at}
use Rattle.symbol_table.proofs.RangeSearch.{ended_none, ended_but_last, ended_all}
use Rattle.symbol_table.proofs.ranges.ended.Goals as goal

pub returns-then-begun-eq0 : goal.returns-then-begun-eq0
returns-then-begun-eq0 c =
    ended_none (symbols_of_rows c.args.rows.now) c.args.numbers.now (area_of c.args.area)
    c.args.«at» c.requires c.begun-begun.result c.begun-begun.ensures c.if-begun-eq0.true

pub returns-then-covers : goal.returns-then-covers
returns-then-covers c =
    let rows = c.args.rows.now in let numbers = c.args.numbers.now in let begun = c.begun-begun.result in
    let some = c.if-begun-eq0.false in
    let within = c.begun-begun.ensures.within in
    let below : begun - 1 < length numbers = omega (arith, some, within) in
    let row = c.index-rows-numbers.result in
    let stands = stands_at rows numbers (begun - 1) row c.requires.each below c.index-rows-numbers.is in
    ended_but_last (symbols_of_rows rows) numbers (area_of c.args.area) c.args.«at»
    c.requires begun c.begun-begun.ensures (get_or numbers (begun - 1) 0) (symbol_of_row row)
    (omega (arith, some)) stands.listed stands.there (sym c.covers.ensures ∙ c.if-covers.true)

pub returns-else-covers : goal.returns-else-covers
returns-else-covers c =
    let rows = c.args.rows.now in let numbers = c.args.numbers.now in let begun = c.begun-begun.result in
    let some = c.if-begun-eq0.false in
    let within = c.begun-begun.ensures.within in
    let below : begun - 1 < length numbers = omega (arith, some, within) in
    let row = c.index-rows-numbers.result in
    let stands = stands_at rows numbers (begun - 1) row c.requires.each below c.index-rows-numbers.is in
    ended_all (symbols_of_rows rows) numbers (area_of c.args.area) c.args.«at» c.requires
    begun c.begun-begun.ensures (get_or numbers (begun - 1) 0) (symbol_of_row row)
    (omega (arith, some)) stands.listed stands.there (sym c.covers.ensures ∙ c.if-covers.false)
