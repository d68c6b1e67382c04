use Rattle.std.proofs.Common.{◌≡◌, ◌+◌, List, [], ◌∷◌, ◌++◌, length, take, sym, ◌∙◌, ap, arith}
use Rattle.std.specs.Prelude.{max}
use Rattle.std.proofs.lemmas.List.{take_more, map-append, length-map, length-take-le}
use Rattle.symbol_table.specs.Rows.{symbol_of_row, symbols_of_rows}
use Rattle.symbol_table.specs.declared.row.SymbolRow.{SymbolRow}
use Rattle.port_device.specs.Signals.{symbol_bound_to}
use Rattle.port_device.specs.BoundTables.{bound_with, entries_for, entry_count}
use Rattle.port_device.proofs.BoundLemmas.{symbol_bound_to-more, entry_count-more}
use Rattle.port_device.proofs.bound.bound_symbols.Goals as goal

pub loop-number-preserved : goal.loop-number-preserved
loop-number-preserved c =
    let i = c.loop-number.number in
    let rows = c.args.rows.now in
    let row : SymbolRow = c.index-rows-number.result in
    let before : List SymbolRow = take i rows in
    let taken : take (i + 1) rows ≡ before ++ row ∷ [] = take_more rows i row c.loop-number-test.true
    ∙ ap (λ y. before ++ y ∷ []) (sym c.index-rows-number.is) in
    let symbols : symbols_of_rows (take (i + 1) rows) ≡ symbols_of_rows before ++ symbol_of_row row ∷ [] = ap symbols_of_rows taken
    ∙ map-append symbol_of_row before (row ∷ []) in
    let within = c.loop-number-test.true in
    let long : length (symbols_of_rows before) ≡ i = length-map before symbol_of_row ∙ length-take-le i rows (omega (arith, within)) in
    record {
      bound_are = λ n. c.in_ok-bind_row.ensures.bound n
          ∙ ap (λ o. bound_with row.signal i o n) (c.loop-number.invariant.bound_are n)
          ∙ ap (λ k. bound_with row.signal k (symbol_bound_to n (symbols_of_rows before)) n) (sym long)
          ∙ sym (symbol_bound_to-more n (symbols_of_rows before) (symbol_of_row row))
          ∙ ap (symbol_bound_to n) (sym symbols);
      short = c.in_ok-bind_row.ensures.short
          ∙ ap (λ k. max k (entries_for row.signal)) c.loop-number.invariant.short
          ∙ sym (entry_count-more (symbols_of_rows before) (symbol_of_row row))
          ∙ ap entry_count (sym symbols);
    }
