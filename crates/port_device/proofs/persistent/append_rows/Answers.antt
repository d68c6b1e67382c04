use Rattle.std.proofs.Common.{◌≡◌, ◌+◌, ◌++◌, [], ◌∷◌, List, take, sym, ◌∙◌, ap, subst}
use Rattle.std.specs.Prelude.{flat_map}
use Rattle.std.specs.List.{All}
use Rattle.std.proofs.lemmas.List.{take_more}
use Rattle.spec_store.specs.BodyText.{entry_bytes, FitsEntry}
use Rattle.symbol_table.specs.declared.row.SymbolRow.{SymbolRow}
use Rattle.port_device.specs.PersistentRows.{row_entries, rows_entries}
use Rattle.port_device.proofs.PersistentLemmas.{text-more, fit-more}
use Rattle.port_device.proofs.persistent.append_rows.Goals as goal

pub loop-row-preserved : goal.loop-row-preserved
loop-row-preserved c =
    let m = c.args.port.now in
    let rows = c.args.rows.now in
    let i = c.loop-row.row-index in
    let row = c.row-item.result in
    let start = c.args.out.now in
    let old = c.loop-row.out in
    let new = c.append_row.new.out in
    let next : take (i + 1) rows ≡ take i rows ++ row ∷ [] =
    take_more rows i row c.loop-row-test.true ∙ ap (λ r. take i rows ++ r ∷ []) (sym c.row-item.is) in
    let P : List SymbolRow → Type 0 = λ rs. (new ≡ start ++ flat_map entry_bytes (rows_entries m rs)) × All FitsEntry (rows_entries m rs) in
    subst P (sym next) (
      text-more (row_entries m) (take i rows) row start old new c.loop-row.invariant.0 c.in_ok-append_row.ensures.ok,
      fit-more (row_entries m) (take i rows) row c.loop-row.invariant.1 c.in_ok-append_row.ensures.fit,
    )
