use Rattle.std.proofs.Common.{◌≡◌, ◌+◌, ◌++◌, [], ◌∷◌, take, sym, ◌∙◌, ap}
use Rattle.std.proofs.lemmas.List.{take_more, flat_map_more}
use Rattle.type_layout.specs.NamedTypes.{types_of}
use Rattle.port_device.specs.Manners.{manner_of}
use Rattle.port_device.specs.Rows.{row_bytes, rows_bytes}
use Rattle.port_device.proofs.entries.append_rows.Goals as goal

pub loop-row-preserved : goal.loop-row-preserved
loop-row-preserved c =
    let types = types_of c.args.types.now in
    let x = manner_of c.args.manner in
    let rows = c.args.rows.now in
    let i = c.loop-row.row-index in
    let row = c.row-item.result in
    let next : take (i + 1) rows ≡ take i rows ++ row ∷ [] =
    take_more rows i row c.loop-row-test.true ∙ ap (λ r. take i rows ++ r ∷ []) (sym c.row-item.is) in
    c.in_ok-append_row.ensures.ok ∙ ap (λ bs. bs ++ row_bytes x types row) c.loop-row.invariant
    ∙ flat_map_more (row_bytes x types) c.args.out.now (take i rows) row ∙ sym (ap (λ rs. c.args.out.now ++ rows_bytes x types rs) next)
