-- A port of an accepted description is placed.
use Rattle.std.proofs.Common.{◌≡◌, ◌<◌, length, Some, option_map, sym, ap, ◌∙◌}
use Rattle.std.specs.Prelude.{slice_get}
use Rattle.std.proofs.lemmas.Option.{slice_get-map, slice_get_read}
use Rattle.type_layout.specs.Descriptions.{description_of, port_of}
use Rattle.symbol_table.proofs.PlacedSymbols.{accepted_is_placed}
use Rattle.cases_description.proofs.calls.tables.of_port.Goals as goal

pub of_table-requires : goal.of_table-requires
of_table-requires c =
    let below : c.in-Some.i < length c.as_slice.result.now = c.in-Some.ensures in
    let same : length c.as_slice.result.now ≡ length c.as_slice-in-Some.result.now =
    ap length (c.as_slice.ensures ∙ sym c.as_slice-in-Some.ensures) in
    let read : slice_get c.as_slice-in-Some.result.now c.in-Some.i ≡ Some c.index-as_slice-i.result =
    slice_get_read c.as_slice-in-Some.result.now (length c.as_slice.result.now) c.in-Some.i c.index-as_slice-i.result same below c.index-as_slice-i.is in
    let listed : slice_get c.in_ok-d.d.ports c.in-Some.i ≡ Some c.index-as_slice-i.result =
    ap (λ ports. slice_get ports c.in-Some.i) (sym c.as_slice-in-Some.ensures) ∙ read in
    accepted_is_placed (description_of c.in_ok-d.d) 3 c.in-Some.i (port_of c.index-as_slice-i.result) c.in_ok-d.ensures
    (slice_get-map port_of c.in_ok-d.d.ports c.in-Some.i ∙ ap (option_map port_of) listed)
