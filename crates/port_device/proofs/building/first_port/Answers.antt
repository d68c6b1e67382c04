use Rattle.std.proofs.Common.{◌≡◌, ◌≤◌, List, length, refl, sym, ◌∙◌, ap, subst}
use Rattle.std.specs.Prelude.{Bool, All}
use Rattle.std.specs.Arc.{arc_value}
use Rattle.spec_plant.specs.Description.{Sizes}
use Rattle.spec_plant.specs.Accepted.{image_size, IMAGE_LIMIT}
use Rattle.type_layout.specs.Descriptions.{port_of}
use Rattle.type_layout.specs.NamedTypes.{types_of}
use Rattle.symbol_table.specs.Rows.{symbols_of_rows}
use Rattle.symbol_table.specs.Tables.{IsPlaced, IsTableOf, IsTableWith}
use Rattle.spec_plant.specs.Entries.{upload_size}
use Rattle.port_device.specs.Uploads.{types_upload, described}
use Rattle.port_device.proofs.FirstPortLemmas.{of_accepted-placed, of_accepted-table, of_accepted-few, of_accepted-fits, of_accepted-upload, of_accepted-texts}
use Rattle.port_device.specs.Marks.{AreMarks, IsWithinRow}
use Rattle.port_device.specs.Signals.{AreBound}
use Rattle.port_device.proofs.MarkLemmas.{rows_within}
use Rattle.port_device.proofs.FirstPortLemmas.{of_accepted-sizes, of_accepted-first, few_rows}
use Rattle.port_device.proofs.building.first_port.Goals as goal

pub build-requires : goal.build-requires
build-requires c =
    let types = types_of (arc_value c.args.types.now) in
    let port = port_of c.args.d.now in
    subst (λ ts. IsPlaced (types_of ts) port) (sym c.deref.ensures) (of_accepted-placed types port c.requires.accepted)

pub symbols_size-requires-clause-table : goal.symbols_size-requires-clause-table
symbols_size-requires-clause-table c =
    let types = types_of (arc_value c.args.types.now) in
    let port = port_of c.args.d.now in
    let table = c.in_ok-table.table in
    let is_table = of_accepted-table types _ port table c.requires.accepted (ap types_of c.deref.ensures) c.in_ok-table.ensures in
    let with_table : IsTableWith types table = record { port = port; is_of = is_table } in
    subst (λ ts. IsTableWith (types_of ts) table) (sym c.deref-2.ensures) with_table

pub symbols_size-requires-clause-few : goal.symbols_size-requires-clause-few
symbols_size-requires-clause-few c =
    let types = types_of (arc_value c.args.types.now) in
    let port = port_of c.args.d.now in
    let table = c.in_ok-table.table in
    let is_table = of_accepted-table types _ port table c.requires.accepted (ap types_of c.deref.ensures) c.in_ok-table.ensures in
    subst (λ ts. upload_size (types_of ts) (described table) ≤ 2000000) (sym c.deref-2.ensures)
    (of_accepted-upload types port table c.requires.accepted is_table)

pub first_image-requires-clause-few : goal.first_image-requires-clause-few
first_image-requires-clause-few c = of_accepted-few (types_of (arc_value c.args.types.now)) (port_of c.args.d.now) c.requires.accepted

pub first_image-requires-clause-fit : goal.first_image-requires-clause-fit
first_image-requires-clause-fit c =
    let types = types_of (arc_value c.args.types.now) in
    let port = port_of c.args.d.now in
    let table = c.in_ok-table.table in
    let is_table = of_accepted-table types _ port table c.requires.accepted (ap types_of c.deref.ensures) c.in_ok-table.ensures in
    of_accepted-fits types port table c.symbols-rows.result.now c.requires.accepted is_table c.symbols-rows.ensures.rows

pub bound_symbols-requires : goal.bound_symbols-requires
bound_symbols-requires c =
    let types = types_of (arc_value c.args.types.now) in
    let port = port_of c.args.d.now in
    let table = c.in_ok-table.table in
    let is_table = of_accepted-table types _ port table c.requires.accepted (ap types_of c.deref.ensures) c.in_ok-table.ensures in
    record { few = few_rows types port table c.symbols-rows.result.now is_table c.symbols-rows.ensures.rows }

pub marks_of-requires-clause-few : goal.marks_of-requires-clause-few
marks_of-requires-clause-few c = of_accepted-few (types_of (arc_value c.args.types.now)) (port_of c.args.d.now) c.requires.accepted

pub marks_of-requires-clause-within : goal.marks_of-requires-clause-within
marks_of-requires-clause-within c =
    let types = types_of (arc_value c.args.types.now) in
    let port = port_of c.args.d.now in
    let table = c.in_ok-table.table in
    let rows = c.symbols-rows.result.now in
    let is_table = of_accepted-table types _ port table c.requires.accepted (ap types_of c.deref.ensures) c.in_ok-table.ensures in
    let with_table : IsTableWith types table = record { port = port; is_of = is_table } in
    subst (λ (x : Sizes). All (IsWithinRow x) rows) (of_accepted-sizes types port table is_table)
    (rows_within types table rows with_table c.symbols-rows.ensures.rows)

pub invariant_of-result : goal.invariant_of-result
invariant_of-result c =
    let types = types_of (arc_value c.args.types.now) in
    let port = port_of c.args.d.now in
    let table = c.in_ok-table.table in
    let shared = types_of (arc_value c.in_ok-shared.shared) in
    let same : types ≡ shared = sym (ap types_of c.in_ok-shared.ensures) in
    let is_table = of_accepted-table types _ port table c.requires.accepted (ap types_of c.deref.ensures) c.in_ok-table.ensures in
    let sizes = of_accepted-sizes types port table is_table in
    let rows = c.symbols-rows.result.now in
    let image = of_accepted-first types port table rows c.in_ok-image.image c.requires.accepted is_table c.symbols-rows.ensures.rows c.in_ok-image.ensures in
    let marks : List Bool = c.in_ok-marks.marks.items in
    let P : Sizes → Type 0 = λ x. AreMarks x marks (symbols_of_rows rows) in
    record {
      port = port;
      table = subst (λ ts. IsTableOf ts port table) same is_table;
      sizes_are = sizes;
      few = subst (λ (x : Sizes). image_size x ≤ IMAGE_LIMIT) (sym sizes) (of_accepted-few types port c.requires.accepted);
      bytes = image.long ∙ ap image_size (sym sizes);
      texts = of_accepted-texts types port table c.requires.accepted is_table;
      uploads_are = record {
        of_symbols = c.in_ok-symbols.ensures ∙ ap (λ ts. upload_size (types_of ts) (described table)) c.deref-2.ensures
            ∙ ap (λ ts. upload_size ts (described table)) same;
        of_types = c.requires.types_len ∙ ap (λ ts. length (types_upload ts)) same;
      };
      bound_are = subst (AreBound c.in_ok-bound.bound.items) c.symbols-rows.ensures.rows c.in_ok-bound.ensures.bound_are;
      marks_are = subst (AreMarks table.sizes marks) c.symbols-rows.ensures.rows (subst P (sym sizes) c.in_ok-marks.ensures);
    }

pub returns : goal.returns
returns c =
    let types = types_of (arc_value c.args.types.now) in
    let port = port_of c.args.d.now in
    let table = c.in_ok-table.table in
    let is_table = of_accepted-table types _ port table c.requires.accepted (ap types_of c.deref.ensures) c.in_ok-table.ensures in
    let rows = c.symbols-rows.result.now in
    record {
      types_are = ap types_of c.in_ok-shared.ensures;
      number = refl;
      facts = refl;
      version_is = refl;
      manner_is = refl;
      table = is_table;
      ads = refl;
      device = refl;
      image = of_accepted-first types port table rows c.in_ok-image.image c.requires.accepted is_table c.symbols-rows.ensures.rows c.in_ok-image.ensures;
    }
