-- The part lies within its symbol, and the symbol within its area.
use Rattle.std.proofs.Common.{◌≡◌, ◌+◌, ◌<◌, ◌≤◌, refl, sym, ◌∙◌, ap, arith}
use Rattle.std.specs.Prelude.{Some, None}
use Rattle.spec_plant.specs.Description.{size_in}
use Rattle.spec_plant.specs.Listed.{Shape}
use Rattle.spec_plant.specs.Trees.{tree_of}
use Rattle.spec_plant.specs.Sizes.{type_size}
use Rattle.spec_plant.specs.Parts.{part_behind}
use Rattle.type_layout.specs.Shapes.{shape_of, shape_of_ref}
use Rattle.type_layout.specs.NamedTypes.{types_of}
use Rattle.type_layout.specs.Descriptions.{area_of, sizes_of}
use Rattle.spec_plant.specs.PartTexts.{comment_behind}
use Rattle.symbol_table.specs.Tables.{TableSymbol, SymbolTable}
use Rattle.symbol_table.specs.Rows.{symbol_of_row}
use Rattle.symbol_table.proofs.RowsRead.{row_there}
use Rattle.symbol_table.proofs.TableExtents.{extents_are}
use Rattle.symbol_table.proofs.PlacedSymbols.{sound_symbol}
use Rattle.symbol_table.proofs.FoundParts.{whole_sound, told_for, told_within, placed_none, placed_some}
use Rattle.symbol_table.proofs.table.Table.part.Goals as goal

pub part_behind-requires-clause-sound : goal.part_behind-requires-clause-sound
part_behind-requires-clause-sound c =
    let types = types_of c.args.types.now in
    let row = c.index-row.result.now in
    let there = row_there c.args.self.now c.self.inside.rows.items c.args.number row
    (ap (λ (t : SymbolTable). t.symbols) c.self.view_is) c.requires.there c.index-row.ensures in
    let sound = sound_symbol types c.args.self.now c.args.number (symbol_of_row row) c.requires.types there in
    whole_sound types c.args.self.now (symbol_of_row row)
    (record { first = 0; kind = c.as_ref.result; comment = c.as_slice.result }) refl c.as_ref.ensures sound

pub prove-unreachable-requires : goal.prove-unreachable-requires
prove-unreachable-requires c =
    let row = c.index-row.result.now in
    let there = row_there c.args.self.now c.self.inside.rows.items c.args.number row
    (ap (λ (t : SymbolTable). t.symbols) c.self.view_is) c.requires.there c.index-row.ensures in
    let sound = sound_symbol (types_of c.args.types.now) c.args.self.now c.args.number (symbol_of_row row) c.requires.types there in
    let size : c.in_area-area_size.result ≡ size_in c.args.self.now.sizes (area_of row.area) =
    c.in_area-area_size.ensures ∙ ap (λ (t : SymbolTable). size_in t.sizes (area_of row.area)) c.self.view_is in
    let within : row.«at» + row.len ≤ size_in c.args.self.now.sizes (area_of row.area) = sound.within in
    let over = c.if-prove.true in
    omega (arith, size, within, over)

pub overflow_add-result : goal.overflow_add-result
overflow_add-result c =
    let types = types_of c.args.types.now in
    let row = c.index-row.result.now in
    let there = row_there c.args.self.now c.self.inside.rows.items c.args.number row
    (ap (λ (t : SymbolTable). t.symbols) c.self.view_is) c.requires.there c.index-row.ensures in
    let sound = sound_symbol types c.args.self.now c.args.number (symbol_of_row row) c.requires.types there in
    let size : c.in_area-area_size.result ≡ size_in c.args.self.now.sizes (area_of row.area) =
    c.in_area-area_size.ensures ∙ ap (λ (t : SymbolTable). size_in t.sizes (area_of row.area)) c.self.view_is in
    let within : row.«at» + row.len ≤ size_in c.args.self.now.sizes (area_of row.area) = sound.within in
    let fits : c.in_area-area_size.result < 4294967296 = c.in_area-area_size.type_inv in
    let first = told_within types _ (record { first = 0; type = tree_of types (shape_of_ref c.as_ref.result) })
    c.args.steps c.in-Some.part refl c.in-Some.ensures in
    let kind = ap (λ (s : Shape). type_size (tree_of types s)) c.as_ref.ensures in
    let is_size : row.len ≡ type_size (tree_of types (shape_of row.kind)) = sound.size_is in
    omega (arith, size, within, fits, first, kind, is_size)

pub returns-in-None : goal.returns-in-None
returns-in-None c = λ s e.
    let types = types_of c.args.types.now in
    let row = c.index-row.result.now in
    let there = row_there c.args.self.now c.self.inside.rows.items c.args.number row
    (ap (λ (t : SymbolTable). t.symbols) c.self.view_is) c.requires.there c.index-row.ensures in
    let both : Some (symbol_of_row row) ≡ Some s = sym there ∙ e in
    let is_it : symbol_of_row row ≡ s = cc in
    let told = told_for types s (record { first = 0; kind = c.as_ref.result; comment = c.as_slice.result })
    c.args.steps None refl (c.as_ref.ensures ∙ ap (λ (t : TableSymbol). t.shape) is_it)
    (c.as_slice.ensures ∙ ap (λ (t : TableSymbol). t.comment) is_it) c.in-None.ensures in
    placed_none types s c.args.number (comment_behind s.comment (tree_of types s.shape) c.args.steps)
    (part_behind (record { first = 0; type = tree_of types s.shape }) c.args.steps) told

pub returns-in-Some : goal.returns-in-Some
returns-in-Some c = λ s e.
    let types = types_of c.args.types.now in
    let row = c.index-row.result.now in
    let there = row_there c.args.self.now c.self.inside.rows.items c.args.number row
    (ap (λ (t : SymbolTable). t.symbols) c.self.view_is) c.requires.there c.index-row.ensures in
    let both : Some (symbol_of_row row) ≡ Some s = sym there ∙ e in
    let is_it : symbol_of_row row ≡ s = cc in
    let part = c.in-Some.part in
    let told = told_for types s (record { first = 0; kind = c.as_ref.result; comment = c.as_slice.result }) c.args.steps
    (Some part) refl (c.as_ref.ensures ∙ ap (λ (t : TableSymbol). t.shape) is_it)
    (c.as_slice.ensures ∙ ap (λ (t : TableSymbol). t.comment) is_it) c.in-Some.ensures in
    placed_some types s c.args.number (comment_behind s.comment (tree_of types s.shape) c.args.steps)
    (part_behind (record { first = 0; type = tree_of types s.shape }) c.args.steps) part
    (record {
      place = record { symbol = c.args.number; area = row.area; «at» = row.«at» + part.first; len = c.size.result };
      kind = part.kind;
      comment = part.comment;
    })
    told refl (ap (λ (t : TableSymbol). t.area) is_it) (ap (λ (t : TableSymbol). t.offset + part.first) is_it) c.size.ensures refl refl

pub part_behind-requires-clause-extents : goal.part_behind-requires-clause-extents
part_behind-requires-clause-extents c =
    extents_are (types_of c.args.types.now) c.args.self.now c.self.inside.extents (ap (λ (t : SymbolTable). t.extents) c.self.view_is) c.requires.types

pub size-requires-clause-built : goal.size-requires-clause-built
size-requires-clause-built c =
    extents_are (types_of c.args.types.now) c.args.self.now c.self.inside.extents (ap (λ (t : SymbolTable). t.extents) c.self.view_is) c.requires.types
