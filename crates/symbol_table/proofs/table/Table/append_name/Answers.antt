-- The symbol's name, and the steps behind it as they are declared.
use Rattle.std.proofs.Common.{◌≡◌, ◌++◌, drop, length, sym, ◌∙◌, ap}
use Rattle.name_paths.specs.Name.{identifiers_of}
use Rattle.spec_plant.specs.PartTexts.{name_behind}
use Rattle.spec_plant.specs.Listed.{Shape}
use Rattle.spec_plant.specs.Trees.{tree_of}
use Rattle.type_layout.specs.Shapes.{shape_of, shape_of_ref}
use Rattle.type_layout.specs.NamedTypes.{types_of}
use Rattle.symbol_table.specs.Rows.{symbol_of_row}
use Rattle.symbol_table.specs.Tables.{SymbolTable, IsTableWith}
use Rattle.symbol_table.proofs.RowsRead.{row_there}
use Rattle.symbol_table.proofs.TableExtents.{extents_are}
use Rattle.symbol_table.proofs.PlacedSymbols.{sound_symbol}
use Rattle.symbol_table.proofs.SpelledTexts.{name_behind-append, led_name}
use Rattle.symbol_table.proofs.table.Table.append_name.Goals as goal

pub append_steps-requires-clause-sized : goal.append_steps-requires-clause-sized
append_steps-requires-clause-sized c =
    let types = types_of c.args.types.now in
    let row = c.index-row.result.now in
    let there = row_there c.args.self.now c.self.inside.rows.items c.args.number row
    (ap (λ (t : SymbolTable). t.symbols) c.self.view_is) c.requires.there c.index-row.ensures in
    let sound = sound_symbol types c.args.self.now c.args.number (symbol_of_row row) c.requires.types there in
    rw c.as_ref.ensures sound.sized

pub returns-clause-ok : goal.returns-clause-ok
returns-clause-ok c = λ port led is_of found there.
    let types = types_of c.args.types.now in
    let row = c.index-row.result.now in
    let path = c.args.path.now in
    let old = c.args.out.now in
    let seen = row_there c.args.self.now c.self.inside.rows.items c.args.number row
    (ap (λ (t : SymbolTable). t.symbols) c.self.view_is) c.requires.there c.index-row.ensures in
    let begun : c.put.new.self ≡ old ++ row.name = c.in_ok-put.ensures.ok ∙ ap (λ n. old ++ n) c.as_slice-name.ensures in
    let steps : c.steps_behind_name-steps.result ≡ drop (length (identifiers_of row.name)) path
    = c.steps_behind_name-steps.ensures ∙ ap (λ n. drop (length (identifiers_of n)) path) c.as_slice-name.ensures in
    c.in_ok-append_steps.ensures.ok
    ∙ ap (λ o. name_behind o (tree_of types (shape_of_ref c.as_ref.result)) c.steps_behind_name-steps.result) begun
    ∙ ap (λ (k : Shape). name_behind (old ++ row.name) (tree_of types k) c.steps_behind_name-steps.result) c.as_ref.ensures
    ∙ ap (λ s. name_behind (old ++ row.name) (tree_of types (shape_of row.kind)) s) steps
    ∙ name_behind-append old row.name (tree_of types (shape_of row.kind)) (drop (length (identifiers_of row.name)) path)
    ∙ ap (λ t. old ++ t) (sym (led_name types port c.args.self.now c.args.number (symbol_of_row row) path led is_of seen found there))

pub append_steps-requires-clause-extents : goal.append_steps-requires-clause-extents
append_steps-requires-clause-extents c =
    extents_are (types_of c.args.types.now) c.args.self.now c.self.inside.extents (ap (λ (t : SymbolTable). t.extents) c.self.view_is) c.requires.types
