use Rattle.std.proofs.Common.{◌≡◌, ◌+◌, ◌*◌, ◌≤◌, ℕ, List, [], ◌∷◌, ◌++◌, take, sym, ◌∙◌, ap, subst}
use Rattle.std.specs.Prelude.{Bool}
use Rattle.std.proofs.lemmas.List.{map_more}
use Rattle.spec_plant.specs.Accepted.{image_size}
use Rattle.type_layout.specs.Descriptions.{sizes_of}
use Rattle.symbol_table.specs.Rows.{symbol_of_row, symbols_of_rows}
use Rattle.symbol_table.specs.Tables.{TableSymbol}
use Rattle.port_device.specs.Marks.{AreMarks}
use Rattle.port_device.proofs.MarkLemmas.{marks-more}
use Rattle.port_device.proofs.marks.mark_rows.Goals as goal

pub loop-row-preserved : goal.loop-row-preserved
loop-row-preserved c =
    let sizes = sizes_of c.args.sizes.now in
    let rows = c.args.rows.now in
    let i = c.loop-row.row-index in
    let row = c.row-item.result in
    let symbols = symbols_of_rows (take i rows) in
    let more : symbols_of_rows (take (i + 1) rows) ≡ symbols ++ symbol_of_row row ∷ []
    = map_more symbol_of_row rows i row c.loop-row-test.true ∙ ap (λ r. symbols ++ symbol_of_row r ∷ []) (sym c.row-item.is) in
    let old : List Bool = c.loop-row.marks in
    let new : List Bool = c.mark_row.new.marks in
    let P : List TableSymbol → Type 0 = λ ss. AreMarks sizes new ss in
    subst P (sym more) (record {
      long = subst (λ (n : ℕ). image_size sizes ≤ 64 * n) (sym c.mark_row.ensures.long) c.loop-row.invariant.long;
      each = marks-more sizes old new symbols (symbol_of_row row) c.mark_row.ensures.keeps c.loop-row.invariant.each c.mark_row.ensures.marked;
    })
