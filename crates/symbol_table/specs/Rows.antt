-- The symbol that a row of the code's table is.
use Rattle.std.specs.Prelude.{◌≡◌, List, map}
use Rattle.spec_plant.specs.Listed.{NamedType}
use Rattle.spec_plant.specs.Description.{Symbol}
use Rattle.spec_plant.specs.AcceptedTypes.{IsSized}
use Rattle.spec_plant.specs.Accepted.{size_of_symbol}
use Rattle.type_layout.specs.Shapes.{shape_of}
use Rattle.type_layout.specs.Descriptions.{area_of, nets_of}
use Rattle.symbol_table.specs.Tables.{TableSymbol, declared}
use Rattle.symbol_table.specs.declared.row.SymbolRow.{SymbolRow}

abbrev pub symbol_of_row : SymbolRow → TableSymbol
symbol_of_row r = record {
  name = r.name;
  shape = shape_of r.kind;
  area = area_of r.area;
  offset = r.«at»;
  size = r.len;
  comment = r.comment;
  persistent = r.persistent;
  read_only = r.read_only;
  initial = r.initial;
  signal = r.signal;
  writers = nets_of r.writers;
}

abbrev pub symbols_of_rows : List SymbolRow → List TableSymbol
symbols_of_rows = map symbol_of_row

-- the symbols of the description whose rows these are
abbrev pub declared_by_rows : List SymbolRow → List Symbol
declared_by_rows = map (λ r. declared (symbol_of_row r))

-- a row whose type may be asked for its size, its parts and its text, and whose bytes are as many as its type has
pub record IsSizedRow (types : List NamedType) (r : SymbolRow) : Type 0 where
  pub sized : IsSized types (shape_of r.kind)
  pub size : r.len ≡ size_of_symbol types (declared (symbol_of_row r))
