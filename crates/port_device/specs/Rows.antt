-- For private contracts, and cited by no public clause: the entries of the rows of a table, and of parts of its symbols.
use Rattle.std.specs.Prelude.{ℕ, ◌+◌, ◌≤◌, List, length, flat_map, if◌then◌else◌}
use Rattle.spec_plant.specs.Listed.{NamedType, Shape}
use Rattle.spec_plant.specs.Spelling.{type_text}
use Rattle.spec_plant.specs.Trees.{tree_of}
use Rattle.spec_plant.specs.World.{plant_symbol}
use Rattle.spec_formats.specs.SymbolEntry.{SymbolEntry, entry_bytes}
use Rattle.spec_machine.specs.Manner.{Manner}
use Rattle.spec_machine.specs.Entries.{type_id_in, entry_of_symbol, PERSISTENT, READ_ONLY}
use Rattle.index_groups.specs.Groups.{byte_number}
use Rattle.type_layout.specs.Descriptions.{area_of}
use Rattle.type_layout.specs.Shapes.{shape_of}
use Rattle.symbol_table.specs.Rows.{symbol_of_row, IsSizedRow}
use Rattle.symbol_table.specs.Tables.{TableSymbol, declared}
use Rattle.symbol_table.specs.declared.place.Place.{Place}
use Rattle.symbol_table.specs.declared.row.SymbolRow.{SymbolRow}

-- the entry of a row, and those of some rows
abbrev pub row_bytes : Manner → List NamedType → SymbolRow → List ℕ
row_bytes manner types r = entry_bytes (entry_of_symbol manner (plant_symbol types (declared (symbol_of_row r))))

abbrev pub rows_bytes : Manner → List NamedType → List SymbolRow → List ℕ
rows_bytes manner types rows = flat_map (row_bytes manner types) rows

-- a row whose type and texts an entry can tell
pub record IsEntryRow (types : List NamedType) (r : SymbolRow) : Type 0 where
  pub sized : IsSizedRow types r
  pub short_name : length r.name ≤ 255
  pub short_type : length (type_text (tree_of types (shape_of r.kind))) ≤ 400
  pub short_comment : length r.comment ≤ 255

-- the flags of a symbol of the table
abbrev pub table_flags : TableSymbol → ℕ
table_flags s = (if s.persistent then PERSISTENT else 0) + (if s.read_only then READ_ONLY else 0)

-- the entry of a part of a symbol of the table: its place, its type and its three texts
abbrev pub entry_at : Manner → List NamedType → TableSymbol → Place → Shape → List ℕ → List ℕ → List ℕ → SymbolEntry
entry_at manner types s place shape name type_name comment = record {
  group = byte_number (area_of place.area);
  offset = place.«at»;
  size = place.len;
  type_id = type_id_in manner (tree_of types shape);
  flags = table_flags s;
  name = name;
  type_name = type_name;
  comment = comment;
}
