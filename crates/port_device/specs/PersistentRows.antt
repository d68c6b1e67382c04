-- For private contracts, and cited by no public clause: the entries of the persistent symbols that ports keep.
use Rattle.std.specs.Prelude.{ℕ, ◌+◌, ◌<◌, ◌≤◌, List, [], ◌∷◌, ◌++◌, length, flat_map, if◌then◌else◌}
use Rattle.std.specs.Int.{w16, w32, w64, to_le_bytes}
use Rattle.spec_plant.specs.Description.{size_in}
use Rattle.spec_plant.specs.Trees.{tree_of}
use Rattle.spec_store.specs.BodyText.{StoredEntry}
use Rattle.type_layout.specs.Forms.{form_of}
use Rattle.symbol_table.specs.Tables.{TableSymbol}
use Rattle.symbol_table.specs.Rows.{symbol_of_row, IsSizedRow}
use Rattle.symbol_table.specs.declared.row.SymbolRow.{SymbolRow}
use Rattle.port_device.specs.PortMemory.{PortMemory}
use Rattle.port_device.specs.Reloaded.{present_bytes}

abbrev pub entry_with : ℕ → List ℕ → List ℕ → List ℕ → StoredEntry
entry_with port name form bytes = record { port = port; name = name; form = form; bytes = bytes }

-- what stands in an entry before its form's length, and from there on
abbrev pub head_bytes : ℕ → List ℕ → List ℕ
head_bytes port name = to_le_bytes w16 port ++ to_le_bytes w16 (length name) ++ name

abbrev pub value_bytes : List ℕ → List ℕ → List ℕ
value_bytes form bytes = to_le_bytes w64 (length form) ++ form ++ to_le_bytes w32 (length bytes) ++ bytes

-- the entry of a symbol of a port
abbrev pub stored_entry : PortMemory → TableSymbol → StoredEntry
stored_entry m s = entry_with m.number s.name (form_of (tree_of m.types s.shape)) (present_bytes m s)

-- the one entry of a persistent symbol, and none of any other
unfoldable pub symbol_entries : PortMemory → TableSymbol → List StoredEntry
symbol_entries m s = if s.persistent then stored_entry m s ∷ [] else []

abbrev pub row_entries : PortMemory → SymbolRow → List StoredEntry
row_entries m r = symbol_entries m (symbol_of_row r)

abbrev pub rows_entries : PortMemory → List SymbolRow → List StoredEntry
rows_entries m rows = flat_map (row_entries m) rows

-- those of a port, and of all ports
unfoldable pub port_entries : PortMemory → List StoredEntry
port_entries m = flat_map (symbol_entries m) m.table.symbols

abbrev pub ports_entries : List PortMemory → List StoredEntry
ports_entries ports = flat_map port_entries ports

-- a row of a port of which an entry can tell
pub record IsStoredRow (m : PortMemory) (r : SymbolRow) : Type 0 where
  pub sized : IsSizedRow m.types r
  pub short_name : length r.name ≤ 255
  pub within : (symbol_of_row r).offset + r.len ≤ size_in m.table.sizes (symbol_of_row r).area

-- a port whose number has 16 bits
abbrev pub HasNumber : PortMemory → Type 0
HasNumber m = m.number < 65536
