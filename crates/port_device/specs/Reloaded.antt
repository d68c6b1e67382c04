-- For private contracts, and cited by no public clause: what a symbol of a table begins with after a reload.
use Rattle.std.specs.Prelude.{◌≡◌, ℕ, ◌+◌, ◌≤◌, List, length, find, IsTrue, Option, Some, None, Bool, if◌then◌else◌}
use Rattle.spec_plant.specs.Listed.{NamedType}
use Rattle.spec_plant.specs.Description.{Sizes, size_in}
use Rattle.spec_plant.specs.Trees.{tree_of}
use Rattle.spec_plant.specs.Sizes.{type_size}
use Rattle.spec_plant.specs.AcceptedTypes.{AreTypes, is_shape}
use Rattle.spec_plant.specs.SameTypes.{is_same_type}
use Rattle.type_layout.specs.SameShapes.{ArePartners}
use Rattle.spec_machine.specs.PortBytes.{image_bytes}
use Rattle.symbol_table.specs.Tables.{TableSymbol, is_called}
use Rattle.symbol_table.specs.Rows.{symbol_of_row}
use Rattle.symbol_table.specs.declared.row.SymbolRow.{SymbolRow}
use Rattle.port_device.specs.PortMemory.{PortMemory}
use Rattle.port_device.specs.PlacedBytes.{PlacedBytes, placed_symbol}

-- the symbol with a whole name, ASCII case aside
abbrev pub symbol_called : List ℕ → List TableSymbol → Option TableSymbol
symbol_called name symbols = find (is_called name) symbols

-- whether a symbol of one table and a symbol of another, each with its types, have the same type
abbrev pub are_of_one_type : List NamedType → List NamedType → TableSymbol → TableSymbol → Bool
are_of_one_type old new s t = is_same_type (tree_of old s.shape) (tree_of new t.shape)

-- the bytes that a symbol of a port has
abbrev pub present_bytes : PortMemory → TableSymbol → List ℕ
present_bytes m s = image_bytes m.table.sizes m.bytes.image s.area s.offset s.size

-- what a symbol begins with, where this was the one of its name: the bytes of that, if its type is the same
abbrev pub bytes_behind : List NamedType → PortMemory → TableSymbol → Option TableSymbol → List ℕ
bytes_behind types m t None = t.initial
bytes_behind types m t (Some s) = if are_of_one_type m.types types s t then present_bytes m s else t.initial

abbrev pub reloaded_bytes : List NamedType → PortMemory → TableSymbol → List ℕ
reloaded_bytes types m t = bytes_behind types m t (symbol_called t.name m.table.symbols)

abbrev pub reloaded_row : List NamedType → PortMemory → SymbolRow → PlacedBytes
reloaded_row types m r = placed_symbol (reloaded_bytes types m) (symbol_of_row r)

-- both lists of types are accepted, and this tells which are the same
pub record AreCompared (old new : List NamedType) (same : List (Option ℕ)) : Type 0 where
  pub old_types : AreTypes old
  pub new_types : AreTypes new
  pub partners : ArePartners old new (length old) same

-- a row of a type of the list, with its size
pub record IsTypedRow (types : List NamedType) (r : SymbolRow) : Type 0 where
  pub shape : IsTrue (is_shape types (symbol_of_row r).shape)
  pub size : r.len ≡ type_size (tree_of types (symbol_of_row r).shape)

-- a row that begins with as many bytes as it has, and lies in its area
pub record IsPlacedRow (sizes : Sizes) (r : SymbolRow) : Type 0 where
  pub initial : length r.initial ≡ r.len
  pub within : (symbol_of_row r).offset + r.len ≤ size_in sizes (symbol_of_row r).area
