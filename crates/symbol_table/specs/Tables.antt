-- The table of a port's symbols: what it keeps of each, and which table is that of a port.
use Rattle.std.specs.Prelude.{◌≡◌, ℕ, ◌+◌, ◌≤◌, List, map, length, Bool, ◌&&◌, nat_le, IsTrue, Option, bytes_eq, position}
use Rattle.std.specs.List.{list_all}
use Rattle.name_paths.specs.Identifier.{lower}
use Rattle.spec_plant.specs.Listed.{Shape, NamedType}
use Rattle.spec_plant.specs.Description.{Area, Sizes, size_in, Symbol, Port}
use Rattle.spec_plant.specs.AcceptedTypes.{AreTypes, LIMIT, all_pairs, is_shape, is_small_shape}
use Rattle.type_layout.specs.Extents.{extents_of}
use Rattle.type_layout.specs.declared.extent.Extent.{Extent}
use Rattle.spec_plant.specs.Accepted.{size_of_symbol, are_two_names, are_apart}

-- a symbol as the table keeps it: all that the description says of it, and the bytes that it has
pub record TableSymbol : Type 0 where
  pub name : List ℕ
  pub shape : Shape
  pub area : Area
  pub offset : ℕ
  pub size : ℕ
  pub comment : List ℕ
  pub persistent : Bool
  pub read_only : Bool
  pub initial : List ℕ
  pub signal : Option ℕ
  pub writers : List (List ℕ)

-- the sizes of a port's areas, its symbols in the order of the description, and the extents of the types that they name
pub record SymbolTable : Type 0 where
  pub sizes : Sizes
  pub symbols : List TableSymbol
  pub extents : List Extent

-- a symbol of a description with these types
abbrev pub table_symbol : List NamedType → Symbol → TableSymbol
table_symbol types s = record {
  name = s.name;
  shape = s.shape;
  area = s.area;
  offset = s.offset;
  size = size_of_symbol types s;
  comment = s.comment;
  persistent = s.persistent;
  read_only = s.read_only;
  initial = s.initial;
  signal = s.signal;
  writers = s.writers;
}

-- what the description says of it
abbrev pub declared : TableSymbol → Symbol
declared s = record {
  name = s.name;
  shape = s.shape;
  area = s.area;
  offset = s.offset;
  comment = s.comment;
  persistent = s.persistent;
  read_only = s.read_only;
  initial = s.initial;
  signal = s.signal;
  writers = s.writers;
}

-- the table of a port of a description with these types
abbrev pub table_of : List NamedType → Port → SymbolTable
table_of types p = record {
  sizes = p.sizes;
  symbols = map (table_symbol types) p.symbols;
  extents = extents_of types;
}

-- a symbol whose type is accepted
abbrev pub is_typed : List NamedType → Symbol → Bool
is_typed types s = is_shape types s.shape && is_small_shape s.shape && nat_le (size_of_symbol types s) LIMIT

-- a symbol whose type is accepted, and which lies in its area
abbrev pub is_placed : List NamedType → Sizes → Symbol → Bool
is_placed types sizes s = is_typed types s && nat_le (s.offset + size_of_symbol types s) (size_in sizes s.area)

-- what an accepted description says of a port's symbols: how many there are, their types and places, that no name
-- begins with another, and that no two share a byte
pub record IsPlaced (known : List NamedType) (port : Port) : Type 0 where
  pub types : AreTypes known
  pub count : length port.symbols ≤ 10000
  pub each : IsTrue (list_all (is_placed known port.sizes) port.symbols)
  pub names : IsTrue (all_pairs are_two_names port.symbols)
  pub apart : IsTrue (all_pairs (are_apart known) port.symbols)

-- the table of a port of an accepted description with these types
pub record IsTableOf (types : List NamedType) (port : Port) (table : SymbolTable) : Type 0 where
  pub placed : IsPlaced types port
  pub same : table ≡ table_of types port

-- the table of some port of an accepted description with these types
pub record IsTableWith (types : List NamedType) (table : SymbolTable) : Type 0 where
  pub port : Port
  pub is_of : IsTableOf types port table

-- whether a symbol has this whole name, ASCII case aside
abbrev pub is_called : List ℕ → TableSymbol → Bool
is_called name s = bytes_eq (lower s.name) (lower name)

-- the number of the first symbol with this whole name
abbrev pub number_called : List ℕ → List TableSymbol → Option ℕ
number_called name symbols = position (is_called name) symbols
