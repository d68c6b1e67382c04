-- What a device is: its plant, with each symbol's type as a tree, and the bytes under their names.
use Rattle.std.specs.Prelude.{ℕ, zero, suc, List, [], ◌∷◌, Bool, true, false, ◌&&◌, ◌==◌, if◌then◌else◌, Option, slice_get, bytes_eq, map, unwrap_or}
use Rattle.name_paths.specs.Identifier.{lower}
use Rattle.spec_plant.specs.Listed.{NamedType}
use Rattle.spec_plant.specs.Trees.{TypeTree, tree_of}
use Rattle.spec_plant.specs.Sizes.{type_size}
use Rattle.spec_plant.specs.Description.{Route, Area, Inputs, Outputs, Memory, Process, Sizes, Facts, Symbol, Port, Description}

-- a symbol with the tree of its type
pub record PlantSymbol : Type 0 where
  pub name : List ℕ
  pub type : TypeTree
  pub area : Area
  pub offset : ℕ
  pub comment : List ℕ
  pub persistent : Bool
  pub read_only : Bool
  pub initial : List ℕ
  pub signal : Option ℕ
  pub writers : List (List ℕ)

pub record PlantPort : Type 0 where
  pub number : ℕ
  pub facts : Facts
  pub sizes : Sizes
  pub symbols : List PlantSymbol

-- all of a device but its bytes: no request changes it
pub record Plant : Type 0 where
  pub net : List ℕ
  pub routes : List Route
  pub types : List NamedType
  pub ports : List PlantPort

abbrev pub plant_symbol : List NamedType → Symbol → PlantSymbol
plant_symbol types s = record {
  name = s.name;
  type = tree_of types s.shape;
  area = s.area;
  offset = s.offset;
  comment = s.comment;
  persistent = s.persistent;
  read_only = s.read_only;
  initial = s.initial;
  signal = s.signal;
  writers = s.writers;
}

abbrev pub plant_port : List NamedType → Port → PlantPort
plant_port types p = record {
  number = p.number;
  facts = p.facts;
  sizes = p.sizes;
  symbols = map (plant_symbol types) p.symbols;
}

-- the plant of a description
abbrev pub plant_of : Description → Plant
plant_of d = record {
  net = d.net;
  routes = d.routes;
  types = d.types;
  ports = map (plant_port d.types) d.ports;
}

abbrev pub symbol_size : PlantSymbol → ℕ
symbol_size s = type_size s.type

-- the name by which symbols are told apart
abbrev pub lower_name : PlantSymbol → List ℕ
lower_name s = lower s.name

-- what a byte belongs to, within its port: a symbol by its name in lower case; an area, where no symbol stands; or the
-- state words
pub data Part : Type 0 where
  SymbolPart : List ℕ → Part
  AreaPart : Area → Part
  StatePart : Part

-- the name of a byte; it stays when a reload moves the byte's symbol
pub record ByteName : Type 0 where
  pub port : ℕ
  pub part : Part
  pub index : ℕ

-- the bytes of one part
pub record Block : Type 0 where
  pub port : ℕ
  pub part : Part
  pub bytes : List ℕ

abbrev pub area_number : Area → ℕ
area_number Inputs = 0
area_number Outputs = 1
area_number Memory = 2
area_number Process = 3

abbrev pub is_same_area : Area → Area → Bool
is_same_area a b = area_number a == area_number b

abbrev pub is_same_part : Part → Part → Bool
is_same_part (SymbolPart a) (SymbolPart b) = bytes_eq a b
is_same_part (AreaPart a) (AreaPart b) = is_same_area a b
is_same_part StatePart StatePart = true
is_same_part a b = false

abbrev pub is_block_of : ℕ → Part → Block → Bool
is_block_of port part block = (block.port == port) && is_same_part block.part part

-- the bytes of a part
abbrev pub block_of : List Block → ℕ → Part → List ℕ
block_of [] port part = []
block_of (b ∷ bs) port part = if is_block_of port part b then b.bytes else block_of bs port part

-- what stands under a name
unfoldable pub byte_at : List Block → ByteName → Option ℕ
byte_at blocks n = slice_get (block_of blocks n.port n.part) n.index

-- the byte under a name, 0 where none stands there
abbrev pub byte_or_zero : List Block → ByteName → ℕ
byte_or_zero blocks n = unwrap_or (byte_at blocks n) 0

abbrev pub with_nth_byte : List ℕ → ℕ → (ℕ → ℕ) → List ℕ
with_nth_byte [] i f = []
with_nth_byte (x ∷ xs) zero f = f x ∷ xs
with_nth_byte (x ∷ xs) (suc i) f = x ∷ with_nth_byte xs i f

-- the blocks after one byte has changed
unfoldable pub with_byte : List Block → ByteName → (ℕ → ℕ) → List Block
with_byte [] n f = []
with_byte (b ∷ bs) n f =
    if is_block_of n.port n.part b
    then record b { bytes = with_nth_byte b.bytes n.index f } ∷ bs
    else b ∷ with_byte bs n f
