-- The description that a document writes. It is looked at only where the rules hold, so what a broken rule leaves open
-- has some value here.
use Rattle.std.specs.Prelude.{ℕ, ◌-◌, List, [], ◌∷◌, ◌++◌, length, map, replicate, slice_get, Option, Some}
use Rattle.std.specs.Prelude.{None, option_map, option_and_then, unwrap_or, ℤ, pos, negsuc, find, codes}
use Rattle.std.specs.Prelude.{bytes_eq}
use Rattle.std.specs.Option.{option_map_or}
use Rattle.std.specs.Result.{result_ok}
use Rattle.hex.specs.Hex.{decode_of}
use Rattle.spec_plant.specs.Plain.{Kind, BOOL, SINT, is_base}
use Rattle.spec_plant.specs.Listed.{Plain, Enum, Shape, One, Member, EnumValue, NamedType, Structure, Enumeration}
use Rattle.spec_plant.specs.TypeTexts.{kind_named}
use Rattle.spec_plant.specs.Description.{Rights, Read, Write, Control, Route, Area, Inputs, Outputs, Memory, Process, Sizes, Facts, Symbol, Port, Description}
use Rattle.spec_plant.specs.Accepted.{number_bytes}
use Rattle.spec_plant.specs.Trees.{tree_of}
use Rattle.spec_plant.specs.Sizes.{type_size}
use Rattle.spec_rules.specs.Written.{WrittenRoute, WrittenMember, WrittenType, WrittenStructure}
use Rattle.spec_rules.specs.Written.{WrittenEnumeration, WrittenSymbol, WrittenPort, Document}
use Rattle.spec_rules.specs.Fields.{if_so}
use Rattle.spec_rules.specs.Nets.{net_of}
use Rattle.spec_plant.specs.Shapes.{shape_of_text}

-- a number that is not below 0
abbrev pub natural_of : ℤ → ℕ
natural_of (pos n) = n
natural_of (negsuc n) = 0

-- `read`, `write` or `control`
abbrev pub rights_of : List ℕ → Option Rights
rights_of text =
    option_map (λ (r : List ℕ × Rights). r.1) (find (λ (r : List ℕ × Rights). bytes_eq r.0 text)
    ((codes "read", Read) ∷ (codes "write", Write) ∷ (codes "control", Control) ∷ []))

-- `inputs`, `outputs`, `memory` or `data`
abbrev pub area_of : List ℕ → Option Area
area_of text =
    option_map (λ (a : List ℕ × Area). a.1) (find (λ (a : List ℕ × Area). bytes_eq a.0 text)
    ((codes "inputs", Inputs) ∷ (codes "outputs", Outputs) ∷ (codes "memory", Memory) ∷ (codes "data", Process) ∷ []))

-- the base of an enumeration, in any case of letters
abbrev pub base_of : List ℕ → Option Kind
base_of text = option_and_then (λ kind. if_so (is_base kind) (Some kind)) (kind_named text)

-- the type that a text names, where it names one
abbrev pub shape_described : List NamedType → List ℕ → Shape
shape_described types text = unwrap_or (shape_of_text types text) (One (Plain BOOL))

abbrev pub member_described : List NamedType → WrittenMember → Member
member_described known m =
    record { name = m.name; shape = shape_described known m.type; comment = m.comment }

-- a type behind these
abbrev pub type_described : List NamedType → WrittenType → NamedType
type_described known (WrittenStructure name members) = Structure name (map (member_described known) members)
type_described known (WrittenEnumeration name base values) =
    Enumeration name (unwrap_or (base_of base) SINT) values

-- these types, and those behind them, each in terms of the ones before it
unfoldable pub types_behind : List NamedType → List WrittenType → List NamedType
types_behind known [] = known
types_behind known (t ∷ ts) = types_behind (known ++ type_described known t ∷ []) ts

-- the types of a document
abbrev pub types_described : List WrittenType → List NamedType
types_described types = types_behind [] types

-- the bytes of the first value of an enumeration
abbrev pub first_value_bytes : NamedType → List ℕ
first_value_bytes (Structure name members) = []
first_value_bytes (Enumeration name base []) = []
first_value_bytes (Enumeration name base (v ∷ vs)) = number_bytes base v.number

-- the bytes that a symbol without `initial` begins with: those of its enumeration's first value, and else zeros
abbrev pub default_bytes : List NamedType → Shape → List ℕ
default_bytes types (One (Enum place)) = option_map_or first_value_bytes (slice_get types place) []
default_bytes types shape = replicate (type_size (tree_of types shape)) 0

-- the bytes of hexadecimal text
abbrev pub bytes_of_hex : List ℕ → Option (List ℕ)
bytes_of_hex text = result_ok (decode_of text)

abbrev pub initial_described : List NamedType → Shape → Option (List ℕ) → List ℕ
initial_described types shape None = default_bytes types shape
initial_described types shape (Some text) = unwrap_or (bytes_of_hex text) []

abbrev pub nets_described : Option (List (List ℕ)) → List (List ℕ)
nets_described None = []
nets_described (Some texts) = map (λ text. unwrap_or (net_of text) []) texts

abbrev pub symbol_described : List NamedType → WrittenSymbol → Symbol
symbol_described types s = record {
  name = s.name;
  shape = shape_described types s.type;
  area = unwrap_or (area_of s.area) Inputs;
  offset = natural_of s.offset;
  comment = s.comment;
  persistent = s.persistent;
  read_only = s.read_only;
  initial = initial_described types (shape_described types s.type) s.initial;
  signal = option_map natural_of s.signal;
  writers = nets_described s.writers;
}

abbrev pub sizes_described : WrittenPort → Sizes
sizes_described p = record {
  inputs = natural_of p.inputs;
  outputs = natural_of p.outputs;
  memory = natural_of p.memory;
  process = natural_of p.process;
}

-- the version, and the name filled up with NULs to 16 bytes
abbrev pub facts_described : WrittenPort → Facts
facts_described p = record {
  major = natural_of p.major;
  minor = natural_of p.minor;
  build = natural_of p.build;
  name = p.name ++ replicate (16 - length p.name) 0;
}

abbrev pub port_described : List NamedType → WrittenPort → Port
port_described types p = record {
  number = natural_of p.number;
  facts = facts_described p;
  sizes = sizes_described p;
  symbols = map (symbol_described types) p.symbols;
}

abbrev pub route_described : WrittenRoute → Route
route_described r = record { net = unwrap_or (net_of r.net) []; rights = unwrap_or (rights_of r.rights) Read }

-- the description that a document writes
abbrev pub description_of : Document → Description
description_of d = record {
  net = unwrap_or (net_of d.net) [];
  routes = map route_described d.routes;
  types = types_described d.types;
  ports = map (port_described (types_described d.types)) d.ports;
}
