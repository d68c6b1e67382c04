-- Which tables a description's document has, and their keys. None where description rule 2 is broken: an unknown or a
-- missing key, or a value of another kind. The keys of schema 2 are keys exactly where `schema` is the integer 2.
use Rattle.std.specs.Prelude.{ℕ, List, [], ◌∷◌, Bool, false, ◌&&◌, ◌==◌, Option, Some, is_some, if◌then◌else◌, codes, ℤ, pos, negsuc}
use Rattle.toml.specs.Data.{Members, get_member, as_str, as_integer, as_bool}
use Rattle.spec_rules.specs.Fields.{◌>>=◌, only_keys, required, optional, maybe, array_of, tables_of, if_so}
use Rattle.spec_rules.specs.Written.{WrittenRoute, WrittenMember, EnumValue, WrittenType, WrittenStructure}
use Rattle.spec_rules.specs.Written.{WrittenEnumeration, WrittenSymbol, WrittenPort, Document}

unfoldable pub route_in : Members → Option WrittenRoute
route_in t = if_so (only_keys (codes "net" ∷ codes "rights" ∷ []) t) (do
  net ← required as_str (codes "net") t
  rights ← required as_str (codes "rights") t
  Some (record { net = net; rights = rights }))

unfoldable pub member_in : Members → Option WrittenMember
member_in t = if_so (only_keys (codes "name" ∷ codes "type" ∷ codes "comment" ∷ []) t) (do
  name ← required as_str (codes "name") t
  type ← required as_str (codes "type") t
  comment ← optional as_str [] (codes "comment") t
  Some (record { name = name; type = type; comment = comment }))

unfoldable pub value_in : Members → Option EnumValue
value_in t = if_so (only_keys (codes "name" ∷ codes "number" ∷ []) t) (do
  name ← required as_str (codes "name") t
  number ← required as_integer (codes "number") t
  Some (record { name = name; number = number }))

unfoldable pub structure_in : Members → Option WrittenType
structure_in t = if_so (only_keys (codes "name" ∷ codes "member" ∷ []) t) (do
  name ← required as_str (codes "name") t
  members ← required (tables_of member_in) (codes "member") t
  Some (WrittenStructure name members))

unfoldable pub enumeration_in : Members → Option WrittenType
enumeration_in t = if_so (only_keys (codes "name" ∷ codes "base" ∷ codes "value" ∷ []) t) (do
  name ← required as_str (codes "name") t
  base ← required as_str (codes "base") t
  values ← required (tables_of value_in) (codes "value") t
  Some (WrittenEnumeration name base values))

-- under schema 2 a type with the key `base` is an enumeration
unfoldable pub type_in : Bool → Members → Option WrittenType
type_in second t =
    if second && is_some (get_member (codes "base") t) then enumeration_in t else structure_in t

abbrev pub symbol_keys_of_schema_1 : List (List ℕ)
symbol_keys_of_schema_1 =
    codes "name" ∷ codes "type" ∷ codes "area" ∷ codes "offset" ∷ codes "comment" ∷ codes "persistent"
    ∷ codes "read_only" ∷ codes "initial" ∷ codes "signal" ∷ []

-- the keys of a symbol
abbrev pub symbol_keys : Bool → List (List ℕ)
symbol_keys second =
    if second then codes "writers" ∷ symbol_keys_of_schema_1 else symbol_keys_of_schema_1

unfoldable pub symbol_in : Bool → Members → Option WrittenSymbol
symbol_in second t = if_so (only_keys (symbol_keys second) t) (do
  name ← required as_str (codes "name") t
  type ← required as_str (codes "type") t
  area ← required as_str (codes "area") t
  offset ← required as_integer (codes "offset") t
  comment ← optional as_str [] (codes "comment") t
  persistent ← optional as_bool false (codes "persistent") t
  read_only ← optional as_bool false (codes "read_only") t
  initial ← maybe as_str (codes "initial") t
  signal ← maybe as_integer (codes "signal") t
  writers ← maybe (array_of as_str) (codes "writers") t
  Some (record {
    name = name;
    type = type;
    area = area;
    offset = offset;
    comment = comment;
    persistent = persistent;
    read_only = read_only;
    initial = initial;
    signal = signal;
    writers = writers;
  }))

abbrev pub port_keys : List (List ℕ)
port_keys =
    codes "port" ∷ codes "name" ∷ codes "major" ∷ codes "minor" ∷ codes "build" ∷ codes "inputs" ∷ codes "outputs"
    ∷ codes "memory" ∷ codes "data" ∷ codes "symbol" ∷ []

unfoldable pub port_in : Bool → Members → Option WrittenPort
port_in second t = if_so (only_keys port_keys t) (do
  number ← required as_integer (codes "port") t
  name ← required as_str (codes "name") t
  major ← required as_integer (codes "major") t
  minor ← required as_integer (codes "minor") t
  build ← required as_integer (codes "build") t
  inputs ← optional as_integer (pos 0) (codes "inputs") t
  outputs ← optional as_integer (pos 0) (codes "outputs") t
  memory ← optional as_integer (pos 0) (codes "memory") t
  process ← optional as_integer (pos 0) (codes "data") t
  symbols ← optional (tables_of (symbol_in second)) [] (codes "symbol") t
  Some (record {
    number = number;
    name = name;
    major = major;
    minor = minor;
    build = build;
    inputs = inputs;
    outputs = outputs;
    memory = memory;
    process = process;
    symbols = symbols;
  }))

-- whether `schema` is the integer 2
abbrev pub is_two : ℤ → Bool
is_two (pos n) = n == 2
is_two (negsuc n) = false

abbrev pub document_keys : List (List ℕ)
document_keys = codes "schema" ∷ codes "net" ∷ codes "route" ∷ codes "type" ∷ codes "port" ∷ []

unfoldable pub document_in : Members → Option Document
document_in t = if_so (only_keys document_keys t) (do
  schema ← required as_integer (codes "schema") t
  net ← required as_str (codes "net") t
  routes ← optional (tables_of route_in) [] (codes "route") t
  types ← optional (tables_of (type_in (is_two schema))) [] (codes "type") t
  ports ← required (tables_of (port_in (is_two schema))) (codes "port") t
  Some (record { schema = schema; net = net; routes = routes; types = types; ports = ports }))
