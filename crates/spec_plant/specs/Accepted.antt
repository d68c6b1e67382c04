-- Which descriptions are accepted for a number of signals: description rules 4 to 15, said over the value. A value
-- knows no schema, so the limit of a port's image is the greater one.
use Rattle.std.specs.Prelude.{ℕ, slice_get, ◌+◌, ◌-◌, ◌^◌, ◌≤◌, ◌<◌, List, [], ◌∷◌, length, map, take, Bool, true, false, ◌&&◌, ◌||◌, not, ◌==◌, nat_le}
use Rattle.std.specs.Prelude.{nat_lt, Option, Some, None, IsTrue, bytes_eq, ℤ, pos, negsuc, flat_map}
use Rattle.std.specs.List.{list_all, list_any, filter_map, starts_with}
use Rattle.std.specs.Option.{option_map_or}
use Rattle.std.specs.Int.{to_le_bytes, w64}
use Rattle.name_paths.specs.Name.{is_symbol_name, lower_identifiers}
use Rattle.spec_plant.specs.Plain.{Kind, kind_size}
use Rattle.spec_plant.specs.Listed.{Plain, Text, Struct, Enum, Shape, One, Array, EnumValue, NamedType, Structure, Enumeration}
use Rattle.spec_plant.specs.Trees.{tree_of}
use Rattle.spec_plant.specs.Sizes.{type_size}
use Rattle.spec_plant.specs.Description.{Route, Sizes, size_in, Facts, Symbol, Port, Description}
use Rattle.spec_plant.specs.Entries.{upload_size}
use Rattle.spec_plant.specs.World.{is_same_area}
use Rattle.spec_plant.specs.AcceptedTypes.{AreTypes, all_pairs, is_comment, is_shape, is_small_shape, LIMIT}

-- two NetIds that differ
abbrev pub are_two_nets : List ℕ → List ℕ → Bool
are_two_nets a b = not (bytes_eq a b)

-- the size of a symbol
abbrev pub size_of_symbol : List NamedType → Symbol → ℕ
size_of_symbol types s = type_size (tree_of types s.shape)

-- neither name begins with all identifiers of the other, ASCII case aside
abbrev pub neither_begins : List ℕ → List ℕ → Bool
neither_begins a b =
    not (starts_with bytes_eq (lower_identifiers a) (lower_identifiers b))
    && not (starts_with bytes_eq (lower_identifiers b) (lower_identifiers a))

abbrev pub are_two_names : Symbol → Symbol → Bool
are_two_names s t = neither_begins s.name t.name

-- no byte belongs to both
abbrev pub are_apart : List NamedType → Symbol → Symbol → Bool
are_apart types s t =
    not (is_same_area s.area t.area) || nat_le (s.offset + size_of_symbol types s) t.offset
    || nat_le (t.offset + size_of_symbol types t) s.offset

-- the bytes of a number of an enumeration with this base
abbrev pub number_bytes : Kind → ℤ → List ℕ
number_bytes base (pos n) = take (kind_size base) (to_le_bytes w64 n)
number_bytes base (negsuc n) = take (kind_size base) (to_le_bytes w64 (2 ^ 64 - 1 - n))

-- whether these are the bytes of a value of an enumeration
abbrev pub is_value_of : List ℕ → NamedType → Bool
is_value_of bytes (Structure name members) = false
is_value_of bytes (Enumeration name base values) =
    list_any (λ (v : EnumValue). bytes_eq (number_bytes base v.number) bytes) values

abbrev pub is_value_at : List ℕ → List NamedType → ℕ → Bool
is_value_at bytes types place = option_map_or (is_value_of bytes) (slice_get types place) false

-- where a symbol's own type is an enumeration, it begins with one of the values
abbrev pub begins_with_value : List NamedType → Shape → List ℕ → Bool
begins_with_value types (One (Plain kind)) bytes = true
begins_with_value types (One (Text n)) bytes = true
begins_with_value types (One (Struct place)) bytes = true
begins_with_value types (One (Enum place)) bytes = is_value_at bytes types place
begins_with_value types (Array bounds elem) bytes = true

-- only a symbol of a plain type is written by a signal
abbrev pub may_have_signal : Shape → Bool
may_have_signal (One (Plain kind)) = true
may_have_signal shape = false

-- a signal that is there, at a symbol that may have one
abbrev pub is_signal_right : ℕ → Shape → Option ℕ → Bool
is_signal_right signals shape None = true
is_signal_right signals shape (Some n) = nat_lt n signals && may_have_signal shape

-- a symbol by itself: its name, its type and place, its bytes, its comment, its writers and its signal
abbrev pub is_symbol : List NamedType → Sizes → ℕ → Symbol → Bool
is_symbol types sizes signals s =
    is_symbol_name s.name
    && (is_shape types s.shape && is_small_shape s.shape && nat_le (size_of_symbol types s) LIMIT)
    && nat_le (s.offset + size_of_symbol types s) (size_in sizes s.area)
    && (length s.initial == size_of_symbol types s && begins_with_value types s.shape s.initial)
    && is_comment s.comment
    && (nat_le (length s.writers) 64 && all_pairs are_two_nets s.writers)
    && is_signal_right signals s.shape s.signal

-- a name of at most 16 bytes, each from a space to a tilde, and NULs up to 16 bytes
abbrev pub is_device_name : List ℕ → Bool
is_device_name [] = true
is_device_name (c ∷ cs) =
    (nat_le 0x20 c && nat_le c 0x7E && is_device_name cs) || list_all (λ x. x == 0) (c ∷ cs)

abbrev pub are_facts : Facts → Bool
are_facts f =
    nat_le f.major 255 && nat_le f.minor 255 && nat_le f.build 65535 && (length f.name == 16 && is_device_name f.name)

-- the bytes of a port's image, and their limit
abbrev pub image_size : Sizes → ℕ
image_size sizes = sizes.inputs + sizes.outputs + sizes.memory + sizes.process

abbrev pub IMAGE_LIMIT : ℕ
IMAGE_LIMIT = 4194304

abbrev pub is_port : List NamedType → ℕ → Port → Bool
is_port types signals p =
    (nat_lt 0 p.number && nat_le p.number 65535) && are_facts p.facts && nat_le (image_size p.sizes) IMAGE_LIMIT
    && (nat_le (length p.symbols) 10000 && list_all (is_symbol types p.sizes signals) p.symbols)
    && (all_pairs are_two_names p.symbols && all_pairs (are_apart types) p.symbols)
    && nat_le (upload_size types p.symbols) 2000000

-- the signals of all symbols
abbrev pub signals_of : List Port → List ℕ
signals_of ports = filter_map (λ (s : Symbol). s.signal) (flat_map (λ (p : Port). p.symbols) ports)

pub record IsAccepted (d : Description) (signals : ℕ) : Type 0 where
  pub routes : IsTrue (all_pairs are_two_nets (map (λ (r : Route). r.net) d.routes))
  pub types : AreTypes d.types
  pub some_port : 0 < length d.ports
  pub few_ports : length d.ports ≤ 16
  pub numbers : IsTrue (all_pairs (λ m n. not (m == n)) (map (λ (p : Port). p.number) d.ports))
  pub each_port : IsTrue (list_all (is_port d.types signals) d.ports)
  pub each_signal_once : IsTrue (all_pairs (λ m n. not (m == n)) (signals_of d.ports))
