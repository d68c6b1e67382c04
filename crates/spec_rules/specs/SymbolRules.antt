-- Description rules 10 to 14: symbols, counted through all ports.
use Rattle.std.specs.Prelude.{ℕ, ◌+◌, List, [], length, Bool, true, false, not, ◌&&◌, ◌==◌, nat_lt, nat_le, Option, Some, None, is_some, is_none, flat_map}
use Rattle.std.specs.Prelude.{bytes_eq, ℤ, pos, negsuc}
use Rattle.std.specs.Option.{option_map_or}
use Rattle.std.specs.List.{list_all}
use Rattle.name_paths.specs.Name.{is_symbol_name}
use Rattle.spec_plant.specs.Listed.{Shape, NamedType}
use Rattle.spec_plant.specs.Trees.{tree_of}
use Rattle.spec_plant.specs.Sizes.{type_size}
use Rattle.spec_plant.specs.Description.{Sizes, size_in, Symbol}
use Rattle.spec_plant.specs.Accepted.{are_apart, size_of_symbol, begins_with_value, may_have_signal}
pub use Rattle.spec_plant.specs.Accepted.{neither_begins}
use Rattle.spec_plant.specs.AcceptedTypes.{is_comment, is_small_shape, is_same_number, LIMIT}
use Rattle.spec_rules.specs.Written.{WrittenSymbol, WrittenPort}
use Rattle.spec_rules.specs.Places.{first_wrong, first_through}
use Rattle.spec_rules.specs.Nets.{net_of}
use Rattle.spec_plant.specs.Shapes.{shape_of_text}
use Rattle.spec_rules.specs.PortRules.{is_natural}
use Rattle.spec_rules.specs.Described.{area_of, bytes_of_hex, shape_described, symbol_described, sizes_described}

-- the first symbol, through all ports, that is not right behind those before it in its port
abbrev pub wrong_symbol : (WrittenPort → List WrittenSymbol → WrittenSymbol → Bool) → List WrittenPort → Option ℕ
wrong_symbol is_right ports =
    first_through (λ (p : WrittenPort). length p.symbols) (λ before p. first_wrong (is_right p) [] p.symbols) [] ports

abbrev pub is_right_name : List WrittenSymbol → WrittenSymbol → Bool
is_right_name before s =
    is_symbol_name s.name && list_all (λ (e : WrittenSymbol). neither_begins e.name s.name) before

-- rule 10: names
unfoldable pub wrong_name : List WrittenPort → Option ℕ
wrong_name ports = wrong_symbol (λ p. is_right_name) ports

-- at most 1,048,576 elements and bytes
abbrev pub is_small : List NamedType → Shape → Bool
is_small types shape = is_small_shape shape && nat_le (type_size (tree_of types shape)) LIMIT

-- rule 11: types
unfoldable pub wrong_type : List NamedType → List WrittenPort → Option ℕ
wrong_type types ports =
    wrong_symbol (λ p before s. option_map_or (is_small types) (shape_of_text types s.type) false) ports

-- a symbol lies within its area
abbrev pub fits_area : List NamedType → Sizes → Symbol → Bool
fits_area types sizes s = nat_le (s.offset + size_of_symbol types s) (size_in sizes s.area)

abbrev pub is_right_place : List NamedType → WrittenPort → List WrittenSymbol → WrittenSymbol → Bool
is_right_place types p before s =
    is_some (area_of s.area) && is_natural s.offset && fits_area types (sizes_described p) (symbol_described types s)
    && list_all (λ e. are_apart types (symbol_described types e) (symbol_described types s)) before

-- rule 12: places
unfoldable pub wrong_place : List NamedType → List WrittenPort → Option ℕ
wrong_place types ports = wrong_symbol (is_right_place types) ports

-- as many bytes as the type has, and those of a value where the type is an enumeration
abbrev pub are_right_bytes : List NamedType → Shape → List ℕ → Bool
are_right_bytes types shape bytes =
    (length bytes == type_size (tree_of types shape)) && begins_with_value types shape bytes

abbrev pub is_right_initial : List NamedType → Shape → Option (List ℕ) → Bool
is_right_initial types shape None = true
is_right_initial types shape (Some text) = option_map_or (are_right_bytes types shape) (bytes_of_hex text) false

-- a NetId that no earlier writer has
abbrev pub is_right_writer : List (List ℕ) → List ℕ → Bool
is_right_writer before text = is_some (net_of text) && list_all (λ e. not (bytes_eq e text)) before

-- 1 to 64 NetIds, where the key is there
abbrev pub are_right_writers : Option (List (List ℕ)) → Bool
are_right_writers None = true
are_right_writers (Some texts) =
    nat_lt 0 (length texts) && nat_le (length texts) 64 && is_none (first_wrong is_right_writer [] texts)

abbrev pub is_right_content : List NamedType → WrittenSymbol → Bool
is_right_content types s =
    is_right_initial types (shape_described types s.type) s.initial && is_comment s.comment
    && are_right_writers s.writers

-- rule 13: initial bytes, comments and writers
unfoldable pub wrong_content : List NamedType → List WrittenPort → Option ℕ
wrong_content types ports = wrong_symbol (λ p before s. is_right_content types s) ports

-- a signal that is there
abbrev pub is_signal : ℕ → ℤ → Bool
is_signal signals (pos n) = nat_lt n signals
is_signal signals (negsuc n) = false

-- whether a symbol does not name this signal
abbrev pub has_other_signal : ℤ → WrittenSymbol → Bool
has_other_signal signal s = option_map_or (λ n. not (is_same_number n signal)) s.signal true

-- a signal that is there and that no earlier symbol has, at a symbol of a plain type; or none
abbrev pub is_right_signal : List NamedType → ℕ → List WrittenSymbol → WrittenSymbol → Bool
is_right_signal types signals before s =
    option_map_or (λ n. is_signal signals n && list_all (has_other_signal n) before
    && may_have_signal (shape_described types s.type)) s.signal true

-- rule 14: signals, each used once through all ports
unfoldable pub wrong_signal : List NamedType → ℕ → List WrittenPort → Option ℕ
wrong_signal types signals ports =
    first_wrong (is_right_signal types signals) [] (flat_map (λ (p : WrittenPort). p.symbols) ports)
