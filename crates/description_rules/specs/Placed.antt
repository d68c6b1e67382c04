-- For private contracts, and cited by no public clause: where symbols stand, and which signals they name.
use Rattle.std.specs.Prelude.{ℕ, ◌+◌, List, Bool, not, ◌&&◌, ◌||◌, nat_le, is_some, true, Option, ℤ}
use Rattle.std.specs.List.{list_all}
use Rattle.spec_plant.specs.Description as plant
use Rattle.spec_plant.specs.Listed.{NamedType}
use Rattle.spec_plant.specs.World.{is_same_area}
use Rattle.spec_plant.specs.Accepted.{size_of_symbol}
use Rattle.spec_rules.specs.Written as rules
use Rattle.spec_rules.specs.PortRules.{is_natural}
use Rattle.std.specs.Option.{option_map_or}
use Rattle.spec_plant.specs.Accepted.{may_have_signal}
use Rattle.spec_plant.specs.AcceptedTypes.{is_same_number}
use Rattle.spec_rules.specs.SymbolRules.{fits_area, is_signal}
use Rattle.spec_rules.specs.Described.{area_of, symbol_described, shape_described}
use Rattle.type_layout.specs.Descriptions as layout
use Rattle.description_rules.specs.declared.symbol_places.Placed.{Placed}
use Rattle.description_rules.specs.declared.symbol_signals.SignalUse.{SignalUse}

-- the bytes of a symbol, and whether it has an area and lies within it
pub record SymbolPlace : Type 0 where
  pub area : plant.Area
  pub offset : ℕ
  pub size : ℕ
  pub right : Bool

abbrev pub place_view : Placed → SymbolPlace
place_view p = record { area = layout.area_of p.area; offset = p.offset; size = p.size; right = p.right }

-- whether a symbol by itself is rightly placed
abbrev pub is_placed : List NamedType → plant.Sizes → rules.WrittenSymbol → Bool
is_placed types sizes s = is_some (area_of s.area) && is_natural s.offset && fits_area types sizes (symbol_described types s)

abbrev pub place_of : List NamedType → plant.Sizes → rules.WrittenSymbol → SymbolPlace
place_of types sizes s = record {
  area = (symbol_described types s).area;
  offset = (symbol_described types s).offset;
  size = size_of_symbol types (symbol_described types s);
  right = is_placed types sizes s;
}

-- no byte belongs to both
abbrev pub are_apart_places : SymbolPlace → SymbolPlace → Bool
are_apart_places s t =
    not (is_same_area s.area t.area) || nat_le (s.offset + s.size) t.offset || nat_le (t.offset + t.size) s.offset

abbrev pub is_right_behind : List SymbolPlace → SymbolPlace → Bool
is_right_behind before p = p.right && list_all (λ e. are_apart_places e p) before

-- the signal that a symbol names, and whether it is there and the symbol may have one
pub record SignalPlace : Type 0 where
  pub right : Bool
  pub signal : Option ℤ

abbrev pub use_view : SignalUse → SignalPlace
use_view u = record { right = u.right; signal = u.signal }

abbrev pub is_right_number : List NamedType → ℕ → List ℕ → ℤ → Bool
is_right_number types signals text n = is_signal signals n && may_have_signal (shape_described types text)

abbrev pub use_of : List NamedType → ℕ → rules.WrittenSymbol → SignalPlace
use_of types signals s = record { right = option_map_or (is_right_number types signals s.type) s.signal true; signal = s.signal }

-- whether a symbol does not name this signal
abbrev pub names_other : ℤ → SignalPlace → Bool
names_other signal u = option_map_or (λ n. not (is_same_number n signal)) u.signal true

abbrev pub is_right_use : List SignalPlace → SignalPlace → Bool
is_right_use before u = option_map_or (λ n. u.right && list_all (names_other n) before) u.signal true
