-- Places of handles told by numbers: a symbol by its place in the description, and a part of it by an offset in the
-- symbol's area. They are the bytes of places told by names, and a reload moves both alike.
use Rattle.std.specs.Prelude.{◌≡◌, ℕ, ◌+◌, ◌-◌, ◌≤◌, List, Bool, true, false, ◌&&◌, ◌==◌, nat_le, bytes_eq, find}
use Rattle.std.specs.Prelude.{Option, Some, option_map, slice_get, IsSome}
use Rattle.std.specs.Option.{option_map_or}
use Rattle.spec_plant.specs.Description.{Area}
use Rattle.spec_plant.specs.World.{Plant, PlantPort, PlantSymbol, symbol_size, lower_name, SymbolPart, is_same_area}
use Rattle.spec_plant.specs.SameTypes.{is_same_type}
use Rattle.spec_plant.specs.Sizes.{type_size}
use Rattle.spec_plant.specs.Finding.{Found, found_of}
use Rattle.spec_plant.specs.Named.{port_numbered}
use Rattle.spec_plant.specs.Sound.{Each, IsSoundPlant}
use Rattle.spec_machine.specs.World.{names_at}
use Rattle.spec_machine.specs.Client.{Place, names_of_place, kept_place}
use Rattle.spec_machine.specs.ByName.{place_of}
use Rattle.spec_machine.specs.Reloads.{is_kept}
use Rattle.spec_machine.specs.HandleLaws.{AgreeingMoves}

-- some bytes of a symbol: its number, its area, the first byte in that, and how many
pub record NumberedPlace : Type 0 where
  pub symbol : ℕ
  pub area : Area
  pub first : ℕ
  pub len : ℕ

-- the whole of a symbol with a number
abbrev pub whole_place : ℕ → PlantSymbol → NumberedPlace
whole_place n s = record { symbol = n; area = s.area; first = s.offset; len = symbol_size s }

-- whether a place of a symbol is the one that is told by its number
abbrev pub is_place_in : Place → NumberedPlace → PlantSymbol → Bool
is_place_in place q s =
    bytes_eq (lower_name s) place.symbol && is_same_area q.area s.area && (q.first == s.offset + place.first)
    && (q.len == place.len) && nat_le (place.first + place.len) (symbol_size s)

abbrev pub is_place_at : Place → NumberedPlace → PlantPort → Bool
is_place_at place q p = option_map_or (is_place_in place q) (slice_get p.symbols q.symbol) false

-- whether a place by name at a port, and a place by number there, are the same bytes of one symbol
abbrev pub is_same_place : List PlantPort → ℕ → Place → NumberedPlace → Bool
is_same_place ports port place q = option_map_or (is_place_at place q) (port_numbered port ports) false

-- The same place has the same bytes.
abbrev pub SamePlacesHaveSameBytes : Type 0
SamePlacesHaveSameBytes = (plant : Plant) (p : PlantPort) (port len : ℕ) (place : Place) (q : NumberedPlace)
    → IsSoundPlant plant → port_numbered port plant.ports ≡ Some p
    → is_same_place plant.ports port place q ≡ true → len ≤ place.len
    → names_of_place port place len ≡ names_at p q.area q.first len

-- a symbol that a reload keeps: its port, and its whole places in the old and in the new plant
pub record KeptSymbol : Type 0 where
  pub port : ℕ
  pub before : NumberedPlace
  pub after : NumberedPlace

-- the symbols of an entry, which the reload keeps
pub record IsEntryOf (old new : Plant) (e : KeptSymbol) : Type 0 where
  pub was_port : PlantPort
  pub was_port_found : port_numbered e.port old.ports ≡ Some was_port
  pub is_port : PlantPort
  pub is_port_found : port_numbered e.port new.ports ≡ Some is_port
  pub was : PlantSymbol
  pub was_there : slice_get was_port.symbols e.before.symbol ≡ Some was
  pub is : PlantSymbol
  pub is_there : slice_get is_port.symbols e.after.symbol ≡ Some is
  pub same_name : lower_name was ≡ lower_name is
  pub same_type : is_same_type was.type is.type ≡ true
  pub before_is : e.before ≡ whole_place e.before.symbol was
  pub after_is : e.after ≡ whole_place e.after.symbol is

abbrev pub is_entry_of_symbol : ℕ → ℕ → KeptSymbol → Bool
is_entry_of_symbol port symbol e = (e.port == port) && (e.before.symbol == symbol)

-- the entry of a symbol by its number in the old plant
abbrev pub entry_of_symbol : List KeptSymbol → ℕ → ℕ → Option KeptSymbol
entry_of_symbol kept port symbol = find (is_entry_of_symbol port symbol) kept

-- the entries are those of kept symbols, and each kept symbol has one
pub record AreKeptSymbols (old new : Plant) (kept : List KeptSymbol) : Type 0 where
  pub each : Each (IsEntryOf old new) kept
  pub all : (port : ℕ) (p : PlantPort) (n : ℕ) (s : PlantSymbol) → port_numbered port old.ports ≡ Some p
      → slice_get p.symbols n ≡ Some s → is_kept old new port (SymbolPart (lower_name s)) ≡ true
      → IsSome (entry_of_symbol kept port n)

-- the same part of the symbol in the new plant
abbrev pub part_of_entry : NumberedPlace → KeptSymbol → NumberedPlace
part_of_entry q e = record {
  symbol = e.after.symbol;
  area = e.after.area;
  first = e.after.first + (q.first - e.before.first);
  len = q.len;
}

-- where a reload moves a place by number
abbrev pub moved_place : List KeptSymbol → ℕ → NumberedPlace → Option NumberedPlace
moved_place kept port q = option_map (part_of_entry q) (entry_of_symbol kept port q.symbol)

-- A reload moves places by number as it moves places by name.
abbrev pub PlacesMoveAlike : Type 0
PlacesMoveAlike = (old new : Plant) (kept : List KeptSymbol) → IsSoundPlant old → IsSoundPlant new
    → AreKeptSymbols old new kept
    → AgreeingMoves (is_same_place old.ports) (is_same_place new.ports) (kept_place (is_kept old new)) (moved_place kept)

-- the place by number of what a name leads to, where its symbol has this number
abbrev pub numbered_place_of : ℕ → Found → NumberedPlace
numbered_place_of n f = record {
  symbol = n;
  area = f.symbol.area;
  first = f.symbol.offset + f.part.first;
  len = type_size f.part.type;
}

-- What a name leads to is the same place by name and by number.
abbrev pub FoundPlacesAreSame : Type 0
FoundPlacesAreSame = (plant : Plant) (p : PlantPort) (port n : ℕ) (name : List ℕ) (f : Found)
    → port_numbered port plant.ports ≡ Some p → found_of p.symbols name ≡ Some f → slice_get p.symbols n ≡ Some f.symbol
    → is_same_place plant.ports port (place_of f) (numbered_place_of n f) ≡ true
