-- Where a reload puts the bytes of kept symbols. Each entry is one kept symbol, with its whole places in the old and in the new world.
use Rattle.std.specs.Prelude.{◌≡◌, ℕ, ◌+◌, ◌-◌, ◌<◌, ◌≤◌, List, Bool, ◌&&◌, ◌==◌, nat_le, find, Option, option_map, All, AllPairs}
use Rattle.std.specs.Option.{ForSome}
use Rattle.spec_plant.specs.World.{is_same_area}
use Rattle.type_layout.specs.Descriptions.{area_of}
use Rattle.type_layout.specs.declared.port.Area.{Area}
use Rattle.symbol_table.specs.declared.place.Place.{Place}
use Rattle.symbol_table.specs.declared.kept.KeptPlace.{KeptPlace}

-- a place has this byte of its area
abbrev pub HasByte : Place → ℕ → Type 0
HasByte p byte = (p.at ≤ byte) × (byte < p.at + p.len)

-- these bytes lie within a place
pub record IsWithin (p whole : Place) : Type 0 where
  pub area : p.area ≡ whole.area
  pub begins : whole.at ≤ p.at
  pub ends : p.at + p.len ≤ whole.at + whole.len

-- one symbol of one port in the old world
abbrev pub IsSameSymbol : KeptPlace → KeptPlace → Type 0
IsSameSymbol e f = (e.port ≡ f.port) × (e.from.symbol ≡ f.from.symbol)

-- one byte of one port is in both old places
abbrev pub Overlap : KeptPlace → KeptPlace → Type 0
Overlap e f = (e.port ≡ f.port) × (e.from.area ≡ f.from.area) × (byte : ℕ) × HasByte e.from byte × HasByte f.from byte

-- both places of an entry have the same length, and end before byte 4,294,967,296 of their areas
pub record IsKeptPlace (e : KeptPlace) : Type 0 where
  pub length : e.to.len ≡ e.from.len
  pub old_end : e.from.at + e.from.len ≤ 4294967295
  pub new_end : e.to.at + e.to.len ≤ 4294967295

-- what the entries of a reload are: no symbol has two, and no byte of the old world is in two
pub record AreKept (kept : List KeptPlace) : Type 0 where
  pub each : All IsKeptPlace kept
  pub symbols : AllPairs (λ e f. IsSameSymbol e f → ⊥) kept
  pub bytes : AllPairs (λ e f. Overlap e f → ⊥) kept

abbrev pub is_symbol : ℕ → ℕ → KeptPlace → Bool
is_symbol port symbol e = (e.port == port) && (e.from.symbol == symbol)

-- the entry of a symbol, and none where it is not kept
abbrev pub kept_symbol : List KeptPlace → ℕ → ℕ → Option KeptPlace
kept_symbol kept port symbol = find (is_symbol port symbol) kept

-- the same part of the symbol in the new world
abbrev pub part_in : Place → KeptPlace → Place
part_in p e = record { symbol = e.to.symbol; area = e.to.area; «at» = e.to.at + (p.at - e.from.at); len = p.len }

-- where a place is after the reload; none where its symbol is not kept
unfoldable pub moved_place : List KeptPlace → ℕ → Place → Option Place
moved_place kept port p = option_map (part_in p) (kept_symbol kept port p.symbol)

-- a place lies within its symbol's old place, where the symbol is kept
abbrev pub IsInOldWorld : List KeptPlace → ℕ → Place → Type 0
IsInOldWorld kept port p = ForSome (kept_symbol kept port p.symbol) (λ e. IsWithin p e.from)

-- a symbol has all these bytes of the old world
abbrev pub has_bytes : ℕ → Area → ℕ → ℕ → KeptPlace → Bool
has_bytes port area first len e =
    (e.port == port) && is_same_area (area_of e.from.area) (area_of area)
    && nat_le e.from.at first && nat_le (first + len) (e.from.at + e.from.len)

-- the entry of the symbol that has all these bytes
abbrev pub kept_bytes : List KeptPlace → ℕ → Area → ℕ → ℕ → Option KeptPlace
kept_bytes kept port area first len = find (has_bytes port area first len) kept

-- the area, and the first byte in it, of the same bytes in the new world
abbrev pub bytes_in : ℕ → KeptPlace → Area × ℕ
bytes_in first e = (e.to.area, e.to.at + (first - e.from.at))

-- where bytes are after the reload; none where they are not all of one kept symbol
unfoldable pub moved_span : List KeptPlace → ℕ → Area → ℕ → ℕ → Option (Area × ℕ)
moved_span kept port area first len = option_map (bytes_in first) (kept_bytes kept port area first len)
