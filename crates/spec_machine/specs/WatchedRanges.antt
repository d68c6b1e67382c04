-- What a notification watches, told by a range of an area or by a port's own bytes: a reload moves it as it moves the names
-- of its bytes.
use Rattle.std.specs.Prelude.{ℕ, ◌+◌, ◌-◌, List, [], ◌∷◌, map, Bool, true, false, ◌&&◌, ◌==◌, nat_le, nat_lt, find}
use Rattle.std.specs.Prelude.{Option, Some, None, option_map, if◌then◌else◌}
use Rattle.std.specs.List.{list_any}
use Rattle.std.specs.Option.{option_map_or}
use Rattle.spec_plant.specs.Description.{Area, size_in}
use Rattle.spec_plant.specs.World.{Plant, PlantPort, is_same_area}
use Rattle.spec_plant.specs.Named.{port_numbered, is_same_name}
use Rattle.spec_plant.specs.Sound.{IsSoundPlant}
use Rattle.spec_formats.specs.Ranges.{Range, Bytes, Bit, Size}
use Rattle.spec_machine.specs.World.{name_at, names_at, own_names, OWN_SIZE}
use Rattle.spec_machine.specs.Access.{Addressed, WholeByte, OneBit}
use Rattle.spec_machine.specs.Client.{kept_bytes}
use Rattle.spec_machine.specs.Reloads.{is_kept}
use Rattle.spec_machine.specs.HandleLaws.{AgreeingMoves}
use Rattle.spec_machine.specs.NumberedPlaces.{KeptSymbol, AreKeptSymbols}

-- whether two bytes or bits are one
abbrev pub is_same_addressed : Addressed → Addressed → Bool
is_same_addressed (WholeByte n) (WholeByte m) = is_same_name n m
is_same_addressed (OneBit n bit) (OneBit m other) = is_same_name n m && (bit == other)
is_same_addressed a b = false

abbrev pub are_same_addressed : List Addressed → List Addressed → Bool
are_same_addressed [] [] = true
are_same_addressed (a ∷ as_) (b ∷ bs) = is_same_addressed a b && are_same_addressed as_ bs
are_same_addressed as_ bs = false

-- whether these are the bytes, one at least, or the bit, that a range of a port names
abbrev pub is_range_at : List Addressed → Range → PlantPort → Bool
is_range_at watched (Bytes area offset len) p =
    nat_lt 0 len && nat_le (offset + len) (size_in p.sizes area)
    && are_same_addressed watched (map WholeByte (names_at p area offset len))
is_range_at watched (Bit area offset bit) p =
    nat_lt offset (size_in p.sizes area) && are_same_addressed watched (OneBit (name_at p area offset) bit ∷ [])
is_range_at watched (Size area) p = false

-- what a notification watches at its port: bytes or a bit of an area; or so many of the port's own bytes, from one of them on
pub data Watched : Type 0 where
  InArea : (range : Range) → Watched
  Own : (first len : ℕ) → Watched

-- whether these are the bytes, one at least, or the bit, that are so told of a port
abbrev pub is_watched_at : List Addressed → Watched → PlantPort → Bool
is_watched_at watched (InArea range) p = is_range_at watched range p
is_watched_at watched (Own first len) p =
    nat_lt 0 len && nat_le (first + len) OWN_SIZE && are_same_addressed watched (map WholeByte (own_names p.number first len))

-- whether what is watched at a port by names is what is told so
abbrev pub is_same_watched : List PlantPort → ℕ → List Addressed → Watched → Bool
is_same_watched ports port named watched = option_map_or (is_watched_at named watched) (port_numbered port ports) false

-- whether the symbol of an entry has all these bytes of the old plant
abbrev pub has_bytes : ℕ → Area → ℕ → ℕ → KeptSymbol → Bool
has_bytes port area first len e =
    (e.port == port) && is_same_area e.before.area area
    && nat_le e.before.first first && nat_le (first + len) (e.before.first + e.before.len)

-- the entry of the symbol that has all these bytes
abbrev pub entry_of_bytes : List KeptSymbol → ℕ → Area → ℕ → ℕ → Option KeptSymbol
entry_of_bytes kept port area first len = find (has_bytes port area first len) kept

-- the same bytes, or the same bit, of the symbol in the new plant
abbrev pub bytes_of_entry : ℕ → ℕ → KeptSymbol → Range
bytes_of_entry offset len e = Bytes e.after.area (e.after.first + (offset - e.before.first)) len

abbrev pub bit_of_entry : ℕ → ℕ → KeptSymbol → Range
bit_of_entry offset bit e = Bit e.after.area (e.after.first + (offset - e.before.first)) bit

-- where a reload moves bytes or a bit of an area; nowhere, where they are not all of one kept symbol
abbrev pub moved_range : List KeptSymbol → ℕ → Range → Option Range
moved_range kept port (Bytes area offset len) =
    option_map (bytes_of_entry offset len) (entry_of_bytes kept port area offset len)
moved_range kept port (Bit area offset bit) =
    option_map (bit_of_entry offset bit) (entry_of_bytes kept port area offset 1)
moved_range kept port (Size area) = None

-- a port's own bytes stay where they are, while the port is among those with these numbers
abbrev pub kept_own : List ℕ → ℕ → ℕ → ℕ → Option Watched
kept_own numbers port first len = if list_any (λ n. n == port) numbers then Some (Own first len) else None

-- where a reload moves what is watched, where the new ports have these numbers
abbrev pub moved_watched : List KeptSymbol → List ℕ → ℕ → Watched → Option Watched
moved_watched kept numbers port (InArea range) = option_map InArea (moved_range kept port range)
moved_watched kept numbers port (Own first len) = kept_own numbers port first len

abbrev pub numbers_of : List PlantPort → List ℕ
numbers_of ports = map (λ (p : PlantPort). p.number) ports

-- A reload moves what is watched as it moves the names of its bytes.
abbrev pub WatchedMoveAlike : Type 0
WatchedMoveAlike = (old new : Plant) (kept : List KeptSymbol) → IsSoundPlant old → IsSoundPlant new
    → AreKeptSymbols old new kept
    → AgreeingMoves (is_same_watched old.ports) (is_same_watched new.ports) (kept_bytes (is_kept old new))
    (moved_watched kept (numbers_of new.ports))
