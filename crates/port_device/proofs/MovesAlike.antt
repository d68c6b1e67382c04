-- Where the moves of a reload put places and bytes of the code's values, against where the machine puts them by number.
use Rattle.std.proofs.Common.{◌≡◌, ℕ, ◌+◌, ◌-◌, ◌≤◌, List, [], ◌∷◌, map, true, false, refl, sym, ◌∙◌, ap, subst, inl, inr, arith}
use Rattle.std.specs.Prelude.{Bool, Option, Some, None, option_map, find, slice_get, bytes_eq, ◌==◌, ◌&&◌, nat_le}
use Rattle.std.specs.Option.{option_map_or}
use Rattle.std.proofs.lemmas.Bool.{cases_Bool, and_parts, eqb-true, leb-true, false≢true}
use Rattle.spec_plant.specs.World.{Plant, PlantPort, PlantSymbol, symbol_size, lower_name, is_same_area}
use Rattle.spec_plant.specs.Named.{port_numbered}
use Rattle.spec_plant.specs.Sound.{IsSoundPlant}
use Rattle.spec_plant.proofs.BlockLemmas.{same_area-true}
use Rattle.spec_formats.specs.Ranges.{Range, Bytes, Bit}
use Rattle.spec_machine.specs.Client as client
use Rattle.spec_machine.specs.Client.{kept_place}
use Rattle.spec_machine.specs.Reloads.{is_kept}
use Rattle.spec_machine.specs.HandleLaws.{AgreeingPlaces, AgreeingMoves}
use Rattle.spec_machine.specs.NumberedPlaces.{NumberedPlace, KeptSymbol, IsEntryOf, AreKeptSymbols, is_place_in, is_place_at, is_same_place, entry_of_symbol}
use Rattle.spec_machine.specs.NumberedPlaces as machine
use Rattle.spec_machine.specs.WatchedRanges.{moved_range, bytes_of_entry, bit_of_entry, entry_of_bytes}
use Rattle.spec_machine.proofs.PlacesMoved.{places_move_alike, IsFoundEntry, found_entry}
use Rattle.type_layout.specs.Descriptions.{area_of}
use Rattle.type_layout.specs.declared.port.Area.{Area}
use Rattle.type_layout.specs.declared.port.Area.TheVariants as area
use Rattle.symbol_table.specs.declared.place.Place.{Place}
use Rattle.symbol_table.specs.declared.kept.KeptPlace.{KeptPlace}
use Rattle.symbol_table.specs.Moves.{kept_symbol, moved_place, kept_bytes, moved_span, IsWithin, IsInOldWorld}
use Rattle.port_device.specs.Answers.{numbered}
use Rattle.port_device.specs.KeptSymbols.{kept_symbol_of, kept_symbols_of}

-- the first of a list seen otherwise
find-map : {X Y : Type 0} (f : X → Y) (test : Y → Bool) (xs : List X) → find test (map f xs) ≡ option_map f (find (λ x. test (f x)) xs)
find-map f test [] = refl
find-map f test (x ∷ xs) =
    elim (cases_Bool (test (f x))) [
      | inl t ↦ rw t refl
      | inr t ↦ rw t (find-map f test xs)
    ]

-- entries by symbol, and by bytes

pub entry_by_symbol : (kept : List KeptPlace) (port symbol : ℕ)
    → entry_of_symbol (kept_symbols_of kept) port symbol ≡ option_map kept_symbol_of (kept_symbol kept port symbol)
entry_by_symbol kept port symbol = find-map kept_symbol_of (machine.is_entry_of_symbol port symbol) kept

entry_by_bytes : (kept : List KeptPlace) (port : ℕ) (a : Area) (first len : ℕ)
    → entry_of_bytes (kept_symbols_of kept) port (area_of a) first len ≡ option_map kept_symbol_of (kept_bytes kept port a first len)
entry_by_bytes kept port a first len = find-map kept_symbol_of (λ e.
    (e.port == port) && is_same_area e.before.area (area_of a) && nat_le e.before.first first && nat_le (first + len) (e.before.first + e.before.len)) kept

-- a place moves as the machine's by number
pub place_moved : (kept : List KeptPlace) (port : ℕ) (p : Place)
    → machine.moved_place (kept_symbols_of kept) port (numbered p) ≡ option_map numbered (moved_place kept port p)
unfolding moved_place
place_moved kept port p = ap (option_map (machine.part_of_entry (numbered p))) (entry_by_symbol kept port p.symbol) ∙ told (kept_symbol kept port p.symbol)
  where
    told : (o : Option KeptPlace) → option_map (machine.part_of_entry (numbered p)) (option_map kept_symbol_of o)
        ≡ option_map numbered (option_map (λ e. record { symbol = e.to.symbol; area = e.to.area; «at» = e.to.«at» + (p.«at» - e.from.«at»); len = p.len }) o)
    told None = refl
    told (Some e) = refl

-- the range of bytes that were moved, and of the bit of a byte that was
abbrev pub bytes_from : ℕ → Area × ℕ → Range
bytes_from len first = Bytes (area_of first.0) first.1 len

abbrev pub bit_from : ℕ → Area × ℕ → Range
bit_from bit byte = Bit (area_of byte.0) byte.1 bit

-- bytes move as the machine's by range, and so does a bit with its byte
pub bytes_moved : (kept : List KeptPlace) (port : ℕ) (a : Area) (first len : ℕ)
    → moved_range (kept_symbols_of kept) port (Bytes (area_of a) first len) ≡ option_map (bytes_from len) (moved_span kept port a first len)
unfolding moved_span
bytes_moved kept port a first len =
    ap (option_map (bytes_of_entry first len)) (entry_by_bytes kept port a first len) ∙ told (kept_bytes kept port a first len)
  where
    told : (o : Option KeptPlace) → option_map (bytes_of_entry first len) (option_map kept_symbol_of o)
        ≡ option_map (bytes_from len) (option_map (λ e. (e.to.area, e.to.«at» + (first - e.from.«at»))) o)
    told None = refl
    told (Some e) = refl

pub bit_moved : (kept : List KeptPlace) (port : ℕ) (a : Area) (first bit : ℕ)
    → moved_range (kept_symbols_of kept) port (Bit (area_of a) first bit) ≡ option_map (bit_from bit) (moved_span kept port a first 1)
unfolding moved_span
bit_moved kept port a first bit =
    ap (option_map (bit_of_entry first bit)) (entry_by_bytes kept port a first 1) ∙ told (kept_bytes kept port a first 1)
  where
    told : (o : Option KeptPlace) → option_map (bit_of_entry first bit) (option_map kept_symbol_of o)
        ≡ option_map (bit_from bit) (option_map (λ e. (e.to.area, e.to.«at» + (first - e.from.«at»))) o)
    told None = refl
    told (Some e) = refl

-- places of the code move as places by name do
abbrev pub is_named_place : List PlantPort → ℕ → client.Place → Place → Bool
is_named_place ports port named place = is_same_place ports port named (numbered place)

pub places_move : (old new : Plant) (kept : List KeptPlace) → IsSoundPlant old → IsSoundPlant new → AreKeptSymbols old new (kept_symbols_of kept)
    → AgreeingMoves (is_named_place old.ports) (is_named_place new.ports) (kept_place (is_kept old new)) (moved_place kept)
places_move old new kept a b are port named place t =
    told (kept_place (is_kept old new) port named) (moved_place kept port place)
    (subst (AgreeingPlaces (is_same_place new.ports) port (kept_place (is_kept old new) port named)) (place_moved kept port place)
    (places_move_alike old new (kept_symbols_of kept) a b are port named (numbered place) t))
  where
    told : (x : Option client.Place) (y : Option Place) → AgreeingPlaces (is_same_place new.ports) port x (option_map numbered y)
        → AgreeingPlaces (is_named_place new.ports) port x y
    told None None h = h
    told None (Some q) h = absurd h
    told (Some p) None h = absurd h
    told (Some p) (Some q) h = h

-- a place that is one by name lies in the old world

pub same_area_of : (a b : Area) → area_of a ≡ area_of b → a ≡ b
same_area_of area.Inputs area.Inputs e = refl
same_area_of area.Outputs area.Outputs e = refl
same_area_of area.Memory area.Memory e = refl
same_area_of area.Process area.Process e = refl
same_area_of area.Inputs area.Outputs e = cc
same_area_of area.Inputs area.Memory e = cc
same_area_of area.Inputs area.Process e = cc
same_area_of area.Outputs area.Inputs e = cc
same_area_of area.Outputs area.Memory e = cc
same_area_of area.Outputs area.Process e = cc
same_area_of area.Memory area.Inputs e = cc
same_area_of area.Memory area.Outputs e = cc
same_area_of area.Memory area.Process e = cc
same_area_of area.Process area.Inputs e = cc
same_area_of area.Process area.Outputs e = cc
same_area_of area.Process area.Memory e = cc

-- bytes of a symbol of the plant
pub record IsPartOf (q : Place) (s : PlantSymbol) : Type 0 where
  pub area : area_of q.area ≡ s.area
  pub begins : s.offset ≤ q.«at»
  pub ends : q.«at» + q.len ≤ s.offset + symbol_size s

part_in : (named : client.Place) (q : Place) (s : PlantSymbol) → is_place_in named (numbered q) s ≡ true → IsPartOf q s
part_in named q s t =
    let first = is_same_area (area_of q.area) s.area in
    let all = and_parts (bytes_eq (lower_name s) named.symbol && first && (q.«at» == s.offset + named.first) && (q.len == named.len))
    (nat_le (named.first + named.len) (symbol_size s)) t in
    let up_to_len = and_parts (bytes_eq (lower_name s) named.symbol && first && (q.«at» == s.offset + named.first)) (q.len == named.len) all.0 in
    let up_to_first = and_parts (bytes_eq (lower_name s) named.symbol && first) (q.«at» == s.offset + named.first) up_to_len.0 in
    let up_to_area = and_parts (bytes_eq (lower_name s) named.symbol) first up_to_first.0 in
    let at_ = eqb-true q.«at» (s.offset + named.first) up_to_first.1 in
    let len = eqb-true q.len named.len up_to_len.1 in
    let within = leb-true (named.first + named.len) (symbol_size s) all.1 in
    record { area = same_area-true (area_of q.area) s.area up_to_area.1; begins = omega (arith, at_); ends = omega (arith, at_, len, within) }

-- the symbol of an entry is the one of the place's number
pub record HasPart (ports : List PlantPort) (port : ℕ) (q : Place) : Type 0 where
  pub owner : PlantPort
  pub owner_found : port_numbered port ports ≡ Some owner
  pub symbol : PlantSymbol
  pub there : slice_get owner.symbols q.symbol ≡ Some symbol
  pub part : IsPartOf q symbol

has_part : (ports : List PlantPort) (port : ℕ) (named : client.Place) (q : Place) → is_named_place ports port named q ≡ true → HasPart ports port q
has_part ports port named q t = by_port (port_numbered port ports) refl t
  where
    by_symbol : (p : PlantPort) (o : Option PlantSymbol) → port_numbered port ports ≡ Some p → slice_get p.symbols q.symbol ≡ o
        → option_map_or (is_place_in named (numbered q)) o false ≡ true → HasPart ports port q
    by_symbol p None e f h = absurd (false≢true h)
    by_symbol p (Some s) e f h = record { owner = p; owner_found = e; symbol = s; there = f; part = part_in named q s h }

    by_port : (o : Option PlantPort) → port_numbered port ports ≡ o → option_map_or (is_place_at named (numbered q)) o false ≡ true → HasPart ports port q
    by_port None e h = absurd (false≢true h)
    by_port (Some p) e h = by_symbol p (slice_get p.symbols q.symbol) e refl h

within_entry : (old new : Plant) (port : ℕ) (q : Place) (e : KeptPlace) → HasPart old.ports port q → IsFoundEntry old new port q.symbol (kept_symbol_of e)
    → IsWithin q e.from
within_entry old new port q e part found =
    let i = found.entry in
    let same_port : Some part.owner ≡ Some i.was_port
    = sym part.owner_found ∙ ap (λ n. port_numbered n old.ports) (sym found.same_port) ∙ i.was_port_found in
    let owner : part.owner ≡ i.was_port = cc in
    let there : slice_get i.was_port.symbols q.symbol ≡ Some i.was = ap (slice_get i.was_port.symbols) (sym found.same_symbol) ∙ i.was_there in
    let same_symbol : Some part.symbol ≡ Some i.was = sym part.there ∙ ap (λ (p : PlantPort). slice_get p.symbols q.symbol) owner ∙ there in
    let symbol : part.symbol ≡ i.was = cc in
    let own : IsPartOf q i.was = subst (IsPartOf q) symbol part.part in
    let area : area_of e.from.area ≡ (i.was).area = ap (λ (x : NumberedPlace). x.area) i.before_is in
    let first : e.from.«at» ≡ (i.was).offset = ap (λ (x : NumberedPlace). x.first) i.before_is in
    let len : e.from.len ≡ symbol_size i.was = ap (λ (x : NumberedPlace). x.len) i.before_is in
    let begins = own.begins in
    let ends = own.ends in
    record {
      area = same_area_of q.area e.from.area (own.area ∙ sym area);
      begins = omega (arith, begins, first);
      ends = omega (arith, ends, first, len);
    }

-- a place that is one by name, in the old world, lies in its symbol's old place
pub in_old_world : (old new : Plant) (kept : List KeptPlace) (port : ℕ) (named : client.Place) (q : Place) → AreKeptSymbols old new (kept_symbols_of kept)
    → is_named_place old.ports port named q ≡ true → IsInOldWorld kept port q
in_old_world old new kept port named q are t = λ e f.
    within_entry old new port q e (has_part old.ports port named q t) (found_entry old new port q.symbol (kept_symbols_of kept) are.each (kept_symbol_of e)
    (entry_by_symbol kept port q.symbol ∙ ap (option_map kept_symbol_of) f))
