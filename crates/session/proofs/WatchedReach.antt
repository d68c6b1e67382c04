-- What a notification is to watch: bytes, a bit, or the first bytes of a value by its handle.
use Rattle.std.proofs.Common.{◌≡◌, ◌≢◌, ℕ, ◌+◌, ◌<◌, ◌≤◌, true, false, List, [], ◌∷◌, map, refl, sym, ap, subst, ◌∙◌, arith, inl, inr}
use Rattle.std.specs.Prelude.{Option, Some, None, Result, Ok, Err, IfOk, ◌&&◌, ◌==◌, nat_lt, nat_le, slice_get, bytes_eq, option_and_then, ◌||◌, ◌/◌}
use Rattle.std.specs.Option.{option_map_or}
use Rattle.std.proofs.lemmas.Bool.{cases_Bool, and_parts, and_from, eqb-true, eq-eqb, ne_eqb, leb-true, le-leb, lt-ltb, le-ltb, false≢true}
use Rattle.return_codes.specs.declared.code.Code.{Code}
use Rattle.return_codes.specs.declared.code.Code.TheVariants.{C702, C705}
use Rattle.return_codes.specs.Code.{number_of}
use Rattle.spec_plant.specs.Description.{Sizes, Area, size_in}
use Rattle.spec_plant.specs.Named.{port_numbered}
use Rattle.spec_plant.specs.Sound.{IsSoundPort, IsSoundSymbol}
use Rattle.spec_plant.specs.World.{PlantPort, PlantSymbol, symbol_size, lower_name, is_same_area}
use Rattle.spec_plant.proofs.BlockLemmas.{same_area-true}
use Rattle.spec_plant.proofs.SoundLemmas.{each-get}
use Rattle.spec_formats.specs.Groups.{Group, AreaBytes, AreaBit, AreaSize, ValueByHandle, HandleByName, ValueByName, ReleaseHandle, InfoByName, SymbolVersion}
use Rattle.spec_formats.specs.Groups.{ExtendedInfoByName, SymbolUpload, UploadInfo, TypeUpload, UploadInfoWithTypes, SumRead, SumWrite, SumReadWrite}
use Rattle.spec_formats.specs.Groups.{group_of, symbol_version}
use Rattle.spec_formats.specs.Ranges.{Range, Size, range_in, range_of, byte_range, bit_range, greatest_len}
use Rattle.spec_machine.specs.Access.{Addressed, WholeByte, OneBit}
use Rattle.spec_machine.specs.Answers.{if_answered, answered_group, ADD_DEVICE_NOTIFICATION}
use Rattle.spec_machine.specs.Client as client
use Rattle.spec_machine.specs.Handles.{HandleStatus, Never, Released, Outdated, Live, kept_status}
use Rattle.spec_machine.specs.NumberedPlaces.{is_place_in, is_place_at}
use Rattle.spec_machine.specs.Reach.{reach_of, addressed_by_range, addressed_by_status}
use Rattle.spec_machine.specs.WatchedRanges.{Watched, InArea, Own, are_same_addressed, is_range_at, is_watched_at, is_same_watched}
use Rattle.spec_machine.specs.World.{World, name_at, names_at, own_names, OWN_SIZE}
use Rattle.spec_machine.specs.Manner.{Wide}
use Rattle.spec_machine.specs.MoreActs.{device_data, states_reach, version_reach}
use Rattle.spec_machine.proofs.PlacesMoved.{same_places_have_same_bytes}
use Rattle.index_groups.specs.declared.access.Reach.{Reach}
use Rattle.index_groups.specs.declared.access.Reach.TheVariants as value
use Rattle.index_groups.specs.Access.{range_meant, answer_meant, IsWithin}
use Rattle.notify_table.specs.Table.{watched_len}
use Rattle.notify_table.specs.declared.spec.Watched as code
use Rattle.notify_table.specs.declared.spec.Watched.TheVariants as kind
use Rattle.port_device.specs.Answers.{numbered}
use Rattle.port_device.specs.Holds.{HoldsPort}
use Rattle.port_device.specs.PortMemory.{PortMemory}
use Rattle.symbol_table.specs.declared.place.Place.{Place}
use Rattle.type_layout.specs.Descriptions.{area_of}
use Rattle.session.specs.Asking.{Asking}
use Rattle.session.specs.Asks.{LooksUp}
use Rattle.session.specs.HandleGroups.{is_value_by_handle}
use Rattle.session.specs.StandsFor.{is_place_of}
use Rattle.session.specs.Watching.{is_byte_or_bit, addition_reach, IsWatched}
use Rattle.spec_machine.proofs.RangesMoved.{are_same-refl}

-- ---- bytes and bits

same_sizes : (w : World) (p : PlantPort) (m : PortMemory) → HoldsPort w p m → p.sizes ≡ m.table.sizes
same_sizes w p m h = ap (λ (q : PlantPort). q.sizes) h.plant ∙ sym (ap (λ t. t.sizes) h.table.same)

-- what an access to bytes or a bit names has the length that was asked for
record IsAreaRange (sizes : Sizes) (len : ℕ) (r : Result Range ℕ) : Type 0 where
  none : (area : Area) → r ≡ Ok (Size area) → ⊥
  long : IfOk r (λ range. watched_len (InArea range) ≡ len)

byte_range-is : (sizes : Sizes) (area : Area) (size offset len : ℕ) → IsAreaRange sizes len (byte_range area size offset len)
unfolding byte_range
byte_range-is sizes area size offset len =
    elim (cases_Bool (nat_lt size offset)) [
      | inl far ↦ rw far (record { none = λ a e. cc; long = tt })
      | inr near ↦ rw near (elim (cases_Bool (nat_lt size (offset + len) || nat_lt greatest_len len)) [
        | inl long_ ↦ rw long_ (record { none = λ a e. cc; long = tt })
        | inr short ↦ rw short (record { none = λ a e. cc; long = refl })
      ])
    ]

bit_range-is : (sizes : Sizes) (area : Area) (size offset len : ℕ) → IsAreaRange sizes len (bit_range area size offset len)
unfolding bit_range
bit_range-is sizes area size offset len =
    elim (cases_Bool (nat_le size (offset / 8))) [
      | inl far ↦ rw far (record { none = λ a e. cc; long = tt })
      | inr near ↦ rw near (elim (cases_Bool (len == 1)) [
        | inl one ↦ rw one (record { none = λ a e. cc; long = sym (eqb-true len 1 one) })
        | inr other ↦ rw other (record { none = λ a e. cc; long = tt })
      ])
    ]

area_range-is : (g : Option Group) (sizes : Sizes) (offset len : ℕ) → is_byte_or_bit g ≡ true → IsAreaRange sizes len (range_in g sizes offset len)
unfolding range_in
area_range-is (Some (AreaBytes area)) sizes offset len is = byte_range-is sizes area (size_in sizes area) offset len
area_range-is (Some (AreaBit area)) sizes offset len is = bit_range-is sizes area (size_in sizes area) offset len
area_range-is _ sizes offset len is = absurd (false≢true is)

-- a range within its area, where it has a byte
range_named : (p : PlantPort) (reach : Reach) → IsWithin p.sizes reach → 0 < watched_len (InArea (range_meant reach))
    → (watched : List Addressed) → addressed_by_range p (Ok (range_meant reach)) ≡ Ok watched → is_range_at watched (range_meant reach) p ≡ true
range_named p (value.Bytes area offset len) within some watched is =
    let names = map WholeByte (names_at p (area_of area) offset len) in
    let same : names ≡ watched = cc in
    and_from (nat_lt 0 len && nat_le (offset + len) (size_in p.sizes (area_of area))) _
    (and_from (nat_lt 0 len) (nat_le (offset + len) (size_in p.sizes (area_of area))) (lt-ltb 0 len some) (le-leb _ _ within.ends))
    (subst (λ l. are_same_addressed l names ≡ true) same (are_same-refl names))
range_named p (value.Bit area offset bit) within some watched is =
    let names = OneBit (name_at p (area_of area) offset) bit ∷ [] in
    let same : names ≡ watched = cc in
    and_from (nat_lt offset (size_in p.sizes (area_of area))) _ (lt-ltb _ _ within.byte)
    (subst (λ l. are_same_addressed l names ≡ true) same (are_same-refl names))
range_named p (value.Size area) within some watched is = absurd (omega (arith, some))

-- at a port that is found by its number
at_found : (ports : List PlantPort) (p : PlantPort) (named : List Addressed) (watched : Watched) → port_numbered p.number ports ≡ Some p
    → is_watched_at named watched p ≡ true → is_same_watched ports p.number named watched ≡ true
at_found ports p named watched found is = subst (λ o. option_map_or (is_watched_at named watched) o false ≡ true) (sym found) is

-- an access to an area as what is watched
abbrev pub in_area : Result Reach Code → Result code.Watched Code
in_area (Ok reach) = Ok (kind.InArea reach)
in_area (Err refusal) = Err refusal

-- an access to bytes or a bit, or the code that refuses it
area_watched : (ports : List PlantPort) (p : PlantPort) (len : ℕ) (r : Result Range ℕ) (answer : Result Reach Code)
    → port_numbered p.number ports ≡ Some p → IsAreaRange p.sizes len r → answer_meant answer ≡ r → IfOk answer (IsWithin p.sizes)
    → IsWatched ports p.number len (addressed_by_range p r) (in_area answer)
area_watched ports p len r (Err refusal) found area is within = subst (λ q. IsWatched ports p.number len (addressed_by_range p q) (Err refusal)) is refl
area_watched ports p len r (Ok (value.Bytes a offset n)) found area is within =
    subst (λ q. IsWatched ports p.number len (addressed_by_range p q) (Ok (kind.InArea (value.Bytes a offset n)))) is
    (λ some. at_found ports p (map WholeByte (names_at p (area_of a) offset n)) (InArea (range_meant (value.Bytes a offset n))) found
    (range_named p (value.Bytes a offset n) within
    (let long : n ≡ len = subst (λ q. IfOk q (λ range. watched_len (InArea range) ≡ len)) (sym is) area.long in omega (arith, long, some)) _ refl))
area_watched ports p len r (Ok (value.Bit a offset bit)) found area is within =
    subst (λ q. IsWatched ports p.number len (addressed_by_range p q) (Ok (kind.InArea (value.Bit a offset bit)))) is
    (λ some. at_found ports p (OneBit (name_at p (area_of a) offset) bit ∷ []) (InArea (range_meant (value.Bit a offset bit))) found
    (range_named p (value.Bit a offset bit) within (omega arith) _ refl))
area_watched ports p len r (Ok (value.Size a)) found area is within = absurd (area.none (area_of a) (sym is))

reach_of_area : (c : client.Client) (p : PlantPort) (g : Option Group) (offset len : ℕ) → is_byte_or_bit g ≡ true
    → reach_of c p (option_and_then (if_answered ADD_DEVICE_NOTIFICATION) g) offset len ≡ addressed_by_range p (range_in g p.sizes offset len)
unfolding reach_of
reach_of_area c p (Some (AreaBytes area)) offset len is = refl
reach_of_area c p (Some (AreaBit area)) offset len is = refl
reach_of_area c p _ offset len is = absurd (false≢true is)

-- bytes or a bit of the port that is asked
pub watched_in_area : (a : Asking) (m : PortMemory) (group offset len : ℕ) (answer : Result Reach Code) → HoldsPort a.world a.asker.port m
    → is_byte_or_bit (group_of group) ≡ true → answer_meant answer ≡ range_of m.table.sizes group offset len → IfOk answer (IsWithin m.table.sizes)
    → IsWatched a.world.plant.ports a.asker.port.number len
    (reach_of a.client a.asker.port (answered_group ADD_DEVICE_NOTIFICATION group) offset len) (in_area answer)
unfolding answered_group range_of
watched_in_area a m group offset len answer held kind rule within =
    let p = a.asker.port in
    let sizes = same_sizes a.world p m held in
    let rule_ : answer_meant answer ≡ range_in (group_of group) p.sizes offset len =
    subst (λ s. answer_meant answer ≡ range_in (group_of group) s offset len) (sym sizes) rule in
    let within_ : IfOk answer (IsWithin p.sizes) = subst (λ s. IfOk answer (IsWithin s)) (sym sizes) within in
    subst (λ r. IsWatched a.world.plant.ports p.number len r (in_area answer)) (sym (reach_of_area a.client p (group_of group) offset len kind))
    (area_watched a.world.plant.ports p len (range_in (group_of group) p.sizes offset len) answer held.sound.found
    (area_range-is (group_of group) p.sizes offset len kind) rule_ within_)

-- and what is watched there is as long as was asked for
pub area_len : (sizes : Sizes) (group offset len : ℕ) (answer : Result Reach Code) → is_byte_or_bit (group_of group) ≡ true
    → answer_meant answer ≡ range_of sizes group offset len → IfOk answer (λ reach. watched_len (InArea (range_meant reach)) ≡ len)
unfolding range_of
area_len sizes group offset len (Err code) kind rule = tt
area_len sizes group offset len (Ok reach) kind rule =
    subst (λ q. IfOk q (λ range. watched_len (InArea range) ≡ len)) (sym rule) (area_range-is (group_of group) sizes offset len kind).long

-- ---- other groups

no_reach : (c : client.Client) (p : PlantPort) (g : Option Group) (offset len : ℕ) → is_byte_or_bit g ≡ false → is_value_by_handle g ≡ false
    → reach_of c p (option_and_then (if_answered ADD_DEVICE_NOTIFICATION) g) offset len ≡ Err (number_of C702)
unfolding reach_of
no_reach c p None offset len area value = refl
no_reach c p (Some (AreaBytes area)) offset len is other = absurd (false≢true (sym is))
no_reach c p (Some (AreaBit area)) offset len is other = absurd (false≢true (sym is))
no_reach c p (Some ValueByHandle) offset len is value = absurd (false≢true (sym value))
no_reach c p (Some (AreaSize area)) offset len is value = refl
no_reach c p (Some HandleByName) offset len is value = refl
no_reach c p (Some ValueByName) offset len is value = refl
no_reach c p (Some ReleaseHandle) offset len is value = refl
no_reach c p (Some InfoByName) offset len is value = refl
no_reach c p (Some SymbolVersion) offset len is value = refl
no_reach c p (Some ExtendedInfoByName) offset len is value = refl
no_reach c p (Some SymbolUpload) offset len is value = refl
no_reach c p (Some UploadInfo) offset len is value = refl
no_reach c p (Some TypeUpload) offset len is value = refl
no_reach c p (Some UploadInfoWithTypes) offset len is value = refl
no_reach c p (Some SumRead) offset len is value = refl
no_reach c p (Some SumWrite) offset len is value = refl
no_reach c p (Some SumReadWrite) offset len is value = refl

pub watched_nowhere : (a : Asking) (group offset len : ℕ) → is_byte_or_bit (group_of group) ≡ false → is_value_by_handle (group_of group) ≡ false
    → IsWatched a.world.plant.ports a.asker.port.number len
    (reach_of a.client a.asker.port (answered_group ADD_DEVICE_NOTIFICATION group) offset len) (Err C702)
unfolding answered_group
watched_nowhere a group offset len area value =
    subst (λ r. IsWatched a.world.plant.ports a.asker.port.number len r (Err C702))
    (sym (no_reach a.client a.asker.port (group_of group) offset len area value)) refl

-- ---- a value by its handle

reach_of_value : (c : client.Client) (p : PlantPort) (g : Option Group) (handle len : ℕ) → is_value_by_handle g ≡ true
    → reach_of c p (option_and_then (if_answered ADD_DEVICE_NOTIFICATION) g) handle len
    ≡ addressed_by_status p.number (kept_status c.handles handle p.number) len
unfolding reach_of
reach_of_value c p (Some ValueByHandle) handle len is = refl
reach_of_value c p _ handle len is = absurd (false≢true is)

pub watched_by_value : (a : Asking) (group handle len : ℕ) (answer : Result code.Watched Code) → is_value_by_handle (group_of group) ≡ true
    → IsWatched a.world.plant.ports a.asker.port.number len
    (addressed_by_status a.asker.port.number (kept_status a.client.handles handle a.asker.port.number) len) answer
    → IsWatched a.world.plant.ports a.asker.port.number len
    (reach_of a.client a.asker.port (answered_group ADD_DEVICE_NOTIFICATION group) handle len) answer
unfolding answered_group
watched_by_value a group handle len answer value is =
    subst (λ r. IsWatched a.world.plant.ports a.asker.port.number len r answer)
    (sym (reach_of_value a.client a.asker.port (group_of group) handle len value)) is

-- the place lies in its area
pub record LiesInArea (p : PlantPort) (place : Place) (named : client.Place) : Type 0 where
  pub ends : place.«at» + place.len ≤ size_in p.sizes (area_of place.area)
  pub long : place.len ≡ named.len

place_in_area : (p : PlantPort) (ports : List PlantPort) (place : Place) (named : client.Place) → IsSoundPort ports p
    → is_place_at named (numbered place) p ≡ true → LiesInArea p place named
place_in_area p ports place named sound is = at_symbol (slice_get p.symbols place.symbol) refl is
  where
    at_symbol : (o : Option PlantSymbol) → slice_get p.symbols place.symbol ≡ o
        → option_map_or (is_place_in named (numbered place)) o false ≡ true → LiesInArea p place named
    at_symbol None there t = absurd (false≢true t)
    at_symbol (Some s) there t =
        let q = numbered place in
        let symbol = each-get (IsSoundSymbol p) p.symbols place.symbol s sound.symbols there in
        let first : (bytes_eq (lower_name s) named.symbol && is_same_area q.area s.area && (q.first == s.offset + named.first) && (q.len == named.len) ≡ true)
        × (nat_le (named.first + named.len) (symbol_size s) ≡ true) = and_parts _ _ t in
        let second : (bytes_eq (lower_name s) named.symbol && is_same_area q.area s.area && (q.first == s.offset + named.first) ≡ true)
        × ((q.len == named.len) ≡ true) = and_parts _ _ first.0 in
        let third : (bytes_eq (lower_name s) named.symbol && is_same_area q.area s.area ≡ true)
        × ((q.first == s.offset + named.first) ≡ true) = and_parts _ _ second.0 in
        let fourth : (bytes_eq (lower_name s) named.symbol ≡ true) × (is_same_area q.area s.area ≡ true) = and_parts _ _ third.0 in
        let begins : place.«at» ≡ s.offset + named.first = eqb-true q.first (s.offset + named.first) third.1 in
        let long : place.len ≡ named.len = eqb-true q.len named.len second.1 in
        let ends : named.first + named.len ≤ symbol_size s = leb-true (named.first + named.len) (symbol_size s) first.1 in
        let same : area_of place.area ≡ s.area = same_area-true q.area s.area fourth.1 in
        let within : s.offset + symbol_size s ≤ size_in p.sizes (area_of place.area) =
        subst (λ area. s.offset + symbol_size s ≤ size_in p.sizes area) (sym same) symbol.within in
        record { ends = omega (arith, begins, long, ends, within); long = long }

pub live_in_area : (w : World) (p : PlantPort) (m : PortMemory) (place : Place) (named : client.Place) → HoldsPort w p m
    → is_place_of w.plant.ports p.number named place ≡ true → LiesInArea p place named
live_in_area w p m place named held is =
    let at_port : is_place_at named (numbered place) p ≡ true =
    subst (λ o. option_map_or (is_place_at named (numbered place)) o false ≡ true) held.sound.found is in
    place_in_area p w.plant.ports place named held.sound at_port

-- the first bytes of a live place
pub live_watched : (a : Asking) (m : PortMemory) (place : Place) (len : ℕ) (s : HandleStatus client.Place) → HoldsPort a.world a.asker.port m
    → LooksUp a.world.plant.ports a.asker.port.number s (Ok place) → len ≤ place.len
    → IsWatched a.world.plant.ports a.asker.port.number len (addressed_by_status a.asker.port.number s len)
    (Ok (kind.InArea (value.Bytes place.area place.«at» len)))
live_watched a m place len (Live named) held looks short =
    let p = a.asker.port in
    let lies = live_in_area a.world p m place named held looks in
    let fits : nat_lt named.len len ≡ false = le-ltb named.len len (omega (arith, lies.long)) in
    let names = same_places_have_same_bytes a.world.plant p p.number len named
    (numbered place) held.plant_sound held.sound.found looks (omega (arith, lies.long)) in
    rw fits (λ some.
    at_found a.world.plant.ports p (map WholeByte (client.names_of_place p.number named len)) (InArea (range_meant (value.Bytes place.area place.«at» len)))
    held.sound.found
    (and_from (nat_lt 0 len && nat_le (place.«at» + len) (size_in p.sizes (area_of place.area))) _
    (and_from (nat_lt 0 len) (nat_le (place.«at» + len) (size_in p.sizes (area_of place.area))) (lt-ltb 0 len some)
    (le-leb _ _ (omega (arith, lies.ends))))
    (subst (λ ns. are_same_addressed (map WholeByte ns) (map WholeByte (names_at p (area_of place.area) place.«at» len)) ≡ true) (sym names)
    (are_same-refl (map WholeByte (names_at p (area_of place.area) place.«at» len))))))
live_watched a m place len Never held looks short = absurd looks
live_watched a m place len Released held looks short = absurd looks
live_watched a m place len Outdated held looks short = absurd looks

-- more than a live place has
pub live_too_long : (a : Asking) (m : PortMemory) (place : Place) (len : ℕ) (s : HandleStatus client.Place) → HoldsPort a.world a.asker.port m
    → LooksUp a.world.plant.ports a.asker.port.number s (Ok place) → place.len < len
    → IsWatched a.world.plant.ports a.asker.port.number len (addressed_by_status a.asker.port.number s len) (Err C705)
live_too_long a m place len (Live named) held looks more =
    let lies = live_in_area a.world a.asker.port m place named held looks in
    rw (lt-ltb named.len len (omega (arith, lies.long))) refl
live_too_long a m place len Never held looks more = absurd looks
live_too_long a m place len Released held looks more = absurd looks
live_too_long a m place len Outdated held looks more = absurd looks

-- a handle that is not live
pub dead_watched : (ports : List PlantPort) (port len : ℕ) (s : HandleStatus client.Place) (code : Code) → LooksUp ports port s (Err code)
    → IsWatched ports port len (addressed_by_status port s len) (Err code)
dead_watched ports port len Never code looks = ap number_of (sym looks)
dead_watched ports port len Released code looks = ap number_of (sym looks)
dead_watched ports port len Outdated code looks = ap number_of (sym looks)
dead_watched ports port len (Live named) code looks = absurd looks

-- ---- a port's own bytes

own_named : (ports : List PlantPort) (p : PlantPort) (first len : ℕ) → port_numbered p.number ports ≡ Some p → first + len ≤ 5
    → IsWatched ports p.number len (Ok (map WholeByte (own_names p.number first len))) (Ok (kind.Own first len))
own_named ports p first len found within some =
    let names = map WholeByte (own_names p.number first len) in
    at_found ports p names (Own first len) found
    (and_from (nat_lt 0 len && nat_le (first + len) OWN_SIZE) _
    (and_from (nat_lt 0 len) (nat_le (first + len) OWN_SIZE) (lt-ltb 0 len some) (le-leb _ _ within)) (are_same-refl names))

-- bytes of the state words
pub states_watched : (ports : List PlantPort) (p : PlantPort) (first len : ℕ) → port_numbered p.number ports ≡ Some p → first + len ≤ 4
    → states_reach p.number first len ≡ Ok (map WholeByte (own_names p.number first len))
    → IsWatched ports p.number len (states_reach p.number first len) (Ok (kind.Own first len))
states_watched ports p first len found within reached =
    subst (λ r. IsWatched ports p.number len r (Ok (kind.Own first len))) (sym reached) (own_named ports p first len found (omega (arith, within)))

pub states_refused : (ports : List PlantPort) (p : PlantPort) (first len : ℕ) (refusal : Code) → states_reach p.number first len ≡ Err (number_of refusal)
    → IsWatched ports p.number len (states_reach p.number first len) (Err refusal)
states_refused ports p first len refusal reached = subst (λ r. IsWatched ports p.number len r (Err refusal)) (sym reached) refl

-- the version
pub version_watched : (ports : List PlantPort) (p : PlantPort) (len : ℕ) → port_numbered p.number ports ≡ Some p → len ≡ 1
    → IsWatched ports p.number len (version_reach p.number len) (Ok (kind.Own 4 1))
version_watched ports p len found one =
    let P : ℕ → Type 0 = λ n. IsWatched ports p.number n (version_reach p.number n) (Ok (kind.Own 4 1)) in
    subst P (sym one) (own_named ports p 4 1 found (omega arith))

pub version_refused : (ports : List PlantPort) (p : PlantPort) (len : ℕ) → len ≢ 1
    → IsWatched ports p.number len (version_reach p.number len) (Err C705)
version_refused ports p len other = rw (ne_eqb len 1 other) refl

-- what is reached of a wide port besides
pub reaches_states : (c : client.Client) (p : PlantPort) (group offset len : ℕ) → group ≡ device_data
    → addition_reach Wide c p group offset len ≡ states_reach p.number offset len
reaches_states c p group offset len is = rw (eq-eqb group device_data is) refl

pub reaches_version : (c : client.Client) (p : PlantPort) (group offset len : ℕ) → group ≢ device_data → group ≡ symbol_version
    → addition_reach Wide c p group offset len ≡ version_reach p.number len
reaches_version c p group offset len other is = rw (ne_eqb group device_data other, eq-eqb group symbol_version is) refl

pub reaches_plain : (c : client.Client) (p : PlantPort) (group offset len : ℕ) → group ≢ device_data → group ≢ symbol_version
    → addition_reach Wide c p group offset len ≡ reach_of c p (answered_group ADD_DEVICE_NOTIFICATION group) offset len
reaches_plain c p group offset len other neither = rw (ne_eqb group device_data other, ne_eqb group symbol_version neither) refl
