-- Places by name of a port, and the bytes that they are.
use Rattle.std.proofs.Common.{◌≡◌, ℕ, ◌+◌, ◌≤◌, List, ◌++◌, map, true, false, refl, sym, ◌∙◌, ap, subst, arith}
use Rattle.std.specs.Prelude.{Bool, Option, Some, None, Ok, Err, slice_get, bytes_eq, ◌&&◌, ◌==◌, nat_le, nat_lt, if◌then◌else◌}
use Rattle.std.specs.Option.{option_map_or}
use Rattle.std.proofs.lemmas.Bool.{and_parts, eqb-true, ltb-true, false≢true}
use Rattle.type_layout.specs.Descriptions.{area_of}
use Rattle.type_layout.specs.declared.port.Sizes.{Sizes}
use Rattle.spec_plant.specs.Description.{size_in}
use Rattle.spec_plant.specs.Description as plant
use Rattle.spec_plant.specs.World.{PlantPort, PlantSymbol, symbol_size, lower_name, is_same_area}
use Rattle.spec_plant.specs.Named.{port_numbered}
use Rattle.spec_formats.specs.Codes.{invalid_size}
use Rattle.spec_machine.specs.World.{World, names_at}
use Rattle.spec_machine.specs.Access.{Addressed, WholeByte}
use Rattle.spec_machine.specs.Acts.{Act, reading}
use Rattle.spec_machine.specs.PortBytes.{image_bytes}
use Rattle.spec_machine.specs.Reads.{read_act}
use Rattle.spec_machine.specs.Client as client
use Rattle.spec_machine.specs.Client.{names_of_place}
use Rattle.spec_machine.specs.NumberedPlaces.{NumberedPlace, is_place_in, is_place_at}
use Rattle.spec_machine.specs.Reach.{addressed_in_place}
use Rattle.spec_machine.proofs.PlacesMoved.{same_places_have_same_bytes}
use Rattle.symbol_table.specs.declared.place.Place.{Place}
use Rattle.symbol_table.specs.Tables.{IsTableWith}
use Rattle.symbol_table.proofs.PlacedSymbols.{sound_symbol}
use Rattle.port_device.specs.PortMemory.{PortMemory}
use Rattle.port_device.specs.Holds.{HoldsPort}
use Rattle.port_device.specs.Answers.{IsNamed, IsPlaceOf, AnswersAct, numbered, place_read_act}
use Rattle.port_device.specs.Ports.{IsPortMemory}
use Rattle.port_device.specs.declared.uploads.UploadSizes.{UploadSizes}
use Rattle.port_device.proofs.PortLemmas.{bytes_read}
use Rattle.port_device.proofs.GroupLemmas.{is_false}

len_in : (place : client.Place) (q : NumberedPlace) (s : PlantSymbol) → is_place_in place q s ≡ true → q.len ≡ place.len
len_in place q s t =
    let whole = and_parts (bytes_eq (lower_name s) place.symbol && is_same_area q.area s.area && (q.first == s.offset + place.first) && (q.len == place.len))
    (nat_le (place.first + place.len) (symbol_size s)) t in
    let parts = and_parts (bytes_eq (lower_name s) place.symbol && is_same_area q.area s.area && (q.first == s.offset + place.first))
    (q.len == place.len) whole.0 in
    eqb-true q.len place.len parts.1

len_at : (place : client.Place) (q : NumberedPlace) (o : Option PlantSymbol) → option_map_or (is_place_in place q) o false ≡ true → q.len ≡ place.len
len_at place q None t = absurd (false≢true t)
len_at place q (Some s) t = len_in place q s t

len_of : (place : client.Place) (q : NumberedPlace) (o : Option PlantPort) → option_map_or (is_place_at place q) o false ≡ true → q.len ≡ place.len
len_of place q None t = absurd (false≢true t)
len_of place q (Some p) t = len_at place q (slice_get p.symbols q.symbol) t

pub named_len : (w : World) (p : PlantPort) (place : Place) (named : client.Place) → IsNamed w p place named → place.len ≡ named.len
named_len w p place named t = len_of named (numbered place) (port_numbered p.number w.plant.ports) t

-- too many bytes of a place
pub place_short : (w : World) (p : PlantPort) (place : Place) (named : client.Place) (len : ℕ) → IsNamed w p place named → nat_lt place.len len ≡ true
    → addressed_in_place p.number named len ≡ Err invalid_size
place_short w p place named len t h =
    ap (λ n. if nat_lt n len then Err invalid_size else Ok (map WholeByte (names_of_place p.number named len))) (sym (named_len w p place named t))
    ∙ ap (λ b. if b then Err invalid_size else Ok (map WholeByte (names_of_place p.number named len))) h

-- the first bytes of a place, by their place in the area
pub place_bytes : (w : World) (p : PlantPort) (m : PortMemory) (place : Place) (named : client.Place) (len : ℕ) → HoldsPort w p m → IsNamed w p place named
    → len ≤ place.len → addressed_in_place p.number named len ≡ Ok (map WholeByte (names_at p (area_of place.area) place.«at» len))
place_bytes w p m place named len h t few =
    let same = named_len w p place named t in
    let enough : nat_lt named.len len ≡ false = is_false (nat_lt named.len len) (λ u. omega (arith, ltb-true named.len len u, same, few)) in
    let names = same_places_have_same_bytes w.plant p p.number len named (numbered place) h.plant_sound h.sound.found t (omega (arith, same, few)) in
    ap (λ b. if b then Err invalid_size else Ok (map WholeByte (names_of_place p.number named len))) enough ∙ ap (λ ns. Ok (map WholeByte ns)) names

-- a place of the table lies in its area
pub place_within : (sizes : Sizes) (uploads : UploadSizes) (bound : List (Option ℕ)) (marks : List Bool) (m : PortMemory) (place : Place)
    → IsPortMemory sizes uploads bound marks m → IsPlaceOf m.table place
    → place.«at» + place.len ≤ size_in m.table.sizes (area_of place.area)
place_within sizes uploads bound marks m place is_memory is_place =
    let table : IsTableWith m.types m.table = record { port = is_memory.port; is_of = is_memory.table } in
    let own = sound_symbol m.types m.table place.symbol is_place.symbol table is_place.there in
    let P : plant.Area → Type 0 = λ a. is_place.symbol.offset + is_place.symbol.size ≤ size_in m.table.sizes a in
    let within : is_place.symbol.offset + is_place.symbol.size ≤ size_in m.table.sizes (area_of place.area) = subst P (sym is_place.area) own.within in
    let ends = is_place.ends in
    omega (arith, within, ends)

pub place_read : (w : World) (p : PlantPort) (m : PortMemory) (place : Place) (named : client.Place) (sizes : plant.Sizes) (len : ℕ) (old new : List ℕ)
    → HoldsPort w p m → IsNamed w p place named → m.table.sizes ≡ sizes → place.«at» + place.len ≤ size_in m.table.sizes (area_of place.area) → len ≤ place.len
    → new ≡ old ++ image_bytes sizes m.bytes.image (area_of place.area) place.«at» len
    → AnswersAct w (place_read_act p named len) (Ok tt) old new
place_read w p m place named sizes len old new h t s within few e =
    let places : List Addressed = map WholeByte (names_at p (area_of place.area) place.«at» len) in
    let act : place_read_act p named len ≡ reading places = ap read_act (place_bytes w p m place named len h t few) in
    let P : Act → Type 0 = λ a. AnswersAct w a (Ok tt) old new in
    let own : AnswersAct w (reading places) (Ok tt) old new
    = (refl, e ∙ ap (λ bs. old ++ bs) (bytes_read w p m sizes (area_of place.area) place.«at» len h s (omega (arith, within, few)))) in
    subst P (sym act) own
