-- How writes to a port end.
use Rattle.std.proofs.Common.{◌≡◌, ℕ, ◌+◌, ◌<◌, ◌≤◌, List, [], ◌∷◌, map, length, true, false, refl, sym, ◌∙◌, ap, subst, arith}
use Rattle.std.specs.Prelude.{Option, Result, Ok, Err, min, ◌||◌, ◌==◌, if◌then◌else◌}
use Rattle.return_codes.specs.declared.code.Code.{Code}
use Rattle.return_codes.specs.declared.code.Code.TheVariants.{C704}
use Rattle.return_codes.specs.Code.{number_of}
use Rattle.spec_plant.specs.Description.{Area, size_in}
use Rattle.spec_plant.specs.Description as plant
use Rattle.spec_plant.specs.World.{PlantPort, with_nth_byte}
use Rattle.spec_formats.specs.Codes.{not_permitted, invalid_value}
use Rattle.spec_formats.specs.Groups.{Group}
use Rattle.spec_machine.specs.World.{World, name_at, names_at, state_names, state_bytes, RUN, STOP}
use Rattle.spec_machine.specs.Access.{Addressed, WholeByte, OneBit, with_bit, puts_of}
use Rattle.spec_machine.specs.Acts.{Act, Refusal, writing, memory_after}
use Rattle.spec_machine.specs.PortBytes.{PortBytes, Holds, start_in, with_image_bytes}
use Rattle.spec_machine.specs.Writes.{Asker, are_writable, write_act, may_control, control_act}
use Rattle.spec_machine.specs.WritableBytes.{MayWriteSymbolsAt}
use Rattle.spec_machine.proofs.PortBytesLemmas.{writes_image, writes_bit}
use Rattle.spec_machine.proofs.StatesSet.{sets_states}
use Rattle.spec_machine.proofs.WritableBytes.{writes_by_symbols}
use Rattle.port_device.specs.PortMemory.{PortMemory}
use Rattle.port_device.specs.Holds.{HoldsPort}
use Rattle.port_device.specs.Accesses.{EndsWrite}
use Rattle.port_device.specs.Endings.{EndsAs, world_after_act}
use Rattle.port_device.specs.Changed.{with_image, with_bytes_at, with_bit_at, with_states}
use Rattle.port_device.proofs.GroupLemmas.{is_false}
use Rattle.port_device.proofs.PortLemmas.{same_sizes}

-- a refusal leaves the world
pub refused : (w : World) (p : PlantPort) (m : PortMemory) (act : Act) (code : Code) → HoldsPort w p m → act ≡ Refusal (number_of code)
    → EndsAs w p act (Err code) m
refused w p m act code h e =
    let own : EndsAs w p (Refusal (number_of code)) (Err code) m = record { code = refl; holds = h } in
    let P : Act → Type 0 = λ a. EndsAs w p a (Err code) m in subst P (sym e) own

-- a write of a group that is known
pub ends_along : (old new : PortMemory) (g h : Option Group) (offset : ℕ) (bytes : List ℕ) (rights : plant.Rights) (net : List ℕ)
    (answer : Result (Unit {0}) Code) → h ≡ g → EndsWrite old h offset bytes rights net answer new → EndsWrite old g offset bytes rights net answer new
ends_along old new g h offset bytes rights net answer e ends = subst (λ x. EndsWrite old x offset bytes rights net answer new) e ends

-- the port holds the world after an act that leaves these bytes, with the same version
pub holds_after : (w : World) (p : PlantPort) (m : PortMemory) (act : Act) (b : PortBytes) → HoldsPort w p m → b.version ≡ m.bytes.version
    → Holds (memory_after w.memory act) p b
    → HoldsPort (world_after_act w act) p (record m { bytes = b })
holds_after w p m act b h same after = record {
  port = h.port;
  plant = h.plant;
  table = h.table;
  number = h.number;
  facts = h.facts;
  types = h.types;
  version = same ∙ h.version;
  manner = h.manner;
  plant_sound = h.plant_sound;
  sound = h.sound;
  holds = after;
}

-- an act that is permitted puts
pub put : (w : World) (k : Asker) (m : PortMemory) (bytes : List ℕ) (places : List Addressed) (b : PortBytes)
    → HoldsPort w k.port m → b.version ≡ m.bytes.version
    → are_writable k.address.net k.port places ≡ true → Holds (memory_after w.memory (writing (puts_of places bytes))) k.port b
    → EndsAs w k.port (write_act k bytes (Ok places)) (Ok tt) (record m { bytes = b })
put w k m bytes places b h same may after =
    let act : Act = writing (puts_of places bytes) in
    let own : EndsAs w k.port act (Ok tt) (record m { bytes = b }) = record { code = refl; holds = holds_after w k.port m act b h same after } in
    let P : Act → Type 0 = λ a. EndsAs w k.port a (Ok tt) (record m { bytes = b }) in
    let e : write_act k bytes (Ok places) ≡ act = ap (λ t. if t then act else Refusal not_permitted) may in
    subst P (sym e) own

pub not_put : (w : World) (k : Asker) (m : PortMemory) (bytes : List ℕ) (places : List Addressed) → HoldsPort w k.port m
    → are_writable k.address.net k.port places ≡ false → EndsAs w k.port (write_act k bytes (Ok places)) (Err C704) m
not_put w k m bytes places h may =
    refused w k.port m (write_act k bytes (Ok places)) C704 h (ap (λ t. if t then writing (puts_of places bytes) else Refusal not_permitted) may)

pub bytes_put : (w : World) (k : Asker) (m : PortMemory) (area : Area) (offset : ℕ) (bytes : List ℕ) → HoldsPort w k.port m
    → offset + length bytes ≤ size_in m.table.sizes area → MayWriteSymbolsAt k.address.net k.port area offset (length bytes)
    → EndsAs w k.port (write_act k bytes (Ok (map WholeByte (names_at k.port area offset (length bytes))))) (Ok tt) (with_bytes_at m area offset bytes)
bytes_put w k m area offset bytes h within may =
    let e : k.port.sizes ≡ m.table.sizes = same_sizes w k.port m h in
    let P : plant.Sizes → Type 0 = λ x. offset + length bytes ≤ size_in x area in
    let there : offset + length bytes ≤ size_in k.port.sizes area = subst P (sym e) within in
    let places : List Addressed = map WholeByte (names_at k.port area offset (length bytes)) in
    let Q : plant.Sizes
    → Type 0 = λ x. EndsAs w k.port (write_act k bytes (Ok places)) (Ok tt) (with_image m (with_image_bytes x m.bytes.image area offset bytes)) in
    let after = writes_image w.memory k.port m.bytes area offset (length bytes) bytes h.sound.names h.holds there (omega arith) in
    let b = m.bytes in
    subst Q e (put w k m bytes places (record b { image = with_image_bytes k.port.sizes m.bytes.image area offset bytes }) h refl
    (((writes_by_symbols k.address.net w.plant.ports k.port area offset h.sound).bytes (length bytes)).1 may) after)

pub bytes_not_put : (w : World) (k : Asker) (m : PortMemory) (area : Area) (offset : ℕ) (bytes : List ℕ) → HoldsPort w k.port m
    → (MayWriteSymbolsAt k.address.net k.port area offset (length bytes) → ⊥)
    → EndsAs w k.port (write_act k bytes (Ok (map WholeByte (names_at k.port area offset (length bytes))))) (Err C704) m
bytes_not_put w k m area offset bytes h not_ =
    let places : List Addressed = map WholeByte (names_at k.port area offset (length bytes)) in
    not_put w k m bytes places h (is_false (are_writable k.address.net k.port places)
    (λ t. not_ (((writes_by_symbols k.address.net w.plant.ports k.port area offset h.sound).bytes (length bytes)).0 t)))

pub bit_put : (w : World) (k : Asker) (m : PortMemory) (area : Area) (offset bit value : ℕ) → HoldsPort w k.port m
    → offset < size_in m.table.sizes area → MayWriteSymbolsAt k.address.net k.port area offset 1
    → EndsAs w k.port (write_act k (value ∷ []) (Ok (OneBit (name_at k.port area offset) bit ∷ []))) (Ok tt) (with_bit_at m area offset bit value)
bit_put w k m area offset bit value h within may =
    let e : k.port.sizes ≡ m.table.sizes = same_sizes w k.port m h in
    let P : plant.Sizes → Type 0 = λ x. offset < size_in x area in
    let there : offset < size_in k.port.sizes area = subst P (sym e) within in
    let places : List Addressed = OneBit (name_at k.port area offset) bit ∷ [] in
    let Q : plant.Sizes
    → Type 0 = λ x. EndsAs w k.port (write_act k (value ∷ []) (Ok places)) (Ok tt)
    (with_image m (with_nth_byte m.bytes.image (start_in x area + offset) (with_bit bit (min value 1)))) in
    let after = writes_bit w.memory k.port m.bytes area offset bit value h.sound.names h.holds there in
    let b = m.bytes in
    subst Q e (put w k m (value ∷ []) places
    (record b { image = with_nth_byte m.bytes.image (start_in k.port.sizes area + offset) (with_bit bit (min value 1)) }) h refl
    (((writes_by_symbols k.address.net w.plant.ports k.port area offset h.sound).bit bit).1 may) after)

pub bit_not_put : (w : World) (k : Asker) (m : PortMemory) (area : Area) (offset bit value : ℕ) → HoldsPort w k.port m
    → (MayWriteSymbolsAt k.address.net k.port area offset 1 → ⊥)
    → EndsAs w k.port (write_act k (value ∷ []) (Ok (OneBit (name_at k.port area offset) bit ∷ []))) (Err C704) m
bit_not_put w k m area offset bit value h not_ =
    let places : List Addressed = OneBit (name_at k.port area offset) bit ∷ [] in
    not_put w k m (value ∷ []) places h (is_false (are_writable k.address.net k.port places)
    (λ t. not_ (((writes_by_symbols k.address.net w.plant.ports k.port area offset h.sound).bit bit).0 t)))

pub control_put : (w : World) (k : Asker) (m : PortMemory) (ads device : ℕ) → HoldsPort w k.port m → may_control k.rights ≡ true
    → (ads == RUN) || (ads == STOP) ≡ true
    → EndsAs w k.port (control_act k ads device) (Ok tt) (with_states m ads device)
unfolding control_act
control_put w k m ads device h may is_state =
    let b = m.bytes in
    let act : Act = writing (puts_of (map WholeByte (state_names k.port)) (state_bytes ads device)) in
    let set_ : PortBytes = record b { ads = ads; device = device } in
    let own : EndsAs w k.port act (Ok tt) (record m { bytes = set_ })
    = record { code = refl; holds = holds_after w k.port m act set_ h refl (sets_states w.memory k.port m.bytes ads device h.holds) } in
    rw (may, is_state) own

pub control_denied : (k : Asker) (ads device : ℕ) → may_control k.rights ≡ false → control_act k ads device ≡ Refusal not_permitted
unfolding control_act
control_denied k ads device may = rw may refl

pub control_invalid : (k : Asker) (ads device : ℕ) → may_control k.rights ≡ true → (ads == RUN) || (ads == STOP) ≡ false
    → control_act k ads device ≡ Refusal invalid_value
unfolding control_act
control_invalid k ads device may is_state = rw (may, is_state) refl

-- as the code puts bytes and bits

pub bytes_written : (w : World) (k : Asker) (m : PortMemory) (sizes : plant.Sizes) (area : Area) (offset : ℕ) (bytes image : List ℕ) → HoldsPort w k.port m
    → m.table.sizes ≡ sizes → offset + length bytes ≤ size_in m.table.sizes area → MayWriteSymbolsAt k.address.net k.port area offset (length bytes)
    → image ≡ with_image_bytes sizes m.bytes.image area offset bytes
    → EndsAs w k.port (write_act k bytes (Ok (map WholeByte (names_at k.port area offset (length bytes))))) (Ok tt) (with_image m image)
bytes_written w k m sizes area offset bytes image h s within may e =
    let P : List ℕ
    → Type 0 = λ x. EndsAs w k.port (write_act k bytes (Ok (map WholeByte (names_at k.port area offset (length bytes))))) (Ok tt) (with_image m x) in
    subst P (sym (e ∙ ap (λ x. with_image_bytes x m.bytes.image area offset bytes) (sym s))) (bytes_put w k m area offset bytes h within may)

pub bit_written : (w : World) (k : Asker) (m : PortMemory) (sizes : plant.Sizes) (area : Area) (offset bit value : ℕ) (image : List ℕ) → HoldsPort w k.port m
    → m.table.sizes ≡ sizes → offset < size_in m.table.sizes area → MayWriteSymbolsAt k.address.net k.port area offset 1
    → image ≡ with_nth_byte m.bytes.image (start_in sizes area + offset) (with_bit bit (min value 1))
    → EndsAs w k.port (write_act k (value ∷ []) (Ok (OneBit (name_at k.port area offset) bit ∷ []))) (Ok tt) (with_image m image)
bit_written w k m sizes area offset bit value image h s within may e =
    let P : List ℕ
    → Type 0 = λ x. EndsAs w k.port (write_act k (value ∷ []) (Ok (OneBit (name_at k.port area offset) bit ∷ []))) (Ok tt) (with_image m x) in
    subst P (sym (e ∙ ap (λ x. with_nth_byte m.bytes.image (start_in x area + offset) (with_bit bit (min value 1))) (sym s)))
    (bit_put w k m area offset bit value h within may)
