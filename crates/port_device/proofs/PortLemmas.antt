-- A port that holds a world: its sizes, and what is read of its image.
use Rattle.std.proofs.Common.{◌≡◌, ℕ, ◌+◌, ◌<◌, ◌≤◌, map, sym, ◌∙◌, ap, subst}
use Rattle.std.specs.Prelude.{Some, unwrap_or, ◌/◌, ◌%◌, ◌^◌}
use Rattle.spec_plant.specs.Description.{Area, size_in}
use Rattle.spec_plant.specs.Description as plant
use Rattle.spec_plant.specs.World.{PlantPort}
use Rattle.spec_machine.specs.World.{World, name_at, names_at}
use Rattle.spec_machine.specs.Access.{WholeByte, OneBit, value_at, values_at}
use Rattle.spec_machine.specs.PortBytes.{image_byte, image_bytes}
use Rattle.spec_machine.proofs.PortBytesLemmas.{reads_image, reads_bit}
use Rattle.port_device.specs.PortMemory.{PortMemory}
use Rattle.port_device.specs.Holds.{HoldsPort}

-- the plant's sizes are the table's
pub same_sizes : (w : World) (p : PlantPort) (m : PortMemory) → HoldsPort w p m → p.sizes ≡ m.table.sizes
same_sizes w p m h = ap (λ (q : PlantPort). q.sizes) h.plant ∙ sym (ap (λ t. t.sizes) h.table.same)

-- bytes of an area, read by their names, are those of the image
pub bytes_read : (w : World) (p : PlantPort) (m : PortMemory) (sizes : plant.Sizes) (area : Area) (offset len : ℕ) → HoldsPort w p m → m.table.sizes ≡ sizes
    → offset + len ≤ size_in m.table.sizes area
    → image_bytes sizes m.bytes.image area offset len ≡ values_at w.memory (map WholeByte (names_at p area offset len))
bytes_read w p m sizes area offset len h s within =
    let e : p.sizes ≡ m.table.sizes = same_sizes w p m h in
    let P : plant.Sizes → Type 0 = λ x. offset + len ≤ size_in x area in
    let there : offset + len ≤ size_in p.sizes area = subst P (sym e) within in
    sym (ap (λ x. image_bytes x m.bytes.image area offset len) (e ∙ s)) ∙ sym (reads_image w.memory p m.bytes area offset len h.holds there)

-- a bit is read of the image's byte
pub bit_read : (w : World) (p : PlantPort) (m : PortMemory) (sizes : plant.Sizes) (area : Area) (offset bit byte : ℕ) → HoldsPort w p m → m.table.sizes ≡ sizes
    → offset < size_in m.table.sizes area → image_byte sizes m.bytes.image area offset ≡ Some byte
    → (byte / 2 ^ bit) % 2 ≡ value_at w.memory (OneBit (name_at p area offset) bit)
bit_read w p m sizes area offset bit byte h s within there =
    let e : p.sizes ≡ m.table.sizes = same_sizes w p m h in
    let P : plant.Sizes → Type 0 = λ x. offset < size_in x area in
    let within_ : offset < size_in p.sizes area = subst P (sym e) within in
    sym (reads_bit w.memory p m.bytes area offset bit h.holds within_
    ∙ ap (λ x. (unwrap_or (image_byte x m.bytes.image area offset) 0 / 2 ^ bit) % 2) (e ∙ s)
    ∙ ap (λ o. (unwrap_or o 0 / 2 ^ bit) % 2) there)
