-- Which act a write of the first bytes of a place is.
use Rattle.std.proofs.Common.{◌≡◌, ℕ, ◌≤◌, List, map, length, true, false, ◌∙◌, ap}
use Rattle.std.specs.Prelude.{Ok, nat_lt, not, if◌then◌else◌}
use Rattle.type_layout.specs.Descriptions.{area_of}
use Rattle.spec_formats.specs.Codes.{invalid_size, not_permitted}
use Rattle.spec_machine.specs.World.{World, names_at}
use Rattle.spec_machine.specs.Access.{WholeByte}
use Rattle.spec_machine.specs.Acts.{Refusal}
use Rattle.spec_machine.specs.Client as client
use Rattle.spec_machine.specs.Reach.{addressed_in_place}
use Rattle.spec_machine.specs.Writes.{Asker, may_write, write_act}
use Rattle.symbol_table.specs.declared.place.Place.{Place}
use Rattle.port_device.specs.PortMemory.{PortMemory}
use Rattle.port_device.specs.Holds.{HoldsPort}
use Rattle.port_device.specs.Answers.{IsNamed}
use Rattle.port_device.specs.Endings.{place_write_act}
use Rattle.port_device.proofs.PlaceLemmas.{place_short, place_bytes}

pub place_denied : (k : Asker) (named : client.Place) (bytes : List ℕ) → may_write k.rights ≡ false → place_write_act k named bytes ≡ Refusal not_permitted
place_denied k named bytes may =
    ap (λ b. if not b then Refusal not_permitted else write_act k bytes (addressed_in_place k.port.number named (length bytes))) may

permitted : (k : Asker) (named : client.Place) (bytes : List ℕ) → may_write k.rights ≡ true
    → place_write_act k named bytes ≡ write_act k bytes (addressed_in_place k.port.number named (length bytes))
permitted k named bytes may =
    ap (λ b. if not b then Refusal not_permitted else write_act k bytes (addressed_in_place k.port.number named (length bytes))) may

pub place_too_long : (w : World) (k : Asker) (place : Place) (named : client.Place) (bytes : List ℕ) → may_write k.rights ≡ true → IsNamed w k.port place named
    → nat_lt place.len (length bytes) ≡ true → place_write_act k named bytes ≡ Refusal invalid_size
place_too_long w k place named bytes may t h = permitted k named bytes may ∙ ap (write_act k bytes) (place_short w k.port place named (length bytes) t h)

pub place_is : (w : World) (k : Asker) (m : PortMemory) (place : Place) (named : client.Place) (bytes : List ℕ) → may_write k.rights ≡ true
    → HoldsPort w k.port m → IsNamed w k.port place named → length bytes ≤ place.len
    → place_write_act k named bytes ≡ write_act k bytes (Ok (map WholeByte (names_at k.port (area_of place.area) place.«at» (length bytes))))
place_is w k m place named bytes may h t few =
    permitted k named bytes may ∙ ap (write_act k bytes) (place_bytes w k.port m place named (length bytes) h t few)
