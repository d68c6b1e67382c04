-- How the calls of a port that write end, against what the machine says of a request.
use Rattle.std.specs.Prelude.{◌≡◌, ℕ, List, length, not, if◌then◌else◌, Result, Ok, Err}
use Rattle.return_codes.specs.declared.code.Code.{Code}
use Rattle.return_codes.specs.Code.{number_of}
use Rattle.spec_plant.specs.Description.{Rights}
use Rattle.spec_plant.specs.World.{PlantPort}
use Rattle.spec_formats.specs.Codes.{no_error, not_permitted}
use Rattle.spec_formats.specs.Ranges.{Range}
use Rattle.spec_machine.specs.World.{World}
use Rattle.spec_machine.specs.Client as client
use Rattle.spec_machine.specs.Acts.{Act, Refusal, outcome_of, memory_after}
use Rattle.spec_machine.specs.Reach.{addressed_by_range, addressed_in_place}
use Rattle.spec_machine.specs.Writes.{Asker, may_write, write_act}
use Rattle.port_device.specs.PortMemory.{PortMemory}
use Rattle.port_device.specs.Holds.{HoldsPort}

abbrev pub HasCode : ℕ → Result (Unit {0}) Code → Type 0
HasCode n (Ok done) = n ≡ no_error
HasCode n (Err code) = n ≡ number_of code

-- a world after what an act puts
abbrev pub world_after_act : World → Act → World
world_after_act w act = record w { memory = memory_after w.memory act }

-- how an act ends that writes: its code, and the port holds the world after its puts
pub record EndsAs (w : World) (p : PlantPort) (act : Act) (answer : Result (Unit {0}) Code) (m : PortMemory) : Type 0 where
  pub code : HasCode (outcome_of w.memory act).code answer
  pub holds : HoldsPort (world_after_act w act) p m

-- one who asks has these rights and this NetId
pub record IsAsker (k : Asker) (rights : Rights) (net : List ℕ) : Type 0 where
  pub net_is : k.address.net ≡ net
  pub rights_are : k.rights ≡ rights

-- only the bytes of a port may be others, and not the version
abbrev pub KeepsDescription : PortMemory → PortMemory → Type 0
KeepsDescription old new = let b = new.bytes in new ≡ record old { bytes = record b { version = old.bytes.version } }

-- a write to a range: rights are looked at first
abbrev pub range_write_act : Asker → Result Range ℕ → List ℕ → Act
range_write_act k range bytes =
    if not (may_write k.rights) then Refusal not_permitted
    else write_act k bytes (addressed_by_range k.port range)

-- a write of the first bytes of a place: rights are looked at first
abbrev pub place_write_act : Asker → client.Place → List ℕ → Act
place_write_act k named bytes =
    if not (may_write k.rights) then Refusal not_permitted
    else write_act k bytes (addressed_in_place k.port.number named (length bytes))
