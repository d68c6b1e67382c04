-- A port and what is kept of a client's handles stand for a client who asks the port. No public clause cites this file.
use Rattle.std.specs.Prelude.{◌≡◌, true, ℕ, List, Result, Ok, Err}
use Rattle.return_codes.specs.declared.code.Code.{Code}
use Rattle.return_codes.specs.declared.code.Code.TheVariants.{C710, C711}
use Rattle.spec_plant.specs.World.{PlantPort}
use Rattle.spec_machine.specs.Client as client
use Rattle.spec_machine.specs.Handles.{HandleStatus, Never, Released, Outdated, Live}
use Rattle.symbol_table.specs.declared.place.Place.{Place}
use Rattle.sym_handles.specs.Kept.{Kept}
use Rattle.port_device.specs.PortMemory.{PortMemory}
use Rattle.port_device.specs.Holds.{HoldsPort}
use Rattle.session.specs.Asking.{Asking}
use Rattle.session.specs.StandsFor.{KeptFor, is_place_of}

pub record Asks (a : Asking) (port : PortMemory) (kept : Kept) : Type 0 where
  pub held : HoldsPort a.world a.asker.port port
  pub handles : KeptFor a.world.plant.ports a.client.handles kept

-- some client asks, so that a live handle's place is one of the port's table
pub record SomeAsks (port : PortMemory) (kept : Kept) : Type 0 where
  pub asking : Asking
  pub asks : Asks asking port kept

-- what is looked up of a handle of this status: its place, or the code that refuses it
abbrev pub LooksUp : List PlantPort → ℕ → HandleStatus client.Place → Result Place Code → Type 0
LooksUp ports port (Live named) (Ok place) = is_place_of ports port named place ≡ true
LooksUp ports port Outdated (Err code) = code ≡ C711
LooksUp ports port Never (Err code) = code ≡ C710
LooksUp ports port Released (Err code) = code ≡ C710
LooksUp ports port status answer = ⊥
