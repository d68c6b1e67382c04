-- Which ports hold a world: the description, the version and the manner are the world's, and so are the bytes.
use Rattle.std.specs.Prelude.{◌≡◌, ℕ, List, [], ◌∷◌, Option, Some, None}
use Rattle.spec_plant.specs.Description.{Port, Description}
use Rattle.spec_plant.specs.Accepted.{IsAccepted}
use Rattle.spec_plant.specs.World.{PlantPort, plant_port}
use Rattle.spec_plant.specs.Named.{AreNumberedApart}
use Rattle.spec_plant.specs.Sound.{IsSoundPlant, IsSoundPort}
use Rattle.spec_persistent.specs.Otherwise.{MayBegin}
use Rattle.symbol_table.specs.Tables.{IsTableOf}
use Rattle.spec_machine.specs.World.{World}
use Rattle.spec_machine.specs.PortBytes as bytes
use Rattle.port_device.specs.PortMemory.{PortMemory, PortsMemory}

-- the port of the plant that is held
pub record HoldsPort (w : World) (p : PlantPort) (m : PortMemory) : Type 0 where
  pub port : Port
  pub plant : p ≡ plant_port m.types port
  pub table : IsTableOf m.types port m.table
  pub number : m.number ≡ port.number
  pub facts : m.facts ≡ port.facts
  pub types : m.types ≡ w.plant.types
  pub version : m.bytes.version ≡ w.version
  pub manner : m.manner ≡ w.profile.manner
  pub plant_sound : IsSoundPlant w.plant
  pub sound : IsSoundPort w.plant.ports p
  pub holds : bytes.Holds w.memory p m.bytes

-- one behind another
abbrev pub HoldEach : World → List PlantPort → List PortMemory → Type 0
HoldEach w [] [] = Unit {0}
HoldEach w (p ∷ ps) (m ∷ ms) = HoldsPort w p m × HoldEach w ps ms
HoldEach w ps ms = ⊥

-- all ports of the plant are held, in their order
pub record HoldsPorts (w : World) (m : PortsMemory) : Type 0 where
  pub types : m.types ≡ w.plant.types
  pub version : m.version ≡ w.version
  pub manner : m.manner ≡ w.profile.manner
  pub plant_sound : IsSoundPlant w.plant
  pub apart : AreNumberedApart w.plant.ports
  pub each : HoldEach w w.plant.ports m.ports

-- these ports hold some world
pub record HoldSomeWorld (m : PortsMemory) : Type 0 where
  pub world : World
  pub holds : HoldsPorts world m

-- a description that is accepted for some number of signals
pub record WasAccepted (d : Description) : Type 0 where
  pub signals : ℕ
  pub is : IsAccepted d signals

-- a description that ports may begin with, for some number of signals: an accepted one, but that its persistent symbols may
-- begin with other bytes
pub record MayBeBuilt (d : Description) : Type 0 where
  pub signals : ℕ
  pub is : MayBegin d signals

-- the port that was found of the plant is held by the one that was found of these; or neither was found
abbrev pub HoldsFound : World → Option PlantPort → Option PortMemory → Type 0
HoldsFound w None None = Unit {0}
HoldsFound w (Some p) (Some m) = HoldsPort w p m
HoldsFound w p m = ⊥
