-- The bytes of all ports of a world, and what a write at one port and a tick leave of them.
use Rattle.std.specs.Prelude.{◌≡◌, ℕ, List, [], ◌∷◌, map, Some, slice_get, slice_set}
use Rattle.signals.specs.Wave.{Wave}
use Rattle.spec_plant.specs.Description.{Area}
use Rattle.spec_plant.specs.World.{PlantPort, Block}
use Rattle.spec_plant.specs.Named.{AreNumberedApart}
use Rattle.spec_plant.specs.Sound.{Each, IsSoundPlant}
use Rattle.spec_machine.specs.World.{World, names_at}
use Rattle.spec_machine.specs.Access.{Addressed, WholeByte, addressed_name, puts_of, memory_after_puts}
use Rattle.spec_machine.specs.Ticks.{world_after_tick}
use Rattle.spec_machine.specs.PortBytes.{PortBytes, Holds, image_after_signals}

-- these are the bytes of these ports, in their order
abbrev pub AllHold : List Block → List PlantPort → List PortBytes → Type 0
AllHold memory [] [] = Unit {0}
AllHold memory (p ∷ ps) (b ∷ bs) = Holds memory p b × AllHold memory ps bs
AllHold memory ps bs = ⊥

-- bytes and bits of one port
abbrev pub AreAtPort : ℕ → List Addressed → Type 0
AreAtPort port places = Each (λ a. (addressed_name a).port ≡ port) places

-- Bytes of an area are bytes of its port.
abbrev pub AreasAreAtTheirPorts : Type 0
AreasAreAtTheirPorts = (p : PlantPort) (area : Area) (offset len : ℕ)
    → AreAtPort p.number (map WholeByte (names_at p area offset len))

-- What is written at a port leaves the bytes of all other ports as they were.
abbrev pub WritesOnePort : Type 0
WritesOnePort = (memory : List Block) (ports : List PlantPort) (bytes : List PortBytes) (i : ℕ) (p : PlantPort)
    (b : PortBytes) (places : List Addressed) (values : List ℕ)
    → AreNumberedApart ports → slice_get ports i ≡ Some p → AreAtPort p.number places → AllHold memory ports bytes
    → Holds (memory_after_puts memory (puts_of places values)) p b
    → AllHold (memory_after_puts memory (puts_of places values)) ports (slice_set bytes i b)

-- the bytes of ports after a step of all signals
abbrev pub bytes_after_tick : List PlantPort → List Wave → List PortBytes → List PortBytes
bytes_after_tick (p ∷ ps) waves (b ∷ bs) =
    record b { image = image_after_signals p 0 waves b.image } ∷ bytes_after_tick ps waves bs
bytes_after_tick ps waves bs = []

-- A tick steps all signals at all ports.
abbrev pub TicksAllPorts : Type 0
TicksAllPorts = (w : World) (bytes : List PortBytes) → IsSoundPlant w.plant → AreNumberedApart w.plant.ports
    → AllHold w.memory w.plant.ports bytes
    → AllHold (world_after_tick w).memory w.plant.ports (bytes_after_tick w.plant.ports w.signals bytes)
