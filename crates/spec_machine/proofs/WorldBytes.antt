-- The bytes of all ports of a world.
use Rattle.std.proofs.Common.{◌≡◌, ◌≢◌, ℕ, zero, suc, List, [], ◌∷◌, map, length, refl, sym, ◌∙◌, subst, arith}
use Rattle.std.specs.Prelude.{Some, slice_get}
use Rattle.spec_plant.specs.Description.{Area}
use Rattle.spec_plant.specs.World.{PlantPort, Block}
use Rattle.spec_plant.specs.Named.{NotNumbered, AreNumberedApart}
use Rattle.spec_plant.specs.Sound.{Each, IsSoundPlant}
use Rattle.spec_machine.specs.World.{World, numbers_from, name_at, names_at}
use Rattle.spec_machine.specs.Access.{Addressed, WholeByte, puts_of, memory_after_puts}
use Rattle.spec_machine.specs.Ticks.{world_after_tick}
use Rattle.spec_machine.specs.PortBytes.{PortBytes, Holds}
use Rattle.spec_machine.specs.PortLaws.{IsAtAnotherPort}
use Rattle.spec_machine.specs.WorldBytes.{AllHold, AreAtPort, AreasAreAtTheirPorts, WritesOnePort, bytes_after_tick, TicksAllPorts}
use Rattle.spec_machine.proofs.AreaNames.{names_are_of_areas}
use Rattle.spec_machine.proofs.PortBytesLemmas.{leaves_other_ports}
use Rattle.spec_machine.proofs.SignalsStepped.{not_first, steps_signals}

-- the bytes of the port at a place
pub all_hold-get : (memory : List Block) (ports : List PlantPort) (bytes : List PortBytes) (i : ℕ) (p : PlantPort) → AllHold memory ports bytes
    → slice_get ports i ≡ Some p
    → (b : PortBytes) × (slice_get bytes i ≡ Some b) × Holds memory p b
all_hold-get memory [] [] i p h g = cc
all_hold-get memory [] (b ∷ bs) i p h g = absurd h
all_hold-get memory (q ∷ qs) [] i p h g = absurd h
all_hold-get memory (q ∷ qs) (b ∷ bs) zero p h g = let same : q ≡ p = cc in (b, refl, subst (λ (x : PlantPort). Holds memory x b) same (h.0))
all_hold-get memory (q ∷ qs) (b ∷ bs) (suc i) p h g = all_hold-get memory qs bs i p (h.1) g

-- bytes that are held port by port
pub all_hold-from : (memory : List Block) (ports : List PlantPort) (bytes : List PortBytes) → length ports ≡ length bytes
    → ((i : ℕ) (p : PlantPort) (b : PortBytes) → slice_get ports i ≡ Some p → slice_get bytes i ≡ Some b → Holds memory p b) → AllHold memory ports bytes
all_hold-from memory [] [] e h = tt
all_hold-from memory [] (b ∷ bs) e h = absurd (omega (arith, e))
all_hold-from memory (p ∷ ps) [] e h = absurd (omega (arith, e))
all_hold-from memory (p ∷ ps) (b ∷ bs) e h = (h zero p b refl refl, all_hold-from memory ps bs (omega (arith, e)) (λ i q c g k. h (suc i) q c g k))

at_port : (p : PlantPort) (area : Area) (ks : List ℕ) → AreAtPort p.number (map WholeByte (map (name_at p area) ks))
at_port p area [] = tt
at_port p area (k ∷ ks) = ((names_are_of_areas p area k).port, at_port p area ks)

pub areas_are_at_their_ports : AreasAreAtTheirPorts
unfolding names_at
areas_are_at_their_ports p area offset len = at_port p area (numbers_from offset len)

-- puts at one port are at another port than every other
elsewhere : (port : ℕ) (q : PlantPort) → q.number ≢ port → (places : List Addressed) (values : List ℕ) → AreAtPort port places
    → Each (IsAtAnotherPort q) (puts_of places values)
elsewhere port q ne [] values e = tt
elsewhere port q ne (a ∷ places) [] e = tt
elsewhere port q ne (a ∷ places) (v ∷ values) e = (λ s. ne (sym s ∙ e.0), elsewhere port q ne places values (e.1))

others_stay : (port : ℕ) (memory : List Block) (places : List Addressed) (values : List ℕ) → AreAtPort port places
    → (ports : List PlantPort) (bytes : List PortBytes) → NotNumbered port ports → AllHold memory ports bytes
    → AllHold (memory_after_puts memory (puts_of places values)) ports bytes
others_stay port memory places values e [] [] n h = tt
others_stay port memory places values e [] (b ∷ bs) n h = absurd h
others_stay port memory places values e (q ∷ qs) [] n h = absurd h
others_stay port memory places values e (q ∷ qs) (b ∷ bs) n h = (
  leaves_other_ports memory q b (puts_of places values) (elsewhere port q (n.0) places values e) (h.0),
  others_stay port memory places values e qs bs (n.1)
      (h.1),
)

pub writes_one_port : WritesOnePort
writes_one_port memory [] [] i p b places values a g e h new = cc
writes_one_port memory [] (c ∷ cs) i p b places values a g e h new = absurd h
writes_one_port memory (q ∷ qs) [] i p b places values a g e h new = absurd h
writes_one_port memory (q ∷ qs) (c ∷ cs) zero p b places values a g e h new =
    let same : q ≡ p = cc in
    let others = subst (λ (x : PlantPort). NotNumbered x.number qs) same (a.0) in (
      subst (λ (x : PlantPort). Holds (memory_after_puts memory (puts_of places values)) x b)
          (sym same) new,
      others_stay p.number memory places values e qs cs others (h.1),
    )
writes_one_port memory (q ∷ qs) (c ∷ cs) (suc i) p b places values a g e h new =
    let ne : q.number ≢ p.number = λ s. not_first q.number qs i p (a.0) g (sym s) in (
      leaves_other_ports memory q c (puts_of places values) (elsewhere p.number q ne places values e) (h.0),
      writes_one_port memory qs cs i p b places values
          (a.1) g e (h.1) new,
    )

-- a port stands among all
abbrev IsAmongPorts : List PlantPort → PlantPort → Type 0
IsAmongPorts ports p = (n : ℕ) × (slice_get ports n ≡ Some p)

behind : (x : PlantPort) (all ports : List PlantPort) → Each (IsAmongPorts all) ports → Each (IsAmongPorts (x ∷ all)) ports
behind x all [] e = tt
behind x all (p ∷ ports) e = ((suc (e.0.0), e.0.1), behind x all ports (e.1))

among_itself : (ports : List PlantPort) → Each (IsAmongPorts ports) ports
among_itself [] = tt
among_itself (p ∷ ports) = ((zero, refl), behind p ports ports (among_itself ports))

all_stepped : (w : World) → IsSoundPlant w.plant → AreNumberedApart w.plant.ports → (ports : List PlantPort) (bytes : List PortBytes)
    → Each (IsAmongPorts w.plant.ports) ports → AllHold w.memory ports bytes
    → AllHold (world_after_tick w).memory ports (bytes_after_tick ports w.signals bytes)
all_stepped w sound apart [] [] e h = tt
all_stepped w sound apart [] (b ∷ bs) e h = absurd h
all_stepped w sound apart (p ∷ ps) [] e h = absurd h
all_stepped w sound apart (p ∷ ps) (b ∷ bs) e h = (steps_signals w (e.0.0) p b sound apart (e.0.1) (h.0), all_stepped w sound apart ps bs (e.1) (h.1))

pub ticks_all_ports : TicksAllPorts
ticks_all_ports w bytes sound apart h = all_stepped w sound apart w.plant.ports bytes (among_itself w.plant.ports) h
