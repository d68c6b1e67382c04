-- What a request of one port leaves of the others: they hold the world after it as they held it before.
use Rattle.std.proofs.Common.{◌≡◌, ℕ, List, [], ◌∷◌, true, false, refl, sym, ◌∙◌, subst}
use Rattle.std.specs.Prelude.{Bool, Some, ◌==◌, if◌then◌else◌}
use Rattle.std.proofs.lemmas.Bool.{eqb-true, false≢true}
use Rattle.std.proofs.Common.{eq-eqb}
use Rattle.spec_plant.specs.World.{PlantPort, Block}
use Rattle.spec_plant.specs.Named.{port_numbered, NotNumbered, AreNumberedApart}
use Rattle.spec_plant.specs.Sound.{Each}
use Rattle.spec_machine.specs.Access.{addressed_name, Put}
use Rattle.spec_machine.specs.Acts.{Act, Refusal, Allowed, memory_after, memory_after_acts}
use Rattle.spec_machine.specs.PortBytes as bytes
use Rattle.spec_machine.specs.PortLaws.{IsAtAnotherPort}
use Rattle.spec_machine.proofs.PortBytesLemmas.{leaves_other_ports}
use Rattle.spec_machine.specs.World.{World}
use Rattle.port_device.specs.PortMemory.{PortMemory, PortsMemory, with_numbered, with_port}
use Rattle.port_device.specs.Holds.{HoldsPort, HoldEach, HoldsPorts}
use Rattle.port_device.proofs.PortsLemmas.{same_number}

-- what an act puts lies at this port
abbrev pub PutsAt : ℕ → Act → Type 0
PutsAt port (Refusal code) = Unit {0}
PutsAt port (Allowed access) = Each (λ (u : Put). (addressed_name u.place).port ≡ port) access.writes

abbrev pub PutAllAt : ℕ → List Act → Type 0
PutAllAt port acts = Each (PutsAt port) acts

elsewhere : (port : ℕ) (q : PlantPort) (puts : List Put) → (q.number ≡ port → ⊥) → Each (λ (u : Put). (addressed_name u.place).port ≡ port) puts
    → Each (IsAtAnotherPort q) puts
elsewhere port q [] other h = tt
elsewhere port q (u ∷ us) other h = ((λ e. other (sym e ∙ h.0)), elsewhere port q us other h.1)

after-act : (memory : List Block) (port : ℕ) (q : PlantPort) (b : bytes.PortBytes) (act : Act) → (q.number ≡ port → ⊥) → PutsAt port act
    → bytes.Holds memory q b → bytes.Holds (memory_after memory act) q b
after-act memory port q b (Refusal code) other at_port h = h
after-act memory port q b (Allowed access) other at_port h =
    leaves_other_ports memory q b access.writes (elsewhere port q access.writes other at_port) h

after-acts : (memory : List Block) (port : ℕ) (q : PlantPort) (b : bytes.PortBytes) (acts : List Act) → (q.number ≡ port → ⊥) → PutAllAt port acts
    → bytes.Holds memory q b → bytes.Holds (memory_after_acts memory acts) q b
unfolding memory_after_acts
after-acts memory port q b [] other at_port h = h
after-acts memory port q b (a ∷ as_) other at_port h =
    after-acts (memory_after memory a) port q b as_ other at_port.1 (after-act memory port q b a other at_port.0 h)

-- a world with other bytes
abbrev pub with_memory : World → List Block → World
with_memory w memory = record w { memory = memory }

held-still : (w : World) (port : ℕ) (q : PlantPort) (m : PortMemory) (acts : List Act) → (q.number ≡ port → ⊥) → PutAllAt port acts
    → HoldsPort w q m → HoldsPort (with_memory w (memory_after_acts w.memory acts)) q m
held-still w port q m acts other at_port h = record {
  port = h.port;
  plant = h.plant;
  table = h.table;
  number = h.number;
  facts = h.facts;
  types = h.types;
  version = h.version;
  manner = h.manner;
  plant_sound = h.plant_sound;
  sound = h.sound;
  holds = after-acts w.memory port q m.bytes acts other at_port h.holds;
}

rest-held : (w : World) (port : ℕ) (ps : List PlantPort) (ms : List PortMemory) (acts : List Act) → NotNumbered port ps → PutAllAt port acts
    → HoldEach w ps ms → HoldEach (with_memory w (memory_after_acts w.memory acts)) ps ms
rest-held w port [] [] acts apart at_port h = tt
rest-held w port (p ∷ ps) (m ∷ ms) acts apart at_port h =
    (held-still w port p m acts apart.0 at_port h.0, rest-held w port ps ms acts apart.1 at_port h.1)
rest-held w port [] (m ∷ ms) acts apart at_port h = absurd h
rest-held w port (p ∷ ps) [] acts apart at_port h = absurd h

each-held : (w : World) (p : PlantPort) (new : PortMemory) (ps : List PlantPort) (ms : List PortMemory) (acts : List Act)
    → AreNumberedApart ps → port_numbered p.number ps ≡ Some p → PutAllAt p.number acts
    → HoldsPort (with_memory w (memory_after_acts w.memory acts)) p new → HoldEach w ps ms
    → HoldEach (with_memory w (memory_after_acts w.memory acts)) ps (with_numbered p.number new ms)
each-held w p new [] [] acts apart found at_port held h = tt
each-held w p new [] (m ∷ ms) acts apart found at_port held h = absurd h
each-held w p new (q ∷ qs) [] acts apart found at_port held h = absurd h
each-held w p new (q ∷ qs) (m ∷ ms) acts apart found at_port held h =
    here (q.number == p.number) refl (λ behind. each-held w p new qs ms acts apart.1 behind at_port held h.1)
  where
    world : World
    world = with_memory w (memory_after_acts w.memory acts)

    number : m.number ≡ q.number
    number = same_number w q m h.0

    here : (b : Bool) → (q.number == p.number) ≡ b
        → (port_numbered p.number qs ≡ Some p → HoldEach world qs (with_numbered p.number new ms))
        → HoldEach world (q ∷ qs) (with_numbered p.number new (m ∷ ms))
    here true e rest =
        let is : q ≡ p = let s = rw e at found in cc in
        let N : ℕ → Type 0 = λ n. HoldEach world (q ∷ qs) (if n == p.number then new ∷ ms else m ∷ with_numbered p.number new ms) in
        let H : PlantPort → Type 0 = λ k. HoldsPort world k new in
        let A : ℕ → Type 0 = λ n. NotNumbered n qs in
        subst N (sym number) (rw e (subst H (sym is) held, rest-held w p.number qs ms acts (subst A (eqb-true q.number p.number e) apart.0) at_port h.1))
    here false e rest =
        let N : ℕ → Type 0 = λ n. HoldEach world (q ∷ qs) (if n == p.number then new ∷ ms else m ∷ with_numbered p.number new ms) in
        let other : q.number ≡ p.number → ⊥ = λ same. false≢true (sym e ∙ eq-eqb q.number p.number same) in
        subst N (sym number) (rw e (held-still w p.number q m acts other at_port h.0, rest (rw e at found)))

-- all ports hold the world after acts of one of them
pub ports-held : (w : World) (ports : PortsMemory) (number : ℕ) (p : PlantPort) (new : PortMemory) (acts : List Act) → HoldsPorts w ports
    → port_numbered number w.plant.ports ≡ Some p → p.number ≡ number → PutAllAt p.number acts
    → HoldsPort (with_memory w (memory_after_acts w.memory acts)) p new
    → HoldsPorts (with_memory w (memory_after_acts w.memory acts)) (with_port ports number new)
ports-held w ports number p new acts h found is at_port held =
    let F : ℕ → Type 0 = λ n. port_numbered n w.plant.ports ≡ Some p in
    let W : ℕ → Type 0 = λ n. HoldEach (with_memory w (memory_after_acts w.memory acts)) w.plant.ports (with_numbered n new ports.ports) in
    record {
      types = h.types;
      version = h.version;
      manner = h.manner;
      plant_sound = h.plant_sound;
      apart = h.apart;
      each = subst W is (each-held w p new w.plant.ports ports.ports acts h.apart (subst F (sym is) found) at_port held h.each);
    }
