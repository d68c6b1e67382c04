-- The ports that are built of a description that they may begin with hold its world.
use Rattle.std.proofs.Common.{◌≡◌, ℕ, zero, suc, ◌<◌, List, [], ◌∷◌, length, map, refl, sym, ◌∙◌, ap, subst, arith}
use Rattle.std.specs.Prelude.{Some, slice_get, slice_index_or, All}
use Rattle.signals.specs.Wave.{Wave}
use Rattle.spec_plant.specs.Listed.{NamedType}
use Rattle.spec_plant.specs.Description.{Port, Description}
use Rattle.spec_plant.specs.World.{plant_port, plant_of}
use Rattle.spec_plant.specs.Sound.{Each, IsSoundPort, IsSoundPlant}
use Rattle.spec_plant.specs.AcceptedTypes.{AreTypes}
use Rattle.spec_persistent.specs.Otherwise.{PortBeginsOtherwise}
use Rattle.spec_persistent.proofs.OtherwiseLemmas.{beside, begun_is_sound, begun_is_numbered_apart}
use Rattle.spec_persistent.proofs.StoredLemmas.{accepted_may_begin}
use Rattle.spec_machine.specs.Manner.{Manner}
use Rattle.spec_machine.specs.Profile.{Profile}
use Rattle.spec_machine.specs.World.{RUN, first_memory, world_in}
use Rattle.spec_machine.specs.PortBytes.{PortBytes, Holds}
use Rattle.spec_machine.proofs.Reloaded.{begins_with_first_image}
use Rattle.symbol_table.specs.Tables.{IsTableOf}
use Rattle.type_layout.specs.Descriptions.{port_of, ports_of, description_of}
use Rattle.type_layout.specs.declared.port.PortDesc.{PortDesc}
use Rattle.type_layout.specs.declared.description.Description as layout
use Rattle.port_device.specs.PortMemory.{PortMemory}
use Rattle.port_device.specs.Holds.{HoldEach, HoldsPorts, WasAccepted, MayBeBuilt}
use Rattle.port_device.specs.FirstPorts.{IsOfAccepted, IsFirstPort, AreFirstPorts}

-- an accepted description is one that ports may begin with
pub accepted_may_be_built : (d : Description) → WasAccepted d → MayBeBuilt d
accepted_may_be_built d was = record { signals = was.signals; is = accepted_may_begin d was.signals was.is }

-- its types are accepted
pub types_of_built : (d : Description) → MayBeBuilt d → AreTypes d.types
types_of_built d may = subst (λ (x : Description). AreTypes x.types) (sym may.is.otherwise.same) may.is.accepted.types

-- each of its ports
pub each_of_built : (d : layout.Description) (types : List NamedType) → MayBeBuilt (description_of d) → (description_of d).types ≡ types
    → All (λ (p : PortDesc). IsOfAccepted types (port_of p)) d.ports
each_of_built d types may e k x u =
    let o = may.is.otherwise in
    let first = may.is.first in
    let p : Port = port_of (slice_index_or d.ports k x) in
    let found : slice_get o.ports k ≡ Some p = ap (λ (y : Description). slice_get y.ports k) (sym o.same) ∙ there d.ports k u in
    let pair = beside PortBeginsOtherwise first.ports o.ports k p o.each found in
    record {
      description = first;
      signals = may.signals;
      accepted = may.is.accepted;
      types_are = ap (λ (y : Description). y.types) (sym o.same) ∙ e;
      place = k;
      before = pair.0;
      there = pair.1;
      otherwise = pair.2;
    }
  where
    there : (ps : List PortDesc) (i : ℕ) → i < length ps → slice_get (ports_of ps) i ≡ Some (port_of (slice_index_or ps i x))
    there [] i h = absurd (omega (arith, h))
    there (p ∷ ps) zero h = refl
    there (p ∷ ps) (suc i) h = there ps i (omega (arith, h))

-- the bytes of one of them
first-bytes : (d : Description) (types : List NamedType) (version : ℕ) (manner : Manner) (port : Port) (m : PortMemory)
    → IsSoundPlant (plant_of d) → d.types ≡ types
    → IsSoundPort (plant_of d).ports (plant_port types port) → IsFirstPort types port version manner m
    → Holds (first_memory version (plant_of d)) (plant_port types port) m.bytes
first-bytes d types version manner port m sound e p first =
    let held = begins_with_first_image version (plant_of d) (plant_port types port) m.bytes.image sound p.found first.image in
    let same : ◌≡◌ {A = PortBytes} (record { image = m.bytes.image; ads = RUN; device = 0; version = version }) m.bytes
    = ap (λ n. record { image = m.bytes.image; ads = n; device = 0; version = version }) (sym first.ads)
    ∙ ap (λ n. record { image = m.bytes.image; ads = m.bytes.ads; device = n; version = version }) (sym first.device)
    ∙ ap (λ n. record { image = m.bytes.image; ads = m.bytes.ads; device = m.bytes.device; version = n }) (sym first.version_is) in
    subst (Holds (first_memory version (plant_of d)) (plant_port types port)) same held

-- each holds its port
first_each : (profile : Profile) (d : Description) (waves : List Wave) (types : List NamedType) (ps : List Port) (ms : List PortMemory)
    → IsSoundPlant (plant_of d) → d.types ≡ types
    → Each (IsSoundPort (plant_of d).ports) (map (plant_port types) ps) → AreFirstPorts types 1 profile.manner ps ms
    → HoldEach (world_in profile d waves) (map (plant_port types) ps) ms
first_each profile d waves types [] [] sound e ports first = tt
first_each profile d waves types [] (m ∷ ms) sound e ports first = absurd first
first_each profile d waves types (p ∷ ps) [] sound e ports first = absurd first
first_each profile d waves types (p ∷ ps) (m ∷ ms) sound e ports first =
    let f = first.0 in (
      record {
        port = p;
        plant = ap (λ ts. plant_port ts p) (sym f.types_are);
        table = subst (λ ts. IsTableOf ts p m.table) (sym f.types_are) f.table;
        number = f.number;
        facts = f.facts;
        types = f.types_are ∙ sym e;
        version = f.version_is;
        manner = f.manner_is;
        plant_sound = sound;
        sound = ports.0;
        holds = first-bytes d types 1 profile.manner p m sound e (ports.0) f;
      },
      first_each profile d waves types ps ms sound e (ports.1) (first.1),
    )

pub first_ports_hold : (profile : Profile) (d : Description) (waves : List Wave) (types : List NamedType) (ms : List PortMemory)
    → MayBeBuilt d → d.types ≡ types → AreFirstPorts types 1 profile.manner d.ports ms
    → HoldsPorts (world_in profile d waves) (record { types = types; version = 1; manner = profile.manner; ports = ms })
first_ports_hold profile d waves types ms may e first =
    let sound = begun_is_sound d may.signals may.is in
    let P : List NamedType → Type 0 = λ ts. HoldEach (world_in profile d waves) (map (plant_port ts) d.ports) ms in
    let Q : List NamedType → Type 0 = λ ts. Each (IsSoundPort (plant_of d).ports) (map (plant_port ts) d.ports) in
    record {
      types = sym e;
      version = refl;
      manner = refl;
      plant_sound = sound;
      apart = begun_is_numbered_apart d may.signals may.is;
      each = subst P (sym e) (first_each profile d waves types d.ports ms sound e (subst Q e sound) first);
    }
