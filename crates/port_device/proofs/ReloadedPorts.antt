-- Ports after a reload hold the world after it.
use Rattle.std.proofs.Common.{◌≡◌, ℕ, ◌+◌, List, [], ◌∷◌, ◌++◌, length, map, refl, sym, ◌∙◌, ap, subst}
use Rattle.std.specs.Prelude.{Option, Some, None, ◌%◌, All}
use Rattle.std.proofs.lemmas.List.Elements.{All-nil, All-cons}
use Rattle.spec_plant.specs.Listed.{NamedType}
use Rattle.spec_plant.specs.Description.{Symbol, Port, Description}
use Rattle.spec_plant.specs.World.{PlantPort, Block, plant_symbol, plant_port, plant_of}
use Rattle.spec_plant.specs.Accepted.{image_size}
use Rattle.spec_plant.specs.Named.{port_numbered}
use Rattle.spec_plant.specs.Sound.{Each, IsSoundSymbol, IsSoundPort, IsSoundPlant}
use Rattle.spec_plant.proofs.SoundLemmas.{accepted_are_sound, accepted_are_numbered_apart}
use Rattle.spec_machine.specs.Manner.{Manner}
use Rattle.spec_machine.specs.World.{World, RUN, first_memory}
use Rattle.spec_machine.specs.PortBytes.{PortBytes, Holds}
use Rattle.spec_machine.specs.PortLaws.{IsReloadedImage}
use Rattle.spec_machine.specs.Reloads.{is_kept, memory_after_reload, world_after_reload}
use Rattle.spec_machine.proofs.Reloaded.{reloads_image, reloads_new_port}
use Rattle.symbol_table.specs.Tables.{SymbolTable, table_symbol, IsTableOf}
use Rattle.port_device.specs.PortMemory.{PortMemory, PortsMemory, memory_numbered}
use Rattle.port_device.specs.Holds.{HoldsPort, HoldEach, HoldsPorts, HoldsFound, WasAccepted}
use Rattle.port_device.specs.FirstPorts.{IsOfAccepted, IsFirstPort}
use Rattle.port_device.specs.ReloadedPorts.{BeginsWhole, with_kept, after_reload, IsReloadedPort, AreReloadedPorts}
use Rattle.port_device.proofs.FirstPortLemmas.{of_accepted-sound}
use Rattle.port_device.proofs.KeptLemmas.{IsHeldAs, held-as}
use Rattle.port_device.proofs.PortsLemmas.{found_is_held}
use Rattle.port_device.proofs.ReloadedImage.{reloaded_image}

-- symbols of an accepted description begin with as many bytes as they have

all_whole : (types : List NamedType) (p : PlantPort) (ss : List Symbol) → Each (IsSoundSymbol p) (map (plant_symbol types) ss)
    → All BeginsWhole (map (table_symbol types) ss)
all_whole types p [] e = All-nil BeginsWhole
all_whole types p (s ∷ ss) e =
    All-cons BeginsWhole (table_symbol types s) (map (table_symbol types) ss) (e.0).initial (all_whole types p ss (e.1))

pub of_accepted-whole : (types : List NamedType) (port : Port) (table : SymbolTable) → IsOfAccepted types port → IsTableOf types port table
    → All BeginsWhole table.symbols
of_accepted-whole types port table a is_of =
    let sound = of_accepted-sound types port a in
    let P : SymbolTable → Type 0 = λ t. All BeginsWhole t.symbols in
    subst P (sym is_of.same) (all_whole types (plant_port types port) port.symbols sound.symbols)

-- one more port
pub reloaded-more : (old : List PortMemory) (types : List NamedType) (version : ℕ) (manner : Manner) (ps : List Port) (ms : List PortMemory)
    (p : Port) (m : PortMemory) → AreReloadedPorts old types version manner ps ms → IsReloadedPort old types p version manner m
    → AreReloadedPorts old types version manner (ps ++ p ∷ []) (ms ++ m ∷ [])
reloaded-more old types version manner [] [] p m h new = (new, tt)
reloaded-more old types version manner [] (n ∷ ms) p m h new = absurd h
reloaded-more old types version manner (q ∷ ps) [] p m h new = absurd h
reloaded-more old types version manner (q ∷ ps) (n ∷ ms) p m h new = (h.0, reloaded-more old types version manner ps ms p m (h.1) new)

-- the bytes of one port

abbrev memory_of : World → Description → ℕ → List Block
memory_of w d version = memory_after_reload (is_kept w.plant (plant_of d)) w.memory (first_memory version (plant_of d))

-- a port that was not there
fresh-bytes : (w : World) (d : Description) (types : List NamedType) (version : ℕ) (manner : Manner) (port : Port) (m : PortMemory) → IsSoundPlant (plant_of d)
    → IsSoundPort (plant_of d).ports (plant_port types port) → IsFirstPort types port version manner m → port_numbered port.number w.plant.ports ≡ None
    → Holds (memory_of w d version) (plant_port types port) m.bytes
fresh-bytes w d types version manner port m sound p first none =
    let held = reloads_new_port version w.plant (plant_of d) w.memory (plant_port types port) m.bytes.image sound none p.found first.image in
    let same : ◌≡◌ {A = PortBytes} (record { image = m.bytes.image; ads = RUN; device = 0; version = version }) m.bytes
    = ap (λ n. record { image = m.bytes.image; ads = n; device = 0; version = version }) (sym first.ads)
    ∙ ap (λ n. record { image = m.bytes.image; ads = m.bytes.ads; device = n; version = version }) (sym first.device)
    ∙ ap (λ n. record { image = m.bytes.image; ads = m.bytes.ads; device = m.bytes.device; version = n }) (sym first.version_is) in
    subst (Holds (memory_of w d version) (plant_port types port)) same held

-- a port that was
kept-bytes : (w : World) (d : Description) (types : List NamedType) (version : ℕ) (manner : Manner) (port : Port) (was first : PortMemory)
    → IsSoundPlant w.plant → IsSoundPlant (plant_of d) → IsSoundPort (plant_of d).ports (plant_port types port) → IsFirstPort types port version manner first
    → IsHeldAs w port.number was → Holds (memory_of w d version) (plant_port types port) (with_kept was first).bytes
kept-bytes w d types version manner port was first old sound p is_first held =
    let h = held.holds in
    let Q : PlantPort → Type 0 = λ q. IsSoundPort w.plant.ports q in
    let was_sound : IsSoundPort w.plant.ports (plant_port was.types h.port) = subst Q h.plant h.sound in
    let long : length was.bytes.image ≡ image_size was.table.sizes
    = h.holds.long ∙ ap (λ (q : PlantPort). image_size q.sizes) h.plant ∙ sym (ap (λ (t : SymbolTable). image_size t.sizes) h.table.same) in
    let image = reloaded_image w.plant.ports (plant_of d).ports types h.port port was first.table first.bytes.image was_sound p h.table is_first.table long
    is_first.image in
    let R : PlantPort → Type 0 = λ q. IsReloadedImage q was.bytes.image (plant_port types port)
    (with_kept was (record first { types = types })).bytes.image in
    let mine : R held.port = subst R (sym h.plant) image in
    let all = reloads_image version w.plant (plant_of d) w.memory held.port (plant_port types port) was.bytes
    (with_kept was (record first { types = types })).bytes.image old sound held.found p.found h.holds mine in
    let typed = subst (λ ts. Holds (memory_of w d version) (plant_port types port) (reloaded_with ts version)) (sym is_first.types_are) all in
    subst (λ n. Holds (memory_of w d version) (plant_port types port) (reloaded_with first.types n)) (sym is_first.version_is) typed
  where
    reloaded_with : List NamedType → ℕ → PortBytes
    reloaded_with ts n = record (with_kept was (record first { types = ts })).bytes { version = n }

-- what a port has is what it begins with, but for its bytes

kept_types : (o : Option PortMemory) (m : PortMemory) → (after_reload o m).types ≡ m.types
kept_types None m = refl
kept_types (Some was) m = refl

kept_number : (o : Option PortMemory) (m : PortMemory) → (after_reload o m).number ≡ m.number
kept_number None m = refl
kept_number (Some was) m = refl

kept_facts : (o : Option PortMemory) (m : PortMemory) → (after_reload o m).facts ≡ m.facts
kept_facts None m = refl
kept_facts (Some was) m = refl

kept_table : (o : Option PortMemory) (m : PortMemory) → (after_reload o m).table ≡ m.table
kept_table None m = refl
kept_table (Some was) m = refl

kept_version : (o : Option PortMemory) (m : PortMemory) → (after_reload o m).bytes.version ≡ m.bytes.version
kept_version None m = refl
kept_version (Some was) m = refl

kept_manner : (o : Option PortMemory) (m : PortMemory) → (after_reload o m).manner ≡ m.manner
kept_manner None m = refl
kept_manner (Some was) m = refl

reloaded-bytes : (w : World) (old : PortsMemory) (d : Description) (types : List NamedType) (version : ℕ) (manner : Manner) (port : Port) (first : PortMemory)
    → HoldsPorts w old → IsSoundPlant (plant_of d) → IsSoundPort (plant_of d).ports (plant_port types port) → IsFirstPort types port version manner first
    → Holds (memory_of w d version) (plant_port types port) (after_reload (memory_numbered port.number old.ports) first).bytes
reloaded-bytes w old d types version manner port first h sound p is_first = by_port (memory_numbered port.number old.ports) refl
  where
    none : (o : Option PlantPort) → HoldsFound w o None → o ≡ None
    none None f = refl
    none (Some q) f = absurd f

    by_port : (o : Option PortMemory) → memory_numbered port.number old.ports ≡ o
        → Holds (memory_of w d version) (plant_port types port) (after_reload o first).bytes
    by_port None e =
        let found = subst (HoldsFound w (port_numbered port.number w.plant.ports)) e (found_is_held w old port.number h) in
        fresh-bytes w d types version manner port first sound p is_first (none (port_numbered port.number w.plant.ports) found)
    by_port (Some was) e = kept-bytes w d types version manner port was first h.plant_sound sound p is_first (held-as w old port.number was h e)

-- each port holds its port of the plant
reloaded-holds : (w : World) (old : PortsMemory) (d : Description) (types : List NamedType) (version : ℕ) (manner : Manner) (port : Port) (m : PortMemory)
    → HoldsPorts w old → IsSoundPlant (plant_of d) → d.types ≡ types → (w.version + 1) % 256 ≡ version → w.profile.manner ≡ manner
    → IsSoundPort (plant_of d).ports (plant_port types port)
    → IsReloadedPort old.ports types port version manner m → HoldsPort (world_after_reload w d) (plant_port types port) m
unfolding world_after_reload
reloaded-holds w old d types version manner port m h sound e v same p new =
    let f = new.is_first in
    let o : Option PortMemory = memory_numbered port.number old.ports in
    let types_are : m.types ≡ types = ap (λ (x : PortMemory). x.types) new.is ∙ kept_types o new.first ∙ f.types_are in
    let table_is : m.table ≡ new.first.table = ap (λ (x : PortMemory). x.table) new.is ∙ kept_table o new.first in
    let table : IsTableOf types port m.table = subst (IsTableOf types port) (sym table_is) f.table in
    record {
      port = port;
      plant = ap (λ ts. plant_port ts port) (sym types_are);
      table = subst (λ ts. IsTableOf ts port m.table) (sym types_are) table;
      number = ap (λ (x : PortMemory). x.number) new.is ∙ kept_number o new.first ∙ f.number;
      facts = ap (λ (x : PortMemory). x.facts) new.is ∙ kept_facts o new.first ∙ f.facts;
      types = types_are ∙ sym e;
      version = ap (λ (x : PortMemory). x.bytes.version) new.is ∙ kept_version o new.first ∙ f.version_is ∙ sym v;
      manner = ap (λ (x : PortMemory). x.manner) new.is ∙ kept_manner o new.first ∙ f.manner_is ∙ sym same;
      plant_sound = sound;
      sound = p;
      holds = subst (λ n. Holds (memory_of w d n) (plant_port types port) m.bytes) (sym v)
          (subst (λ (x : PortMemory). Holds (memory_of w d version) (plant_port types port) x.bytes) (sym new.is)
          (reloaded-bytes w old d types version manner port new.first h sound p f));
    }

reloaded-each : (w : World) (old : PortsMemory) (d : Description) (types : List NamedType) (version : ℕ) (manner : Manner)
    (ps : List Port) (ms : List PortMemory)
    → HoldsPorts w old
    → IsSoundPlant (plant_of d) → d.types ≡ types → (w.version + 1) % 256 ≡ version → w.profile.manner ≡ manner
    → Each (IsSoundPort (plant_of d).ports) (map (plant_port types) ps)
    → AreReloadedPorts old.ports types version manner ps ms → HoldEach (world_after_reload w d) (map (plant_port types) ps) ms
reloaded-each w old d types version manner [] [] h sound e v same ports new = tt
reloaded-each w old d types version manner [] (m ∷ ms) h sound e v same ports new = absurd new
reloaded-each w old d types version manner (p ∷ ps) [] h sound e v same ports new = absurd new
reloaded-each w old d types version manner (p ∷ ps) (m ∷ ms) h sound e v same ports new = (
  reloaded-holds w old d types version manner p m h sound e v same (ports.0) (new.0),
  reloaded-each w old d types version manner ps ms h sound e v same (ports.1) (new.1),
)

pub reloaded-ports-hold : (w : World) (old : PortsMemory) (d : Description) (types : List NamedType) (version : ℕ) (manner : Manner) (ms : List PortMemory)
    → HoldsPorts w old → WasAccepted d → d.types ≡ types → (w.version + 1) % 256 ≡ version → w.profile.manner ≡ manner
    → AreReloadedPorts old.ports types version manner d.ports ms
    → HoldsPorts (world_after_reload w d) (record { types = types; version = version; manner = manner; ports = ms })
unfolding world_after_reload
reloaded-ports-hold w old d types version manner ms h was e v same new =
    let sound = accepted_are_sound d was.signals was.is in
    let P : List NamedType → Type 0 = λ ts. HoldEach (world_after_reload w d) (map (plant_port ts) d.ports) ms in
    let Q : List NamedType → Type 0 = λ ts. Each (IsSoundPort (plant_of d).ports) (map (plant_port ts) d.ports) in
    record {
      types = sym e;
      version = sym v;
      manner = sym same;
      plant_sound = sound;
      apart = accepted_are_numbered_apart d was.signals was.is;
      each = subst P (sym e) (reloaded-each w old d types version manner d.ports ms h sound e v same (subst Q e sound) new);
    }
