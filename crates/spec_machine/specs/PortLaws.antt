-- What reads, writes, controls, steps of signals and reloads are of the bytes of a port.
use Rattle.std.specs.Prelude.{◌≡◌, ◌≢◌, ℕ, ◌+◌, ◌/◌, ◌%◌, ◌^◌, ◌<◌, ◌≤◌, List, [], ◌∷◌, length, take, drop, map, min}
use Rattle.std.specs.Prelude.{true, false, Some, None, slice_get, unwrap_or}
use Rattle.spec_plant.specs.Description.{Area, size_in}
use Rattle.spec_plant.specs.World.{Plant, PlantPort, PlantSymbol, symbol_size, lower_name, Block, with_nth_byte}
use Rattle.spec_plant.specs.Accepted.{image_size}
use Rattle.spec_plant.specs.SameTypes.{is_same_type}
use Rattle.spec_plant.specs.Named.{port_numbered, symbol_named, AreNamedApart, AreNumberedApart}
use Rattle.spec_plant.specs.Sound.{Each, IsSoundPlant}
use Rattle.spec_machine.specs.World.{World, name_at, names_at, own_names, own_bytes, OWN_SIZE, state_names, state_bytes, RUN, first_memory}
use Rattle.spec_machine.specs.Access.{WholeByte, OneBit, addressed_name, value_at, values_at, with_bit}
use Rattle.spec_machine.specs.Access.{Put, puts_of, memory_after_puts}
use Rattle.spec_machine.specs.Ticks.{world_after_tick}
use Rattle.spec_machine.specs.Reloads.{is_kept_symbol, is_kept, memory_after_reload}
use Rattle.spec_machine.specs.AreaNames.{is_covered}
use Rattle.spec_machine.specs.PortBytes.{PortBytes, image_byte, image_bytes, with_image_bytes, start_in, Holds}
use Rattle.spec_machine.specs.PortBytes.{image_after_signals}

-- Bytes that are read are those of the image.
abbrev pub ReadsImage : Type 0
ReadsImage = (memory : List Block) (p : PlantPort) (b : PortBytes) (area : Area) (offset len : ℕ)
    → Holds memory p b → offset + len ≤ size_in p.sizes area
    → values_at memory (map WholeByte (names_at p area offset len)) ≡ image_bytes p.sizes b.image area offset len

-- A bit that is read is one of the image's byte.
abbrev pub ReadsBit : Type 0
ReadsBit = (memory : List Block) (p : PlantPort) (b : PortBytes) (area : Area) (offset bit : ℕ)
    → Holds memory p b → offset < size_in p.sizes area
    → value_at memory (OneBit (name_at p area offset) bit)
    ≡ (unwrap_or (image_byte p.sizes b.image area offset) 0 / 2 ^ bit) % 2

-- The own bytes of a port that are read are those of the port.
abbrev pub ReadsOwn : Type 0
ReadsOwn = (memory : List Block) (p : PlantPort) (b : PortBytes) (first len : ℕ) → Holds memory p b → first + len ≤ OWN_SIZE
    → values_at memory (map WholeByte (own_names p.number first len)) ≡ take len (drop first (own_bytes b.ads b.device b.version))

-- The state words that are read are those of the port.
abbrev pub ReadsStates : Type 0
ReadsStates = (memory : List Block) (p : PlantPort) (b : PortBytes) → Holds memory p b
    → values_at memory (map WholeByte (state_names p)) ≡ state_bytes b.ads b.device

-- Bytes that are written, no more than are addressed, stand in the image from the offset on.
abbrev pub WritesImage : Type 0
WritesImage = (memory : List Block) (p : PlantPort) (b : PortBytes) (area : Area) (offset len : ℕ) (bytes : List ℕ)
    → AreNamedApart p.symbols → Holds memory p b → offset + len ≤ size_in p.sizes area → length bytes ≤ len
    → Holds (memory_after_puts memory (puts_of (map WholeByte (names_at p area offset len)) bytes)) p
    (record b { image = with_image_bytes p.sizes b.image area offset bytes })

-- A bit that is written is set or cleared in the image's byte.
abbrev pub WritesBit : Type 0
WritesBit = (memory : List Block) (p : PlantPort) (b : PortBytes) (area : Area) (offset bit value : ℕ)
    → AreNamedApart p.symbols → Holds memory p b → offset < size_in p.sizes area
    → Holds (memory_after_puts memory (puts_of (OneBit (name_at p area offset) bit ∷ []) (value ∷ []))) p
    (record b { image = with_nth_byte b.image (start_in p.sizes area + offset) (with_bit bit (min value 1)) })

-- A control sets the state words.
abbrev pub SetsStates : Type 0
SetsStates = (memory : List Block) (p : PlantPort) (b : PortBytes) (ads device : ℕ) → Holds memory p b
    → Holds (memory_after_puts memory (puts_of (map WholeByte (state_names p)) (state_bytes ads device))) p
    (record b { ads = ads; device = device })

-- what is put lies at other ports
abbrev pub IsAtAnotherPort : PlantPort → Put → Type 0
IsAtAnotherPort p u = (addressed_name u.place).port ≢ p.number

-- What is put at other ports leaves the bytes of a port as they were.
abbrev pub LeavesOtherPorts : Type 0
LeavesOtherPorts = (memory : List Block) (p : PlantPort) (b : PortBytes) (puts : List Put)
    → Each (IsAtAnotherPort p) puts → Holds memory p b → Holds (memory_after_puts memory puts) p b

-- A tick steps all signals, and leaves in the image of a port what they write there.
abbrev pub StepsSignals : Type 0
StepsSignals = (w : World) (i : ℕ) (p : PlantPort) (b : PortBytes)
    → IsSoundPlant w.plant → AreNumberedApart w.plant.ports → slice_get w.plant.ports i ≡ Some p
    → Holds w.memory p b
    → Holds (world_after_tick w).memory p (record b { image = image_after_signals p 0 w.signals b.image })

-- the image that a port begins with: symbols have their initial bytes, gaps are zeros
pub record IsFirstImage (p : PlantPort) (image : List ℕ) : Type 0 where
  pub long : length image ≡ image_size p.sizes
  pub symbols : (n : ℕ) (s : PlantSymbol) (k : ℕ) → slice_get p.symbols n ≡ Some s → k < symbol_size s
      → image_byte p.sizes image s.area (s.offset + k) ≡ slice_get s.initial k
  pub gaps : (area : Area) (offset : ℕ) → offset < size_in p.sizes area → is_covered p area offset ≡ false
      → image_byte p.sizes image area offset ≡ Some 0

-- the image of a port after a reload, where it had this one before: a symbol of the same name and type has the bytes of
-- its old place, any other its initial ones, and gaps are zeros
pub record IsReloadedImage (was : PlantPort) (old : List ℕ) (p : PlantPort) (image : List ℕ) : Type 0 where
  pub long : length image ≡ image_size p.sizes
  pub kept : (n : ℕ) (s t : PlantSymbol) (k : ℕ) → slice_get p.symbols n ≡ Some t
      → symbol_named (lower_name t) was.symbols ≡ Some s → is_same_type s.type t.type ≡ true → k < symbol_size t
      → image_byte p.sizes image t.area (t.offset + k) ≡ image_byte was.sizes old s.area (s.offset + k)
  pub first : (n : ℕ) (t : PlantSymbol) (k : ℕ) → slice_get p.symbols n ≡ Some t
      → is_kept_symbol (symbol_named (lower_name t) was.symbols) (Some t) ≡ false → k < symbol_size t
      → image_byte p.sizes image t.area (t.offset + k) ≡ slice_get t.initial k
  pub gaps : (area : Area) (offset : ℕ) → offset < size_in p.sizes area → is_covered p area offset ≡ false
      → image_byte p.sizes image area offset ≡ Some 0

-- A port begins with its first image, and runs.
abbrev pub BeginsWithFirstImage : Type 0
BeginsWithFirstImage = (version : ℕ) (plant : Plant) (p : PlantPort) (image : List ℕ)
    → IsSoundPlant plant → port_numbered p.number plant.ports ≡ Some p → IsFirstImage p image
    → Holds (first_memory version plant) p (record { image = image; ads = RUN; device = 0; version = version })

-- After a reload a port that was there has the reloaded image, its state words, and the version of the reload.
abbrev pub ReloadsImage : Type 0
ReloadsImage = (version : ℕ) (old new : Plant) (memory : List Block) (was p : PlantPort) (b : PortBytes) (image : List ℕ)
    → IsSoundPlant old → IsSoundPlant new
    → port_numbered p.number old.ports ≡ Some was → port_numbered p.number new.ports ≡ Some p
    → Holds memory was b → IsReloadedImage was b.image p image
    → Holds (memory_after_reload (is_kept old new) memory (first_memory version new)) p
    (record b { image = image; version = version })

-- A port that was not there begins as in a new world.
abbrev pub ReloadsNewPort : Type 0
ReloadsNewPort = (version : ℕ) (old new : Plant) (memory : List Block) (p : PlantPort) (image : List ℕ)
    → IsSoundPlant new
    → port_numbered p.number old.ports ≡ None → port_numbered p.number new.ports ≡ Some p → IsFirstImage p image
    → Holds (memory_after_reload (is_kept old new) memory (first_memory version new)) p
    (record { image = image; ads = RUN; device = 0; version = version })
