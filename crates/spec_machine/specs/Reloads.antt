-- An accepted reload: a symbol of the same port, name and type keeps its bytes, as do the state words
-- of a port that was there; all else, and the version behind the state words, is as the new description begins with it.
use Rattle.std.specs.Prelude.{ℕ, ◌+◌, ◌%◌, List, map, get_or, Bool, true, false, if◌then◌else◌}
use Rattle.std.specs.Prelude.{Option, Some}
use Rattle.spec_plant.specs.Description.{Description}
use Rattle.spec_plant.specs.SameTypes.{is_same_type}
use Rattle.spec_plant.specs.World.{Plant, PlantPort, PlantSymbol, plant_of}
use Rattle.spec_plant.specs.World.{Part, SymbolPart, AreaPart, StatePart, Block, block_of, with_nth_byte}
use Rattle.spec_machine.specs.Device.{ClientOutcome}
use Rattle.spec_machine.specs.World.{World, port_numbered, VERSION_AT, first_memory}
use Rattle.spec_machine.specs.Client.{Client, Kept, client_after_reload, ended_of}
use Rattle.spec_machine.specs.Writes.{symbol_named}
use Rattle.spec_machine.specs.Stamps.{frames_of_samples, end_samples}

abbrev pub is_kept_symbol : Option PlantSymbol → Option PlantSymbol → Bool
is_kept_symbol (Some s) (Some t) = is_same_type s.type t.type
is_kept_symbol s t = false

abbrev pub is_kept_part : Part → Option PlantPort → Option PlantPort → Bool
is_kept_part (SymbolPart name) (Some p) (Some q) =
    is_kept_symbol (symbol_named name p.symbols) (symbol_named name q.symbols)
is_kept_part StatePart (Some p) (Some q) = true
is_kept_part part p q = false

unfoldable pub is_kept : Plant → Plant → Kept
is_kept old new port part =
    is_kept_part part (port_numbered port old.ports) (port_numbered port new.ports)

-- the bytes of a kept part, where these are its old ones and its first ones: of a port's own bytes all but the version
abbrev pub kept_block_bytes : Part → List ℕ → List ℕ → List ℕ
kept_block_bytes (SymbolPart name) old first = old
kept_block_bytes (AreaPart area) old first = old
kept_block_bytes StatePart old first = with_nth_byte old VERSION_AT (λ was. get_or first VERSION_AT 0)

abbrev pub block_after_reload : Kept → List Block → Block → Block
block_after_reload kept old b =
    if kept b.port b.part then record b { bytes = kept_block_bytes b.part (block_of old b.port b.part) b.bytes } else b

unfoldable pub memory_after_reload : Kept → List Block → List Block → List Block
memory_after_reload kept old new = map (block_after_reload kept old) new

abbrev pub next_version : ℕ → ℕ
next_version version = (version + 1) % 256

-- the version rises by one, modulo 256; signals stay where they are, and the server keeps its profile
unfoldable pub world_after_reload : World → Description → World
world_after_reload w d = record {
  profile = w.profile;
  plant = plant_of d;
  version = next_version w.version;
  signals = w.signals;
  memory = memory_after_reload (is_kept w.plant (plant_of d)) w.memory (first_memory (next_version w.version) (plant_of d));
}

-- notifications that end are told so by the old NetId
unfoldable pub client_reloaded : ℕ → World → World → Client → ClientOutcome Client
client_reloaded moment old new c = record {
  client = client_after_reload (is_kept old.plant new.plant) c;
  frames = frames_of_samples old.plant.net moment
      (end_samples (ended_of (is_kept old.plant new.plant) c));
}
