-- The world of the device: its plant, the symbol version, the signals, and the bytes under their
-- names. No name tells where a symbol stands: a byte keeps its name when a reload moves its symbol.
use Rattle.std.specs.Prelude.{ℕ, zero, suc, ◌+◌, ◌-◌, List, [], ◌∷◌, ◌++◌, map, flat_map}
use Rattle.std.specs.Prelude.{if◌then◌else◌, replicate}
use Rattle.std.specs.Int.{w16, to_le_bytes}
use Rattle.signals.specs.Wave.{Wave}
use Rattle.spec_plant.specs.Description.{Area, Inputs, Outputs, Memory, Process, size_in}
use Rattle.spec_plant.specs.Description.{Description}
use Rattle.spec_plant.specs.World.{Plant, PlantPort, PlantSymbol, plant_of, lower_name}
use Rattle.spec_plant.specs.World.{SymbolPart, AreaPart, StatePart, ByteName, Block}
use Rattle.spec_plant.specs.World.{byte_or_zero}
pub use Rattle.spec_plant.specs.Covering.{covers}
pub use Rattle.spec_plant.specs.Named.{port_numbered}
use Rattle.spec_machine.specs.Profile.{Profile, strict}

pub record World : Type 0 where
  pub profile : Profile
  pub plant : Plant
  pub version : ℕ
  pub signals : List Wave
  pub memory : List Block

-- What of the world a request is decided by: no request changes it, and no byte is in it.
pub record Setup : Type 0 where
  pub profile : Profile
  pub plant : Plant
  pub version : ℕ

abbrev pub setup_of : World → Setup
setup_of w = record { profile = w.profile; plant = w.plant; version = w.version }

-- so many numbers, from a first one on
unfoldable pub numbers_from : ℕ → ℕ → List ℕ
numbers_from first zero = []
numbers_from first (suc n) = first ∷ numbers_from (first + 1) n

-- the name of a byte: of the first of these symbols that stands there, else of the area
abbrev pub name_among : ℕ → Area → ℕ → List PlantSymbol → ByteName
name_among port area offset [] = record { port = port; part = AreaPart area; index = offset }
name_among port area offset (s ∷ ss) =
    if covers area offset s
    then record { port = port; part = SymbolPart (lower_name s); index = offset - s.offset }
    else name_among port area offset ss

unfoldable pub name_at : PlantPort → Area → ℕ → ByteName
name_at p area offset = name_among p.number area offset p.symbols

-- the names of so many bytes of an area, from an offset on
unfoldable pub names_at : PlantPort → Area → ℕ → ℕ → List ByteName
names_at p area offset len = map (name_at p area) (numbers_from offset len)

-- the bytes of an area, in their order
unfoldable pub content_of : List Block → PlantPort → Area → List ℕ
content_of memory p area = map (byte_or_zero memory) (names_at p area 0 (size_in p.sizes area))

-- the names of a symbol's bytes, by its name in lower case
abbrev pub symbol_names : ℕ → List ℕ → ℕ → ℕ → List ByteName
symbol_names port symbol first len =
    map (λ k. record { port = port; part = SymbolPart symbol; index = k }) (numbers_from first len)

-- the name of one of a port's own bytes
abbrev pub own_name : ℕ → ℕ → ByteName
own_name port k = record { port = port; part = StatePart; index = k }

-- the names of so many of a port's own bytes, from one of them on: ADS state 2, device state 2, version 1
unfoldable pub own_names : ℕ → ℕ → ℕ → List ByteName
own_names port first len = map (own_name port) (numbers_from first len)

-- the names of a port's two state words
abbrev pub state_names : PlantPort → List ByteName
state_names p = map (own_name p.number) (0 ∷ 1 ∷ 2 ∷ 3 ∷ [])

-- the ADS states that a controller may be set to
abbrev pub RUN : ℕ
RUN = 5

abbrev pub STOP : ℕ
STOP = 6

abbrev pub state_bytes : ℕ → ℕ → List ℕ
state_bytes ads device = to_le_bytes w16 ads ++ to_le_bytes w16 device

-- a port's own bytes: its state words, and behind them the version of its symbols
abbrev pub own_bytes : ℕ → ℕ → ℕ → List ℕ
own_bytes ads device version = state_bytes ads device ++ version ∷ []

-- at which of them the version stands, and how many there are
abbrev pub VERSION_AT : ℕ
VERSION_AT = 4

abbrev pub OWN_SIZE : ℕ
OWN_SIZE = 5

-- what a description begins with, for a version: each port runs, symbols have their initial bytes, gaps are zeros.
-- The block of an area is as long as the area, and is used where no symbol stands.
abbrev pub first_area_block : PlantPort → Area → Block
first_area_block p area =
    record { port = p.number; part = AreaPart area; bytes = replicate (size_in p.sizes area) 0 }

abbrev pub first_symbol_block : PlantPort → PlantSymbol → Block
first_symbol_block p s =
    record { port = p.number; part = SymbolPart (lower_name s); bytes = s.initial }

abbrev pub first_state_block : ℕ → PlantPort → Block
first_state_block version p = record { port = p.number; part = StatePart; bytes = own_bytes RUN 0 version }

abbrev pub first_blocks : ℕ → PlantPort → List Block
first_blocks version p =
    first_state_block version p
    ∷ (map (first_symbol_block p) p.symbols
    ++ map (first_area_block p) (Inputs ∷ Outputs ∷ Memory ∷ Process ∷ []))

abbrev pub first_memory : ℕ → Plant → List Block
first_memory version plant = flat_map (first_blocks version) plant.ports

-- the version of the symbols that a server begins with
abbrev pub FIRST_VERSION : ℕ
FIRST_VERSION = 1

-- the world of an accepted description, behind a server of this profile
abbrev pub world_in : Profile → Description → List Wave → World
world_in profile d signals = record {
  profile = profile;
  plant = plant_of d;
  version = FIRST_VERSION;
  signals = signals;
  memory = first_memory FIRST_VERSION (plant_of d);
}

-- the same behind the strict server, without a right for others
abbrev pub world_of : Description → List Wave → World
world_of d signals = world_in strict d signals
