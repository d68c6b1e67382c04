-- How the calls of a port answer what the machine says of a request.
use Rattle.std.specs.Prelude.{◌≡◌, ◌+◌, ◌≤◌, ℕ, true, List, ◌++◌, Result, Ok, Err, Option, Some, None, IfOk, slice_get}
use Rattle.std.specs.Int.{w32, to_le_bytes}
use Rattle.return_codes.specs.declared.code.Code.{Code}
use Rattle.return_codes.specs.declared.code.Code.TheVariants.{C710}
use Rattle.return_codes.specs.Code.{number_of}
use Rattle.spec_plant.specs.Description.{size_in}
use Rattle.spec_plant.specs.Finding.{Found, found_of_steps}
use Rattle.name_paths.specs.Path.{Step}
use Rattle.spec_plant.specs.World.{PlantPort}
use Rattle.type_layout.specs.Descriptions.{area_of}
use Rattle.symbol_table.specs.Tables.{SymbolTable, TableSymbol}
use Rattle.symbol_table.specs.declared.place.Place.{Place}
use Rattle.index_groups.specs.declared.access.Reach.{Reach}
use Rattle.index_groups.specs.declared.access.Reach.TheVariants as reach
use Rattle.index_groups.specs.Access.{range_meant}
use Rattle.spec_formats.specs.Codes.{no_error}
use Rattle.spec_formats.specs.Ranges.{Range, Size}
use Rattle.spec_machine.specs.World.{World}
use Rattle.spec_machine.specs.Access.{values_at}
use Rattle.spec_machine.specs.Client as client
use Rattle.spec_machine.specs.NumberedPlaces.{NumberedPlace, is_same_place}
use Rattle.spec_machine.specs.Acts.{Act, Outcome, fixed_data, outcome_of}
use Rattle.spec_machine.specs.ByName.{place_of, if_found}
use Rattle.spec_machine.specs.Manner.{Manner}
use Rattle.spec_machine.specs.Entries.{entry_of_part}
use Rattle.spec_formats.specs.SymbolEntry.{entry_bytes}
use Rattle.spec_machine.specs.Reach.{addressed_by_range, addressed_in_place}
use Rattle.spec_machine.specs.Reads.{fixed_reply, read_act}

-- data behind what stood there, or the code, and then nothing
abbrev pub Answers : Outcome → Result (Unit {0}) Code → List ℕ → List ℕ → Type 0
Answers o (Ok done) old new = (o.code ≡ no_error) × (new ≡ old ++ o.bytes)
Answers o (Err code) old new = (o.code ≡ number_of code) × (new ≡ old)

-- the answer to an act over the bytes of a world
abbrev pub AnswersAct : World → Act → Result (Unit {0}) Code → List ℕ → List ℕ → Type 0
AnswersAct w act answer old new = Answers (outcome_of w.memory act) answer old new

-- so many bytes for what is read there
abbrev pub HasRoom : Reach → ℕ → Type 0
HasRoom (reach.Bytes area at len) room = room ≡ len
HasRoom (reach.Bit area at bit) room = room ≡ 1
HasRoom (reach.Size area) room = ⊥

-- what is read at a range
abbrev pub ReadsRange : World → PlantPort → Reach → List ℕ → Type 0
ReadsRange w p r bytes = IfOk (addressed_by_range p (Ok (range_meant r))) (λ places. bytes ≡ values_at w.memory places)

-- a read of what a range names: bytes, a bit, or the size of an area
abbrev pub range_read_act : PlantPort → Result Range ℕ → Act
range_read_act p (Ok (Size area)) = fixed_data (to_le_bytes w32 (size_in p.sizes area))
range_read_act p range = read_act (addressed_by_range p range)

-- bytes of a symbol of the table
pub record IsPlaceOf (table : SymbolTable) (place : Place) : Type 0 where
  pub symbol : TableSymbol
  pub there : slice_get table.symbols place.symbol ≡ Some symbol
  pub area : area_of place.area ≡ symbol.area
  pub begins : symbol.offset ≤ place.«at»
  pub ends : place.«at» + place.len ≤ symbol.offset + symbol.size

-- the place of the code, told by numbers
abbrev pub numbered : Place → NumberedPlace
numbered p = record { symbol = p.symbol; area = area_of p.area; first = p.«at»; len = p.len }

-- the place of the code is the place by name of this port
abbrev pub IsNamed : World → PlantPort → Place → client.Place → Type 0
IsNamed w p place named = is_same_place w.plant.ports p.number named (numbered place) ≡ true

-- a read of the first bytes of a place
abbrev pub place_read_act : PlantPort → client.Place → ℕ → Act
place_read_act p named len = read_act (addressed_in_place p.number named len)

-- the entry of what a path leads to
abbrev pub path_entry_act : Manner → PlantPort → List Step → ℕ → Act
path_entry_act manner p path len = if_found (found_of_steps p.symbols path) (λ f. fixed_reply len (entry_bytes (entry_of_part manner f)))

-- the place of what a name leads to; 0x710 where it leads to nothing
abbrev pub FindsPlace : World → PlantPort → Option Found → Result Place Code → Type 0
FindsPlace w p None (Ok place) = ⊥
FindsPlace w p None (Err code) = code ≡ C710
FindsPlace w p (Some led) (Ok place) = IsNamed w p place (place_of led)
FindsPlace w p (Some led) (Err code) = ⊥
