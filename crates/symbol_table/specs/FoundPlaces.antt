-- The place, type and comment of what a path leads to.
use Rattle.std.specs.Prelude.{◌≡◌, ℕ, ◌+◌, ◌++◌, List, map, Option, Some, None, slice_get}
use Rattle.name_paths.specs.Path.{Step}
use Rattle.spec_plant.specs.Description.{Port}
use Rattle.spec_plant.specs.Listed.{NamedType}
use Rattle.spec_plant.specs.Trees.{tree_of}
use Rattle.spec_plant.specs.Sizes.{type_size}
use Rattle.spec_plant.specs.AcceptedTypes.{IsSized}
use Rattle.spec_plant.specs.World.{PlantSymbol, plant_symbol}
use Rattle.spec_plant.specs.Finding as plant
use Rattle.type_layout.specs.Shapes.{shape_of_ref}
use Rattle.type_layout.specs.Descriptions.{area_of}
use Rattle.spec_plant.specs.PartTexts.{comment_of_found, name_of_found}
use Rattle.symbol_table.specs.Tables.{SymbolTable, IsTableOf}
use Rattle.symbol_table.specs.declared.found.Found.{Found}

-- the number of the symbol among these, its area, the part's place in it and its bytes, its type, which may be asked for
-- its size, its parts and its text, and its comment
pub record IsFound (types : List NamedType) (symbols : List PlantSymbol) (led : plant.Found) (answer : Found) : Type 0 where
  pub symbol : slice_get symbols answer.place.symbol ≡ Some led.symbol
  pub area : area_of answer.place.area ≡ led.symbol.area
  pub offset : answer.place.«at» ≡ led.symbol.offset + led.part.first
  pub len : answer.place.len ≡ type_size led.part.type
  pub type : tree_of types (shape_of_ref answer.kind) ≡ led.part.type
  pub sized : IsSized types (shape_of_ref answer.kind)
  pub comment : answer.comment.now ≡ comment_of_found led

-- an answer exactly where the path leads to something, which it tells
abbrev pub Finds : List NamedType → List PlantSymbol → Option plant.Found → Option Found → Type 0
Finds types symbols None None = Unit {0}
Finds types symbols None (Some answer) = ⊥
Finds types symbols (Some led) None = ⊥
Finds types symbols (Some led) (Some answer) = IsFound types symbols led answer

-- the declared name of what a path leads to is appended, where it leads into the symbol with this number
abbrev pub PutsName : List NamedType → SymbolTable → List Step → ℕ → List ℕ → List ℕ → Type 0
PutsName types table path number old new =
    (port : Port) (led : plant.Found) → IsTableOf types port table
    → plant.found_of_steps (map (plant_symbol types) port.symbols) path ≡ Some led
    → slice_get (map (plant_symbol types) port.symbols) number ≡ Some led.symbol → new ≡ old ++ name_of_found led
