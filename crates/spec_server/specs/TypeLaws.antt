-- Laws of the types that the wide server tells by their texts.
use Rattle.std.specs.Prelude.{◌≡◌, ℕ, List, [], ◌∷◌, Some, slice_get}
use Rattle.spec_plant.specs.Listed.{NamedType, type_name}
use Rattle.spec_plant.specs.Trees.{tree_at, trees_of}
use Rattle.spec_plant.specs.AcceptedTypes.{AreTypes}
use Rattle.spec_formats.specs.TypeUpload.{entry_of_type}
use Rattle.spec_machine.specs.TypesByText.{tree_of_text, entry_by_type}

-- By its name each type of an accepted description is found, and its entry is that of the type upload.
pub record IsListed (types : List NamedType) (place : ℕ) (t : NamedType) : Type 0 where
  pub found : tree_of_text types (type_name t) ≡ Some (tree_at (trees_of types) place)
  pub entry : entry_by_type (tree_at (trees_of types) place) ∷ [] ≡ entry_of_type (tree_at (trees_of types) place)

abbrev pub NamedTypesAreListed : Type 0
NamedTypesAreListed = (types : List NamedType) (place : ℕ) (t : NamedType) → AreTypes types → slice_get types place ≡ Some t → IsListed types place t
