-- Types that are found right one after another, as the code keeps them: what callers hand on from `read_types`.
use Rattle.std.specs.Prelude.{◌≡◌, ◌≤◌, length, map, ℕ, ◌++◌, ◌∷◌, [], Bool, true, List, None, Some, Result, Ok, Err}
use Rattle.spec_plant.specs.Listed as listed
use Rattle.spec_plant.specs.Listed.{type_name}
use Rattle.name_index.specs.Numbered.{AreNumbered}
use Rattle.spec_rules.specs.Written.{WrittenType}
use Rattle.spec_rules.specs.SizeRules.{wrong_size, is_right_size}
use Rattle.spec_rules.specs.Described.{types_described}
use Rattle.type_layout.specs.NamedTypes.{types_of}
use Rattle.description_rules.specs.Known.{AreKnown}
use Rattle.description_rules.specs.declared.known_types.KnownTypes.{KnownTypes}

-- at most 1,000 types, with their extents, and their names by their places
pub record IsKnown (known : KnownTypes) : Type 0 where
  pub extents : AreKnown (types_of known.types) known.extents.items
  pub names : AreNumbered (map type_name (types_of known.types)) known.names
  pub few : length known.types ≤ 1000

-- all types of a document
pub record AreAllKnown (written : List WrittenType) (known : KnownTypes) : Type 0 where
  pub right : wrong_size (types_described written) ≡ None
  pub types : types_of known.types ≡ types_described written
  pub is_known : IsKnown known

abbrev pub IsKnownOrWrong : List WrittenType → Result KnownTypes ℕ → Type 0
IsKnownOrWrong types (Ok known) = AreAllKnown types known
IsKnownOrWrong types (Err place) = wrong_size (types_described types) ≡ Some place

-- a type that is right goes behind those that are known
pub record AddsType (type : listed.NamedType) (old new : KnownTypes) (added : Bool) : Type 0 where
  pub answer : added ≡ is_right_size (types_of old.types) type
  pub types : added ≡ true → types_of new.types ≡ types_of old.types ++ type ∷ []
  pub known : added ≡ true → IsKnown new
