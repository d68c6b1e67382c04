-- For private contracts, and cited by no public clause: the types that are still to be built.
use Rattle.std.specs.Prelude.{ℕ, List, [], ◌∷◌, ◌++◌, map, unwrap_or}
use Rattle.spec_plant.specs.Plain.{SINT}
use Rattle.spec_plant.specs.Listed.{NamedType, EnumValue, Enumeration}
use Rattle.spec_rules.specs.Written.{WrittenType}
use Rattle.spec_rules.specs.Described.{base_of, type_described}

abbrev pub enumeration_described : List ℕ → List ℕ → List EnumValue → NamedType
enumeration_described name base values =
    Enumeration name (unwrap_or (base_of base) SINT) values

-- the types that go behind these, each in terms of the ones before it
unfoldable pub types_left : List NamedType → List WrittenType → List NamedType
types_left known [] = []
types_left known (t ∷ ts) = type_described known t ∷ types_left (known ++ type_described known t ∷ []) ts
