-- The bytes that an enumeration's symbol begins with.
use Rattle.std.proofs.Common.{◌≡◌, ℕ, List, [], ◌∷◌, map, refl, sym, ap, ◌∙◌}
use Rattle.std.specs.Prelude.{slice_get, Result, Ok, Err, IfOk}
use Rattle.std.specs.Option.{option_map_or}
use Rattle.spec_plant.specs.Plain.{Kind}
use Rattle.spec_plant.specs.Listed.{Enumeration}
use Rattle.spec_plant.specs.Accepted.{number_bytes}
use Rattle.spec_rules.specs.Described.{first_value_bytes}
use Rattle.type_layout.specs.Shapes.{kind_of}
use Rattle.type_layout.specs.NamedTypes.{value_of, enumeration_of}
use Rattle.type_layout.specs.declared.enumerations.EnumValue.{EnumValue}
use Rattle.type_layout.specs.declared.enumerations.EnumType.{EnumType}

pub first_value_bytes-map : (name : List ℕ) (base : Kind) (values : List EnumValue)
    → first_value_bytes (Enumeration name base (map value_of values)) ≡ option_map_or (λ v. number_bytes base v.number) (slice_get values 0) []
first_value_bytes-map name base [] = refl
first_value_bytes-map name base (v ∷ vs) = refl

pub first_value-found : {E : Type 0} (e : EnumType) (values : List EnumValue) (r : Result (List ℕ) E) → values ≡ e.values
    → IfOk r (λ bytes. bytes ≡ option_map_or (λ v. number_bytes (kind_of e.base) v.number) (slice_get values 0) [])
    → IfOk r (λ bytes. bytes ≡ first_value_bytes (enumeration_of e))
first_value-found e values (Ok bytes) same is =
    is ∙ ap (λ vs. option_map_or (λ v. number_bytes (kind_of e.base) v.number) (slice_get vs 0) []) same
    ∙ sym (first_value_bytes-map e.name (kind_of e.base) e.values)
first_value-found e values (Err error) same is = tt
