-- For private contracts, and cited by no public clause: a value of an enumeration is looked at behind those before.
use Rattle.std.specs.Prelude.{◌≡◌, ℕ, List, [], ◌∷◌, ◌++◌, Bool, true, ◌&&◌, ℤ}
use Rattle.name_paths.specs.Identifier.{lower}
use Rattle.spec_plant.specs.Plain.{Kind}
use Rattle.spec_plant.specs.AcceptedTypes.{is_short_identifier, is_in_range}
use Rattle.spec_rules.specs.Written as rules
use Rattle.description_rules.specs.NameStarts.{is_none_of}
use Rattle.description_rules.specs.NextNumber.{is_no_number_of}

-- a value that is right but for the names and numbers of those before
abbrev pub is_value_alone : Kind → rules.EnumValue → Bool
is_value_alone base v = is_short_identifier v.name && is_in_range base v.number

-- what holds of the answer, whether a value is right: where it is, its name and its number have been noted
pub record IsNextValue (base : Kind) (v : rules.EnumValue) (names : List (List ℕ))
    (numbers : List ℤ) (more_names : List (List ℕ)) (more_numbers : List ℤ) (right : Bool) : Type 0 where
  pub answer : right ≡ (is_value_alone base v && is_none_of names (lower v.name) && is_no_number_of numbers v.number)
  pub named : right ≡ true → more_names ≡ names ++ lower v.name ∷ []
  pub numbered : right ≡ true → more_numbers ≡ numbers ++ v.number ∷ []
