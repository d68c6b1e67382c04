-- Values of enumerations whose names and numbers are noted.
use Rattle.std.proofs.Common.{◌≡◌, ℕ, Bool, not, ◌&&◌, List, [], ◌∷◌, map, refl, ap, sym, ◌∙◌, ℤ}
use Rattle.std.proofs.Math.Bool.{and_assoc}
use Rattle.std.specs.List.{list_all}
use Rattle.std.proofs.lemmas.Bool.{and_parts}
use Rattle.std.proofs.lemmas.List.Folds.{list_all-map}
use Rattle.name_paths.specs.Identifier.{lower}
use Rattle.spec_plant.specs.Plain.{Kind}
use Rattle.spec_plant.specs.AcceptedTypes.{differ, is_same_number}
use Rattle.spec_rules.specs.Written as rules
use Rattle.spec_rules.specs.TypeRules.{is_right_value}
use Rattle.description_table.specs.Views.{value_view}
use Rattle.description_table.specs.declared.written.WrittenValue.{WrittenValue}
use Rattle.description_rules.specs.Next.{IsNext}
use Rattle.description_rules.specs.NameStarts.{is_none_of}
use Rattle.description_rules.specs.NextNumber.{is_no_number_of, IsNextNumber}
use Rattle.description_rules.specs.NextValue.{is_value_alone, IsNextValue}
use Rattle.description_rules.proofs.LowerLemmas.{lower_name, none_of-lower}
use Rattle.description_rules.proofs.NameStartLemmas.{list_all_both}

abbrev pub value_name : rules.EnumValue → List ℕ
value_name v = v.name

abbrev pub value_number : WrittenValue → ℤ
value_number v = (value_view v).number

numbers-viewed : (xs : List WrittenValue) → map value_number xs ≡ map (λ (e : rules.EnumValue). e.number) (map value_view xs)
numbers-viewed [] = refl
numbers-viewed (x ∷ xs) = ap (λ numbers. value_number x ∷ numbers) (numbers-viewed xs)

-- first its name, and then its number
pub next_value : (base : Kind) (v : rules.EnumValue) (names more_names : List (List ℕ)) (numbers more_numbers : List ℤ) (alone new right : Bool)
    → alone ≡ is_value_alone base v
    → IsNext alone names more_names (lower v.name) new → IsNextNumber new numbers more_numbers v.number right
    → IsNextValue base v names numbers more_names more_numbers right
next_value base v names more_names numbers more_numbers alone new right e name number = record {
  answer = number.answer ∙ ap (λ b. b && is_no_number_of numbers v.number) (name.answer ∙ ap (λ b. b && is_none_of names (lower v.name)) e);
  named = λ is. name.noted (and_parts new (is_no_number_of numbers v.number) (sym number.answer ∙ is)).0;
  numbered = λ is. number.noted is;
}

-- a value is right behind those that are noted
pub is_right_value-noted : (base : Kind) (xs : List WrittenValue) (x : WrittenValue)
    (names more_names : List (List ℕ)) (numbers more_numbers : List ℤ) (right : Bool)
    → names ≡ map (lower_name value_view value_name) xs → numbers ≡ map value_number xs
    → IsNextValue base (value_view x) names numbers more_names more_numbers right → is_right_value base (map value_view xs) (value_view x) ≡ right
is_right_value-noted base xs x names more_names numbers more_numbers right named numbered next =
    let v = value_view x in
    let alone = is_value_alone base v in
    let other_name = λ (e : rules.EnumValue). differ e.name v.name in
    let other_number = λ (e : rules.EnumValue). not (is_same_number e.number v.number) in
    sym (next.answer ∙ and_assoc alone (is_none_of names (lower v.name)) (is_no_number_of numbers v.number)
    ∙ ap (λ b. alone && (b && is_no_number_of numbers v.number)) (none_of-lower value_view value_name xs x names named)
    ∙ ap (λ b. alone && (list_all other_name (map value_view xs) && b))
    (ap (λ ns. is_no_number_of ns v.number) (numbered ∙ numbers-viewed xs)
    ∙ list_all-map (λ e. not (is_same_number e v.number)) (λ (e : rules.EnumValue). e.number) (map value_view xs))
    ∙ ap (λ b. alone && b) (sym (list_all_both other_name other_number (map value_view xs))))
