-- Description rules 6 and 7: the names of types, and their members and values.
use Rattle.std.specs.Prelude.{ℕ, List, [], length, Bool, false, not, ◌&&◌, nat_lt, Option, Some, None, is_some, is_none, if◌then◌else◌}
use Rattle.std.specs.Option.{option_map_or}
use Rattle.std.specs.List.{list_all}
use Rattle.spec_plant.specs.Listed.{NamedType}
use Rattle.spec_plant.specs.Plain.{Kind}
use Rattle.spec_plant.specs.AcceptedTypes.{differ, is_short_identifier, is_comment, is_type_name, is_in_range, is_same_number, is_count}
use Rattle.spec_rules.specs.Written.{WrittenMember, EnumValue, WrittenType, WrittenStructure, WrittenEnumeration, written_name, written_members}
use Rattle.spec_rules.specs.Places.{first_wrong, first_through, lesser}
use Rattle.spec_plant.specs.Shapes.{shape_of_text}
use Rattle.spec_rules.specs.Described.{base_of, types_described}

-- a name that a type may have, and that no earlier type has
abbrev pub is_right_type_name : List WrittenType → WrittenType → Bool
is_right_type_name before t =
    is_type_name (written_name t) && list_all (λ e. differ (written_name e) (written_name t)) before

-- rule 6: the names of types; there are at most 1,000 (item 1,000)
unfoldable pub wrong_type_name : List WrittenType → Option ℕ
wrong_type_name types =
    lesser (first_wrong is_right_type_name [] types) (if nat_lt 1000 (length types) then Some 1000 else None)

-- a value whose name and number no earlier value has, with a number in the base's range
abbrev pub is_right_value : Kind → List EnumValue → EnumValue → Bool
is_right_value base before v =
    is_short_identifier v.name && is_in_range base v.number
    && list_all (λ (e : EnumValue). differ e.name v.name && not (is_same_number e.number v.number)) before

abbrev pub are_right_values : List EnumValue → Kind → Bool
are_right_values values base = is_none (first_wrong (is_right_value base) [] values)

-- 1 to 1,000 members; or a base, and 1 to 1,000 right values
abbrev pub has_right_parts : WrittenType → Bool
has_right_parts (WrittenStructure name members) = is_count (length members)
has_right_parts (WrittenEnumeration name base values) =
    is_count (length values) && option_map_or (are_right_values values) (base_of base) false

-- a member whose name no earlier member has, and whose type names only these types
abbrev pub is_right_member : List NamedType → List WrittenMember → WrittenMember → Bool
is_right_member known before m =
    is_short_identifier m.name && list_all (λ (e : WrittenMember). differ e.name m.name) before
    && is_comment m.comment && is_some (shape_of_text known m.type)

-- the first member of a type that is not right, where these types stand before it
abbrev pub wrong_member_of : List WrittenType → WrittenType → Option ℕ
wrong_member_of before t = first_wrong (is_right_member (types_described before)) [] (written_members t)

-- rule 7: the number of members, and all of enumerations (item 0); then each member through all structures
unfoldable pub wrong_part : List WrittenType → Option ℕ
wrong_part types =
    if list_all has_right_parts types
    then first_through (λ t. length (written_members t)) wrong_member_of [] types else Some 0
