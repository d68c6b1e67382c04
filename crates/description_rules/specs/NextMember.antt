-- For private contracts, and cited by no public clause: members beside the names of the types before.
use Rattle.std.specs.Prelude.{◌≡◌, ℕ, List, [], Bool, true, false, not, ◌&&◌, Option, bytes_eq}
use Rattle.std.specs.Option.{option_map_or}
use Rattle.std.specs.List.{list_all}
use Rattle.name_paths.specs.Identifier.{lower}
use Rattle.spec_plant.specs.AcceptedTypes.{differ, is_short_identifier, is_comment}
use Rattle.spec_plant.specs.TypeTexts.{ElemText, PlainText, StringText, NamedText, TypeText, type_text_of}
use Rattle.spec_rules.specs.Written.{WrittenMember, WrittenType, written_name, written_members}
use Rattle.spec_rules.specs.Places.{first_wrong}
use Rattle.description_rules.specs.NameStarts.{is_none_of}

-- whether an element names only types of these names, which are in lower case
abbrev pub names_only_in : List (List ℕ) → ElemText → Bool
names_only_in names (PlainText kind) = true
names_only_in names (StringText n) = true
names_only_in names (NamedText name) = not (is_none_of names (lower name))

-- a type text that names only types of these names
abbrev pub is_type_in : List (List ℕ) → List ℕ → Bool
is_type_in names text = option_map_or (λ (t : TypeText). names_only_in names t.elem) (type_text_of text) false

-- a member that is right but for the names of those before
abbrev pub is_member_alone : List (List ℕ) → WrittenMember → Bool
is_member_alone names m = is_short_identifier m.name && is_comment m.comment && is_type_in names m.type

abbrev pub is_right_named : List (List ℕ) → List WrittenMember → WrittenMember → Bool
is_right_named names before m = is_member_alone names m && list_all (λ (e : WrittenMember). differ e.name m.name) before

abbrev pub wrong_member_in : List (List ℕ) → WrittenType → Option ℕ
wrong_member_in names t = first_wrong (is_right_named names) [] (written_members t)

-- the names of these types, in lower case
abbrev pub AreTypeNames : List WrittenType → List (List ℕ) → Type 0
AreTypeNames types names = (text : List ℕ) → is_none_of names text ≡ list_all (λ t. not (bytes_eq (lower (written_name t)) text)) types
