-- For private contracts, and cited by no public clause: whether a text names only types that a document has written.
use Rattle.std.specs.Prelude.{ℕ, List, Bool, true, false}
use Rattle.std.specs.Option.{option_map_or}
use Rattle.std.specs.List.{list_any}
use Rattle.spec_plant.specs.TypeTexts.{ElemText, PlainText, StringText, NamedText, TypeText, type_text_of, is_same_word}
use Rattle.spec_rules.specs.Written.{WrittenType, written_name}

-- whether an element names only these types
abbrev pub names_only : List WrittenType → ElemText → Bool
names_only known (PlainText kind) = true
names_only known (StringText n) = true
names_only known (NamedText name) = list_any (λ t. is_same_word (written_name t) name) known

-- a type text that names only these types
abbrev pub is_type_among : List WrittenType → List ℕ → Bool
is_type_among known text = option_map_or (λ (t : TypeText). names_only known t.elem) (type_text_of text) false
