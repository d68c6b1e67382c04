-- Type texts as a description writes them, in any case of letters: a plain type, `STRING(n)`, `STRING`, which is
-- `STRING(80)`, the name of a type, or `ARRAY [l..u] OF` one of these, with one to three dimensions.
use Rattle.std.specs.Prelude.{ℕ, ◌-◌, List, [], ◌∷◌, length, take, drop, slice_index, Bool, not, ◌&&◌, ◌==◌}
use Rattle.std.specs.Prelude.{nat_le, if◌then◌else◌, find, Option, Some, None, is_some, option_map}
use Rattle.std.specs.Prelude.{option_and_then, bytes_eq, codes, ℤ, int_le}
use Rattle.std.specs.List.{list_all, slice_split, before_first}
use Rattle.name_paths.specs.Identifier.{is_identifier, lower}
use Rattle.name_paths.specs.Name.{is_full_stop}
use Rattle.name_paths.specs.Number.{is_decimal, number_of, number_of_digits}
use Rattle.name_paths.specs.Path.{is_comma}
use Rattle.spec_plant.specs.Plain.{Kind, kind_name, all_kinds}

-- the least and the greatest index of one dimension
pub record Ends : Type 0 where
  pub low : ℤ
  pub high : ℤ

-- a plain type, a text of at most n bytes, or a type by its name
pub data ElemText : Type 0 where
  PlainText : Kind → ElemText
  StringText : ℕ → ElemText
  NamedText : List ℕ → ElemText

-- the dimensions, of which there are none where the text is no array, and the element
pub record TypeText : Type 0 where
  pub ends : List Ends
  pub elem : ElemText

-- the two texts are the same, ASCII case aside
abbrev pub is_same_word : List ℕ → List ℕ → Bool
is_same_word a b = bytes_eq (lower a) (lower b)

-- the plain type with this name
abbrev pub kind_named : List ℕ → Option Kind
kind_named text = find (λ k. is_same_word (kind_name k) text) all_kinds

-- decimal digits of a number up to 65,534, and a closing parenthesis
abbrev pub string_length_of : List ℕ → Option ℕ
string_length_of text =
    if (slice_index text (length text - 1) == 41)
    && (is_decimal (take (length text - 1) text) && nat_le (number_of_digits (take (length text - 1) text)) 65534)
    then Some (number_of_digits (take (length text - 1) text)) else None

-- the name of a type
abbrev pub named_text_of : List ℕ → Option ElemText
named_text_of text =
    if is_identifier text && list_all (λ word. not (is_same_word word text)) (codes "ARRAY" ∷ codes "OF" ∷ [])
    then Some (NamedText text) else None

-- a text type, or the name of a type
abbrev pub other_elem_of : List ℕ → Option ElemText
other_elem_of text =
    if is_same_word text (codes "STRING") then Some (StringText 80)
    else (if is_same_word (take 7 text) (codes "STRING(")
    then option_map StringText (string_length_of (drop 7 text)) else named_text_of text)

-- a plain type, a text type, or the name of a type
abbrev pub elem_text_of : List ℕ → Option ElemText
elem_text_of text =
    if is_some (kind_named text) then option_map PlainText (kind_named text) else other_elem_of text

-- the number behind two full stops
abbrev pub high_text_of : List ℕ → Option ℤ
high_text_of text = if bytes_eq (take 2 text) (codes "..") then number_of (drop 2 text) else None

-- one dimension, whose least index is not above the greatest
abbrev pub ends_in_order : ℤ → ℤ → Option Ends
ends_in_order low high = if int_le low high then Some (record { low = low; high = high }) else None

-- `l..u`
abbrev pub ends_of : List ℕ → Option Ends
ends_of text =
    option_and_then (λ low. option_and_then (ends_in_order low)
    (high_text_of (drop (length (before_first is_full_stop text)) text)))
    (number_of (before_first is_full_stop text))

-- each text as a dimension
abbrev pub all_ends_of : List (List ℕ) → Option (List Ends)
all_ends_of [] = Some []
all_ends_of (text ∷ texts) =
    option_and_then (λ e. option_map (λ es. e ∷ es) (all_ends_of texts)) (ends_of text)

-- one to three dimensions joined by commas
abbrev pub dimensions_of : List ℕ → Option (List Ends)
dimensions_of text =
    if nat_le (length (slice_split is_comma text)) 3 then all_ends_of (slice_split is_comma text) else None

-- a closing bracket
abbrev pub is_closing : ℕ → Bool
is_closing c = c == 93

-- what stands behind the dimensions: `] OF ` and an element
abbrev pub array_elem_of : List ℕ → Option ElemText
array_elem_of text = if is_same_word (take 5 text) (codes "] OF ") then elem_text_of (drop 5 text) else None

-- an array, behind `ARRAY [`
abbrev pub array_text_of : List ℕ → Option TypeText
array_text_of text =
    option_and_then (λ es. option_map (λ e. record { ends = es; elem = e })
    (array_elem_of (drop (length (before_first is_closing text)) text)))
    (dimensions_of (before_first is_closing text))

-- the type that a text writes
abbrev pub type_text_of : List ℕ → Option TypeText
type_text_of text =
    if is_same_word (take 7 text) (codes "ARRAY [") then array_text_of (drop 7 text)
    else option_map (λ e. record { ends = []; elem = e }) (elem_text_of text)
