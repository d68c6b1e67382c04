-- An array is one value of bytes, whatever type id is told of it, by computation.
use Rattle.std.specs.Prelude.{◌≡◌, refl, ℕ, List, [], ◌∷◌, codes}
use Rattle.hex.specs.Hex.{encode_with}
use Rattle.spec_formats.specs.Codes.{text_in}
use Rattle.spec_formats.specs.Reply.{ReadWrite}
use Rattle.spec_formats.specs.SymbolEntry.{SymbolEntry, entry_bytes, is_entry, entry_of}
use Rattle.spec_formats.specs.ValueText.{form_of, text_of}
use Rattle.spec_client.specs.Calls.{value_request}
use Rattle.spec_client.specs.Entries.{value_id, entries_in}
use Rattle.spec_client.specs.Printed.{line}
use Rattle.spec_client.specs.Replies.{after_value_read, after_reply}
use Rattle.spec_client.specs.Stages.{ToSend, ToPrint, Purpose, ToGet, ToSet, AwaitsEntry, AwaitsValue, Progress, progress, done_with}
use Rattle.spec_client.specs.ValueReading.{value_of_text}

-- six bytes `t`, of which this type id and this type are told
abbrev told_as : ℕ → List ℕ → SymbolEntry
told_as id type_name =
    record { group = 16448; offset = 0; size = 6; type_id = id; flags = 8; name = codes "t"; type_name = type_name; comment = [] }

-- two texts, with the type id of each of them
abbrev words : SymbolEntry
words = told_as 30 (codes "ARRAY [0..1] OF STRING(2)")

-- one text
abbrev word : SymbolEntry
word = told_as 30 (codes "STRING(5)")

-- what the entry leads to
abbrev asked : Purpose → SymbolEntry → Progress
asked purpose e = after_reply (AwaitsEntry purpose (codes "t")) (ReadWrite 0 (entry_bytes e)) []

-- the value as it is got
abbrev got : SymbolEntry → Progress
got e = after_reply (AwaitsValue e) (ReadWrite 0 (97 ∷ 0 ∷ 0 ∷ 98 ∷ 0 ∷ 0 ∷ [])) []

record ArrayRows : Type 0 where
  array : value_id words ≡ 65
  any_case : value_id (told_as 2 (codes "Array [1..3] OF INT")) ≡ 65
  -- a type whose name begins so is none
  named : value_id (told_as 2 (codes "ARRAYS")) ≡ 2
  text : value_id word ≡ 30
  -- it is got as bytes, and a text alone as a text
  array_asked : asked ToGet words
      ≡ progress (AwaitsValue (told_as 65 (codes "ARRAY [0..1] OF STRING(2)"))) (ToSend (value_request (codes "t") 6) ∷ [])
  array_got : got (told_as 65 (codes "ARRAY [0..1] OF STRING(2)")) ≡ done_with (ToPrint (line (codes "16#610000620000")) ∷ [])
  text_asked : asked ToGet word ≡ progress (AwaitsValue word) (ToSend (value_request (codes "t") 6) ∷ [])
  -- it is set as bytes, and a text alone as a text
  array_set : asked (ToSet (codes "'ab'")) words ≡ after_value_read (codes "t") (value_of_text 65 6 (codes "'ab'"))
  text_set : asked (ToSet (codes "'ab'")) word ≡ after_value_read (codes "t") (value_of_text 30 6 (codes "'ab'"))

array_rows : ArrayRows
unfolding encode_with text_in is_entry entry_of form_of text_of entries_in after_reply
array_rows = record {
  array = refl;
  any_case = refl;
  named = refl;
  text = refl;
  array_asked = refl;
  array_got = refl;
  text_asked = refl;
  array_set = refl;
  text_set = refl;
}
