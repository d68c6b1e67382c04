-- What holds of values and their texts whatever reads or writes them.
use Rattle.std.specs.Prelude.{◌≡◌, ℕ, ◌-◌, ◌<◌, List, [], ◌∷◌, ◌++◌, length, take, drop, map, replicate, slice_index, ◌==◌, ◌↔◌, Some, if◌then◌else◌}
use Rattle.std.specs.Char.{to_ascii_lowercase}
use Rattle.spec_frames.specs.Number.{AreBytes}
use Rattle.spec_client.specs.ValueReading.{value_of_text}
use Rattle.spec_formats.specs.ValueText.{ValueForm, Signed, Unsigned, Truth, Quoted, Hexadecimal, form_of, before_nul, value_text, IsValueOf}

-- no text is read as two values
abbrev pub OneValue : Type 0
OneValue = (id size : ℕ) (text a b : List ℕ) → AreBytes a → AreBytes b → IsValueOf id size text a → IsValueOf id size text b → a ≡ b

-- the value that comes back where a value's text is read: every true byte comes back as 1, and behind
-- a string's first NUL stand NULs
abbrev pub value_again : ValueForm → List ℕ → List ℕ
value_again Signed value = value
value_again Unsigned value = value
value_again Truth value = (if slice_index value 0 == 0 then 0 else 1) ∷ []
value_again Quoted value = before_nul value ++ replicate (length value - length (before_nul value)) 0
value_again Hexadecimal value = value

-- the text of a value is read as the value that comes back, where a string has a NUL
abbrev pub ReadAgain : Type 0
ReadAgain = (id : ℕ) (value : List ℕ) → AreBytes value → (form_of id (length value) ≡ Quoted → length (before_nul value) < length value)
    → IsValueOf id (length value) (value_text id value) (value_again (form_of id (length value)) value)

-- the text of a string without a NUL is read as no value of its size
abbrev pub FullStringRefused : Type 0
FullStringRefused = (id : ℕ) (value other : List ℕ) → form_of id (length value) ≡ Quoted → before_nul value ≡ value
    → IsValueOf id (length value) (value_text id value) other → ⊥

-- the text with its hexadecimal digits in lower case
abbrev pub in_lower_case : ValueForm → List ℕ → List ℕ
in_lower_case Signed text = text
in_lower_case Unsigned text = text
in_lower_case Truth text = text
in_lower_case Quoted text = text
in_lower_case Hexadecimal text = take 3 text ++ map to_ascii_lowercase (drop 3 text)

-- the text of the value that a text is read as is the text again
abbrev pub WrittenAgain : Type 0
WrittenAgain = (id size : ℕ) (text value : List ℕ) → IsValueOf id size text value → value_text id value ≡ in_lower_case (form_of id size) text

-- a value is found for a text exactly where the text is read as that value
abbrev pub FindsValues : Type 0
FindsValues = (id size : ℕ) (text value : List ℕ)
    → (value_of_text id size text ≡ Some value) ↔ (AreBytes value × IsValueOf id size text value)
