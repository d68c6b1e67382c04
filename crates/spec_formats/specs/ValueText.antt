-- The text of a value by its type id and its size, and the value of a text. This project's own choice.
use Rattle.std.specs.Prelude.{◌≡◌, ℕ, ◌+◌, ◌-◌, ◌*◌, ◌/◌, ◌%◌, ◌^◌, ◌<◌, Bool, ◌&&◌, ◌||◌, not, List, [], ◌∷◌, ◌++◌, length, drop, replicate, flat_map}
use Rattle.std.specs.Prelude.{slice_index, codes, decimal, nat_lt, nat_le, ◌==◌, if◌then◌else◌, Ok}
use Rattle.hex.specs.Hex.{encode_lower, decode_of}
use Rattle.spec_frames.specs.Number.{number_of}

-- a signed and an unsigned decimal number, `FALSE` or `TRUE`, a text between single quotes, `16#` and two digits a byte
pub data ValueForm : Type 0 where
  Signed : ValueForm
  Unsigned : ValueForm
  Truth : ValueForm
  Quoted : ValueForm
  Hexadecimal : ValueForm

-- the type ids of signed and of unsigned numbers, by their sizes
abbrev pub is_signed : ℕ → ℕ → Bool
is_signed id size = (id == 16 && size == 1) || (id == 2 && size == 2) || (id == 3 && size == 4) || (id == 20 && size == 8)

abbrev pub is_unsigned : ℕ → ℕ → Bool
is_unsigned id size = (id == 17 && size == 1) || (id == 18 && size == 2) || (id == 19 && size == 4) || (id == 21 && size == 8)

-- how a value is written: an id with another size than its own is hexadecimal, as every other id is
unfoldable pub form_of : ℕ → ℕ → ValueForm
form_of id size =
    if is_signed id size then Signed
    else if is_unsigned id size then Unsigned
    else if id == 33 && size == 1 then Truth
    else if id == 30 && nat_lt 0 size then Quoted
    else Hexadecimal

-- a number of two's complement: what is below half of the range is itself, and all else is minus
-- what it lacks to the range; 45 is `-`
unfoldable pub signed_text : ℕ → ℕ → List ℕ
signed_text range n = if nat_lt (2 * n) range then decimal n else 45 ∷ decimal (range - n)

-- the bytes before the first NUL
unfoldable pub before_nul : List ℕ → List ℕ
before_nul [] = []
before_nul (byte ∷ bytes) = if byte == 0 then [] else byte ∷ before_nul bytes

-- a byte from 0x20 to 0x7E other than `'` and `$`
abbrev pub is_plain : ℕ → Bool
is_plain byte = nat_le 32 byte && nat_le byte 126 && not (byte == 39) && not (byte == 36)

abbrev pub upper_digit : ℕ → ℕ
upper_digit digit = if nat_lt digit 10 then 48 + digit else 55 + digit

-- a plain byte is itself, and every other one is `$` and two upper-case hexadecimal digits
unfoldable pub quoted_byte : ℕ → List ℕ
quoted_byte byte = if is_plain byte then byte ∷ [] else 36 ∷ upper_digit (byte / 16) ∷ upper_digit (byte % 16) ∷ []

-- bytes between single quotes
unfoldable pub quoted : List ℕ → List ℕ
quoted bytes = 39 ∷ (flat_map quoted_byte bytes ++ 39 ∷ [])

-- 0 is false, and every other byte true
abbrev pub truth_text : ℕ → List ℕ
truth_text byte = if byte == 0 then codes "FALSE" else codes "TRUE"

-- the text of a value in a form
unfoldable pub text_of : ValueForm → List ℕ → List ℕ
text_of Signed value = signed_text (256 ^ length value) (number_of value)
text_of Unsigned value = decimal (number_of value)
text_of Truth value = truth_text (slice_index value 0)
text_of Quoted value = quoted (before_nul value)
text_of Hexadecimal value = codes "16#" ++ encode_lower value

-- the text of a value by its type id
abbrev pub value_text : ℕ → List ℕ → List ℕ
value_text id value = text_of (form_of id (length value)) value

-- bytes without a NUL
abbrev pub IsNulFree : List ℕ → Type 0
IsNulFree bytes = before_nul bytes ≡ bytes

-- a value of some size: bytes without a NUL, and NULs behind them, one at least
pub record IsFilledTo (size : ℕ) (content value : List ℕ) : Type 0 where
  pub filled : value ≡ content ++ replicate (size - length content) 0
  pub room : length content < size
  pub no_nul : IsNulFree content

-- a text is read as a value: it is the value's text, but that hexadecimal digits may stand in either
-- case. A truth value is 0 or 1, and behind a string stand NULs
abbrev pub IsReadAs : ValueForm → List ℕ → List ℕ → Type 0
IsReadAs Signed text value = text ≡ text_of Signed value
IsReadAs Unsigned text value = text ≡ text_of Unsigned value
IsReadAs Truth text value = (text ≡ text_of Truth value) × (slice_index value 0 < 2)
IsReadAs Quoted text value = (content : List ℕ) × (text ≡ quoted content) × IsFilledTo (length value) content value
IsReadAs Hexadecimal text value = (text ≡ codes "16#" ++ drop 3 text) × (decode_of (drop 3 text) ≡ Ok value)

-- a value of a type id and a size that a text is read as
pub record IsValueOf (id size : ℕ) (text value : List ℕ) : Type 0 where
  pub sized : length value ≡ size
  pub read_as : IsReadAs (form_of id size) text value
