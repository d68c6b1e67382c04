-- The value that a text is read as: a value is made up from the text, and it is read where the text is that value's own.
use Rattle.std.specs.Prelude.{ℕ, zero, suc, ◌+◌, ◌-◌, ◌*◌, ◌/◌, ◌%◌, ◌^◌, List, [], ◌∷◌, ◌++◌, length, drop}
use Rattle.std.specs.Prelude.{slice_index, Bool, ◌&&◌, ◌==◌, nat_lt, Option, Some, None, Result, Ok}
use Rattle.std.specs.Prelude.{Err, is_ok, if◌then◌else◌, bytes_eq, codes, decimal}
use Rattle.std.specs.List.{list_all}
use Rattle.std.specs.Str.Parse.{digits_value}
use Rattle.hex.specs.Hex.{decode_of}
use Rattle.hex.specs.declared.error.FromHexError.{FromHexError}
use Rattle.spec_frames.specs.Number.{number_of}
pub use Rattle.spec_frames.specs.Number.{filled}
use Rattle.spec_formats.specs.ValueText.{is_signed, is_unsigned, signed_text, before_nul, quoted, truth_text}

-- so many little-endian bytes of a number
abbrev pub number_bytes : ℕ → ℕ → List ℕ
number_bytes zero n = []
number_bytes (suc size) n = n % 256 ∷ number_bytes size (n / 256)

-- a number of two's complement in this range; 45 is `-`
abbrev pub signed_number : ℕ → List ℕ → ℕ
signed_number range [] = 0
signed_number range (c ∷ cs) = if c == 45 then range - digits_value 10 cs else digits_value 10 (c ∷ cs)

-- the value of an upper-case hexadecimal digit
abbrev pub digit_of : ℕ → ℕ
digit_of c = if nat_lt c 58 then c - 48 else c - 55

-- how far a text between quotes is read: behind `$` two digits follow
pub data QuoteReading : Type 0 where
  Plainly : QuoteReading
  AtHigh : QuoteReading
  AtLow : (high : ℕ) → QuoteReading

-- the bytes that were quoted, up to the closing quote; 36 is `$`, and 39 is `'`
unfoldable pub unquoted : QuoteReading → List ℕ → List ℕ
unquoted r [] = []
unquoted Plainly (c ∷ cs) =
    if c == 39 then [] else if c == 36 then unquoted AtHigh cs else c ∷ unquoted Plainly cs
unquoted AtHigh (c ∷ cs) = unquoted (AtLow c) cs
unquoted (AtLow high) (c ∷ cs) = (16 * digit_of high + digit_of c) ∷ unquoted Plainly cs

-- what stands between the quotes
abbrev pub content_of : List ℕ → List ℕ
content_of text = unquoted Plainly (drop 1 text)

abbrev pub decoded : Result (List ℕ) FromHexError → List ℕ
decoded (Ok bytes) = bytes
decoded (Err e) = []

-- what holds of the form that a type id and a size have
abbrev pub by_form : {X : Type 0} → ℕ → ℕ → (signed unsigned truth quoted hexadecimal : X) → X
by_form id size signed unsigned truth quoted hexadecimal =
    if is_signed id size then signed
    else if is_unsigned id size then unsigned
    else if id == 33 && size == 1 then truth
    else if id == 30 && nat_lt 0 size then quoted
    else hexadecimal

-- what a text would be read as
unfoldable pub made_value : ℕ → ℕ → List ℕ → List ℕ
made_value id size text = by_form id size (number_bytes size (signed_number (256 ^ size) text))
    (number_bytes size (digits_value 10 text)) (if bytes_eq text (codes "TRUE") then 1 ∷ [] else 0 ∷ [])
    (filled size (content_of text)) (decoded (decode_of (drop 3 text)))

-- the text is that of a text without a NUL, which leaves room for one
abbrev pub is_quoted_text : ℕ → List ℕ → List ℕ → Bool
is_quoted_text size text content =
    bytes_eq text (quoted content) && nat_lt (length content) size && bytes_eq (before_nul content) content

-- the text of a value of this size
unfoldable pub is_text_of : ℕ → ℕ → List ℕ → List ℕ → Bool
is_text_of id size text value =
    by_form id size (bytes_eq text (signed_text (256 ^ length value) (number_of value))) (bytes_eq text (decimal (number_of value)))
    (bytes_eq text (truth_text (slice_index value 0)) && nat_lt (slice_index value 0) 2)
    (is_quoted_text size text (content_of text))
    (bytes_eq text (codes "16#" ++ drop 3 text) && is_ok (decode_of (drop 3 text)))

abbrev pub are_bytes : List ℕ → Bool
are_bytes value = list_all (λ byte. nat_lt byte 256) value

-- so many bytes, whose text this is
abbrev pub is_value : ℕ → ℕ → List ℕ → List ℕ → Bool
is_value id size text value = are_bytes value && (length value == size) && is_text_of id size text value

-- the value of a type id and a size that a text is read as
unfoldable pub value_of_text : ℕ → ℕ → List ℕ → Option (List ℕ)
value_of_text id size text =
    let value = made_value id size text in if is_value id size text value then Some value else None
