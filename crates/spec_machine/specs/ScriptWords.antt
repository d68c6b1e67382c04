-- The numbers and the bytes that words of a script write. This project's own format.
use Rattle.std.specs.Prelude.{ℕ, ◌^◌, ◌++◌, ◌&&◌, List, [], ◌∷◌, length, nat_lt, ◌==◌, if◌then◌else◌, Option, Some, None}
use Rattle.std.specs.Option.{option_map, option_and_then}
use Rattle.std.specs.Result.{result_ok}
use Rattle.name_paths.specs.Number.{is_decimal, number_of_digits}
use Rattle.hex.specs.Hex.{decode_of}

-- a decimal number of 64 bits without superfluous zeros
abbrev pub number_of_word : List ℕ → Option ℕ
number_of_word word =
    if is_decimal word && nat_lt (number_of_digits word) (2 ^ 64)
    then Some (number_of_digits word) else None

-- a connection: a number from 1 to 4,294,967,295
abbrev pub connection_from : ℕ → Option ℕ
connection_from n = if nat_lt 0 n && nat_lt n (2 ^ 32) then Some n else None

abbrev pub connection_of_word : List ℕ → Option ℕ
connection_of_word word = option_and_then connection_from (number_of_word word)

-- the bytes of a hex word: an even number of digits, two or more, in either case
abbrev pub bytes_of_word : List ℕ → Option (List ℕ)
bytes_of_word word = if length word == 0 then None else result_ok (decode_of word)

-- what stands behind these bytes
abbrev pub behind : List ℕ → Option (List ℕ) → Option (List ℕ)
behind first rest = option_map (λ bytes. first ++ bytes) rest

-- the bytes of hex words, joined
unfoldable pub bytes_of_words : List (List ℕ) → Option (List ℕ)
bytes_of_words [] = Some []
bytes_of_words (word ∷ words) =
    option_and_then (λ first. behind first (bytes_of_words words)) (bytes_of_word word)
