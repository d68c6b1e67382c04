-- How the words behind a command divide into positional words and options. This project's own choice.
use Rattle.std.specs.Prelude.{ℕ, Bool, false, ◌&&◌, List, [], ◌∷◌, length, Option, Some, None, option_map, codes, bytes_eq, nat_lt, ◌==◌, if◌then◌else◌}
use Rattle.cli_words.specs.declared.division.OptionWord.{OptionWord}
use Rattle.cli_words.specs.declared.division.Division.{Division}
use Rattle.cli_words.specs.declared.division.Kind.{Kind}
use Rattle.cli_words.specs.declared.division.Kind.TheVariants.{EndOfOptions, Plain, Joined, Named}

-- a word that begins with `-`
abbrev pub begins_with_dash : List ℕ → Bool
begins_with_dash [] = false
begins_with_dash (byte ∷ bytes) = byte == 45

-- one more byte before the first of two parts
abbrev pub with_first : ℕ → List ℕ × List ℕ → List ℕ × List ℕ
with_first byte parts = (byte ∷ parts.0, parts.1)

-- what stands before the first such byte of a text, and what stands behind it, where there is one
unfoldable pub parted : ℕ → List ℕ → Option (List ℕ × List ℕ)
parted stop [] = None
parted stop (byte ∷ bytes) = if byte == stop then Some ([], bytes) else option_map (with_first byte) (parted stop bytes)

-- `--x=V`, or `--x`, whose value is the next word
abbrev pub option_kind : Option (List ℕ × List ℕ) → Kind
option_kind (Some parts) = Joined parts.0 parts.1
option_kind None = Named

-- `--` ends the options; a word of two or more bytes that begins with `-` is one; every other word, a
-- lone `-` too, is positional
unfoldable pub kind_of : List ℕ → Kind
kind_of word =
    if bytes_eq word (codes "--") then EndOfOptions
    else if begins_with_dash word && nat_lt 1 (length word) then option_kind (parted 61 word)
    else Plain

-- one more word in front of those that are divided
abbrev pub with_positional : List ℕ → Division → Division
with_positional word d = record { positional = word ∷ d.positional; options = d.options }

abbrev pub with_option : List ℕ → List ℕ → Division → Division
with_option name value d = record { positional = d.positional; options = record { name = name; value = value } ∷ d.options }

-- the division of words, behind an option that wants its value where there is one. A value in a word
-- of its own does not begin with `-`. None where an option is left without a value
unfoldable pub divided : Option (List ℕ) → List (List ℕ) → Option Division
divided None [] = Some (record { positional = []; options = [] })
divided (Some name) [] = None
divided None (word ∷ words) = elim (kind_of word) [
  | EndOfOptions ↦ Some (record { positional = words; options = [] })
  | Plain ↦ option_map (with_positional word) (divided None words)
  | Joined name value ↦ option_map (with_option name value) (divided None words)
  | Named ↦ divided (Some word) words
]
divided (Some name) (value ∷ words) =
    if begins_with_dash value then None else option_map (with_option name value) (divided None words)

-- the division of the words behind a command
abbrev pub division_of : List (List ℕ) → Option Division
division_of words = divided None words

-- the value of an option, where it stands
unfoldable pub value_of : List ℕ → List OptionWord → Option (List ℕ)
value_of name [] = None
value_of name (option ∷ options) = if bytes_eq option.name name then Some option.value else value_of name options
