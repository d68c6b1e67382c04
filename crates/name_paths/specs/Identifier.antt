-- Identifiers, and texts with the case of ASCII letters left aside.
use Rattle.std.specs.Prelude.{ℕ, Bool, false, ◌&&◌, ◌||◌, ◌==◌, List, [], ◌∷◌, map}
use Rattle.std.specs.Char.{is_ascii_alphabetic, is_ascii_alphanumeric, to_ascii_lowercase}
use Rattle.std.specs.List.{list_all}

-- an ASCII letter or `_`
abbrev pub is_identifier_start : ℕ → Bool
is_identifier_start c = is_ascii_alphabetic c || c == 95

-- an ASCII letter, a digit or `_`
abbrev pub is_identifier_byte : ℕ → Bool
is_identifier_byte c = is_ascii_alphanumeric c || c == 95

-- a letter or `_`, and then letters, digits and `_`
abbrev pub is_identifier : List ℕ → Bool
is_identifier [] = false
is_identifier (c ∷ cs) = is_identifier_start c && list_all is_identifier_byte cs

-- the text with its ASCII letters in lower case
abbrev pub lower : List ℕ → List ℕ
lower = map to_ascii_lowercase
