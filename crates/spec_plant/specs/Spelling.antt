-- Canonical texts of types: words in upper case, names as declared, `STRING(80)` for `STRING`.
use Rattle.std.specs.Prelude.{ℕ, List, [], ◌∷◌, ◌++◌, map, flat_map, codes, decimal, ℤ, pos, ◌+ℤ◌, ◌-ℤ◌}
use Rattle.std.specs.Fmt.{signed_decimal}
use Rattle.spec_plant.specs.Plain.{kind_name}
use Rattle.spec_plant.specs.Listed.{Bound}
use Rattle.spec_plant.specs.Trees.{TypeTree, PlainTree, TextTree, EnumTree, ArrayTree, StructTree}

-- a number in decimal digits, behind a minus sign where it is below zero
abbrev pub integer_text : ℤ → List ℕ
integer_text z = signed_decimal z

-- the greatest index
abbrev pub high_of : Bound → ℤ
high_of b = (b.low +ℤ pos b.count) -ℤ pos 1

-- `0..9`
abbrev pub bound_text : Bound → List ℕ
bound_text b = integer_text b.low ++ codes ".." ++ integer_text (high_of b)

-- texts joined by commas
abbrev pub joined_by_comma : List (List ℕ) → List ℕ
joined_by_comma [] = []
joined_by_comma (t ∷ ts) = t ++ flat_map (λ u. 44 ∷ u) ts

-- a type's canonical text, as `ARRAY [1..3] OF Axis`
unfoldable pub type_text : TypeTree → List ℕ
type_text (PlainTree kind) = kind_name kind
type_text (TextTree n) = codes "STRING(" ++ decimal n ++ codes ")"
type_text (EnumTree name base) = name
type_text (ArrayTree bounds element) =
    codes "ARRAY [" ++ joined_by_comma (map bound_text bounds) ++ codes "] OF " ++ type_text element
type_text (StructTree name members) = name
