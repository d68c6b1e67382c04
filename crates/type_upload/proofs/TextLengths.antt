-- The canonical texts of accepted types are short.
use Rattle.std.proofs.Common.{◌≡◌, ℕ, ◌≤◌, List, length, true, ap, arith}
use Rattle.std.specs.Prelude.{Some, slice_get}
use Rattle.std.proofs.lemmas.Bool.{and_parts, leb-true}
use Rattle.spec_plant.specs.Listed.{Elem, Plain, Text, Struct, Enum, Shape, One, Array, NamedType, type_name, is_structure, is_enumeration}
use Rattle.spec_plant.specs.Trees.{tree_at, tree_of, trees_of, elem_tree}
use Rattle.spec_plant.specs.Spelling.{type_text}
use Rattle.spec_plant.specs.AcceptedTypes.{AreTypes, are_bounds, is_elem, is_shape, elem_within}
use Rattle.spec_plant.proofs.TypeLemmas.{stands_at, named_there, type_text-named}
use Rattle.spec_plant.proofs.TextLengths.{short_type_name, kind-short, string-short, array-short}

named-short : (types : List NamedType) (place : ℕ) (t : NamedType) → AreTypes types
    → slice_get types place ≡ Some t → length (type_text (tree_at (trees_of types) place)) ≤ 255
named-short types place t a e =
    let short = short_type_name (type_name t) (stands_at types place t a e).name in
    let text = ap length (type_text-named types place t e) in
    omega (arith, short, text)

elem-short : (types : List NamedType) (e : Elem) → AreTypes types → is_elem types e ≡ true → length (type_text (elem_tree (trees_of types) e)) ≤ 255
unfolding type_text
elem-short types (Plain kind) a h = let k = kind-short kind in omega (arith, k)
elem-short types (Text n) a h = let t = string-short n (leb-true n 65534 h) in omega (arith, t)
elem-short types (Struct place) a h = let there = named_there is_structure types place h in named-short types place (there.0) a (there.1)
elem-short types (Enum place) a h = let there = named_there is_enumeration types place h in named-short types place (there.0) a (there.1)

pub text-short : (types before : List NamedType) (s : Shape) → AreTypes types → is_shape before s ≡ true → is_elem types (elem_within s) ≡ true
    → length (type_text (tree_of types s)) ≤ 400
unfolding type_text
text-short types before (One e) a h there = let short = elem-short types e a there in omega (arith, short)
text-short types before (Array bounds e) a h there =
    let own = elem-short types e a there in
    let whole = array-short bounds (type_text (elem_tree (trees_of types) e)) (and_parts (are_bounds bounds) (is_elem before e) h).0 in
    omega (arith, own, whole)
