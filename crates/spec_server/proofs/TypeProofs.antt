-- Named types are found by their names.
use Rattle.std.proofs.Common.{◌≡◌, ℕ, zero, suc, Bool, true, false, cond, List, [], ◌∷◌, ◌++◌, length, map, refl, sym, ◌∙◌, ap, subst, arith}
use Rattle.std.specs.Prelude.{Option, Some, None, option_map, option_and_then, slice_get, not, bytes_eq}
use Rattle.std.specs.List.{list_all, position_or_len}
use Rattle.std.specs.Option.{option_map_or}
use Rattle.std.proofs.lemmas.Bool.{and_parts, lt-ltb}
use Rattle.std.proofs.lemmas.List.Folds.{list_all-append}
use Rattle.std.proofs.lemmas.Option.{slice_get_within}
use Rattle.std.proofs.lemmas.Slice.Eq.{bytes_eq-Decides}
use Rattle.name_paths.specs.Identifier.{lower}
use Rattle.spec_plant.specs.Listed.{Elem, Struct, Enum, One, NamedType, Structure, Enumeration, type_name, is_structure}
use Rattle.spec_plant.specs.Trees.{TypeTree, ArrayTree, elem_tree, tree_at, tree_of, trees_of}
use Rattle.spec_plant.specs.TypeTexts.{Ends, ElemText, PlainText, StringText, NamedText, TypeText, type_text_of, is_same_word}
use Rattle.spec_plant.specs.AcceptedTypes.{AreTypes, are_types_behind, is_next_type, is_shape, differ}
use Rattle.spec_plant.specs.WrittenTypes.{name_at}
use Rattle.spec_plant.proofs.TypeLemmas.{stands_at, type_text-named}
use Rattle.spec_plant.proofs.ReadBack.{read_back}
use Rattle.spec_formats.specs.TypeUpload.{entry_of_type}
use Rattle.spec_plant.specs.Shapes.{place_named, elem_at, shape_with, shape_named, shape_of_text}
use Rattle.spec_machine.specs.TypesByText.{if_small, tree_of_text, entry_by_type}
use Rattle.spec_machine.proofs.TypesNamed.{elem_at-tree, small_named}
use Rattle.spec_server.specs.TypeLaws.{NamedTypesAreListed}

-- the place of a type by its own name

abbrev is_called : NamedType → NamedType → Bool
is_called t u = is_same_word (type_name u) (type_name t)

abbrev has_other_name : NamedType → NamedType → Bool
has_other_name t u = differ (type_name u) (type_name t)

next-apart : (before : List NamedType) (t : NamedType) → is_next_type before t ≡ true → list_all (has_other_name t) before ≡ true
next-apart before t h = (and_parts _ _ ((and_parts _ _ ((and_parts _ _ h).0)).0)).1

apart : (before ts : List NamedType) (i : ℕ) (t : NamedType) → are_types_behind before ts ≡ true → slice_get ts i ≡ Some t
    → list_all (has_other_name t) before ≡ true
apart before [] i t h e = cc
apart before (u ∷ us) zero t h e =
    let same : u ≡ t = cc in
    let next = (and_parts (is_next_type before u) (are_types_behind (before ++ u ∷ []) us) h).0 in
    next-apart before t (subst (λ x. is_next_type before x ≡ true) same next)
apart before (u ∷ us) (suc n) t h e =
    let rest = (and_parts (is_next_type before u) (are_types_behind (before ++ u ∷ []) us) h).1 in
    let all = apart (before ++ u ∷ []) us n t rest e in
    (and_parts (list_all (has_other_name t) before) (list_all (has_other_name t) (u ∷ [])) (sym (list_all-append (has_other_name t) before (u ∷ [])) ∙ all)).0

not_true : (b : Bool) → not b ≡ true → b ≡ false
not_true true e = cc
not_true false e = refl

same_bytes : (xs : List ℕ) → bytes_eq xs xs ≡ true
same_bytes xs = (bytes_eq-Decides xs xs).1 refl

first_place : (before ts : List NamedType) (i : ℕ) (t : NamedType) → are_types_behind before ts ≡ true → slice_get ts i ≡ Some t
    → position_or_len (is_called t) ts ≡ i
first_place before [] i t h e = cc
first_place before (u ∷ us) zero t h e =
    let same : u ≡ t = cc in
    let own : is_called t u ≡ true = subst (λ x. is_called t x ≡ true) (sym same) (same_bytes (lower (type_name t))) in
    rw own refl
first_place before (u ∷ us) (suc n) t h e =
    let rest = (and_parts (is_next_type before u) (are_types_behind (before ++ u ∷ []) us) h).1 in
    let all = apart (before ++ u ∷ []) us n t rest e in
    let last = (and_parts (list_all (has_other_name t) before) (list_all (has_other_name t) (u ∷ []))
    (sym (list_all-append (has_other_name t) before (u ∷ [])) ∙ all)).1 in
    let other = not_true (is_called t u) ((and_parts (has_other_name t u) true last).0) in
    let there = first_place (before ++ u ∷ []) us n t rest e in
    rw (other, there) (omega arith)

own_place : (types : List NamedType) (place : ℕ) (t : NamedType) → AreTypes types → slice_get types place ≡ Some t
    → place_named types (type_name t) ≡ Some place
own_place types place t a e =
    let first = first_place [] types place t a.each e in
    let within = lt-ltb place (length types) (slice_get_within types place t e) in
    rw (first, within) refl

-- the text of a named type is read as its name
read_name : (types : List NamedType) (place : ℕ) (t : NamedType) → AreTypes types → slice_get types place ≡ Some t
    → type_text_of (type_name t) ≡ Some (record { ends = []; elem = NamedText (type_name t) })
read_name types place (Structure name ms) a e =
    let text = type_text-named types place (Structure name ms) e in
    let own : name_at types place ≡ name = rw e refl in
    let shape : is_shape types (One (Struct place)) ≡ true = rw e refl in
    ap type_text_of (sym text) ∙ read_back types (One (Struct place)) a shape ∙ ap (λ n. Some (record { ends = []; elem = NamedText n })) own
read_name types place (Enumeration name base values) a e =
    let text = type_text-named types place (Enumeration name base values) e in
    let own : name_at types place ≡ name = rw e refl in
    let shape : is_shape types (One (Enum place)) ≡ true = rw e refl in
    ap type_text_of (sym text) ∙ read_back types (One (Enum place)) a shape ∙ ap (λ n. Some (record { ends = []; elem = NamedText n })) own

listed_entry : (types : List NamedType) (place : ℕ) (t : NamedType) → AreTypes types → slice_get types place ≡ Some t
    → entry_by_type (tree_at (trees_of types) place) ∷ [] ≡ entry_of_type (tree_at (trees_of types) place)
listed_entry types place (Structure name ms) a e = let there = (stands_at types place (Structure name ms) a e).tree in rw there refl
listed_entry types place (Enumeration name base values) a e =
    let there = (stands_at types place (Enumeration name base values) a e).tree in rw there refl

pub named_types_are_listed : NamedTypesAreListed
unfolding tree_of_text shape_of_text
named_types_are_listed types place t a e = record {
  found = ap (λ o. option_and_then if_small (option_map (tree_of types) (option_and_then (shape_named types) o))) (read_name types place t a e)
      ∙ ap (λ o. option_and_then if_small (option_map (tree_of types) (option_map (shape_with []) (option_map (elem_at types) o))))
      (own_place types place t a e)
      ∙ ap if_small (elem_at-tree types place) ∙ small_named types place t a e;
  entry = listed_entry types place t a e;
}
