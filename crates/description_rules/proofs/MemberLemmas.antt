-- Members beside the names of the types before, and beside those types.
use Rattle.std.proofs.Common.{◌≡◌, ℕ, suc, Bool, true, false, cond, not, ◌&&◌, ◌||◌, List, [], ◌∷◌, ◌++◌, refl}
use Rattle.std.proofs.Common.{ap, sym, ◌∙◌, is_some, Option, Some, None, option_map}
use Rattle.std.specs.Prelude.{bytes_eq}
use Rattle.std.specs.Option.{option_map_or}
use Rattle.std.specs.List.{list_all, list_any}
use Rattle.std.proofs.lemmas.List.Folds.{list_all-append}
use Rattle.name_paths.specs.Identifier.{lower}
use Rattle.spec_plant.specs.AcceptedTypes.{differ, is_short_identifier, is_comment}
use Rattle.spec_plant.specs.TypeTexts.{ElemText, PlainText, StringText, NamedText, TypeText, type_text_of, is_same_word}
use Rattle.spec_rules.specs.Written.{WrittenMember, WrittenType, written_name, written_members}
use Rattle.spec_rules.specs.Places.{first_wrong}
use Rattle.spec_plant.specs.Shapes.{shape_of_text}
use Rattle.spec_rules.specs.Described.{types_described}
use Rattle.spec_rules.specs.TypeRules.{is_right_member, wrong_member_of}
use Rattle.description_rules.specs.NameStarts.{IsAdded}
use Rattle.description_rules.specs.NextMember.{names_only_in, is_type_in, is_right_named, wrong_member_in, AreTypeNames}
use Rattle.description_rules.specs.TypeNames.{names_only}
use Rattle.description_rules.proofs.NameLemmas.{is_some-shape_of_text}

abbrev pub member_name : WrittenMember → List ℕ
member_name m = m.name

not_all : {X : Type 0} (p : X → Bool) (xs : List X) → not (list_all (λ x. not (p x)) xs) ≡ list_any p xs
not_all p [] = refl
not_all p (x ∷ xs) = either (p x) (list_all (λ x. not (p x)) xs) ∙ ap (λ b. p x || b) (not_all p xs)
  where
    either : (a b : Bool) → not (not a && b) ≡ (a || not b)
    either true b = refl
    either false b = refl

module _ (types : List WrittenType) (names : List (List ℕ)) (named : AreTypeNames types names) where
  same_elem : (elem : ElemText) → names_only_in names elem ≡ names_only types elem
  same_elem (PlainText kind) = refl
  same_elem (StringText n) = refl
  same_elem (NamedText name) = ap not (named (lower name)) ∙ not_all (λ t. is_same_word (written_name t) name) types

  same_text : (o : Option TypeText)
      → option_map_or (λ (t : TypeText). names_only_in names t.elem) o false ≡ option_map_or (λ (t : TypeText). names_only types t.elem) o false
  same_text None = refl
  same_text (Some t) = same_elem t.elem

  same_type : (text : List ℕ) → is_type_in names text ≡ is_some (shape_of_text (types_described types) text)
  same_type text = same_text (type_text_of text) ∙ is_some-shape_of_text types text

  with_last : (x : Bool) → (x && true) ≡ x
  with_last true = refl
  with_last false = refl

  moved : (a l c s : Bool) → (((a && c) && s) && l) ≡ (((a && l) && c) && s)
  moved true true c s = with_last (c && s)
  moved true false true true = refl
  moved true false true false = refl
  moved true false false s = refl
  moved false l c s = refl

  same_member : (before : List WrittenMember) (m : WrittenMember) → is_right_named names before m ≡ is_right_member (types_described types) before m
  same_member before m =
      let others = list_all (λ (e : WrittenMember). differ e.name m.name) before in
      ap (λ b. ((is_short_identifier m.name && is_comment m.comment) && b) && others) (same_type m.type)
      ∙ moved (is_short_identifier m.name) others (is_comment m.comment) (is_some (shape_of_text (types_described types) m.type))

  same_first : (before ms : List WrittenMember) → first_wrong (is_right_named names) before ms ≡ first_wrong (is_right_member (types_described types)) before ms
  same_first before [] = refl
  same_first before (m ∷ ms) =
      ap (λ b. cond b (option_map suc (first_wrong (is_right_named names) (before ++ m ∷ []) ms)) (Some 0)) (same_member before m)
      ∙ ap (λ place. cond (is_right_member (types_described types) before m) (option_map suc place) (Some 0)) (same_first (before ++ m ∷ []) ms)

  -- the first wrong member, by the names of the types before
  pub wrong_member-named : (t : WrittenType) → wrong_member_in names t ≡ wrong_member_of types t
  wrong_member-named t = same_first [] (written_members t)

pub type_names-none : AreTypeNames [] []
type_names-none = λ text. refl

pub type_names-more : (types more_types : List WrittenType) (t : WrittenType) (names more : List (List ℕ)) → AreTypeNames types names
    → IsAdded (lower (written_name t) ∷ []) names more → more_types ≡ types ++ t ∷ [] → AreTypeNames more_types more
type_names-more types more_types t names more named added e = λ text.
    added text ∙ ap (λ b. b && (not (bytes_eq (lower (written_name t)) text) && true)) (named text)
    ∙ sym (list_all-append (λ w. not (bytes_eq (lower (written_name w)) text)) types (t ∷ []))
    ∙ ap (list_all (λ w. not (bytes_eq (lower (written_name w)) text))) (sym e)
