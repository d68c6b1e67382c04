-- The names of a document's types, before and after they are built.
use Rattle.std.proofs.Common.{◌≡◌, ℕ, Bool, true, false, cond, List, [], ◌∷◌, ◌++◌, length, map, refl, ap, sym}
use Rattle.std.proofs.Common.{◌∙◌, arith, ◌+◌, ⊎_elim, append_assoc, append-nil, nat_lt, Option, Some, None}
use Rattle.std.proofs.Common.{is_some, option_map}
use Rattle.std.specs.Prelude.{option_and_then}
use Rattle.std.specs.Option.{option_map_or}
use Rattle.std.specs.Prelude.{position}
use Rattle.std.specs.List.{list_any, position_or_len}
use Rattle.std.proofs.lemmas.Bool.{cases_Bool, cases_lt, lt-ltb, le-ltb}
use Rattle.std.proofs.lemmas.List.{map-append}
use Rattle.spec_plant.specs.Listed.{NamedType, type_name}
use Rattle.spec_plant.specs.TypeTexts.{Ends, ElemText, PlainText, StringText, NamedText, TypeText, type_text_of, is_same_word}
use Rattle.spec_rules.specs.Written.{WrittenType, WrittenStructure, WrittenEnumeration, written_name}
use Rattle.spec_rules.specs.Described.{type_described, types_described, types_behind}
use Rattle.spec_plant.specs.Shapes.{place_named, elem_at, elem_named, shape_with, shape_named, shape_of_text}
use Rattle.description_rules.specs.TypeNames.{names_only, is_type_among}
use Rattle.description_rules.proofs.Mapped.{list_any-map}

is_some-cond : (b : Bool) (n : ℕ) → is_some (cond b (Some n) None) ≡ b
is_some-cond true n = refl
is_some-cond false n = refl

module _ {X : Type 0} (p : X → Bool) where
  reached_yes : (x : X) (xs : List X) → p x ≡ true → nat_lt (position_or_len p (x ∷ xs)) (length (x ∷ xs)) ≡ list_any p (x ∷ xs)
  reached_yes x xs e = rw e (lt-ltb 0 (length (x ∷ xs)) (omega arith))

  reached_no : (x : X) (xs : List X) → p x ≡ false → nat_lt (position_or_len p xs) (length xs) ≡ list_any p xs
      → nat_lt (position_or_len p (x ∷ xs)) (length (x ∷ xs)) ≡ list_any p (x ∷ xs)
  reached_no x xs e h =
      rw e (⊎_elim (λ k. lt-ltb (1 + position_or_len p xs) (length (x ∷ xs)) (omega arith) ∙ sym (lt-ltb (position_or_len p xs) (length xs) k) ∙ h)
      (λ k. le-ltb (1 + position_or_len p xs) (length (x ∷ xs)) (omega arith) ∙ sym (le-ltb (position_or_len p xs) (length xs) k) ∙ h)
      (cases_lt (position_or_len p xs) (length xs)))

  reached : (xs : List X) → nat_lt (position_or_len p xs) (length xs) ≡ list_any p xs
  reached [] = refl
  reached (x ∷ xs) = ⊎_elim (λ e. reached_yes x xs e) (λ e. reached_no x xs e (reached xs)) (cases_Bool (p x))

  -- a place is found where some element passes
  is_some-position : (xs : List X) → is_some (position p xs) ≡ list_any p xs
  is_some-position xs = is_some-cond (nat_lt (position_or_len p xs) (length xs)) (position_or_len p xs) ∙ reached xs

is_some-option_map : {A B : Type 0} (f : A → B) (o : Option A) → is_some (option_map f o) ≡ is_some o
is_some-option_map f None = refl
is_some-option_map f (Some x) = refl

type_name-described : (known : List NamedType) (w : WrittenType) → type_name (type_described known w) ≡ written_name w
type_name-described known (WrittenStructure name members) = refl
type_name-described known (WrittenEnumeration name base values) = refl

names-behind : (known : List NamedType) (ws : List WrittenType) → map type_name (types_behind known ws) ≡ map type_name known ++ map written_name ws
unfolding types_behind
names-behind known [] = sym (append-nil (map type_name known))
names-behind known (w ∷ ws) =
    let d = type_described known w in
    names-behind (known ++ d ∷ []) ws ∙ ap (λ (names : List (List ℕ)). names ++ map written_name ws) (map-append type_name known (d ∷ []))
    ∙ append_assoc (map type_name known) (type_name d ∷ []) (map written_name ws)
    ∙ ap (λ (name : List ℕ). map type_name known ++ name ∷ map written_name ws) (type_name-described known w)

names_only-built : (ws : List WrittenType) (ends : List Ends) (elem : ElemText)
    → names_only ws elem ≡ is_some (option_map (shape_with ends) (elem_named (types_described ws) elem))
names_only-built ws ends (PlainText kind) = refl
names_only-built ws ends (StringText n) = refl
names_only-built ws ends (NamedText name) =
    let types = types_described ws in
    let same = λ (other : List ℕ). is_same_word other name in
    sym (list_any-map same written_name ws) ∙ ap (list_any same) (sym (names-behind [] ws)) ∙ list_any-map same type_name types
    ∙ sym (is_some-position (λ t. is_same_word (type_name t) name) types)
    ∙ sym (is_some-option_map (elem_at types) (place_named types name))
    ∙ sym (is_some-option_map (shape_with ends) (option_map (elem_at types) (place_named types name)))

by_text : (ws : List WrittenType) (o : Option TypeText)
    → option_map_or (λ (t : TypeText). names_only ws t.elem) o false ≡ is_some (option_and_then (shape_named (types_described ws)) o)
by_text ws None = refl
by_text ws (Some t) = names_only-built ws t.ends t.elem

-- a text names a type among those that are built exactly where it names one among those that are written
pub is_some-shape_of_text : (ws : List WrittenType) (text : List ℕ) → is_type_among ws text ≡ is_some (shape_of_text (types_described ws) text)
unfolding shape_of_text
is_some-shape_of_text ws text = by_text ws (type_text_of text)
