-- The shape that a type text names is one that a description may have.
use Rattle.std.proofs.Common.{◌≡◌, ℕ, zero, suc, ◌-◌, ◌<◌, Bool, true, List, [], ◌∷◌, length, map, take, drop, refl, subst, arith, inl, inr}
use Rattle.std.specs.Prelude.{Option, Some, None, is_some, option_map, option_and_then, if◌then◌else◌, ◌&&◌}
use Rattle.std.specs.Prelude.{◌==◌, not, nat_le, nat_lt, codes, slice_get, slice_index}
use Rattle.std.specs.List.{list_all, before_first, position_or_len}
use Rattle.std.proofs.lemmas.Bool.{cases_Bool, and_parts, ltb-true, lt-ltb}
use Rattle.std.proofs.lemmas.List.{length-map}
use Rattle.name_paths.specs.Number.{is_decimal, number_of_digits}
use Rattle.spec_plant.specs.Listed.{Elem, Plain, Text, Shape, NamedType, Structure, Enumeration, type_name}
use Rattle.spec_plant.specs.TypeTexts.{Ends, ElemText, PlainText, StringText, NamedText, TypeText}
use Rattle.spec_plant.specs.TypeTexts.{type_text_of, array_text_of, array_elem_of, elem_text_of, other_elem_of}
use Rattle.spec_plant.specs.TypeTexts.{string_length_of, named_text_of, kind_named, is_same_word, is_closing}
use Rattle.spec_plant.specs.TypeTexts.{dimensions_of}
use Rattle.spec_plant.specs.AcceptedTypes.{is_shape, is_elem, is_bound, are_bounds}
use Rattle.spec_plant.specs.Shapes.{place_named, elem_at, elem_named, shape_with, shape_named, shape_of_text, bound_between}
use Rattle.spec_plant.proofs.ShapesRead.{both_true, AreDimensions, dimensions_of-good, bounds_between-good}

-- the length of a text type is in range
abbrev pub good_elem : ElemText → Bool
good_elem (PlainText kind) = true
good_elem (StringText n) = nat_le n 65534
good_elem (NamedText name) = true

string_length_of-good : (text : List ℕ) (n : ℕ) → string_length_of text ≡ Some n → nat_le n 65534 ≡ true
string_length_of-good text n h =
    let digits = take (length text - 1) text in
    elim (cases_Bool ((slice_index text (length text - 1) == 41) && (is_decimal digits && nat_le (number_of_digits digits) 65534))) [
      | inl t ↦
          let f : Some (number_of_digits digits) ≡ Some n = rw t at h in
          let same : number_of_digits digits ≡ n = cc in
          let inner = (and_parts (slice_index text (length text - 1) == 41) (is_decimal digits && nat_le (number_of_digits digits) 65534) t).1 in
          let small = (and_parts (is_decimal digits) (nat_le (number_of_digits digits) 65534) inner).1 in
          let P : ℕ → Type 0 = λ m. nat_le m 65534 ≡ true in
          subst P same small
      | inr t ↦ let f = rw t at h in cc
    ]

named_text_of-good : (text : List ℕ) (e : ElemText) → named_text_of text ≡ Some e → good_elem e ≡ true
named_text_of-good text e h =
    elim (cases_Bool (Rattle.name_paths.specs.Identifier.is_identifier text
    && list_all (λ word. not (is_same_word word text)) (codes "ARRAY" ∷ codes "OF" ∷ []))) [
      | inl t ↦
          let f : Some (NamedText text) ≡ Some e = rw t at h in
          let same : NamedText text ≡ e = cc in
          let P : ElemText → Type 0 = λ x. good_elem x ≡ true in
          subst P same refl
      | inr t ↦ let f = rw t at h in cc
    ]

other_elem_of-good : (text : List ℕ) (e : ElemText) → other_elem_of text ≡ Some e → good_elem e ≡ true
other_elem_of-good text e h =
    elim (cases_Bool (is_same_word text (codes "STRING"))) [
      | inl t ↦
          let f : Some (StringText 80) ≡ Some e = rw t at h in
          let same : StringText 80 ≡ e = cc in
          let P : ElemText → Type 0 = λ x. good_elem x ≡ true in
          subst P same refl
      | inr t ↦
          elim (cases_Bool (is_same_word (take 7 text) (codes "STRING("))) [
            | inl s ↦ lengths (string_length_of (drop 7 text)) refl (rw (t, s) at h)
            | inr s ↦ named_text_of-good text e (rw (t, s) at h)
          ]
    ]
  where
    lengths : (o : Option ℕ) → string_length_of (drop 7 text) ≡ o → option_map StringText o ≡ Some e → good_elem e ≡ true
    lengths None q f = cc
    lengths (Some n) q f =
        let same : StringText n ≡ e = cc in
        let P : ElemText → Type 0 = λ x. good_elem x ≡ true in
        subst P same (string_length_of-good (drop 7 text) n q)

elem_text_of-good : (text : List ℕ) (e : ElemText) → elem_text_of text ≡ Some e → good_elem e ≡ true
elem_text_of-good text e h = kinds (kind_named text) refl h
  where
    kinds : (o : Option Rattle.spec_plant.specs.Plain.Kind) → kind_named text ≡ o
        → (if is_some o then option_map PlainText o else other_elem_of text) ≡ Some e → good_elem e ≡ true
    kinds None q f = other_elem_of-good text e f
    kinds (Some k) q f =
        let same : PlainText k ≡ e = cc in
        let P : ElemText → Type 0 = λ x. good_elem x ≡ true in
        subst P same refl

-- a type text with at most three good dimensions and a good element
pub record IsGoodText (t : TypeText) : Type 0 where
  pub ends : AreDimensions t.ends
  pub elem_ : good_elem t.elem ≡ true

array_elem_of-good : (text : List ℕ) (e : ElemText) → array_elem_of text ≡ Some e → good_elem e ≡ true
array_elem_of-good text e h =
    elim (cases_Bool (is_same_word (take 5 text) (codes "] OF "))) [
      | inl t ↦ elem_text_of-good (drop 5 text) e (rw t at h)
      | inr t ↦ let f = rw t at h in cc
    ]

array_text_of-good : (text : List ℕ) (t : TypeText) → array_text_of text ≡ Some t → IsGoodText t
array_text_of-good text t h = dims (dimensions_of inside) refl h
  where
    inside : List ℕ
    inside = before_first is_closing text

    behind : List ℕ
    behind = drop (length inside) text

    elems : (es : List Ends) (o : Option ElemText) → AreDimensions es → array_elem_of behind ≡ o
        → option_map (λ e. record { ends = es; elem = e }) o ≡ Some t → IsGoodText t
    elems es None a q f = cc
    elems es (Some e) a q f =
        let whole : TypeText = record { ends = es; elem = e } in
        let same : whole ≡ t = cc in
        let P : TypeText → Type 0 = λ x. IsGoodText x in
        subst P same (record { ends = a; elem_ = array_elem_of-good behind e q })

    dims : (o : Option (List Ends)) → dimensions_of inside ≡ o
        → option_and_then (λ es. option_map (λ e. record { ends = es; elem = e }) (array_elem_of behind)) o ≡ Some t → IsGoodText t
    dims None q f = cc
    dims (Some es) q f = elems es (array_elem_of behind) (dimensions_of-good inside es q) refl f

pub type_text_of-good : (text : List ℕ) (t : TypeText) → type_text_of text ≡ Some t → IsGoodText t
type_text_of-good text t h =
    elim (cases_Bool (is_same_word (take 7 text) (codes "ARRAY ["))) [
      | inl s ↦ array_text_of-good (drop 7 text) t (rw s at h)
      | inr s ↦ elems (elem_text_of text) refl (rw s at h)
    ]
  where
    elems : (o : Option ElemText) → elem_text_of text ≡ o → option_map (λ e. record { ends = []; elem = e }) o ≡ Some t → IsGoodText t
    elems None q f = cc
    elems (Some e) q f =
        let whole : TypeText = record { ends = []; elem = e } in
        let same : whole ≡ t = cc in
        let P : TypeText → Type 0 = λ x. IsGoodText x in
        subst P same (record { ends = record { each = refl; few = refl }; elem_ = elem_text_of-good text e q })

slice_get-some : {X : Type 0} (xs : List X) (i : ℕ) → i < length xs → (x : X) × (slice_get xs i ≡ Some x)
slice_get-some [] i h = absurd (omega arith)
slice_get-some (x ∷ xs) zero h = (x, refl)
slice_get-some (x ∷ xs) (suc i) h = slice_get-some xs i (omega arith)

-- the type at a place is a structure or an enumeration
elem_at-good : (types : List NamedType) (p : ℕ) → p < length types → is_elem types (elem_at types p) ≡ true
elem_at-good types p h = let there = slice_get-some types p h in go (there.0) (there.1)
  where
    go : (t : NamedType) → slice_get types p ≡ Some t → is_elem types (elem_at types p) ≡ true
    go (Structure name ms) e = rw e (rw e refl)
    go (Enumeration name base values) e = rw e (rw e refl)

place_named-lt : (types : List NamedType) (name : List ℕ) (p : ℕ) → place_named types name ≡ Some p → p < length types
place_named-lt types name p h =
    let first = position_or_len (λ t. is_same_word (type_name t) name) types in
    elim (cases_Bool (nat_lt first (length types))) [
      | inl t ↦
          let f : Some first ≡ Some p = rw t at h in
          let same : first ≡ p = cc in
          let below = ltb-true first (length types) t in
          omega (arith, below, same)
      | inr t ↦ let f = rw t at h in cc
    ]

elem_named-good : (types : List NamedType) (e : ElemText) (x : Elem) → good_elem e ≡ true → elem_named types e ≡ Some x → is_elem types x ≡ true
elem_named-good types (PlainText k) x g h =
    let same : Plain k ≡ x = cc in
    let P : Elem → Type 0 = λ y. is_elem types y ≡ true in
    subst P same refl
elem_named-good types (StringText n) x g h =
    let same : Text n ≡ x = cc in
    let P : Elem → Type 0 = λ y. is_elem types y ≡ true in
    subst P same g
elem_named-good types (NamedText name) x g h = go (place_named types name) refl h
  where
    go : (o : Option ℕ) → place_named types name ≡ o → option_map (elem_at types) o ≡ Some x → is_elem types x ≡ true
    go None q f = cc
    go (Some p) q f =
        let same : elem_at types p ≡ x = cc in
        let P : Elem → Type 0 = λ y. is_elem types y ≡ true in
        subst P same (elem_at-good types p (place_named-lt types name p q))

shape_with-good : (types : List NamedType) (es : List Ends) (x : Elem) → AreDimensions es → is_elem types x ≡ true → is_shape types (shape_with es x) ≡ true
shape_with-good types [] x d h = h
shape_with-good types (e ∷ es) x d h =
    let some : nat_lt 0 (length (map bound_between (e ∷ es))) ≡ true = lt-ltb 0 (length (map bound_between (e ∷ es))) (omega arith) in
    let few : nat_le (length (map bound_between (e ∷ es))) 3 ≡ true = rw (length-map (e ∷ es) bound_between) d.few in
    let bounds = bounds_between-good (e ∷ es) d.each in
    both_true (are_bounds (map bound_between (e ∷ es))) (is_elem types x)
    (both_true (nat_lt 0 (length (map bound_between (e ∷ es))) && nat_le (length (map bound_between (e ∷ es))) 3)
    (list_all is_bound (map bound_between (e ∷ es)))
    (both_true (nat_lt 0 (length (map bound_between (e ∷ es)))) (nat_le (length (map bound_between (e ∷ es))) 3) some few) bounds)
    h

-- a type that a text names
pub shape_of_text-good : (types : List NamedType) (text : List ℕ) (s : Shape) → shape_of_text types text ≡ Some s → is_shape types s ≡ true
unfolding shape_of_text
shape_of_text-good types text s h = texts (type_text_of text) refl h
  where
    elems : (t : TypeText) (o : Option Elem) → IsGoodText t → elem_named types t.elem ≡ o → option_map (shape_with t.ends) o ≡ Some s → is_shape types s ≡ true
    elems t None g q f = cc
    elems t (Some x) g q f =
        let same : shape_with t.ends x ≡ s = cc in
        let P : Shape → Type 0 = λ y. is_shape types y ≡ true in
        subst P same (shape_with-good types t.ends x g.ends (elem_named-good types t.elem x g.elem_ q))

    texts : (o : Option TypeText) → type_text_of text ≡ o → option_and_then (shape_named types) o ≡ Some s → is_shape types s ≡ true
    texts None q f = cc
    texts (Some t) q f = elems t (elem_named types t.elem) (type_text_of-good text t q) refl f
