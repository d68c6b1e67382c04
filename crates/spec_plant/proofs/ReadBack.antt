-- The canonical text of an accepted type is read back.
use Rattle.std.proofs.Common.{◌≡◌, ℕ, zero, suc, ◌+◌, ◌-◌, ◌^◌, ◌<◌, ◌≤◌, Bool, true, false, List, [], ◌∷◌}
use Rattle.std.proofs.Common.{◌++◌, length, map, take, refl, sym, ◌∙◌, ap, arith, append_assoc, inl, inr}
use Rattle.std.proofs.Common.{length-append}
use Rattle.std.specs.Prelude.{Option, Some, None, ◌==◌, ◌&&◌, ◌||◌, not, nat_le, nat_lt, find, codes, slice_get, slice_index}
use Rattle.std.specs.Option.{option_map_or}
use Rattle.std.specs.List.{list_all}
use Rattle.std.specs.Fmt.{decimal}
use Rattle.std.specs.Int.{is_in_range}
use Rattle.std.specs.Char.{to_ascii_lowercase}
use Rattle.std.proofs.lemmas.Bool.{cases_Bool, and_parts, leb-true, le-leb, ltb-true, ltb-false}
use Rattle.std.proofs.lemmas.List.Folds.{list_all-append}
use Rattle.std.proofs.lemmas.Slice.Eq.{bytes_eq-Decides}
use Rattle.name_paths.specs.Identifier.{is_identifier, is_identifier_byte, is_identifier_start, lower}
use Rattle.spec_plant.specs.Plain.{Kind, BOOL, SINT, USINT, BYTE, INT, UINT, WORD, DINT, UDINT, DWORD, TIME}
use Rattle.spec_plant.specs.Plain.{LINT, ULINT, LWORD, REAL, LREAL, kind_name, all_kinds}
use Rattle.spec_plant.specs.Listed.{Bound, Elem, Plain, Text, Struct, Enum, One, Array, NamedType, type_name, is_structure, is_enumeration}
use Rattle.spec_plant.specs.Trees.{trees_of, tree_at, elem_tree}
use Rattle.spec_plant.specs.Spelling.{type_text, bound_text, joined_by_comma}
use Rattle.spec_plant.specs.TypeTexts.{PlainText, StringText, NamedText, TypeText, is_same_word, is_closing}
use Rattle.spec_plant.specs.TypeTexts.{kind_named, string_length_of, named_text_of, other_elem_of}
use Rattle.spec_plant.specs.TypeTexts.{elem_text_of, array_elem_of, array_text_of, type_text_of}
use Rattle.spec_plant.specs.AcceptedTypes.{AreTypes, is_elem, are_bounds, is_type_name, differ}
use Rattle.spec_plant.specs.WrittenTypes.{name_at, written_elem, ends_of_bound, IsReadBack}
use Rattle.spec_plant.proofs.NumberTexts.{decimal-digits, is_decimal-decimal}
use Rattle.spec_plant.proofs.TypeTextLemmas.{take-front, drop-front, before-stop, joined-free, dimensions_of-bounds}
use Rattle.spec_plant.proofs.TypeLemmas.{stands_at, type_text-named}

-- an element's text is read back, and does not begin as an array's does
record IsElemText (text : List ℕ) (e : Rattle.spec_plant.specs.TypeTexts.ElemText) : Type 0 where
  read : elem_text_of text ≡ Some e
  no_array : is_same_word (take 7 text) (codes "ARRAY [") ≡ false

plain_text : (k : Kind) → IsElemText (kind_name k) (PlainText k)
plain_text BOOL = record { read = refl; no_array = refl }
plain_text SINT = record { read = refl; no_array = refl }
plain_text USINT = record { read = refl; no_array = refl }
plain_text BYTE = record { read = refl; no_array = refl }
plain_text INT = record { read = refl; no_array = refl }
plain_text UINT = record { read = refl; no_array = refl }
plain_text WORD = record { read = refl; no_array = refl }
plain_text DINT = record { read = refl; no_array = refl }
plain_text UDINT = record { read = refl; no_array = refl }
plain_text DWORD = record { read = refl; no_array = refl }
plain_text TIME = record { read = refl; no_array = refl }
plain_text LINT = record { read = refl; no_array = refl }
plain_text ULINT = record { read = refl; no_array = refl }
plain_text LWORD = record { read = refl; no_array = refl }
plain_text REAL = record { read = refl; no_array = refl }
plain_text LREAL = record { read = refl; no_array = refl }

slice_index-front : (xs ys : List ℕ) (s : ℕ) → slice_index (xs ++ s ∷ ys) (length xs) ≡ s
slice_index-front [] ys s = refl
slice_index-front (x ∷ xs) ys s = slice_index-front xs ys s

string_length : (n : ℕ) → n ≤ 65534 → string_length_of (decimal n ++ 41 ∷ []) ≡ Some n
string_length n h =
    let wide : n < 2 ^ 64 = omega (arith, h) in
    let less : length (decimal n ++ 41 ∷ []) - 1 ≡ length (decimal n) = simp length-append (omega arith) in
    let last = slice_index-front (decimal n) [] 41 in
    let front = take-front (decimal n) (41 ∷ []) in
    let value = (decimal-digits n wide).value in
    rw (less, last, front, is_decimal-decimal n wide, value, le-leb n 65534 h) refl

string_text : (n : ℕ) → n ≤ 65534 → IsElemText (codes "STRING(" ++ decimal n ++ codes ")") (StringText n)
string_text n h =
    let whole : codes "STRING(" ++ decimal n ++ codes ")" ≡ codes "STRING(" ++ (decimal n ++ 41 ∷ []) = append_assoc (codes "STRING(") (decimal n) (41 ∷ []) in
    rw whole (record { read = rw (string_length n h) refl; no_array = refl })

-- bytes of identifiers stay such in lower case
third_of : (a b c d : Bool) → c ≡ true → (((a || b) || c) || d) ≡ true
third_of true b c d e = refl
third_of false true c d e = refl
third_of false false true d e = refl
third_of false false false d e = cc

identifier_byte-lower : (c : ℕ) → is_identifier_byte c ≡ true → is_identifier_byte (to_ascii_lowercase c) ≡ true
identifier_byte-lower c h =
    elim (cases_Bool (nat_lt c 65)) [
      | inl t ↦ rw t h
      | inr t ↦ elim (cases_Bool (nat_lt c 91)) [
        | inl s ↦
            let low = ltb-false c 65 t in
            let high = ltb-true c 91 s in
            let in_range : (nat_le 97 (c + 32) && nat_le (c + 32) 122) ≡ true =
            rw (le-leb 97 (c + 32) (omega (arith, low)), le-leb (c + 32) 122 (omega (arith, high))) refl in
            rw (t, s) (third_of (is_in_range 48 57 (c + 32)) (is_in_range 65 90 (c + 32)) (is_in_range 97 122 (c + 32)) ((c + 32) == 95) in_range)
        | inr s ↦ rw (t, s) h
      ]
    ]

identifier_bytes-lower : (xs : List ℕ) → list_all is_identifier_byte xs ≡ true → list_all is_identifier_byte (lower xs) ≡ true
identifier_bytes-lower [] h = refl
identifier_bytes-lower (x ∷ xs) h =
    let parts = and_parts (is_identifier_byte x) (list_all is_identifier_byte xs) h in
    rw (identifier_byte-lower x (parts.0), identifier_bytes-lower xs (parts.1)) refl

identifier_bytes-take : (n : ℕ) (xs : List ℕ) → list_all is_identifier_byte xs ≡ true → list_all is_identifier_byte (take n xs) ≡ true
identifier_bytes-take zero xs h = refl
identifier_bytes-take (suc n) [] h = refl
identifier_bytes-take (suc n) (x ∷ xs) h =
    let parts = and_parts (is_identifier_byte x) (list_all is_identifier_byte xs) h in
    rw (parts.0, identifier_bytes-take n xs (parts.1)) refl

-- a word with another byte is none that an identifier begins with
other_word : (xs w : List ℕ) → list_all is_identifier_byte xs ≡ true → list_all is_identifier_byte (lower w) ≡ false → is_same_word xs w ≡ false
other_word xs w h none =
    elim (cases_Bool (is_same_word xs w)) [
      | inl t ↦
          let same : lower xs ≡ lower w = (bytes_eq-Decides (lower xs) (lower w)).0 t in
          let all : list_all is_identifier_byte (lower xs) ≡ true = identifier_bytes-lower xs h in
          let equal : list_all is_identifier_byte (lower xs) ≡ list_all is_identifier_byte (lower w) = ap (list_all is_identifier_byte) same in
          cc
      | inr t ↦ t
    ]

wider : (a b c d : Bool) → ((b || c) || d) ≡ true → (((a || b) || c) || d) ≡ true
wider true b c d e = refl
wider false b c d e = e

start_is_byte : (c : ℕ) → is_identifier_start c ≡ true → is_identifier_byte c ≡ true
start_is_byte c h = wider (is_in_range 48 57 c) (is_in_range 65 90 c) (is_in_range 97 122 c) (c == 95) h

identifier-bytes : (name : List ℕ) → is_identifier name ≡ true → list_all is_identifier_byte name ≡ true
identifier-bytes [] h = cc
identifier-bytes (c ∷ cs) h =
    let parts = and_parts (is_identifier_start c) (list_all is_identifier_byte cs) h in
    rw (start_is_byte c (parts.0), parts.1) refl

-- words that differ, in the order in which the texts are compared
same_word-comm : (a b : List ℕ) → is_same_word a b ≡ is_same_word b a
same_word-comm a b =
    elim (cases_Bool (is_same_word a b)) [
      | inl t ↦
          let same : lower a ≡ lower b = (bytes_eq-Decides (lower a) (lower b)).0 t in
          let back : is_same_word b a ≡ true = (bytes_eq-Decides (lower b) (lower a)).1 (sym same) in
          t ∙ sym back
      | inr f ↦ elim (cases_Bool (is_same_word b a)) [
        | inl t ↦
            let same : lower b ≡ lower a = (bytes_eq-Decides (lower b) (lower a)).0 t in
            let back : is_same_word a b ≡ true = (bytes_eq-Decides (lower a) (lower b)).1 (sym same) in
            cc
        | inr g ↦ f ∙ sym g
      ]
    ]

not_same : (name w : List ℕ) → differ name w ≡ true → is_same_word w name ≡ false
not_same name w h = same_word-comm w name ∙ other (is_same_word name w) h
  where
    other : (b : Bool) → not b ≡ true → b ≡ false
    other true e = cc
    other false e = refl

no_kind : (name : List ℕ) (ks : List Kind) → list_all (differ name) (map kind_name ks) ≡ true → find (λ k. is_same_word (kind_name k) name) ks ≡ None
no_kind name [] h = refl
no_kind name (k ∷ ks) h =
    let parts = and_parts (differ name (kind_name k)) (list_all (differ name) (map kind_name ks)) h in
    rw (not_same name (kind_name k) (parts.0)) (no_kind name ks (parts.1))

named_text : (name : List ℕ) → is_type_name name ≡ true → IsElemText name (NamedText name)
named_text name h =
    let outer = and_parts _ _ h in
    let identifier = (and_parts (is_identifier name) (nat_le (length name) 255) (outer.0)).0 in
    let bytes = identifier-bytes name identifier in
    let split = list_all-append (differ name) (map kind_name all_kinds) (codes "STRING" ∷ codes "ARRAY" ∷ codes "OF" ∷ []) in
    let words : (list_all (differ name) (map kind_name all_kinds) && list_all (differ name) (codes "STRING" ∷ codes "ARRAY" ∷ codes "OF" ∷ [])) ≡ true =
    sym split ∙ outer.1 in
    let both = and_parts _ _ words in
    let none : kind_named name ≡ None = no_kind name all_kinds (both.0) in
    let string = and_parts (differ name (codes "STRING")) (list_all (differ name) (codes "ARRAY" ∷ codes "OF" ∷ [])) (both.1) in
    let array = and_parts (differ name (codes "ARRAY")) (list_all (differ name) (codes "OF" ∷ [])) (string.1) in
    let of = and_parts (differ name (codes "OF")) true (array.1) in
    let no_string : is_same_word name (codes "STRING") ≡ false = same_word-comm name (codes "STRING") ∙ not_same name (codes "STRING") (string.0) in
    let begin = identifier_bytes-take 7 name bytes in
    let no_length : is_same_word (take 7 name) (codes "STRING(") ≡ false = other_word (take 7 name) (codes "STRING(") begin refl in
    let no_array : is_same_word (take 7 name) (codes "ARRAY [") ≡ false = other_word (take 7 name) (codes "ARRAY [") begin refl in
    let not_of : is_same_word (codes "OF") name ≡ false = not_same name (codes "OF") (of.0) in
    let not_array : is_same_word (codes "ARRAY") name ≡ false = not_same name (codes "ARRAY") (array.0) in
    let written : named_text_of name ≡ Some (NamedText name) = rw (identifier, not_array, not_of) refl in
    let other : other_elem_of name ≡ Some (NamedText name) = rw (no_string, no_length) written in
    record { read = rw none other; no_array = no_array }

-- the name of the type at a place
named_at : (P : NamedType → Bool) (types : List NamedType) (place : ℕ) → AreTypes types → option_map_or P (slice_get types place) false ≡ true
    → IsElemText (type_text (tree_at (trees_of types) place)) (NamedText (name_at types place))
named_at P types place a h = go (slice_get types place) refl h
  where
    go : (o : Option NamedType) → slice_get types place ≡ o → option_map_or P o false ≡ true
        → IsElemText (type_text (tree_at (trees_of types) place)) (NamedText (option_map_or type_name o []))
    go None e f = cc
    go (Some t) e f =
        let there = stands_at types place t a e in
        let text = type_text-named types place t e in
        rw text (named_text (type_name t) there.name)

elem_text : (types : List NamedType) (e : Elem) → AreTypes types → is_elem types e ≡ true
    → IsElemText (type_text (elem_tree (trees_of types) e)) (written_elem types e)
unfolding type_text
elem_text types (Plain k) a h = plain_text k
elem_text types (Text n) a h = string_text n (leb-true n 65534 h)
elem_text types (Struct p) a h = named_at is_structure types p a h
elem_text types (Enum p) a h = named_at is_enumeration types p a h

-- an array's text, in the parts in which it is read
array_text : (bs : List Bound) (text : List ℕ) (e : Rattle.spec_plant.specs.TypeTexts.ElemText) → are_bounds bs ≡ true → IsElemText text e
    → type_text_of (codes "ARRAY [" ++ joined_by_comma (map bound_text bs) ++ codes "] OF " ++ text) ≡ Some (record { ends = map ends_of_bound bs; elem = e })
array_text [] text e h t = cc
array_text (b ∷ bs) text e h t =
    let joined = joined_by_comma (map bound_text (b ∷ bs)) in
    let rest = codes " OF " ++ text in
    let good = (and_parts _ _ h).1 in
    let whole : codes "ARRAY [" ++ joined ++ codes "] OF " ++ text ≡ codes "ARRAY [" ++ (joined ++ 93 ∷ rest)
    = append_assoc (codes "ARRAY [" ++ joined) (codes "] OF ") text ∙ append_assoc (codes "ARRAY [") joined (codes "] OF " ++ text) in
    let free = joined-free b bs good in
    let before = before-stop is_closing joined rest 93 free refl in
    let behind = drop-front joined (93 ∷ rest) in
    let read = t.read in
    let inner : array_text_of (joined ++ 93 ∷ rest) ≡ Some (record { ends = map ends_of_bound (b ∷ bs); elem = e })
    = rw (before, behind, dimensions_of-bounds (b ∷ bs) h, read) refl in
    rw whole inner

pub read_back : IsReadBack
unfolding type_text
read_back types (One e) a h =
    let text = elem_text types e a h in
    rw (text.no_array, text.read) refl
read_back types (Array bs e) a h =
    let parts = and_parts (are_bounds bs) (is_elem types e) h in
    array_text bs (type_text (elem_tree (trees_of types) e)) (written_elem types e) (parts.0) (elem_text types e a (parts.1))
