-- The type that a text names, and its entry.
use Rattle.std.proofs.Common.{◌≡◌, ◌≢◌, ℕ, zero, suc, ◌-◌, ◌*◌, ◌<◌, ◌≤◌, List, [], ◌∷◌, ◌++◌, length, map, take, drop, true, false}
use Rattle.std.proofs.Common.{refl, sym, ◌∙◌, ap, subst, inl, inr, arith}
use Rattle.std.specs.Prelude.{Bool, Option, Some, None, is_some, option_map, option_and_then, nat_le, ◌==◌, ◌&&◌, ◌||◌, not}
use Rattle.std.specs.Prelude.{codes, slice_get, slice_index, if◌then◌else◌}
use Rattle.std.specs.List.{list_all, before_first}
use Rattle.std.specs.Prelude.{Result, Ok, Err, IfOk, OnOk, nat_lt, position}
use Rattle.std.proofs.lemmas.Bool.{cases_Bool, and_parts, eqb-true, eq-eqb, leb-true, le-leb, false≢true}
use Rattle.ads_base.specs.declared.no_memory.NoMemory.{NoMemory}
use Rattle.return_codes.specs.declared.code.Code.{Code}
use Rattle.return_codes.specs.declared.code.Code.TheVariants.{C705, C710}
use Rattle.std.proofs.lemmas.List.{append-nil, length-map}
use Rattle.name_index.proofs.CallerLemmas.{position-map}
use Rattle.name_paths.specs.Identifier.{is_identifier}
use Rattle.name_paths.specs.Number.{is_decimal, number_of_digits}
use Rattle.spec_plant.specs.Plain.{Kind, kind_id}
use Rattle.spec_plant.specs.Listed.{Bound, Elem, Plain, Text, Struct, Enum, One, Array, NamedType, Structure, Enumeration}
use Rattle.spec_plant.specs.Listed.{type_name, is_structure, is_enumeration}
use Rattle.spec_plant.specs.Trees.{TypeTree, PlainTree, TextTree, ArrayTree, elem_tree, tree_at, tree_of, trees_of}
use Rattle.spec_plant.specs.Sizes.{element_count, type_size}
use Rattle.spec_plant.specs.Spelling.{type_text}
use Rattle.spec_plant.specs.Entries.{type_id}
use Rattle.spec_plant.specs.AcceptedTypes.{AreTypes, IsSized, LIMIT, is_elem, is_bound, are_bounds}
use Rattle.spec_plant.specs.TypeTexts.{Ends, ElemText, PlainText, StringText, NamedText, TypeText, is_same_word, type_text_of}
use Rattle.spec_plant.proofs.SizeLemmas.{kind_size-bounds}
use Rattle.spec_plant.proofs.TypeLemmas.{named_there, stands_at}
use Rattle.spec_formats.specs.TypeEntry.{type_bytes, type_upload_bytes}
use Rattle.spec_formats.specs.TypeUpload.{entry_of_type}
use Rattle.spec_formats.specs.Ranges.{greatest_len}
use Rattle.spec_plant.specs.World.{PlantPort}
use Rattle.spec_machine.specs.World.{World}
use Rattle.spec_machine.specs.MoreActs.{if_type}
use Rattle.spec_plant.specs.Shapes.{place_named, elem_at, elem_named, bound_between, shape_with, shape_named}
use Rattle.spec_plant.proofs.ShapesRead.{both_true, AreDimensions, bounds_between-good}
use Rattle.spec_plant.proofs.TextsRead.{good_elem, type_text_of-good}
use Rattle.spec_machine.specs.TypesByText.{is_small_tree, if_small, tree_of_text, entry_by_type}
use Rattle.spec_machine.proofs.TypesNamed.{elem_at-tree, small_named}
use Rattle.type_layout.specs.ReadTexts as code_texts
use Rattle.type_layout.specs.NamedTypes.{types_of, named_type_of}
use Rattle.type_layout.specs.declared.named_type.NamedType as code
use Rattle.type_layout.specs.declared.read_texts.TypeText as read
use Rattle.type_upload.specs.Alone.{entry_alone}
use Rattle.type_upload.proofs.TextLengths.{text-short}
use Rattle.port_device.specs.Answers.{AnswersAct}
use Rattle.port_device.specs.Holds.{HoldsPort}
use Rattle.port_device.specs.PortMemory.{PortMemory}
use Rattle.port_device.specs.TypesPut.{ends_read, elem_tree_of, tree_with, tree_of_type_text, tree_read, is_elem_text, are_few_ends, put_bytes, IsPut}

-- what is known of a text that was read
pub record IsRead (t : TypeText) : Type 0 where
  pub elem_ : is_elem_text t.elem ≡ true
  pub ends : are_few_ends t.ends ≡ true

fine_elem : (e : ElemText) → good_elem e ≡ true → is_elem_text e ≡ true
fine_elem (PlainText k) h = refl
fine_elem (StringText n) h = h
fine_elem (NamedText name) h = refl

few_ends : (es : List Ends) → AreDimensions es → are_few_ends es ≡ true
few_ends es d = both_true (nat_le (length es) 3) (list_all is_bound (map bound_between es)) d.few (bounds_between-good es d.each)

pub text-read : (text : List ℕ) (t : TypeText) → type_text_of text ≡ Some t → IsRead t
text-read text t h = let good = type_text_of-good text t h in record { elem_ = fine_elem t.elem good.elem_; ends = few_ends t.ends good.ends }

-- the tree of a type text is that of the shape that it names

same_tree : (types : List NamedType) (es : List Ends) (x : Elem) (tree : TypeTree) → elem_tree (trees_of types) x ≡ tree
    → tree_of types (shape_with es x) ≡ tree_with es tree
same_tree types [] x tree e = e
same_tree types (d ∷ es) x tree e = ap (ArrayTree (map bound_between (d ∷ es))) e

same_elem : (types : List NamedType) (es : List Ends) (e : ElemText)
    → option_map (tree_of types) (option_map (shape_with es) (elem_named types e)) ≡ option_map (tree_with es) (elem_tree_of types e)
same_elem types es (PlainText kind) = ap Some (same_tree types es _ _ refl)
same_elem types es (StringText n) = ap Some (same_tree types es _ _ refl)
same_elem types es (NamedText name) = go (place_named types name)
  where
    go : (o : Option ℕ) → option_map (tree_of types) (option_map (shape_with es) (option_map (elem_at types) o))
        ≡ option_map (tree_with es) (option_map (tree_at (trees_of types)) o)
    go None = refl
    go (Some place) = ap Some (same_tree types es (elem_at types place) (tree_at (trees_of types) place) (elem_at-tree types place))

pub text-described : (types : List NamedType) (t : TypeText) → option_map (tree_of types) (shape_named types t) ≡ tree_of_type_text types t
text-described types t = same_elem types t.ends t.elem

-- elements

pub sized_elem : (types : List NamedType) (e : Elem) → AreTypes types → is_elem types e ≡ true → IsSized types (One e)
unfolding type_size
sized_elem types (Plain k) a h =
    let most = (kind_size-bounds k).1 in record { named = refl; few_elements = refl; few_bytes = omega (arith, most) }
sized_elem types (Text n) a h =
    let most = leb-true n 65534 h in record { named = h; few_elements = refl; few_bytes = omega (arith, most) }
sized_elem types (Struct place) a h =
    let there = named_there is_structure types place h in
    let stands = stands_at types place (there.0) a (there.1) in
    record { named = h; few_elements = refl; few_bytes = rw stands.tree stands.small }
sized_elem types (Enum place) a h =
    let there = named_there is_enumeration types place h in
    let stands = stands_at types place (there.0) a (there.1) in
    record { named = h; few_elements = refl; few_bytes = rw stands.tree stands.small }

pub short_elem : (types : List NamedType) (e : Elem) → AreTypes types → is_elem types e ≡ true → length (type_text (tree_of types (One e))) ≤ 400
short_elem types e a h = text-short types types (One e) a h h

pub plain_put : (k : Kind) → type_bytes (entry_alone (PlainTree k) (kind_id k) []) ≡ put_bytes (PlainTree k)
unfolding put_bytes
plain_put k = sym (append-nil (type_bytes (entry_alone (PlainTree k) (kind_id k) [])))

pub text_put : (n : ℕ) → type_bytes (entry_alone (TextTree n) 30 []) ≡ put_bytes (TextTree n)
unfolding put_bytes
text_put n = sym (append-nil (type_bytes (entry_alone (TextTree n) 30 [])))

named_put : (types : List NamedType) (place : ℕ) (t : NamedType) → AreTypes types → slice_get types place ≡ Some t
    → type_upload_bytes (entry_of_type (tree_at (trees_of types) place)) ≡ put_bytes (tree_at (trees_of types) place)
unfolding put_bytes
named_put types place (Structure name ms) a e = let there = (stands_at types place (Structure name ms) a e).tree in rw there refl
named_put types place (Enumeration name base values) a e =
    let there = (stands_at types place (Enumeration name base values) a e).tree in rw there refl

there_is : {X : Type 0} (xs : List X) (i : ℕ) → i < length xs → (x : X) × (slice_get xs i ≡ Some x)
there_is [] i h = absurd (omega arith)
there_is (x ∷ xs) zero h = (x, refl)
there_is (x ∷ xs) (suc i) h = there_is xs i (omega (arith, h))

pub place_put : (types : List NamedType) (place : ℕ) → AreTypes types → place < length types
    → type_upload_bytes (entry_of_type (tree_at (trees_of types) place)) ≡ put_bytes (tree_at (trees_of types) place)
place_put types place a h = let there = there_is types place h in named_put types place (there.0) a (there.1)

-- what is appended, by another name
pub ok_as : (r : Result (Unit {0}) NoMemory) (old new xs ys : List ℕ) → xs ≡ ys → OnOk r (new ≡ old ++ xs) → OnOk r (new ≡ old ++ ys)
ok_as (Ok done) old new xs ys e h = h ∙ ap (λ bs. old ++ bs) e
ok_as (Err no_memory) old new xs ys e h = tt

-- arrays

pub array_put : (bounds : List Bound) (tree : TypeTree)
    → type_bytes (entry_alone (ArrayTree bounds tree) (type_id tree) (type_text tree)) ≡ put_bytes (ArrayTree bounds tree)
unfolding put_bytes
array_put bounds tree = sym (append-nil (type_bytes (entry_alone (ArrayTree bounds tree) (type_id tree) (type_text tree))))

pub written_array : (bounds : List Bound) (tree : TypeTree) (id : ℕ) (kind : List ℕ) → id ≡ type_id tree → kind ≡ type_text tree
    → type_bytes (entry_alone (ArrayTree bounds tree) id kind) ≡ put_bytes (ArrayTree bounds tree)
written_array bounds tree id kind ei ek =
    ap (λ n. type_bytes (entry_alone (ArrayTree bounds tree) n kind)) ei
    ∙ ap (λ t. type_bytes (entry_alone (ArrayTree bounds tree) (type_id tree) t)) ek ∙ array_put bounds tree

pub short_array : (types : List NamedType) (bounds : List Bound) (e : Elem) → AreTypes types → is_elem types e ≡ true → are_bounds bounds ≡ true
    → length (type_text (tree_of types (Array bounds e))) ≤ 400
short_array types bounds e a h b = text-short types types (Array bounds e) a (both_true (are_bounds bounds) (is_elem types e) b h) h

pub sized_array : (types : List NamedType) (bounds : List Bound) (e : Elem) (count each : ℕ) → is_elem types e ≡ true
    → count ≡ element_count bounds → each ≡ type_size (elem_tree (trees_of types) e) → count ≤ LIMIT → count * each ≤ LIMIT
    → IsSized types (Array bounds e)
unfolding type_size
sized_array types bounds e count each h ec es few small = record {
  named = h;
  few_elements = le-leb (element_count bounds) LIMIT (subst (λ n. n ≤ LIMIT) ec few);
  few_bytes = subst (λ n. n ≤ LIMIT) (ap (λ n. n * each) ec ∙ ap (λ n. element_count bounds * n) es) small;
}

-- dimensions that are there make an array
pub array_with : (t : read.TypeText) (tree : TypeTree) → t.count ≢ 0 → tree_with (ends_read t) tree ≡ ArrayTree (map bound_between (ends_read t)) tree
array_with t tree h =
    elim (cases_Bool (t.count == 0)) [
      | inl z ↦ absurd (h (eqb-true t.count 0 z))
      | inr z ↦ rw z (elim (cases_Bool (t.count == 1)) [
        | inl o ↦ rw o refl
        | inr o ↦ rw o (elim (cases_Bool (t.count == 2)) [
          | inl w ↦ rw w refl
          | inr w ↦ rw w refl
        ])
      ])
    ]

ends_there : (t : read.TypeText) → t.count ≢ 0 → nat_lt 0 (length (map bound_between (ends_read t))) ≡ true
ends_there t h =
    elim (cases_Bool (t.count == 0)) [
      | inl z ↦ absurd (h (eqb-true t.count 0 z))
      | inr z ↦ rw z (elim (cases_Bool (t.count == 1)) [
        | inl o ↦ rw o refl
        | inr o ↦ rw o (elim (cases_Bool (t.count == 2)) [
          | inl w ↦ rw w refl
          | inr w ↦ rw w refl
        ])
      ])
    ]

pub bounds_fine : (t : read.TypeText) → t.count ≢ 0 → are_few_ends (ends_read t) ≡ true → are_bounds (map bound_between (ends_read t)) ≡ true
bounds_fine t h f =
    let es = ends_read t in
    let p = and_parts (nat_le (length es) 3) (list_all is_bound (map bound_between es)) f in
    let few : nat_le (length (map bound_between es)) 3 ≡ true = rw (length-map es bound_between) (p.0) in
    both_true (nat_lt 0 (length (map bound_between es)) && nat_le (length (map bound_between es)) 3) (list_all is_bound (map bound_between es))
    (both_true (nat_lt 0 (length (map bound_between es))) (nat_le (length (map bound_between es)) 3) (ends_there t h) few) (p.1)

-- which arrays are small

and_false : (b : Bool) → (b && false) ≡ false
and_false true = refl
and_false false = refl

is_above : (n : ℕ) → LIMIT < n → nat_le n LIMIT ≡ false
is_above n h =
    elim (cases_Bool (nat_le n LIMIT)) [
      | inl t ↦ let l = leb-true n LIMIT t in absurd (omega (arith, h, l))
      | inr t ↦ t
    ]

pub too_many : (bounds : List Bound) (tree : TypeTree) (count : ℕ) → count ≡ element_count bounds → LIMIT < count → if_small (ArrayTree bounds tree) ≡ None
too_many bounds tree count ec h = let f = is_above (element_count bounds) (subst (λ n. LIMIT < n) ec h) in rw f refl

pub too_big : (bounds : List Bound) (tree : TypeTree) (count each : ℕ) → count ≡ element_count bounds → each ≡ type_size tree
    → LIMIT < count * each → if_small (ArrayTree bounds tree) ≡ None
unfolding type_size
too_big bounds tree count each ec es h =
    let f = is_above (element_count bounds * type_size tree)
    (subst (λ n. LIMIT < n) (ap (λ n. n * each) ec ∙ ap (λ n. element_count bounds * n) es) h) in
    let none : is_small_tree (ArrayTree bounds tree) ≡ false = rw f (and_false (nat_le (element_count bounds) LIMIT)) in
    rw none refl

pub is_small : (bounds : List Bound) (tree : TypeTree) (count each : ℕ) → count ≡ element_count bounds → each ≡ type_size tree
    → count ≤ LIMIT → count * each ≤ LIMIT → if_small (ArrayTree bounds tree) ≡ Some (ArrayTree bounds tree)
unfolding type_size
is_small bounds tree count each ec es few small =
    let f = le-leb (element_count bounds) LIMIT (subst (λ n. n ≤ LIMIT) ec few) in
    let g = le-leb (element_count bounds * type_size tree) LIMIT
    (subst (λ n. n ≤ LIMIT) (ap (λ n. n * each) ec ∙ ap (λ n. element_count bounds * n) es) small) in
    rw (f, g) refl

-- what is put

pub put_none : (o : Option TypeTree) (out : List ℕ) → o ≡ None → IsPut o false out out
put_none o out e = subst (λ (x : Option TypeTree). IsPut x false out out) (sym e) (refl, refl)

pub put_some : (o : Option TypeTree) (tree : TypeTree) (old new : List ℕ) → o ≡ Some tree → new ≡ old ++ put_bytes tree
    → IsPut o true old new
put_some o tree old new e put = subst (λ (x : Option TypeTree). IsPut x true old new) (sym e) (refl, put)

-- the same of a type that is told otherwise
pub put_along : (o other : Option TypeTree) (r : Result Bool NoMemory) (old new : List ℕ) → other ≡ o
    → IfOk r (λ there. IsPut o there old new) → IfOk r (λ there. IsPut other there old new)
put_along o other (Ok there) old new e h = subst (λ (x : Option TypeTree). IsPut x there old new) (sym e) h
put_along o other (Err no_memory) old new e h = h

-- an element is small enough
pub small_elem : (types : List NamedType) (e : Elem) → AreTypes types → is_elem types e ≡ true
    → if_small (elem_tree (trees_of types) e) ≡ Some (elem_tree (trees_of types) e)
small_elem types (Plain k) a h = refl
small_elem types (Text n) a h = refl
small_elem types (Struct place) a h =
    let there = named_there is_structure types place h in small_named types place (there.0) a (there.1)
small_elem types (Enum place) a h =
    let there = named_there is_enumeration types place h in small_named types place (there.0) a (there.1)

-- what a read text names, by its element

pub read_none : (types : List NamedType) (t : read.TypeText) → elem_tree_of types (code_texts.elem_text_of t.elem) ≡ None → tree_read types t ≡ None
read_none types t e = ap (λ o. option_and_then if_small (option_map (tree_with (ends_read t)) o)) e

pub read_some : (types : List NamedType) (t : read.TypeText) (tree : TypeTree) → elem_tree_of types (code_texts.elem_text_of t.elem) ≡ Some tree
    → tree_read types t ≡ if_small (tree_with (ends_read t) tree)
read_some types t tree e = ap (λ o. option_and_then if_small (option_map (tree_with (ends_read t)) o)) e

pub read_elem : (types : List NamedType) (t : read.TypeText) (e : Elem) → AreTypes types → is_elem types e ≡ true → t.count ≡ 0
    → elem_tree_of types (code_texts.elem_text_of t.elem) ≡ Some (elem_tree (trees_of types) e) → tree_read types t ≡ Some (elem_tree (trees_of types) e)
read_elem types t e a h none is =
    let tree = elem_tree (trees_of types) e in
    let z = eq-eqb t.count 0 none in
    let ends : ends_read t ≡ [] = rw z refl in
    read_some types t tree is ∙ ap (λ es. if_small (tree_with es tree)) ends ∙ small_elem types e a h

-- what is answered

pub no_type : (w : World) (o : Option TypeTree) (len : ℕ) (start entry out : List ℕ) → IsPut o false start entry
    → AnswersAct w (if_type o len) (Err C710) out out
no_type w None len start entry out put = (refl, refl)
no_type w (Some tree) len start entry out put = absurd (false≢true (put.0))

pub too_long : (w : World) (o : Option TypeTree) (len size : ℕ) (start entry out : List ℕ) → IsPut o true start entry → start ≡ [] → size ≡ length entry
    → (nat_lt greatest_len size || nat_lt len size) ≡ true → AnswersAct w (if_type o len) (Err C705) out out
unfolding put_bytes
too_long w None len size start entry out put none s long = absurd (false≢true (sym (put.0)))
too_long w (Some tree) len size start entry out put none s long =
    let bytes = type_upload_bytes (entry_by_type tree ∷ []) in
    let is : entry ≡ bytes = put.1 ∙ ap (λ l. l ++ bytes) none in
    let both : (nat_lt greatest_len (length bytes) || nat_lt len (length bytes)) ≡ true =
    subst (λ n. (nat_lt greatest_len n || nat_lt len n) ≡ true) (s ∙ ap length is) long in
    elim (cases_Bool (nat_lt greatest_len (length bytes))) [
      | inl u ↦ rw u (refl, refl)
      | inr u ↦ let v : nat_lt len (length bytes) ≡ true = rw u at both in rw (u, v) (refl, refl)
    ]

pub short_enough : (w : World) (o : Option TypeTree) (len size : ℕ) (start entry out new : List ℕ) → IsPut o true start entry → start ≡ [] → size ≡ length entry
    → (nat_lt greatest_len size || nat_lt len size) ≡ false → new ≡ out ++ entry → AnswersAct w (if_type o len) (Ok tt) out new
unfolding put_bytes
short_enough w None len size start entry out new put none s short e = absurd (false≢true (sym (put.0)))
short_enough w (Some tree) len size start entry out new put none s short e =
    let bytes = type_upload_bytes (entry_by_type tree ∷ []) in
    let is : entry ≡ bytes = put.1 ∙ ap (λ l. l ++ bytes) none in
    let both : (nat_lt greatest_len (length bytes) || nat_lt len (length bytes)) ≡ false =
    subst (λ n. (nat_lt greatest_len n || nat_lt len n) ≡ false) (s ∙ ap length is) short in
    elim (cases_Bool (nat_lt greatest_len (length bytes))) [
      | inl u ↦ absurd (let f : true ≡ false = rw u at both in cc)
      | inr u ↦
          let v : nat_lt len (length bytes) ≡ false = rw u at both in
          rw (u, v) (refl, e ∙ ap (λ l. out ++ l) (is ∙ sym (append-nil bytes)))
    ]

pub typed_passed : (m : PortMemory) (types : List NamedType) (len : ℕ) (text : List ℕ) (r : Result (Result (Unit {0}) Code) NoMemory) (old new : List ℕ)
    → types ≡ m.types → IfOk r (λ answer. (w : World) → AnswersAct w (if_type (tree_of_text types text) len) answer old new)
    → IfOk r (λ answer. (w : World) (p : PlantPort) → HoldsPort w p m → AnswersAct w (if_type (tree_of_text w.plant.types text) len) answer old new)
typed_passed m types len text (Ok answer) old new e h = λ w p held.
    subst (λ ts. AnswersAct w (if_type (tree_of_text ts text) len) answer old new) (e ∙ held.types) (h w)
typed_passed m types len text (Err no_memory) old new e h = h

-- the element that a text names, by the place of its type

pub place_as : (types : List code.NamedType) (name : List ℕ) → place_named (types_of types) name
    ≡ position (λ t. is_same_word (type_name (named_type_of t)) name) types
place_as types name = position-map (λ t. is_same_word (type_name t) name) named_type_of types
