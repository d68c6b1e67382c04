-- What the parts of a walk find is what the whole finds.
use Rattle.std.proofs.Common.{◌≡◌, ℕ, zero, suc, ◌+◌, ◌*◌, ◌^◌, ◌<◌, ◌≤◌, List, [], ◌∷◌, ◌++◌, map, length}
use Rattle.std.proofs.Common.{drop, Bool, true, false, refl, sym, ap, ◌∙◌, append_assoc, arith}
use Rattle.std.specs.Prelude.{Option, Some, None, not, ◌&&◌, ◌==◌, nat_le, flat_map, if◌then◌else◌}
use Rattle.std.specs.List.{list_all}
use Rattle.std.proofs.Math.Nat.{suc-mul, mul-le-mul_right}
use Rattle.std.proofs.lemmas.Bool.{and_parts, leb-true, eqb-true, ne_eqb}
use Rattle.std.proofs.lemmas.List.{append-nil}
use Rattle.spec_plant.specs.Plain.{Kind, kind_id, kind_size}
use Rattle.spec_plant.specs.TypeTexts.{Ends, ElemText, PlainText, StringText, NamedText, TypeText, type_text_of}
use Rattle.spec_formats.specs.TypeEntry.{TypeEntry, TypeFields}
use Rattle.spec_client.specs.Leaves.{Leaf, leaf, leaves_of_elements, leaves_of_text, leaves_of_member, leaves_of_elem}
use Rattle.spec_client.specs.LeafTypes.{type_named, element_count, elem_size, text_size, stands_in, is_member, are_members, is_enumeration, is_sound_elem}
use Rattle.type_layout.specs.declared.read_texts.Ends as code
use Rattle.type_layout.specs.ReadTexts.{ends_of, ends_among}
use Rattle.client_leaves.specs.Paths.{paths_from}
use Rattle.client_leaves.specs.Walks.{Walked, is_sound_type, leaves_of_type}
use Rattle.client_leaves.proofs.PathLemmas.{paths_are, paths_count, some_elements}

-- ---- what a walk ends in

pub walked_no : (is_sound : Bool) (leaves old new : List Leaf) → is_sound ≡ false → Walked false is_sound leaves old new
walked_no is_sound leaves old new never = record { same = sym never; leaves_are = λ e. absurd cc }

pub walked_yes : (is_sound : Bool) (leaves old new : List Leaf) → is_sound ≡ true → new ≡ old ++ leaves → Walked true is_sound leaves old new
walked_yes is_sound leaves old new holds are = record { same = sym holds; leaves_are = λ e. are }

-- the same of equal things
pub walked_as : (sound a b : Bool) (xs ys old new : List Leaf) → a ≡ b → xs ≡ ys → Walked sound a xs old new → Walked sound b ys old new
walked_as sound a b xs ys old new same_sound same_leaves w = record {
  same = w.same ∙ same_sound;
  leaves_are = λ e. w.leaves_are e ∙ ap (λ zs. old ++ zs) same_leaves;
}

-- ---- a walk over parts one after another: elements of an array, or members of a structure

-- all parts are sound where the others are, and what the parts so far have and what the others have is what all have
pub record WalkedSoFar (is_sound others : Bool) (leaves left old new : List Leaf) : Type 0 where
  pub sound : is_sound ≡ others
  pub same : new ++ left ≡ old ++ leaves

pub walk_begins : (is_sound : Bool) (leaves old : List Leaf) → WalkedSoFar is_sound is_sound leaves leaves old old
walk_begins is_sound leaves old = record { sound = refl; same = refl }

pub walk_stops : (is_sound here others : Bool) (leaves left first old now new : List Leaf) → WalkedSoFar is_sound (here && others) leaves left old now
    → Walked false here first now new → Walked false is_sound leaves old new
walk_stops is_sound here others leaves left first old now new so_far w = walked_no is_sound leaves old new (so_far.sound ∙ rw (sym w.same) refl)

pub walk_goes_on : (is_sound here others : Bool) (leaves first left old now new : List Leaf)
    → WalkedSoFar is_sound (here && others) leaves (first ++ left) old now
    → Walked true here first now new → WalkedSoFar is_sound others leaves left old new
walk_goes_on is_sound here others leaves first left old now new so_far w =
    record { sound = so_far.sound ∙ rw (sym w.same) refl; same = rw (w.leaves_are refl) (append_assoc now first left ∙ so_far.same) }

pub walk_ends : (is_sound : Bool) (leaves old new : List Leaf) → WalkedSoFar is_sound true leaves [] old new → Walked true is_sound leaves old new
walk_ends is_sound leaves old new so_far = walked_yes is_sound leaves old new so_far.sound (sym (append-nil new) ∙ so_far.same)

-- ---- elements

pub plain_sound : (depth : ℕ) (types : List TypeEntry) (kind : Kind) → is_sound_elem depth types (PlainText kind) ≡ true
unfolding is_sound_elem
plain_sound zero types kind = refl
plain_sound (suc depth) types kind = refl

pub plain_leaves : (depth : ℕ) (types : List TypeEntry) (kind : Kind) (path : List ℕ) (place : ℕ)
    → leaf path place (kind_id kind) (kind_size kind) ∷ [] ≡ leaves_of_elem depth types (PlainText kind) path place
unfolding leaves_of_elem
plain_leaves zero types kind path place = refl
plain_leaves (suc depth) types kind path place = refl

pub string_sound : (depth : ℕ) (types : List TypeEntry) (n : ℕ) → is_sound_elem depth types (StringText n) ≡ true
unfolding is_sound_elem
string_sound zero types n = refl
string_sound (suc depth) types n = refl

pub string_leaves : (depth : ℕ) (types : List TypeEntry) (n : ℕ) (path : List ℕ) (place : ℕ)
    → leaf path place 30 (n + 1) ∷ [] ≡ leaves_of_elem depth types (StringText n) path place
unfolding leaves_of_elem
string_leaves zero types n path place = refl
string_leaves (suc depth) types n path place = refl

pub no_type : (depth : ℕ) (types : List TypeEntry) (name : List ℕ) → type_named types name ≡ None → is_sound_elem depth types (NamedText name) ≡ false
unfolding is_sound_elem
no_type zero types name none = rw none refl
no_type (suc depth) types name none = rw none refl

pub named_sound : (depth : ℕ) (types : List TypeEntry) (name : List ℕ) (t : TypeEntry) → type_named types name ≡ Some t
    → is_sound_type depth types t ≡ is_sound_elem depth types (NamedText name)
unfolding is_sound_elem
named_sound zero types name t is = rw is refl
named_sound (suc depth) types name t is = rw is refl

pub named_leaves : (depth : ℕ) (types : List TypeEntry) (name : List ℕ) (t : TypeEntry) (path : List ℕ) (place : ℕ) → type_named types name ≡ Some t
    → leaves_of_type depth types path place t ≡ leaves_of_elem depth types (NamedText name) path place
unfolding leaves_of_elem
named_leaves zero types name t path place is = rw is refl
named_leaves (suc depth) types name t path place is = rw is refl

pub named_size : (types : List TypeEntry) (name : List ℕ) (t : TypeEntry) → type_named types name ≡ Some t → elem_size types (NamedText name) ≡ t.fields.size
named_size types name t is = rw is refl

-- ---- arrays

-- nothing but an element
pub one_room : (types : List TypeEntry) (t : TypeText) (place : ℕ) → t.ends ≡ [] → place + text_size types t < 2 ^ 32 → place + elem_size types t.elem < 2 ^ 32
one_room types t place none room =
    let count : element_count t.ends ≡ 1 = rw none refl in
    let room2 : place + 1 * elem_size types t.elem < 2 ^ 32 = rw count at room in
    omega arith

pub one_leaves : (leaves_at : List ℕ → ℕ → List Leaf) (size : ℕ) (path : List ℕ) (place : ℕ) (ends : List Ends) → ends ≡ []
    → leaves_at path place ≡ leaves_of_text leaves_at size path place ends
one_leaves leaves_at size path place ends none = rw none refl

pub array_room : (types : List TypeEntry) (t : TypeText) (place : ℕ) (path : List ℕ) (paths : List (List ℕ)) → paths ≡ paths_from 91 path t.ends
    → place + text_size types t < 2 ^ 32 → place + length paths * elem_size types t.elem < 2 ^ 32
array_room types t place path paths are room =
    let count : length paths ≡ element_count t.ends = ap (λ (ps : List (List ℕ)). length ps) are ∙ paths_count 91 path t.ends in
    rw count room

pub array_some : (path : List ℕ) (paths : List (List ℕ)) (ends : List Ends) → paths ≡ paths_from 91 path ends → 0 < length paths
array_some path paths ends are =
    let count : length paths ≡ element_count ends = ap (λ (ps : List (List ℕ)). length ps) are ∙ paths_count 91 path ends in
    let some = some_elements ends in
    omega arith

not_blank : {X : Type 0} (b c : Bool) (x y z : X) → (if b then x ∷ [] else (if c then x ∷ y ∷ [] else x ∷ y ∷ z ∷ [])) ≡ [] → ⊥
not_blank true c x y z e = cc
not_blank false true x y z e = cc
not_blank false false x y z e = cc

-- an array has a dimension
pub some_ends : (count : ℕ) (x y z : code.Ends) → (count ≡ 0 → ⊥) → ends_among count x y z ≡ [] → ⊥
some_ends count x y z some none =
    let b : (count == 0) ≡ false = ne_eqb count 0 some in
    not_blank (count == 1) (count == 2) (ends_of x) (ends_of y) (ends_of z) (rw b at none)

pub array_leaves_are : (leaves_at : List ℕ → ℕ → List Leaf) (size : ℕ) (path : List ℕ) (place : ℕ) (ends : List Ends) (paths : List (List ℕ))
    → (ends ≡ [] → ⊥) → paths ≡ paths_from 91 path ends
    → leaves_of_elements leaves_at place size paths ≡ leaves_of_text leaves_at size path place ends
array_leaves_are leaves_at size path place [] paths some are = absurd (some refl)
array_leaves_are leaves_at size path place (e ∷ es) paths some are =
    ap (λ ps. leaves_of_elements leaves_at place size ps) (are ∙ paths_are path e es)

-- ---- elements that stand one behind another

-- each of them is sound where one is
abbrev pub are_sound : Bool → List (List ℕ) → Bool
are_sound is_sound paths = list_all (λ path. is_sound) paths

all_true : (paths : List (List ℕ)) → are_sound true paths ≡ true
all_true [] = refl
all_true (path ∷ paths) = all_true paths

pub all_sound : (is_sound : Bool) (paths : List (List ℕ)) → 0 < length paths → are_sound is_sound paths ≡ is_sound
all_sound true paths some = all_true paths
all_sound false [] some = absurd (omega arith)
all_sound false (path ∷ paths) some = refl

pub record ElementsSoFar (leaves_at : List ℕ → ℕ → List Leaf) (is_sound : Bool)
    (size place i at : ℕ) (paths : List (List ℕ)) (old new : List Leaf) : Type 0 where
  pub at_is : at ≡ place + i * size
  pub walked : WalkedSoFar (are_sound is_sound paths) (are_sound is_sound (drop i paths))
      (leaves_of_elements leaves_at place size paths) (leaves_of_elements leaves_at at size (drop i paths)) old new

pub elements_begin : (leaves_at : List ℕ → ℕ → List Leaf) (is_sound : Bool) (size place : ℕ) (paths : List (List ℕ)) (old : List Leaf)
    → ElementsSoFar leaves_at is_sound size place 0 place paths old old
elements_begin leaves_at is_sound size place paths old = record { at_is = omega arith; walked = walk_begins _ _ old }

pub elements_room : (i n size place at : ℕ) → i < n → at ≡ place + i * size → place + n * size < 2 ^ 32 → at + size < 2 ^ 32
elements_room i n size place at less is room =
    let more = mul-le-mul_right {m = suc i} {n = n} size (omega arith) in
    let one = suc-mul i size in
    omega arith

pub elements_stop : (leaves_at : List ℕ → ℕ → List Leaf) (is_sound : Bool)
    (size place i at : ℕ) (paths : List (List ℕ)) (path : List ℕ) (old now new : List Leaf)
    → drop i paths ≡ path ∷ drop (i + 1) paths → ElementsSoFar leaves_at is_sound size place i at paths old now
    → Walked false is_sound (leaves_at path at) now new
    → Walked false (are_sound is_sound paths) (leaves_of_elements leaves_at place size paths) old new
elements_stop leaves_at is_sound size place i at paths path old now new first so_far w =
    walk_stops _ _ _ _ _ _ old now new (rw first at so_far.walked) w

pub elements_more : (leaves_at : List ℕ → ℕ → List Leaf) (is_sound : Bool)
    (size place i at : ℕ) (paths : List (List ℕ)) (path : List ℕ) (old now new : List Leaf)
    → drop i paths ≡ path ∷ drop (i + 1) paths → ElementsSoFar leaves_at is_sound size place i at paths old now
    → Walked true is_sound (leaves_at path at) now new → ElementsSoFar leaves_at is_sound size place (i + 1) (at + size) paths old new
elements_more leaves_at is_sound size place i at paths path old now new first so_far w =
    let one = suc-mul i size in
    let i1 : (i + 1) * size ≡ i * size + size = let e : i + 1 ≡ suc i = omega arith in rw e one in
    record {
      at_is = omega (arith, so_far.at_is, i1);
      walked = walk_goes_on _ _ _ _ _ _ old now new (rw first at so_far.walked) w;
    }

pub elements_end : (leaves_at : List ℕ → ℕ → List Leaf) (is_sound : Bool) (size place i at : ℕ) (paths : List (List ℕ)) (old new : List Leaf)
    → drop i paths ≡ [] → ElementsSoFar leaves_at is_sound size place i at paths old new
    → Walked true (are_sound is_sound paths) (leaves_of_elements leaves_at place size paths) old new
elements_end leaves_at is_sound size place i at paths old new none so_far = walk_ends _ _ old new (rw none at so_far.walked)

-- ---- named types

pub empty_type : (depth : ℕ) (types : List TypeEntry) (t : TypeEntry) → t.fields.size ≡ 0 → is_sound_type depth types t ≡ false
empty_type zero types t none = rw none refl
empty_type (suc depth) types t none = rw none refl

nonzero : (n : ℕ) → 0 < n → (n == 0) ≡ false
nonzero n some = ne_eqb n 0 (λ e. omega arith)

sized : (n : ℕ) (b : Bool) → 0 < n → b ≡ true → not (n == 0) && b ≡ true
sized n b some holds = rw (nonzero n some) holds

pub enumeration_sound : (depth : ℕ) (types : List TypeEntry) (t : TypeEntry) → 0 < t.fields.size → t.subs ≡ [] → is_sound_type depth types t ≡ true
enumeration_sound zero types t some none = sized t.fields.size _ some (rw none refl)
enumeration_sound (suc depth) types t some none = sized t.fields.size _ some (rw none refl)

pub enumeration_leaves : (depth : ℕ) (types : List TypeEntry) (path : List ℕ) (place : ℕ) (t : TypeEntry) → t.subs ≡ []
    → leaf path place t.fields.type_id t.fields.size ∷ [] ≡ leaves_of_type depth types path place t
enumeration_leaves zero types path place t none = rw none refl
enumeration_leaves (suc depth) types path place t none = rw none refl

never_both : (b : Bool) → b && false ≡ false
never_both true = refl
never_both false = refl

no_enumeration : (n : ℕ) (fs : List TypeFields) → (fs ≡ [] → ⊥) → not (n == 0) && is_enumeration fs ≡ false
no_enumeration n [] some = absurd (some refl)
no_enumeration n (f ∷ fs) some = never_both (not (n == 0))

-- structures are nested too deep
pub too_deep : (depth : ℕ) (types : List TypeEntry) (t : TypeEntry) → depth ≡ 0 → (t.subs ≡ [] → ⊥) → is_sound_type depth types t ≡ false
too_deep zero types t is some = no_enumeration t.fields.size t.subs some
too_deep (suc depth) types t is some = absurd (omega arith)

sized_same : (n : ℕ) (b : Bool) → 0 < n → b ≡ not (n == 0) && b
sized_same n b some = rw (nonzero n some) refl

pub structure_sound : (depth less : ℕ) (types : List TypeEntry) (t : TypeEntry) → depth ≡ suc less → 0 < t.fields.size
    → are_members (is_sound_elem less types) types 0 t.fields.size t.subs ≡ is_sound_type depth types t
structure_sound depth less types t is some = rw is (sized_same t.fields.size _ some)

by_subs : (fs : List TypeFields) (leaves_at : TypeFields → List Leaf) (one : List Leaf) → (fs ≡ [] → ⊥)
    → flat_map leaves_at fs ≡ elim fs [ [] ↦ one | sub ∷ subs ↦ flat_map leaves_at (sub ∷ subs) ]
by_subs [] leaves_at one some = absurd (some refl)
by_subs (f ∷ fs) leaves_at one some = refl

pub structure_leaves_are : (depth less : ℕ) (types : List TypeEntry) (path : List ℕ) (place : ℕ) (t : TypeEntry) → depth ≡ suc less → (t.subs ≡ [] → ⊥)
    → flat_map (leaves_of_member (leaves_of_elem less types) types path place) t.subs ≡ leaves_of_type depth types path place t
structure_leaves_are depth less types path place t is some =
    rw is (by_subs t.subs (leaves_of_member (leaves_of_elem less types) types path place) (leaf path place t.fields.type_id t.fields.size ∷ []) some)

-- ---- members

-- the members so far and the others, when those so far end here
abbrev pub MembersWalked : (ElemText → Bool) → (TypeFields → List Leaf) → List TypeEntry
    → ℕ → ℕ → List TypeFields → List TypeFields → List Leaf → List Leaf → Type 0
MembersWalked is_sound leaves_at types size end all others old new =
    WalkedSoFar (are_members is_sound types 0 size all) (are_members is_sound types end size others)
    (flat_map leaves_at all) (flat_map leaves_at others) old new

-- a member that does not stand in its structure
pub member_off : (is_sound : ElemText → Bool) (types : List TypeEntry) (end size : ℕ) (f : TypeFields) (t : TypeText) → stands_in types end size f t ≡ false
    → is_member is_sound types end size f (Some t) ≡ false
member_off is_sound types end size f t never = rw never refl

pub member_sound : (is_sound : ElemText → Bool) (types : List TypeEntry) (end size : ℕ) (f : TypeFields) (t : TypeText) → stands_in types end size f t ≡ true
    → is_sound t.elem ≡ is_member is_sound types end size f (Some t)
member_sound is_sound types end size f t holds = rw holds refl

-- a member that stands in its structure has room
pub record StandsIn (types : List TypeEntry) (size : ℕ) (f : TypeFields) (t : TypeText) : Type 0 where
  pub whole : f.size ≡ text_size types t
  pub within : f.offset + f.size ≤ size

pub stands : (types : List TypeEntry) (end size : ℕ) (f : TypeFields) (t : TypeText) → stands_in types end size f t ≡ true → StandsIn types size f t
stands types end size f t holds =
    let parts = and_parts ((f.size == text_size types t) && nat_le end f.offset) (nat_le (f.offset + f.size) size) holds in
    let first = and_parts (f.size == text_size types t) (nat_le end f.offset) parts.0 in
    record { whole = eqb-true f.size (text_size types t) first.0; within = leb-true (f.offset + f.size) size parts.1 }

-- a type with members has sub entries
pub some_subs : {X Y : Type 0} (f : X → Y) (xs : List X) → (length xs ≡ 0 → ⊥) → map f xs ≡ [] → ⊥
some_subs f [] some none = some refl
some_subs f (x ∷ xs) some none = cc
