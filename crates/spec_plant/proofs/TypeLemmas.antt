-- What stands at a place of an accepted list of types: its tree in terms of all trees, what its parts name, its size.
use Rattle.std.proofs.Common.{◌≡◌, ℕ, zero, suc, ◌+◌, ◌<◌, ◌≤◌, List, [], ◌∷◌, ◌++◌, length, take, drop, true}
use Rattle.std.proofs.Common.{false, refl, sym, ◌∙◌, ap, subst, arith, length-append, Bool, add-zero}
use Rattle.std.proofs.Common.{append-nil, append_assoc, zero-add}
use Rattle.std.specs.Prelude.{Option, Some, None, slice_get, nat_le}
use Rattle.std.specs.Option.{option_map_or}
use Rattle.std.specs.List.{list_all}
use Rattle.std.proofs.lemmas.Bool.{and_parts, leb-true}
use Rattle.std.proofs.lemmas.Option.{slice_get_within}
use Rattle.spec_plant.specs.Listed.{Elem, Plain, Text, Struct, Enum, Shape, One, Array, Member, NamedType}
use Rattle.spec_plant.specs.Listed.{Structure, Enumeration, type_name, is_structure, is_enumeration}
use Rattle.spec_plant.specs.Trees.{TypeTree, tree_at, elem_tree, shape_tree, member_trees, named_tree, trees_behind, trees_of}
use Rattle.spec_plant.specs.Sizes.{type_size}
use Rattle.spec_plant.specs.Spelling.{type_text}
use Rattle.spec_plant.specs.AcceptedTypes.{AreTypes, are_types_behind, is_next_type, has_parts, is_member}
use Rattle.spec_plant.specs.AcceptedTypes.{is_shape, is_elem, are_bounds, is_small_type, is_type_name}
use Rattle.spec_plant.specs.AcceptedTypes.{is_small_shape, LIMIT, elem_within}

-- a longer list has the same at a place
slice_get-append : {X : Type 0} (xs ys : List X) (p : ℕ) (x : X) → slice_get xs p ≡ Some x → slice_get (xs ++ ys) p ≡ Some x
slice_get-append [] ys p x e = cc
slice_get-append (z ∷ zs) ys zero x e = e
slice_get-append (z ∷ zs) ys (suc p) x e = slice_get-append zs ys p x e

tree_at-append : (xs ys : List TypeTree) (p : ℕ) → p < length xs → tree_at (xs ++ ys) p ≡ tree_at xs p
tree_at-append [] ys p h = absurd (omega arith)
tree_at-append (x ∷ xs) ys zero h = refl
tree_at-append (x ∷ xs) ys (suc p) h = tree_at-append xs ys p (omega arith)

tree_at-end : (xs : List TypeTree) (y : TypeTree) → tree_at (xs ++ y ∷ []) (length xs) ≡ y
tree_at-end [] y = refl
tree_at-end (x ∷ xs) y = tree_at-end xs y

-- further types leave the known trees where they are
tree_at-trees_behind : (known : List TypeTree) (ts : List NamedType) (p : ℕ) → p < length known → tree_at (trees_behind known ts) p ≡ tree_at known p
unfolding trees_behind
tree_at-trees_behind known [] p h = refl
tree_at-trees_behind known (t ∷ ts) p h =
    let longer : p < length (known ++ named_tree known t ∷ []) = simp length-append (omega arith) in
    tree_at-trees_behind (known ++ named_tree known t ∷ []) ts p longer ∙ tree_at-append known (named_tree known t ∷ []) p h

-- what is at a place is below the length
pub at-below : (P : NamedType → Bool) (ts : List NamedType) (p : ℕ) → option_map_or P (slice_get ts p) false ≡ true → p < length ts
at-below P [] p e = cc
at-below P (t ∷ ts) zero e = omega arith
at-below P (t ∷ ts) (suc p) e = let h = at-below P ts p e in omega (arith, h)

-- a named type of the list
pub named_there : (P : NamedType → Bool) (types : List NamedType) (place : ℕ) → option_map_or P (slice_get types place) false ≡ true
    → (t : NamedType) × (slice_get types place ≡ Some t)
named_there P types place h = go (slice_get types place) refl h
  where
    go : (o : Option NamedType) → slice_get types place ≡ o → option_map_or P o false ≡ true → (t : NamedType) × (slice_get types place ≡ Some t)
    go None e f = cc
    go (Some t) e f = (t, e)

-- the same trees at each place of the types before
record Agree (before : List NamedType) (known more : List TypeTree) : Type 0 where
  same : (p : ℕ) → p < length before → tree_at known p ≡ tree_at more p

elem_tree-agree : (before : List NamedType) (known more : List TypeTree) → Agree before known more
    → (e : Elem) → is_elem before e ≡ true → elem_tree known e ≡ elem_tree more e
elem_tree-agree before known more a (Plain k) h = refl
elem_tree-agree before known more a (Text n) h = refl
elem_tree-agree before known more a (Struct p) h = a.same p (at-below is_structure before p h)
elem_tree-agree before known more a (Enum p) h = a.same p (at-below is_enumeration before p h)

shape_tree-agree : (before : List NamedType) (known more : List TypeTree) → Agree before known more
    → (s : Shape) → is_shape before s ≡ true → shape_tree known s ≡ shape_tree more s
shape_tree-agree before known more a (One e) h = elem_tree-agree before known more a e h
shape_tree-agree before known more a (Array bs e) h =
    let parts = and_parts (are_bounds bs) (is_elem before e) h in
    let same = elem_tree-agree before known more a e (parts.1) in
    cc

-- an accepted member names only types before its own
pub member-shape : (before : List NamedType) (m : Member) → is_member before m ≡ true → is_shape before m.shape ≡ true
member-shape before m h =
    let outer = and_parts _ _ h in
    let inner = and_parts _ _ (outer.0) in
    inner.1

member_trees-agree : (before : List NamedType) (known more : List TypeTree) → Agree before known more
    → (ms : List Member) → list_all (is_member before) ms ≡ true → member_trees known ms ≡ member_trees more ms
member_trees-agree before known more a [] h = refl
member_trees-agree before known more a (m ∷ ms) h =
    let parts = and_parts (is_member before m) (list_all (is_member before) ms) h in
    let here = shape_tree-agree before known more a m.shape (member-shape before m (parts.0)) in
    let rest = member_trees-agree before known more a ms (parts.1) in
    cc

-- the members of an accepted structure
has_parts-members : (before : List NamedType) (name : List ℕ) (ms : List Member)
    → has_parts before (Structure name ms) ≡ true → list_all (is_member before) ms ≡ true
has_parts-members before name ms h =
    let outer = and_parts _ _ h in
    let inner = and_parts _ _ (outer.0) in
    inner.1

named_tree-agree : (before : List NamedType) (known more : List TypeTree) → Agree before known more
    → (t : NamedType) → has_parts before t ≡ true → named_tree known t ≡ named_tree more t
named_tree-agree before known more a (Structure name ms) h =
    let same = member_trees-agree before known more a ms (has_parts-members before name ms h) in
    cc
named_tree-agree before known more a (Enumeration name base values) h = refl

next-parts : (before : List NamedType) (t : NamedType) → is_next_type before t ≡ true → has_parts before t ≡ true
next-parts before t h = (and_parts _ _ ((and_parts _ _ h).0)).1

next-name : (before : List NamedType) (t : NamedType) → is_next_type before t ≡ true → is_type_name (type_name t) ≡ true
next-name before t h = (and_parts _ _ ((and_parts _ _ ((and_parts _ _ h).0)).0)).0

next-small : (before : List NamedType) (t : NamedType) → is_next_type before t ≡ true → is_small_type (named_tree (trees_of before) t) ≡ true
next-small before t h = (and_parts _ _ h).1

-- the tree at a place, in terms of all trees
tree_at-behind : (before : List NamedType) (known : List TypeTree) (ts : List NamedType) (i : ℕ) (t : NamedType)
    → length known ≡ length before → are_types_behind before ts ≡ true → slice_get ts i ≡ Some t
    → tree_at (trees_behind known ts) (length before + i) ≡ named_tree (trees_behind known ts) t
unfolding trees_behind
tree_at-behind before known [] i t l h e = cc
tree_at-behind before known (u ∷ ts) zero t l h e =
    let parts = and_parts (is_next_type before u) (are_types_behind (before ++ u ∷ []) ts) h in
    let longer = known ++ named_tree known u ∷ [] in
    let behind = trees_behind longer ts in
    let less : length known < length longer = simp length-append (omega arith) in
    let there : tree_at behind (length known) ≡ named_tree known u =
    tree_at-trees_behind longer ts (length known) less ∙ tree_at-end known (named_tree known u) in
    let agree : Agree before known behind = record {
      same = λ p below.
          let fits : p < length known = omega arith in
          let fits_too : p < length longer = simp length-append (omega arith) in
          sym (tree_at-trees_behind longer ts p fits_too ∙ tree_at-append known (named_tree known u ∷ []) p fits);
    } in
    let same : named_tree known u ≡ named_tree behind u = named_tree-agree before known behind agree u (next-parts before u (parts.0)) in
    let is_it : u ≡ t = cc in
    let place : length before + 0 ≡ length known = omega (arith, l) in
    rw place (there ∙ same ∙ ap (named_tree behind) is_it)
tree_at-behind before known (u ∷ ts) (suc i) t l h e =
    let parts = and_parts (is_next_type before u) (are_types_behind (before ++ u ∷ []) ts) h in
    let lengths : length (known ++ named_tree known u ∷ []) ≡ length (before ++ u ∷ []) = simp length-append (omega arith) in
    let rest = tree_at-behind (before ++ u ∷ []) (known ++ named_tree known u ∷ []) ts i t lengths (parts.1) e in
    let place : length before + suc i ≡ length (before ++ u ∷ []) + i = simp length-append (omega arith) in
    rw place rest

-- an accepted type is accepted after those before it
next-behind : (before ts : List NamedType) (i : ℕ) (t : NamedType) → are_types_behind before ts ≡ true
    → slice_get ts i ≡ Some t → is_next_type (before ++ take i ts) t ≡ true
next-behind before [] i t h e = cc
next-behind before (u ∷ ts) zero t h e =
    let parts = and_parts (is_next_type before u) (are_types_behind (before ++ u ∷ []) ts) h in
    let is_it : u ≡ t = cc in
    let P : NamedType → Type 0 = λ v. is_next_type (before ++ []) v ≡ true in
    subst P is_it (rw append-nil (parts.0))
next-behind before (u ∷ ts) (suc i) t h e =
    let parts = and_parts (is_next_type before u) (are_types_behind (before ++ u ∷ []) ts) h in
    let rest = next-behind (before ++ u ∷ []) ts i t (parts.1) e in
    rw append_assoc at rest

trees_behind-split : (known : List TypeTree) (ts : List NamedType) (i : ℕ) → trees_behind known ts ≡ trees_behind (trees_behind known (take i ts)) (drop i ts)
unfolding trees_behind
trees_behind-split known ts zero = refl
trees_behind-split known [] (suc i) = refl
trees_behind-split known (t ∷ ts) (suc i) = trees_behind-split (known ++ named_tree known t ∷ []) ts i

pub length-trees_behind : (known : List TypeTree) (ts : List NamedType) → length (trees_behind known ts) ≡ length known + length ts
unfolding trees_behind
length-trees_behind known [] = sym (add-zero (length known))
length-trees_behind known (t ∷ ts) =
    let rest = length-trees_behind (known ++ named_tree known t ∷ []) ts in
    let longer : length (known ++ named_tree known t ∷ []) ≡ length known + 1 = simp length-append refl in
    omega (arith, rest, longer)

-- what is known of the type at a place of an accepted list
pub record StandsAt (types : List NamedType) (place : ℕ) (t : NamedType) : Type 0 where
  pub tree : tree_at (trees_of types) place ≡ named_tree (trees_of types) t
  pub parts : has_parts (take place types) t ≡ true
  pub small : type_size (named_tree (trees_of types) t) ≤ LIMIT
  pub name : is_type_name (type_name t) ≡ true

pub stands_at : (types : List NamedType) (place : ℕ) (t : NamedType) → AreTypes types → slice_get types place ≡ Some t → StandsAt types place t
unfolding trees_of
stands_at types place t a e =
    let within = slice_get_within types place t e in
    let next = next-behind [] types place t a.each e in
    let earlier = take place types in
    let there : tree_at (trees_behind [] types) (0 + place) ≡ named_tree (trees_behind [] types) t = tree_at-behind [] [] types place t refl a.each e in
    let same : named_tree (trees_of earlier) t ≡ named_tree (trees_of types) t =
    named_tree-agree earlier (trees_of earlier) (trees_of types) agree t (next-parts earlier t next) in
    let small : nat_le (type_size (named_tree (trees_of earlier) t)) LIMIT ≡ true = (and_parts _ _ (next-small earlier t next)).0 in
    let little : nat_le (type_size (named_tree (trees_of types) t)) LIMIT ≡ true = rw same at small in
    record {
      tree = rw zero-add at there;
      parts = next-parts earlier t next;
      small = leb-true _ _ little;
      name = next-name earlier t next;
    }
  where
    agree : Agree (take place types) (trees_of (take place types)) (trees_of types)
    agree = record {
      same = λ p below.
          let lengths = length-trees_behind [] (take place types) in
          let fits : p < length (trees_behind [] (take place types)) = omega (arith, lengths, below) in
          let split = trees_behind-split [] types place in
          rw split (sym (tree_at-trees_behind (trees_behind [] (take place types)) (drop place types) p fits));
    }

-- a part of the list has nothing that the list has not
is_there-take : (P : NamedType → Bool) (ts : List NamedType) (n p : ℕ)
    → option_map_or P (slice_get (take n ts) p) false ≡ true → (option_map_or P (slice_get ts p) false ≡ true) × (p < n)
is_there-take P ts zero p h = cc
is_there-take P [] (suc n) p h = cc
is_there-take P (t ∷ ts) (suc n) zero h = (h, omega arith)
is_there-take P (t ∷ ts) (suc n) (suc p) h =
    let rest = is_there-take P ts n p h in
    let below = rest.1 in
    (rest.0, omega (arith, below))

-- the number by which recursion over types falls: a named type's place and one more, else none
abbrev pub rank : Elem → ℕ
rank (Plain k) = 0
rank (Text n) = 0
rank (Struct p) = p + 1
rank (Enum p) = p + 1

-- what an accepted member names is in the list, and before its own type
pub record IsEarlier (types : List NamedType) (place : ℕ) (e : Elem) : Type 0 where
  pub named : is_elem types e ≡ true
  pub earlier : rank e ≤ place

pub elem-earlier : (types : List NamedType) (place : ℕ) (e : Elem) → is_elem (take place types) e ≡ true → IsEarlier types place e
elem-earlier types place (Plain k) h = record { named = refl; earlier = omega arith }
elem-earlier types place (Text n) h = record { named = h; earlier = omega arith }
elem-earlier types place (Struct p) h =
    let both = is_there-take is_structure types place p h in
    let below = both.1 in
    record { named = both.0; earlier = omega (arith, below) }
elem-earlier types place (Enum p) h =
    let both = is_there-take is_enumeration types place p h in
    let below = both.1 in
    record { named = both.0; earlier = omega (arith, below) }

-- a member of an accepted structure
pub record IsGoodMember (types : List NamedType) (place : ℕ) (m : Member) : Type 0 where
  pub names : IsEarlier types place (elem_within m.shape)
  pub few_elements : is_small_shape m.shape ≡ true

-- the type within an accepted shape
pub shape-elem : (before : List NamedType) (s : Shape) → is_shape before s ≡ true → is_elem before (elem_within s) ≡ true
shape-elem before (One e) h = h
shape-elem before (Array bs e) h = (and_parts (are_bounds bs) (is_elem before e) h).1

pub good_member : (types : List NamedType) (place : ℕ) (m : Member) → is_member (take place types) m ≡ true → IsGoodMember types place m
good_member types place m h =
    let shape = shape-elem (take place types) m.shape (member-shape (take place types) m h) in
    record {
      names = elem-earlier types place (elem_within m.shape) shape;
      few_elements = (and_parts _ _ h).1;
    }

-- what follows for each from what is known of each
pub list_all-follows : {X : Type 0} (p q : X → Bool) → ((x : X) → p x ≡ true → q x ≡ true) → (xs : List X) → list_all p xs ≡ true → list_all q xs ≡ true
list_all-follows p q f [] h = refl
list_all-follows p q f (x ∷ xs) h =
    let parts = and_parts (p x) (list_all p xs) h in
    rw (f x (parts.0), list_all-follows p q f xs (parts.1)) refl

-- what all of a list is, each is
pub list_all-get : {X : Type 0} (P : X → Bool) (xs : List X) (i : ℕ) (x : X) → list_all P xs ≡ true → slice_get xs i ≡ Some x → P x ≡ true
list_all-get P [] i x h e = cc
list_all-get {X} P (y ∷ ys) zero x h e =
    let parts = and_parts (P y) (list_all P ys) h in
    let is_it : y ≡ x = cc in
    let Q : X → Type 0 = λ z. P z ≡ true in
    subst Q is_it (parts.0)
list_all-get P (y ∷ ys) (suc i) x h e = list_all-get P ys i x ((and_parts (P y) (list_all P ys) h).1) e

-- each member of an accepted structure is such a one
pub good_members : (types : List NamedType) (place : ℕ) (name : List ℕ) (ms : List Member) (i : ℕ) (m : Member)
    → has_parts (take place types) (Structure name ms) ≡ true → slice_get ms i ≡ Some m
    → IsGoodMember types place m
good_members types place name ms i m h e =
    good_member types place m (list_all-get (is_member (take place types)) ms i m (has_parts-members (take place types) name ms h) e)

-- the canonical text of a named type is its name, whatever the list
trees_behind-name : (known : List TypeTree) (before ts : List NamedType) (i : ℕ) (t : NamedType) → length known ≡ length before → slice_get ts i ≡ Some t
    → type_text (tree_at (trees_behind known ts) (length before + i)) ≡ type_name t
unfolding trees_behind type_text
trees_behind-name known before [] i t l e = cc
trees_behind-name known before (u ∷ ts) zero t l e =
    let longer = known ++ named_tree known u ∷ [] in
    let less : length known < length longer = simp length-append (omega arith) in
    let there : tree_at (trees_behind longer ts) (length known) ≡ named_tree known u =
    tree_at-trees_behind longer ts (length known) less ∙ tree_at-end known (named_tree known u) in
    let place : length before + 0 ≡ length known = omega (arith, l) in
    let is_it : u ≡ t = cc in
    rw place (rw there (named u ∙ ap type_name is_it))
  where
    named : (v : NamedType) → type_text (named_tree known v) ≡ type_name v
    named (Structure name ms) = refl
    named (Enumeration name base values) = refl
trees_behind-name known before (u ∷ ts) (suc i) t l e =
    let lengths : length (known ++ named_tree known u ∷ []) ≡ length (before ++ u ∷ []) = simp length-append (omega arith) in
    let rest = trees_behind-name (known ++ named_tree known u ∷ []) (before ++ u ∷ []) ts i t lengths e in
    let place : length before + suc i ≡ length (before ++ u ∷ []) + i = simp length-append (omega arith) in
    rw place rest

pub type_text-named : (types : List NamedType) (place : ℕ) (t : NamedType)
    → slice_get types place ≡ Some t → type_text (tree_at (trees_of types) place) ≡ type_name t
unfolding trees_of
type_text-named types place t e =
    let there : type_text (tree_at (trees_behind [] types) (0 + place)) ≡ type_name t = trees_behind-name [] [] types place t refl e in
    rw zero-add at there
