-- What stands at a place of the code's list of types.
use Rattle.std.proofs.Common.{◌≡◌, ℕ, ◌+◌, ◌<◌, ◌≤◌, max, List, [], ◌∷◌, length, get_or, map, drop, true, false, refl, ◌∙◌, ap, arith}
use Rattle.std.proofs.lemmas.List.{length-map, drop_all}
use Rattle.std.specs.Prelude.{Some, None, slice_get, option_map, bytes_eq}
use Rattle.std.proofs.lemmas.Option.{slice_get_read, slice_get-map}
use Rattle.spec_plant.specs.Trees.{tree_at, trees_of, member_trees, tree_of}
use Rattle.spec_plant.specs.Sizes.{aligned, member_start, members_end, greatest_align, type_size, type_align}
use Rattle.name_paths.specs.Identifier.{lower}
use Rattle.spec_plant.specs.Parts as found
use Rattle.spec_plant.specs.Parts.{member_from}
use Rattle.spec_plant.specs.Listed as plain
use Rattle.spec_plant.proofs.SizeLemmas.{greatest_align-bounds}
use Rattle.spec_plant.specs.AcceptedTypes.{AreTypes, LIMIT, is_structure_at}
use Rattle.spec_plant.specs.Listed.{is_enumeration, is_structure, Structure}
use Rattle.spec_plant.proofs.TypeLemmas.{StandsAt, stands_at, at-below}
use Rattle.type_layout.specs.Shapes.{shape_of}
use Rattle.type_layout.specs.NamedTypes.{types_of, named_type_of, enumeration_of, structure_of, member_of}
use Rattle.type_layout.specs.declared.named_type.NamedType.{NamedType}
use Rattle.type_layout.specs.declared.named_type.NamedType.TheVariants as named
use Rattle.type_layout.specs.declared.enumerations.EnumType.{EnumType}
use Rattle.type_layout.proofs.MemberTurns.{drop-get, IsTurn, is_turn, ends_within}
use Rattle.type_layout.specs.declared.structures.Member.{Member}
use Rattle.type_layout.specs.declared.structures.StructType.{StructType}

-- an element that is read, among the plain values
pub read_at : {X Y : Type 0} (f : X → Y) (xs : List X) (i : ℕ) (x : X) → i < length xs → x ≡ get_or xs i x → slice_get (map f xs) i ≡ Some (f x)
read_at f xs i x h e = slice_get-map f xs i ∙ ap (option_map f) (slice_get_read xs (length xs) i x refl h e)

-- an enumeration that is read at a place
pub enumeration_at : (types : List NamedType) (place : ℕ) (x : NamedType) (e : EnumType)
    → AreTypes (types_of types) → place < length types → x ≡ get_or types place x → x ≡ named.Enum e
    → StandsAt (types_of types) place (enumeration_of e)
enumeration_at types place x e a h r t =
    stands_at (types_of types) place (enumeration_of e) a (read_at named_type_of types place x h r ∙ ap (λ y. Some (named_type_of y)) t)

-- a structure that is read at a place
pub structure_at : (types : List NamedType) (place : ℕ) (x : NamedType) (s : StructType)
    → AreTypes (types_of types) → place < length types → x ≡ get_or types place x → x ≡ named.Struct s
    → StandsAt (types_of types) place (structure_of s)
structure_at types place x s a h r t =
    stands_at (types_of types) place (structure_of s) a (read_at named_type_of types place x h r ∙ ap (λ y. Some (named_type_of y)) t)

-- one member of a structure that is read at a place
pub member_turn : (types : List NamedType) (place : ℕ) (x : NamedType) (s : StructType) (members : List Member) (i : ℕ) (m : Member) (end : ℕ)
    → AreTypes (types_of types) → is_structure_at (types_of types) place ≡ true → x ≡ get_or types place x
    → x ≡ named.Struct s → members ≡ s.members → i < length members → m ≡ get_or members i m
    → members_end 0 (member_trees (trees_of (types_of types)) (map member_of members))
    ≡ members_end end (member_trees (trees_of (types_of types)) (drop i (map member_of members)))
    → IsTurn (types_of types) place end (shape_of m.kind) (member_trees (trees_of (types_of types)) (drop i (map member_of members)))
    (member_trees (trees_of (types_of types)) (drop (i + 1) (map member_of members)))
member_turn types place x s members i m end a h r t same below read ends =
    let within : place < length types = simp length-map at (at-below is_structure (types_of types) place h) in
    let there : StandsAt (types_of types) place (Structure s.name (map member_of members)) = rw same (structure_at types place x s a within r t) in
    is_turn (types_of types) place s.name (map member_of members) i (member_of m) end there (read_at member_of members i m below read) ends

-- what is known when all members of a structure have been met
pub record IsWhole (types : List plain.NamedType) (place end greatest : ℕ) : Type 0 where
  pub size : aligned end greatest ≡ type_size (tree_at (trees_of types) place)
  pub align : greatest ≡ type_align (tree_at (trees_of types) place)
  pub ends : end ≤ LIMIT
  pub high : greatest ≤ 8

pub is_whole : (types : List NamedType) (place : ℕ) (x : NamedType) (s : StructType) (members : List Member) (i end greatest : ℕ)
    → AreTypes (types_of types) → is_structure_at (types_of types) place ≡ true
    → x ≡ get_or types place x → x ≡ named.Struct s → members ≡ s.members → length members ≤ i
    → members_end 0 (member_trees (trees_of (types_of types)) (map member_of members))
    ≡ members_end end (member_trees (trees_of (types_of types)) (drop i (map member_of members)))
    → greatest_align (member_trees (trees_of (types_of types)) (map member_of members)) ≡ max greatest
    (greatest_align (member_trees (trees_of (types_of types)) (drop i (map member_of members))))
    → 0 < greatest
    → IsWhole (types_of types) place end greatest
unfolding type_size type_align members_end greatest_align
is_whole types place x s members i end greatest a h r t same past ends aligns low =
    let within : place < length types = simp length-map at (at-below is_structure (types_of types) place h) in
    let there : StandsAt (types_of types) place (Structure s.name (map member_of members)) = rw same (structure_at types place x s a within r t) in
    let known = trees_of (types_of types) in
    let far : length (map member_of members) ≤ i = simp length-map past in
    let none : drop i (map member_of members) ≡ [] = drop_all i (map member_of members) far in
    let end_is : members_end 0 (member_trees known (map member_of members)) ≡ end = rw none at ends in
    let greatest_is : greatest_align (member_trees known (map member_of members)) ≡ max greatest 1 = rw none at aligns in
    let one : max greatest 1 ≡ greatest = omega (arith, low) in
    let bounds = (greatest_align-bounds (member_trees known (map member_of members))).1 in
    let limit = ends_within (types_of types) place s.name (map member_of members) there in
    let tree = there.tree in
    record {
      size = rw (tree, end_is, greatest_is, one) refl;
      align = rw (tree, greatest_is, one) refl;
      ends = omega (arith, limit, end_is);
      high = omega (arith, bounds, greatest_is, low);
    }

-- the member that is met has the name that is looked for
pub member_found : (types : List NamedType) (place : ℕ) (x : NamedType) (s : StructType) (members : List Member) (i : ℕ) (m : Member) (end : ℕ) (name : List ℕ)
    → AreTypes (types_of types) → is_structure_at (types_of types) place ≡ true → x ≡ get_or types place x
    → x ≡ named.Struct s → members ≡ s.members → i < length members → m ≡ get_or members i m
    → member_from 0 (member_trees (trees_of (types_of types)) (map member_of members)) name
    ≡ member_from end (member_trees (trees_of (types_of types)) (drop i (map member_of members))) name
    → bytes_eq (lower m.name) (lower name) ≡ true
    → found.member_of (tree_at (trees_of (types_of types)) place) name
    ≡ Some (record {
      name = m.name;
      first = member_start end (tree_of (types_of types) (shape_of m.kind));
      type = tree_of (types_of types) (shape_of m.kind);
      comment = m.comment;
    })
member_found types place x s members i m end name a h r t same below read so_far is_it =
    let within : place < length types = simp length-map at (at-below is_structure (types_of types) place h) in
    let there : StandsAt (types_of types) place (Structure s.name (map member_of members)) = rw same (structure_at types place x s a within r t) in
    let left : drop i (map member_of members) ≡ member_of m ∷ drop (i + 1) (map member_of members) =
    drop-get (map member_of members) i (member_of m) (read_at member_of members i m below read) in
    let tree = there.tree in
    rw tree (so_far ∙ rw (left, is_it) refl)

-- the member that is met has another name
pub member_passed : (types : List NamedType) (members : List Member) (i : ℕ) (m : Member) (end : ℕ) (name : List ℕ)
    → i < length members → m ≡ get_or members i m → bytes_eq (lower m.name) (lower name) ≡ false
    → member_from end (member_trees (trees_of (types_of types)) (drop i (map member_of members))) name
    ≡ member_from (member_start end (tree_of (types_of types) (shape_of m.kind)) + type_size (tree_of (types_of types) (shape_of m.kind)))
    (member_trees (trees_of (types_of types)) (drop (i + 1) (map member_of members))) name
member_passed types members i m end name below read other =
    let left : drop i (map member_of members) ≡ member_of m ∷ drop (i + 1) (map member_of members) =
    drop-get (map member_of members) i (member_of m) (read_at member_of members i m below read) in
    rw (left, other) refl

-- no member has the name
pub member_missing : (types : List NamedType) (place : ℕ) (x : NamedType) (s : StructType) (members : List Member) (i end : ℕ) (name : List ℕ)
    → AreTypes (types_of types) → is_structure_at (types_of types) place ≡ true
    → x ≡ get_or types place x → x ≡ named.Struct s → members ≡ s.members → length members ≤ i
    → member_from 0 (member_trees (trees_of (types_of types)) (map member_of members)) name
    ≡ member_from end (member_trees (trees_of (types_of types)) (drop i (map member_of members))) name
    → found.member_of (tree_at (trees_of (types_of types)) place) name ≡ None
member_missing types place x s members i end name a h r t same past so_far =
    let within : place < length types = simp length-map at (at-below is_structure (types_of types) place h) in
    let there : StandsAt (types_of types) place (Structure s.name (map member_of members)) = rw same (structure_at types place x s a within r t) in
    let far : length (map member_of members) ≤ i = simp length-map past in
    let none : drop i (map member_of members) ≡ [] = drop_all i (map member_of members) far in
    let tree = there.tree in
    rw tree (so_far ∙ rw none refl)
