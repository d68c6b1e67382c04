-- The members of a structure, as their forms are written one after another.
use Rattle.std.proofs.Common.{◌≡◌, ℕ, ◌+◌, ◌<◌, ◌≤◌, List, [], ◌∷◌, ◌++◌, length, get_or, map, drop, true, refl}
use Rattle.std.specs.Prelude.{codes}
use Rattle.std.proofs.lemmas.List.{length-map, drop_all}
use Rattle.name_paths.specs.Identifier.{lower}
use Rattle.spec_plant.specs.Listed.{Structure, is_structure}
use Rattle.spec_plant.specs.Trees.{MemberTrees, tree_at, trees_of, member_trees, tree_of}
use Rattle.spec_plant.specs.AcceptedTypes.{AreTypes, is_structure_at}
use Rattle.spec_plant.proofs.TypeLemmas.{StandsAt, IsGoodMember, good_members, at-below}
use Rattle.type_layout.specs.Forms.{form_of, members_form}
use Rattle.type_layout.specs.Shapes.{shape_of}
use Rattle.type_layout.specs.NamedTypes.{types_of, member_of}
use Rattle.type_layout.specs.declared.named_type.NamedType.{NamedType}
use Rattle.type_layout.specs.declared.named_type.NamedType.TheVariants as named
use Rattle.type_layout.specs.declared.structures.Member.{Member}
use Rattle.type_layout.specs.declared.structures.StructType.{StructType}
use Rattle.type_layout.proofs.MemberTurns.{drop-get}
use Rattle.type_layout.proofs.Places.{read_at, structure_at}

-- the members that are left at a turn
abbrev pub left_at : List NamedType → List Member → ℕ → MemberTrees
left_at types members i = member_trees (trees_of (types_of types)) (drop i (map member_of members))

-- the structure that stands at a place: what its member names stands before it
pub good_member_at : (types : List NamedType) (place : ℕ) (x : NamedType) (s : StructType) (members : List Member) (i : ℕ) (m : Member)
    → AreTypes (types_of types) → is_structure_at (types_of types) place ≡ true → x ≡ get_or types place x
    → x ≡ named.Struct s → members ≡ s.members → i < length members → m ≡ get_or members i m
    → IsGoodMember (types_of types) place (member_of m)
good_member_at types place x s members i m a h r t same below read =
    let within : place < length types = simp length-map at (at-below is_structure (types_of types) place h) in
    let there : StandsAt (types_of types) place (Structure s.name (map member_of members)) = rw same (structure_at types place x s a within r t) in
    good_members (types_of types) place s.name (map member_of members) i (member_of m) there.parts (read_at member_of members i m below read)

-- one member is written
pub form_turn : (types : List NamedType) (members : List Member) (i : ℕ) (m : Member) → i < length members → m ≡ get_or members i m
    → members_form (left_at types members i)
    ≡ lower m.name ++ codes ":" ++ form_of (tree_of (types_of types) (shape_of m.kind)) ++ codes ";" ++ members_form (left_at types members (i + 1))
unfolding members_form
form_turn types members i m below read =
    let left : drop i (map member_of members) ≡ member_of m ∷ drop (i + 1) (map member_of members) =
    drop-get (map member_of members) i (member_of m) (read_at member_of members i m below read) in
    rw left refl

-- all are written
pub form_end : (types : List NamedType) (members : List Member) (i : ℕ) → length members ≤ i → members_form (left_at types members i) ≡ []
unfolding members_form
form_end types members i past =
    let far : length (map member_of members) ≤ i = simp length-map past in
    rw (drop_all i (map member_of members) far) refl

-- the form of the structure that stands at a place
pub structure_form_at : (types : List NamedType) (place : ℕ) (x : NamedType) (s : StructType) (members : List Member)
    → AreTypes (types_of types) → is_structure_at (types_of types) place ≡ true → x ≡ get_or types place x → x ≡ named.Struct s → members ≡ s.members
    → form_of (tree_at (trees_of (types_of types)) place) ≡ lower s.name ++ codes "{" ++ members_form (left_at types members 0) ++ codes "}"
unfolding form_of
structure_form_at types place x s members a h r t same =
    let within : place < length types = simp length-map at (at-below is_structure (types_of types) place h) in
    let there : StandsAt (types_of types) place (Structure s.name (map member_of members)) = rw same (structure_at types place x s a within r t) in
    rw there.tree refl
