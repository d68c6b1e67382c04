-- What is told of a member, found among the code's members.
use Rattle.std.proofs.Common.{◌≡◌, ℕ, ◌+◌, ◌<◌, ◌≤◌, List, [], ◌∷◌, length, get_or, map, drop, true, false, refl, ap, inl, inr}
use Rattle.std.specs.Prelude.{bytes_eq, if◌then◌else◌, Option, Some, None, option_map}
use Rattle.std.proofs.lemmas.Bool.{cases_Bool}
use Rattle.std.proofs.lemmas.List.{length-map, drop_all}
use Rattle.name_paths.specs.Identifier.{lower}
use Rattle.spec_plant.specs.Listed as listed
use Rattle.spec_plant.specs.Trees.{TypeTree, tree_at, trees_of, member_trees, shape_tree}
use Rattle.spec_plant.specs.Sizes.{member_start, type_size}
use Rattle.spec_plant.specs.Parts as parts
use Rattle.spec_plant.specs.AcceptedTypes.{AreTypes, is_structure_at}
use Rattle.spec_plant.specs.Listed.{is_structure, Structure}
use Rattle.spec_plant.proofs.TypeLemmas.{StandsAt, at-below}
use Rattle.type_layout.specs.NamedTypes.{types_of, member_of}
use Rattle.type_layout.specs.declared.named_type.NamedType.{NamedType}
use Rattle.type_layout.specs.declared.named_type.NamedType.TheVariants as named
use Rattle.type_layout.specs.declared.structures.Member.{Member}
use Rattle.type_layout.specs.declared.structures.StructType.{StructType}
use Rattle.type_layout.proofs.MemberTurns.{drop-get}
use Rattle.type_layout.proofs.Places.{read_at, structure_at}
use Rattle.spec_plant.specs.PartTexts.{comment_of_member, text_of_member}
use Rattle.symbol_table.specs.MemberTexts.{MemberText, text_of_part, text_of_declared}

-- what is told of the first of these members with a name
abbrev pub text_among : List listed.Member → List ℕ → Option MemberText
text_among [] name = None
text_among (m ∷ members) name =
    if bytes_eq (lower m.name) (lower name) then Some (record { name = m.name; comment = m.comment }) else text_among members name

among-from : (known : List TypeTree) (at : ℕ) (members : List listed.Member) (name : List ℕ)
    → option_map text_of_part (parts.member_from at (member_trees known members) name) ≡ text_among members name
among-from known at [] name = refl
among-from known at (m ∷ members) name =
    elim (cases_Bool (bytes_eq (lower m.name) (lower name))) [
      | inl t ↦ rw t refl
      | inr t ↦ rw t (among-from known (member_start at (shape_tree known m.shape) + type_size (shape_tree known m.shape)) members name)
    ]

-- among the members of a structure that is read at a place
pub text_in : (types : List NamedType) (place : ℕ) (x : NamedType) (s : StructType) (members : List Member) (name : List ℕ)
    → AreTypes (types_of types) → is_structure_at (types_of types) place ≡ true → x ≡ get_or types place x → x ≡ named.Struct s → members ≡ s.members
    → option_map text_of_part (parts.member_of (tree_at (trees_of (types_of types)) place) name) ≡ text_among (map member_of members) name
text_in types place x s members name a h r t same =
    let within : place < length types = rw length-map at (at-below is_structure (types_of types) place h) in
    let there : StandsAt (types_of types) place (Structure s.name (map member_of members)) = rw same (structure_at types place x s a within r t) in
    let tree = there.tree in
    rw tree (among-from (trees_of (types_of types)) 0 (map member_of members) name)

-- the member that is met has the name
pub among_found : (members : List Member) (i : ℕ) (m : Member) (name : List ℕ)
    → i < length members → m ≡ get_or members i m → bytes_eq (lower m.name) (lower name) ≡ true
    → text_among (drop i (map member_of members)) name ≡ Some (text_of_declared m)
among_found members i m name below read is_it =
    let left : drop i (map member_of members) ≡ member_of m ∷ drop (i + 1) (map member_of members) =
    drop-get (map member_of members) i (member_of m) (read_at member_of members i m below read) in
    rw (left, is_it) refl

-- the member that is met has another name
pub among_passed : (members : List Member) (i : ℕ) (m : Member) (name : List ℕ)
    → i < length members → m ≡ get_or members i m → bytes_eq (lower m.name) (lower name) ≡ false
    → text_among (drop i (map member_of members)) name ≡ text_among (drop (i + 1) (map member_of members)) name
among_passed members i m name below read other =
    let left : drop i (map member_of members) ≡ member_of m ∷ drop (i + 1) (map member_of members) =
    drop-get (map member_of members) i (member_of m) (read_at member_of members i m below read) in
    rw (left, other) refl

-- all members are passed
pub among_missing : (members : List Member) (i : ℕ) (name : List ℕ) → length members ≤ i → text_among (drop i (map member_of members)) name ≡ None
among_missing members i name past =
    let far : length (map member_of members) ≤ i = rw length-map past in
    let none : drop i (map member_of members) ≡ [] = drop_all i (map member_of members) far in
    rw none refl

-- what is told of a member tells its comment and its name

pub comment_told : (m : MemberText) (o : Option parts.MemberPart) → Some m ≡ option_map text_of_part o → m.comment ≡ comment_of_member o
comment_told m None e = cc
comment_told m (Some part) e = let same : m ≡ text_of_part part = cc in ap (λ (t : MemberText). t.comment) same

pub no_comment_told : (o : Option parts.MemberPart) → None ≡ option_map text_of_part o → comment_of_member o ≡ []
no_comment_told None e = refl
no_comment_told (Some part) e = cc

pub name_told : (m : MemberText) (o : Option parts.MemberPart) → Some m ≡ option_map text_of_part o → 46 ∷ m.name ≡ text_of_member o
name_told m None e = cc
name_told m (Some part) e = let same : m ≡ text_of_part part = cc in ap (λ (t : MemberText). 46 ∷ t.name) same

pub no_name_told : (o : Option parts.MemberPart) → None ≡ option_map text_of_part o → text_of_member o ≡ []
no_name_told None e = refl
no_name_told (Some part) e = cc
