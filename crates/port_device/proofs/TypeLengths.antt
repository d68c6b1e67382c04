-- How many bytes the upload of accepted types has at most: 1,001,000 a type.
use Rattle.std.proofs.Common.{◌≡◌, ℕ, ◌+◌, ◌*◌, ◌<◌, ◌≤◌, List, [], ◌∷◌, ◌++◌, length, true, ap, arith}
use Rattle.std.specs.Prelude.{flat_map, ◌^◌}
use Rattle.std.specs.Int.{w32, to_le_bytes}
use Rattle.std.proofs.lemmas.Bool.{and_parts}
use Rattle.std.proofs.lemmas.List.{length-append, length-map}
use Rattle.spec_plant.specs.Listed.{NamedType, Structure, Enumeration}
use Rattle.spec_plant.specs.Plain.{kind_name}
use Rattle.spec_plant.specs.Trees.{TypeTree, PlainTree, TextTree, EnumTree, ArrayTree, StructTree, MemberTrees}
use Rattle.spec_plant.specs.Trees.{NoMember, MemberTree, named_tree, trees_behind, trees_of}
use Rattle.spec_plant.specs.Sizes.{type_size, member_start}
use Rattle.spec_plant.specs.Sound.{Each}
use Rattle.spec_plant.specs.AcceptedTypes.{AreTypes, are_types_behind, is_next_type, has_parts}
use Rattle.spec_plant.proofs.TextLengths.{three_bounds, kind-short}
use Rattle.spec_formats.specs.TypeEntry.{TypeEntry, written_stamps, fields_len, fields_bytes, sub_bytes, type_bytes}
use Rattle.spec_formats.specs.TypeUpload.{dimension_of, dimensions_of, member_fields, members_fields, named_fields}
use Rattle.spec_laws.proofs.Footprints.{each_both}
use Rattle.spec_laws.proofs.TameTypes.{IsTame, AreTame, text-short}
use Rattle.spec_laws.proofs.TameTrees.{IsTameTree, trees-tame}
use Rattle.type_upload.specs.NextMembers.{tree_bytes}
use Rattle.type_upload.proofs.FieldLemmas.{length-fields}
use Rattle.type_upload.proofs.MemberLemmas.{few_members, length-members_fields}
use Rattle.type_upload.proofs.EntryLemmas.{upload-trees, length-trees_of}
use Rattle.port_device.specs.Uploads.{types_upload}

few-dimensions : (t : TypeTree) → IsTame t → length (dimensions_of t) ≤ 3
few-dimensions (PlainTree kind) h = omega arith
few-dimensions (TextTree n) h = omega arith
few-dimensions (EnumTree name base) h = omega arith
few-dimensions (ArrayTree bounds element) h = let few = (three_bounds bounds h.0).0 in omega (arith, few, length-map bounds dimension_of)
few-dimensions (StructTree name members) h = omega arith

-- a sub entry has at most 1,000 bytes
subs-short : (at : ℕ) (ms : MemberTrees) → AreTame ms → length (flat_map sub_bytes (members_fields at ms)) ≤ 1000 * length (members_fields at ms)
subs-short at NoMember h = omega arith
subs-short at (MemberTree name type comment ms) h =
    let f = member_fields (member_start at type) name type comment in
    let next = member_start at type + type_size type in
    let own = length-fields written_stamps f (fields_len f) 0 in
    let text = text-short type h.1.1.0 in
    let dims = few-dimensions type h.1.1.0 in
    let short_name = h.0 in
    let short_comment = h.1.0 in
    let rest = subs-short next ms h.1.1.1 in
    let all = length-append (sub_bytes f) (flat_map sub_bytes (members_fields next ms)) in
    omega (arith, own, text, dims, short_name, short_comment, rest, all)

-- a structure has at most 1,000 members
abbrev HasFew : TypeTree → Type 0
HasFew (PlainTree kind) = Unit {0}
HasFew (TextTree n) = Unit {0}
HasFew (EnumTree name base) = Unit {0}
HasFew (ArrayTree bounds element) = Unit {0}
HasFew (StructTree name members) = length (members_fields 0 members) ≤ 1000

tree-short : (t : TypeTree) → IsTame t → HasFew t → length (tree_bytes t) ≤ 1001000
tree-short (PlainTree kind) h few = omega arith
tree-short (TextTree n) h few = omega arith
tree-short (ArrayTree bounds element) h few = omega arith
tree-short (EnumTree name base) h few =
    let f = named_fields (EnumTree name base) name (kind_name base) in
    let own = length-fields written_stamps f (fields_len f + 0) 0 in
    let word = kind-short base in
    let entry : TypeEntry = record { fields = f; subs = [] } in
    let last = length-append (type_bytes entry) [] in
    let whole = length-append (to_le_bytes w32 (fields_len f + 0) ++ fields_bytes written_stamps f 0) [] in
    omega (arith, last, whole, own, word, h)
tree-short (StructTree name members) h few =
    let f = named_fields (StructTree name members) name [] in
    let subs = members_fields 0 members in
    let behind = flat_map sub_bytes subs in
    let own = length-fields written_stamps f (fields_len f + length behind) (length subs) in
    let entry : TypeEntry = record { fields = f; subs = subs } in
    let last = length-append (type_bytes entry) [] in
    let whole = length-append (to_le_bytes w32 (fields_len f + length behind) ++ fields_bytes written_stamps f (length subs)) behind in
    let short_name = h.0 in
    let parts = subs-short 0 members h.1 in
    omega (arith, last, whole, own, short_name, parts, few)

named-few : (before : List NamedType) (known : List TypeTree) (t : NamedType) → has_parts before t ≡ true → HasFew (named_tree known t)
named-few before known (Structure name ms) h = let few = few_members before name ms h in omega (arith, few, length-members_fields known 0 ms)
named-few before known (Enumeration name base values) h = tt

behind-few : (ts before : List NamedType) (known : List TypeTree) → Each HasFew known → are_types_behind before ts ≡ true → Each HasFew (trees_behind known ts)
unfolding trees_behind
behind-few [] before known e h = e
behind-few (t ∷ ts) before known e h =
    let p = and_parts (is_next_type before t) (are_types_behind (before ++ t ∷ []) ts) h in
    let next = (and_parts _ _ (and_parts _ _ p.0).0).1 in
    behind-few ts (before ++ t ∷ []) (known ++ named_tree known t ∷ [])
    (each_both HasFew known (named_tree known t ∷ []) e (named-few before known t next, tt)) p.1

all-short : (ts : List TypeTree) → Each (IsTameTree 296000) ts → Each HasFew ts → length (flat_map tree_bytes ts) ≤ 1001000 * length ts
all-short [] e few = omega arith
all-short (t ∷ ts) e few =
    let own = tree-short t (e.0).tame few.0 in
    let rest = all-short ts e.1 few.1 in
    let all = length-append (tree_bytes t) (flat_map tree_bytes ts) in
    omega (arith, own, rest, all)

-- the upload of accepted types
pub short_upload : (types : List NamedType) → AreTypes types → length (types_upload types) < 2 ^ 32
unfolding trees_of
short_upload types a =
    let trees = trees_of types in
    let few = behind-few types [] [] tt a.each in
    let all = all-short trees (trees-tame types a) few in
    let count = length-trees_of types in
    let most = a.count in
    omega (arith, ap length (upload-trees trees), all, count, most)
