-- The members of an accepted structure, one after another.
use Rattle.std.proofs.Common.{◌≡◌, ℕ, suc, ◌+◌, ◌<◌, ◌≤◌, max, List, [], ◌∷◌, ◌++◌, length, drop, take, true, refl, sym, ap, ◌∙◌, arith, append_assoc}
use Rattle.std.specs.Prelude.{Some, slice_get, nat_le, ◌&&◌}
use Rattle.std.specs.List.{list_all}
use Rattle.std.proofs.lemmas.Bool.{and_parts, leb-true}
use Rattle.std.proofs.lemmas.List.{drop_all, length-map}
use Rattle.spec_formats.specs.TypeEntry.{Dimension, TypeFields, Stamps, fields_len, sub_bytes}
use Rattle.spec_plant.specs.Listed.{Shape, One, Array, Member, NamedType, Structure}
use Rattle.spec_plant.specs.Trees.{TypeTree, StructTree, shape_tree, tree_of, trees_of, member_trees}
use Rattle.spec_plant.specs.Sizes.{aligned, type_size, type_align, greatest_align, members_end, member_start}
use Rattle.spec_plant.specs.Spelling.{type_text}
use Rattle.spec_plant.specs.Entries.{type_id}
use Rattle.spec_plant.specs.AcceptedTypes.{AreTypes, LIMIT, are_bounds, is_elem, is_shape, is_small_shape}
use Rattle.spec_plant.specs.AcceptedTypes.{is_member, is_comment, is_short_identifier, has_parts, is_count}
use Rattle.spec_plant.specs.AcceptedTypes.{all_pairs, differ, elem_within}
use Rattle.spec_plant.proofs.SizeLemmas.{greatest_align-bounds}
use Rattle.spec_plant.proofs.TypeLemmas.{StandsAt, list_all-get, member-shape}
use Rattle.spec_plant.proofs.TextLengths.{three_bounds, short_name, short_comment}
use Rattle.spec_formats.specs.TypeUpload.{members_fields, member_fields, dimension_of, dimensions_of}
use Rattle.type_layout.proofs.MemberTurns.{is_turn, ends_within, member_start-align}
use Rattle.type_upload.specs.WrittenFields.{front_bytes}
use Rattle.type_upload.specs.NextMembers.{IsNextMember, bounds_within, sub_of, subs_of}
use Rattle.type_upload.proofs.Appends.{front_bytes-sub}
use Rattle.type_upload.proofs.FieldLemmas.{length-fields}
use Rattle.type_upload.proofs.LayoutLemmas.{reach-le, dimensions_of-shape}
use Rattle.type_upload.proofs.TextLengths.{text-short}

-- ---- what is known of a member

-- of the members of an accepted structure
members_accepted : (before : List NamedType) (name : List ℕ) (ms : List Member) → has_parts before (Structure name ms) ≡ true
    → (is_count (length ms) ≡ true) × (list_all (is_member before) ms ≡ true)
members_accepted before name ms h =
    let p = and_parts (is_count (length ms) && list_all (is_member before) ms) (all_pairs (λ (m n : Member). differ m.name n.name) ms) h in
    and_parts (is_count (length ms)) (list_all (is_member before) ms) (p.0)

pub few_members : (before : List NamedType) (name : List ℕ) (ms : List Member) → has_parts before (Structure name ms) ≡ true → length ms ≤ 1000
few_members before name ms h = leb-true (length ms) 1000 (and_parts _ (nat_le (length ms) 1000) (members_accepted before name ms h).0).1

few-dimensions : (before : List NamedType) (s : Shape) → is_shape before s ≡ true → length (bounds_within s) ≤ 3
few-dimensions before (One e) h = omega arith
few-dimensions before (Array bounds e) h = (three_bounds bounds (and_parts (are_bounds bounds) (is_elem before e) h).0).0

pub next_member : (types : List NamedType) (place : ℕ) (name : List ℕ) (ms : List Member) (i : ℕ) (m : Member) (end : ℕ)
    → AreTypes types → StandsAt types place (Structure name ms) → slice_get ms i ≡ Some m
    → members_end 0 (member_trees (trees_of types) ms) ≡ members_end end (member_trees (trees_of types) (drop i ms))
    → IsNextMember types place end m
next_member types place name ms i m end a s e h =
    let before = take place types in
    let turn = is_turn types place name ms i m end s e h in
    let accepted : is_member before m ≡ true = list_all-get (is_member before) ms i m (members_accepted before name ms s.parts).1 e in
    let shape : is_shape before m.shape ≡ true = member-shape before m accepted in
    let p = and_parts (is_short_identifier m.name && is_comment m.comment && is_shape before m.shape) (is_small_shape m.shape) accepted in
    let q = and_parts (is_short_identifier m.name && is_comment m.comment) (is_shape before m.shape) (p.0) in
    let r = and_parts (is_short_identifier m.name) (is_comment m.comment) (q.0) in
    record {
      sized = turn.sized;
      earlier = reach-le (elem_within m.shape) place turn.earlier;
      begins = turn.begins;
      ends = turn.ends;
      short_name = short_name m.name (r.0);
      short_text = text-short types before m.shape a shape turn.sized.named;
      short_comment = short_comment m.comment (r.1);
      few_dimensions = few-dimensions before m.shape shape;
    }

-- where a member stands
pub stands_behind : (end align start : ℕ) (tree : TypeTree) → align ≡ type_align tree → start ≡ aligned end align → start ≡ member_start end tree
stands_behind end align start tree a e = e ∙ (ap (λ (n : ℕ). aligned end n) a ∙ sym (member_start-align end tree))

-- ---- the bytes

-- the fields of a member, as the code fills them in
pub sub_written : (types : List NamedType) (m : Member) (end size offset id : ℕ) (name text comment : List ℕ) (dims : List Dimension) (old new : List ℕ)
    → size ≡ type_size (tree_of types m.shape) → offset ≡ member_start end (tree_of types m.shape) → id ≡ type_id (tree_of types m.shape)
    → name ≡ m.name → text ≡ type_text (tree_of types m.shape) → comment ≡ m.comment → dims ≡ dimensions_of (tree_of types m.shape)
    → new ≡ old ++ front_bytes
    (record { size = size; offset = offset; type_id = id; flags = 2; name = name; type_name = text; comment = comment; dimensions = dims }) 0 0
    → new ≡ old ++ sub_of types end m
sub_written types m end size offset id name text comment dims old new es eo ei en et ec ed e =
    let f : TypeFields = record
    { size = size; offset = offset; type_id = id; flags = 2; name = name; type_name = text; comment = comment; dimensions = dims } in
    let g : TypeFields = member_fields (member_start end (tree_of types m.shape)) m.name (tree_of types m.shape) m.comment in
    let same : f ≡ g = rw (es, eo, ei, en, et, ec, ed) refl in
    e ∙ ap (λ (l : List ℕ). old ++ l) (front_bytes-sub f ∙ ap (λ (x : TypeFields). sub_bytes x) same)

-- what is left of the sub entries, behind one that is written
pub subs_go_on : (types : List NamedType) (ms : List Member) (i : ℕ) (m : Member) (end after : ℕ) (out new total : List ℕ)
    → drop i ms ≡ m ∷ drop (i + 1) ms → after ≡ member_start end (tree_of types m.shape) + type_size (tree_of types m.shape)
    → new ≡ out ++ sub_of types end m → out ++ subs_of types end (drop i ms) ≡ total → new ++ subs_of types after (drop (i + 1) ms) ≡ total
subs_go_on types ms i m end after out new total left ends is so_far =
    let rest = subs_of types (member_start end (tree_of types m.shape) + type_size (tree_of types m.shape)) (drop (i + 1) ms) in
    rw (ends, is) (append_assoc out (sub_of types end m) rest ∙ (ap (λ (l : List Member). out ++ subs_of types end l) (sym left) ∙ so_far))

-- a sub entry has at most 1,000 bytes
pub sub_of-short : (types : List NamedType) (place end : ℕ) (m : Member) → AreTypes types → IsNextMember types place end m → length (sub_of types end m) ≤ 1000
sub_of-short types place end m a next =
    let tree = tree_of types m.shape in
    let f : TypeFields = member_fields (member_start end tree) m.name tree m.comment in
    let stamps : Stamps = record { version = 1; hash = 0; type_hash = 0 } in
    let len = length-fields stamps f (fields_len f) 0 in
    let dims : length (dimensions_of tree) ≡ length (bounds_within m.shape) =
    ap length (sym (dimensions_of-shape types m.shape a next.sized)) ∙ length-map (bounds_within m.shape) dimension_of in
    omega (arith, len, dims, next.short_name, next.short_text, next.short_comment, next.few_dimensions)

pub length-members_fields : (known : List TypeTree) (at : ℕ) (ms : List Member) → length (members_fields at (member_trees known ms)) ≡ length ms
length-members_fields known at [] = refl
length-members_fields known at (m ∷ ms) =
    let tree = shape_tree known m.shape in
    ap suc (length-members_fields known (member_start at tree + type_size tree) ms)

-- ---- when all members are written

pub record IsWhole (types : List NamedType) (name : List ℕ) (ms : List Member) (end greatest : ℕ) : Type 0 where
  pub size : aligned end greatest ≡ type_size (StructTree name (member_trees (trees_of types) ms))
  pub align : greatest ≡ type_align (StructTree name (member_trees (trees_of types) ms))
  pub ends : end ≤ LIMIT
  pub high : greatest ≤ 8

pub is_whole : (types : List NamedType) (place : ℕ) (name : List ℕ) (ms : List Member) (i end greatest : ℕ)
    → StandsAt types place (Structure name ms) → length ms ≤ i
    → members_end 0 (member_trees (trees_of types) ms) ≡ members_end end (member_trees (trees_of types) (drop i ms))
    → greatest_align (member_trees (trees_of types) ms) ≡ max greatest (greatest_align (member_trees (trees_of types) (drop i ms)))
    → 0 < greatest → IsWhole types name ms end greatest
unfolding type_size type_align members_end greatest_align
is_whole types place name ms i end greatest s far ends aligns low =
    let known = trees_of types in
    let none : drop i ms ≡ [] = drop_all i ms far in
    let end_is : members_end 0 (member_trees known ms) ≡ end = rw none at ends in
    let greatest_is : greatest_align (member_trees known ms) ≡ max greatest 1 = rw none at aligns in
    let one : max greatest 1 ≡ greatest = omega (arith, low) in
    let bounds = (greatest_align-bounds (member_trees known ms)).1 in
    let limit = ends_within types place name ms s in
    record {
      size = rw (end_is, greatest_is, one) refl;
      align = rw (greatest_is, one) refl;
      ends = omega (arith, limit, end_is);
      high = omega (arith, bounds, greatest_is, low);
    }
