-- The members of an accepted structure, one after another. No public clause cites this file.
use Rattle.std.specs.Prelude.{◌≡◌, ℕ, ◌+◌, ◌≤◌, max, List, [], length, flat_map}
use Rattle.spec_plant.specs.Listed.{Bound, Shape, One, Array, Member, NamedType}
use Rattle.spec_plant.specs.Trees.{TypeTree, member_trees, tree_of, trees_of}
use Rattle.spec_plant.specs.Sizes.{type_size, type_align, member_start}
use Rattle.spec_plant.specs.Spelling.{type_text}
use Rattle.spec_plant.specs.AcceptedTypes.{IsSized, LIMIT, elem_within}
use Rattle.spec_formats.specs.TypeEntry.{sub_bytes, type_bytes}
use Rattle.spec_formats.specs.TypeUpload.{member_fields, members_fields, entry_of_type}
use Rattle.type_upload.specs.Layouts.{reach}
use Rattle.type_upload.specs.declared.layouts.Laid.{Laid}

-- the dimensions of a shape
abbrev pub bounds_within : Shape → List Bound
bounds_within (One elem) = []
bounds_within (Array bounds elem) = bounds

-- what is known of a member, when so many types stand before its structure and the members before it end at `end`
pub record IsNextMember (types : List NamedType) (place end : ℕ) (m : Member) : Type 0 where
  pub sized : IsSized types m.shape
  pub earlier : reach (elem_within m.shape) ≤ place
  pub begins : end ≤ LIMIT
  pub ends : member_start end (tree_of types m.shape) + type_size (tree_of types m.shape) ≤ LIMIT
  pub short_name : length m.name ≤ 255
  pub short_text : length (type_text (tree_of types m.shape)) ≤ 400
  pub short_comment : length m.comment ≤ 255
  pub few_dimensions : length (bounds_within m.shape) ≤ 3

-- where the members end behind one of this type, and their greatest alignment
pub record Follows (before : Laid) (tree : TypeTree) (after : Laid) : Type 0 where
  pub end_is : after.end ≡ member_start before.end tree + type_size tree
  pub align_is : after.align ≡ max before.align (type_align tree)

-- the sub entry of a member, when the members before it end at `end`
abbrev pub sub_of : List NamedType → ℕ → Member → List ℕ
sub_of types end m =
    let tree = tree_of types m.shape in
    sub_bytes (member_fields (member_start end tree) m.name tree m.comment)

-- the sub entries of members, when the members before them end at `end`
abbrev pub subs_of : List NamedType → ℕ → List Member → List ℕ
subs_of types end ms = flat_map sub_bytes (members_fields end (member_trees (trees_of types) ms))

-- the entry of a named type
abbrev pub tree_bytes : TypeTree → List ℕ
tree_bytes tree = flat_map type_bytes (entry_of_type tree)
