-- Entries, and the upload.
use Rattle.std.proofs.Common.{◌≡◌, ℕ, ◌+◌, ◌<◌, ◌≤◌, List, [], ◌∷◌, ◌++◌, length, get_or, take, refl, sym, ap, ◌∙◌, arith, append_assoc, zero-add}
use Rattle.std.specs.Prelude.{flat_map}
use Rattle.std.proofs.lemmas.List.{append-nil, take_more, take_all, flat_map_more}
use Rattle.std.proofs.lemmas.Grind.{flat_map-append}
use Rattle.std.proofs.lemmas.Option.{unwrap_or-slice_get}
use Rattle.spec_formats.specs.TypeEntry.{Dimension, TypeFields, TypeEntry, sub_bytes, type_bytes, type_upload_bytes}
use Rattle.spec_plant.specs.Listed.{NamedType}
use Rattle.spec_plant.specs.Trees.{TypeTree, StructTree, MemberTrees, NoMember, tree_at, trees_of}
use Rattle.spec_plant.specs.Sizes.{type_size}
use Rattle.spec_plant.specs.Entries.{type_id}
use Rattle.spec_plant.specs.Spelling.{type_text}
use Rattle.type_upload.specs.Alone.{entry_alone}
use Rattle.spec_plant.proofs.TypeLemmas.{length-trees_behind}
use Rattle.spec_formats.specs.TypeUpload.{dimensions_of, members_fields, named_fields, entry_of_type, entries_of_types}
use Rattle.type_upload.specs.WrittenFields.{front_bytes}
use Rattle.type_upload.specs.NextMembers.{tree_bytes}

-- the fields of a named type, as the code fills them in
abbrev filled : ℕ → ℕ → List ℕ → List ℕ → TypeFields
filled size id name text = record { size = size; offset = 0; type_id = id; flags = 1; name = name; type_name = text; comment = []; dimensions = [] }

pub structure_written : (name : List ℕ) (members : MemberTrees) (size id count : ℕ) (read subs old mid new : List ℕ)
    → size ≡ type_size (StructTree name members) → id ≡ type_id (StructTree name members) → read ≡ name → count ≡ length (members_fields 0 members)
    → subs ≡ flat_map sub_bytes (members_fields 0 members)
    → mid ≡ old ++ front_bytes (filled size id read []) (length subs) count → new ≡ mid ++ subs → new ≡ old ++ tree_bytes (StructTree name members)
structure_written name members size id count read subs old mid new es ei en ec eb e f =
    let front = front_bytes (filled size id read []) (length subs) count in
    let entry : TypeEntry = record { fields = named_fields (StructTree name members) name []; subs = members_fields 0 members } in
    let same : front ++ subs ≡ tree_bytes (StructTree name members) = rw (es, ei, en, ec, eb) (sym (append-nil (type_bytes entry))) in
    f ∙ (ap (λ (l : List ℕ). l ++ subs) e ∙ (append_assoc old front subs ∙ ap (λ (l : List ℕ). old ++ l) same))

-- an entry without members
pub alone_written : (tree : TypeTree) (size id : ℕ) (name kind : List ℕ) (dims : List Dimension) (old new : List ℕ)
    → size ≡ type_size tree → name ≡ type_text tree → dims ≡ dimensions_of tree
    → new ≡ old ++ front_bytes (record {
      size = size;
      offset = 0;
      type_id = id;
      flags = 1;
      name = name;
      type_name = kind;
      comment = [];
      dimensions = dims;
    }) 0 0
    → new ≡ old ++ type_bytes (entry_alone tree id kind)
alone_written tree size id name kind dims old new es en ed e =
    let front = front_bytes (entry_alone tree id kind).fields 0 0 in
    let same : new ≡ old ++ front = rw (es, en, ed) at e in
    same ∙ ap (λ (l : List ℕ). old ++ l) (sym (append-nil front))

-- the upload, tree by tree
pub upload-trees : (ts : List TypeTree) → type_upload_bytes (entries_of_types ts) ≡ flat_map tree_bytes ts
upload-trees [] = refl
upload-trees (t ∷ ts) = flat_map-append type_bytes (entry_of_type t) (entries_of_types ts) ∙ ap (λ (l : List ℕ). tree_bytes t ++ l) (upload-trees ts)

pub length-trees_of : (types : List NamedType) → length (trees_of types) ≡ length types
unfolding trees_of
length-trees_of types = length-trees_behind [] types ∙ zero-add (length types)

-- one more entry
pub trees_go_on : (types : List NamedType) (i : ℕ) (tree : TypeTree) (old out new : List ℕ) → i < length types → tree_at (trees_of types) i ≡ tree
    → out ≡ old ++ flat_map tree_bytes (take i (trees_of types)) → new ≡ out ++ tree_bytes tree
    → new ≡ old ++ flat_map tree_bytes (take (i + 1) (trees_of types))
trees_go_on types i tree old out new h there so_far e =
    let trees = trees_of types in
    let within : i < length trees = omega (arith, length-trees_of types, h) in
    let is : get_or trees i (StructTree [] NoMember) ≡ tree = sym (unwrap_or-slice_get trees i (StructTree [] NoMember)) ∙ there in
    let more : take (i + 1) trees ≡ take i trees ++ tree ∷ [] =
    take_more trees i (StructTree [] NoMember) within ∙ ap (λ (t : TypeTree). take i trees ++ t ∷ []) is in
    rw more (e ∙ (ap (λ (l : List ℕ). l ++ tree_bytes tree) so_far ∙ flat_map_more tree_bytes old (take i trees) tree))

pub trees_whole : (types : List NamedType) (i : ℕ) (old out : List ℕ) → length types ≤ i → out ≡ old ++ flat_map tree_bytes (take i (trees_of types))
    → out ≡ old ++ type_upload_bytes (entries_of_types (trees_of types))
trees_whole types i old out h e =
    let all : take i (trees_of types) ≡ trees_of types = take_all i (trees_of types) (omega (arith, length-trees_of types, h)) in
    e ∙ ap (λ (l : List ℕ). old ++ l) (ap (λ (ts : List TypeTree). flat_map tree_bytes ts) all ∙ sym (upload-trees (trees_of types)))
