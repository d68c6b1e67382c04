-- For private contracts, and cited by no public clause: the type that a read text names, and its entry as it is put.
use Rattle.std.specs.Prelude.{◌≡◌, ℕ, List, [], ◌∷◌, ◌++◌, length, map, Bool, true, false, ◌&&◌, nat_le, Option, Some, None, option_map, option_and_then}
use Rattle.std.specs.List.{list_all}
use Rattle.spec_plant.specs.Listed.{NamedType}
use Rattle.spec_plant.specs.Trees.{TypeTree, PlainTree, TextTree, ArrayTree, tree_at, trees_of}
use Rattle.spec_plant.specs.Shapes.{place_named, bound_between}
use Rattle.spec_plant.specs.TypeTexts as texts
use Rattle.spec_plant.specs.AcceptedTypes.{is_bound}
use Rattle.spec_formats.specs.TypeEntry.{type_upload_bytes}
use Rattle.spec_machine.specs.TypesByText.{if_small, entry_by_type}
use Rattle.type_layout.specs.ReadTexts.{ends_among, text_of}
use Rattle.type_layout.specs.declared.read_texts.TypeText.{TypeText}

-- the dimensions
abbrev pub ends_read : TypeText → List texts.Ends
ends_read t = ends_among t.count t.first t.second t.third

-- the tree of an element
abbrev pub elem_tree_of : List NamedType → texts.ElemText → Option TypeTree
elem_tree_of types (texts.PlainText kind) = Some (PlainTree kind)
elem_tree_of types (texts.StringText n) = Some (TextTree n)
elem_tree_of types (texts.NamedText name) = option_map (tree_at (trees_of types)) (place_named types name)

abbrev pub tree_with : List texts.Ends → TypeTree → TypeTree
tree_with [] element = element
tree_with (e ∷ es) element = ArrayTree (map bound_between (e ∷ es)) element

abbrev pub tree_of_type_text : List NamedType → texts.TypeText → Option TypeTree
tree_of_type_text types t = option_map (tree_with t.ends) (elem_tree_of types t.elem)

-- the type, where it is small enough
abbrev pub tree_read : List NamedType → TypeText → Option TypeTree
tree_read types t = option_and_then if_small (tree_of_type_text types (text_of t))

-- a text type of at most 65,534 bytes, or any other element
abbrev pub is_elem_text : texts.ElemText → Bool
is_elem_text (texts.PlainText kind) = true
is_elem_text (texts.StringText n) = nat_le n 65534
is_elem_text (texts.NamedText name) = true

-- at most three dimensions that a description may have
abbrev pub are_few_ends : List texts.Ends → Bool
are_few_ends es = nat_le (length es) 3 && list_all is_bound (map bound_between es)

-- the entry of a type
unfoldable pub put_bytes : TypeTree → List ℕ
put_bytes tree = type_upload_bytes (entry_by_type tree ∷ [])

-- it is put, where there is such a type
abbrev pub IsPut : Option TypeTree → Bool → List ℕ → List ℕ → Type 0
IsPut None there old new = (there ≡ false) × (new ≡ old)
IsPut (Some tree) there old new = (there ≡ true) × (new ≡ old ++ put_bytes tree)
