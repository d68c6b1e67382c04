-- The layout, parts, texts and entries of a small plant, computed.
use Rattle.std.proofs.Common.{◌≡◌, ℕ, ◌+◌, List, [], ◌∷◌, map, true, false, refl}
use Rattle.std.specs.Prelude.{Option, Some, None, option_map, codes, pos, negsuc}
use Rattle.std.specs.Fmt.{digits}
use Rattle.name_paths.specs.Path.{name_step, index_step}
use Rattle.spec_plant.specs.Plain.{Kind, BOOL, INT, UINT, BYTE, USINT, DINT, LREAL}
use Rattle.spec_plant.specs.Listed.{Plain, Text, Struct, Enum, Shape, One, Array, Member, NamedType, Structure, Enumeration}
use Rattle.spec_plant.specs.Trees.{TypeTree, PlainTree, ArrayTree, StructTree, MemberTree, NoMember, EnumTree, trees_of, trees_behind, tree_of}
use Rattle.spec_plant.specs.Sizes.{type_size, members_end, type_align, greatest_align}
use Rattle.spec_plant.specs.Parts.{TypePart, part_of, part_behind}
use Rattle.spec_plant.specs.Spelling.{type_text}
use Rattle.spec_plant.specs.SameTypes.{is_same_type, has_same_parts, has_same_members}
use Rattle.spec_plant.specs.Description.{Symbol, Process}
use Rattle.spec_plant.specs.Entries.{type_id, symbol_entry_length, upload_size}

one : Kind → Shape
one kind = One (Plain kind)

member : List ℕ → Shape → Member
member name shape = record { name = name; shape = shape; comment = [] }

-- `active` BOOL, `pos` DINT, `label` STRING(5)
axis : NamedType
axis = Structure (codes "Axis") (member (codes "active") (one BOOL) ∷ member (codes "pos") (one DINT) ∷ member (codes "label") (One (Text 5)) ∷ [])

axis_tree : TypeTree
unfolding axis one member trees_of trees_behind
axis_tree = tree_of (axis ∷ []) (One (Struct 0))

-- indexes 1 to 3
axes : Shape
axes = Array (record { low = pos 1; count = 3 } ∷ []) (Struct 0)

axes_tree : TypeTree
axes_tree = tree_of (axis ∷ []) axes

places : List (Option ℕ)
places = map (λ name. option_map (λ (m : TypePart). m.first) (part_of axis_tree (name_step name)))
    (codes "active" ∷ codes "pos" ∷ codes "label" ∷ codes "LABEL" ∷ codes "lab" ∷ [])

members_at : places ≡ Some 0 ∷ Some 4 ∷ Some 8 ∷ Some 8 ∷ None ∷ []
unfolding places axis_tree axis one member trees_of trees_behind type_size members_end type_align greatest_align
members_at = refl

axis_size : type_size axis_tree ≡ 16
unfolding axis_tree axis one member trees_of trees_behind type_size members_end type_align greatest_align
axis_size = refl

axis_align : type_align axis_tree ≡ 4
unfolding axis_tree axis one member trees_of trees_behind type_align greatest_align
axis_align = refl

-- `Main.axis[2].pos`, where `Main.axis` begins at 8
pos_of_second : option_map (λ (p : TypePart). 8 + p.first)
    (part_behind (record { first = 0; type = axes_tree }) (index_step (pos 2 ∷ []) ∷ name_step (codes "pos") ∷ [])) ≡ Some 28
unfolding part_behind axes_tree axes axis one member trees_of trees_behind type_size members_end type_align greatest_align
pos_of_second = refl

below_the_least : part_of axes_tree (index_step (pos 0 ∷ [])) ≡ None
unfolding axes_tree axes axis one member trees_of trees_behind
below_the_least = refl

above_the_greatest : part_of axes_tree (index_step (pos 4 ∷ [])) ≡ None
unfolding axes_tree axes axis one member trees_of trees_behind
above_the_greatest = refl

-- ARRAY [-1..0,0..2] OF INT: the last index moves fastest
last_fastest : option_map (λ (p : TypePart). p.first)
    (part_of (ArrayTree (record { low = negsuc 0; count = 2 } ∷ record { low = pos 0; count = 3 } ∷ []) (PlainTree INT))
    (index_step (pos 0 ∷ pos 1 ∷ []))) ≡ Some 8
unfolding type_size
last_fastest = refl

-- a leaf has no part
no_part : part_of (PlainTree DINT) (name_step (codes "pos")) ≡ None
no_part = refl

array_text : type_text axes_tree ≡ codes "ARRAY [1..3] OF Axis"
unfolding type_text axes_tree axes axis one member trees_of trees_behind digits
array_text = refl

plane_text : type_text (ArrayTree (record { low = negsuc 0; count = 2 } ∷ record { low = pos 0; count = 10 } ∷ []) (PlainTree LREAL))
    ≡ codes "ARRAY [-1..0,0..9] OF LREAL"
unfolding type_text digits
plane_text = refl

-- BOOL before LREAL is filled up to 8, and the whole to 16
filled : type_size (StructTree (codes "T") (MemberTree (codes "a") (PlainTree LREAL) [] (MemberTree (codes "b") (PlainTree BOOL) [] NoMember))) ≡ 16
unfolding type_size members_end type_align greatest_align
filled = refl

symbol : List ℕ → Shape → Symbol
symbol name shape = record
    { name = name; shape = shape; area = Process; offset = 0; comment = []; persistent = false; read_only = false; initial = []; signal = None; writers = [] }

symbols : List Symbol
symbols =
    symbol (codes "Main.count") (one DINT) ∷ symbol (codes "Main.axis") axes ∷ symbol (codes "Main.limit") (one INT)
    ∷ symbol (codes "Main.wave") (one UINT) ∷ symbol (codes "Main.title") (One (Text 7)) ∷ symbol (codes "Flags.bits") (one BYTE) ∷ []

entries : map (symbol_entry_length (axis ∷ [])) symbols ≡ 47 ∷ 62 ∷ 46 ∷ 46 ∷ 52 ∷ 47 ∷ []
unfolding symbols symbol axes axis one member trees_of trees_behind type_text digits
entries = refl

upload : upload_size (axis ∷ []) symbols ≡ 300
unfolding symbols symbol axes axis one member trees_of trees_behind type_text digits
upload = refl

-- Mode: INT (Auto := 2, Off := 0)
mode : Kind → NamedType
mode base = Enumeration (codes "Mode") base (record { name = codes "Auto"; number = pos 2 } ∷ record { name = codes "Off"; number = pos 0 } ∷ [])

mode_entry : symbol_entry_length (mode INT ∷ []) (symbol (codes "M.mode") (One (Enum 0))) ≡ 43
unfolding mode symbol trees_of trees_behind type_text
mode_entry = refl

mode_size : type_size (tree_of (mode INT ∷ []) (One (Enum 0))) ≡ 2
unfolding mode trees_of trees_behind type_size
mode_size = refl

mode_id : type_id (tree_of (mode INT ∷ []) (One (Enum 0))) ≡ 2
unfolding mode trees_of trees_behind
mode_id = refl

-- as many elements under other bounds are another type
other_bounds : is_same_type (ArrayTree (record { low = pos 0; count = 2 } ∷ []) (PlainTree BYTE))
    (ArrayTree (record { low = pos 1; count = 2 } ∷ []) (PlainTree BYTE)) ≡ false
unfolding type_text digits has_same_parts
other_bounds = refl

-- a base of the same size is another base
other_base : is_same_type (EnumTree (codes "Mode") INT) (EnumTree (codes "Mode") UINT) ≡ false
unfolding type_text has_same_parts
other_base = refl

-- the names of members are compared with the case of letters aside, those of types are not
cased : List ℕ → List ℕ → TypeTree
cased name part = StructTree name (MemberTree part (PlainTree DINT) [] NoMember)

other_member_case : is_same_type (cased (codes "Axis") (codes "pos")) (cased (codes "Axis") (codes "Pos")) ≡ true
unfolding cased type_text type_align type_size has_same_parts has_same_members
other_member_case = refl

other_type_case : is_same_type (cased (codes "Axis") (codes "pos")) (cased (codes "AXIS") (codes "pos")) ≡ false
unfolding cased type_text has_same_parts
other_type_case = refl

-- BYTE and USINT are two types
byte_and_usint : is_same_type (PlainTree BYTE) (PlainTree USINT) ≡ false
unfolding type_text has_same_parts
byte_and_usint = refl
