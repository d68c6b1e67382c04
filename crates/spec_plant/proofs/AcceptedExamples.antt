-- Descriptions that are accepted, and such that are not, computed.
use Rattle.std.proofs.Common.{◌≡◌, ℕ, List, [], ◌∷◌, ◌++◌, replicate, true, false, refl, lit<, lit≤}
use Rattle.std.specs.Prelude.{codes, pos, negsuc}
use Rattle.std.specs.Fmt.{digits}
use Rattle.spec_plant.specs.Plain.{Kind, INT, BYTE, USINT}
use Rattle.spec_plant.specs.Listed.{Plain, Struct, Shape, One, Member, EnumValue, NamedType, Structure, Enumeration}
use Rattle.spec_plant.specs.Trees.{trees_of, trees_behind}
use Rattle.spec_plant.specs.Sizes.{type_size, members_end, type_align, greatest_align, type_depth, greatest_depth}
use Rattle.spec_plant.specs.Spelling.{type_text}
use Rattle.spec_plant.specs.Description.{Process, Symbol}
use Rattle.spec_plant.specs.AcceptedTypes.{are_types_behind}
use Rattle.spec_plant.specs.Accepted.{IsAccepted, is_port, number_bytes}
use Rattle.spec_plant.proofs.Plant.{axis_type, plain_symbol, count_symbol, title_symbol, symbols_with, port_with, plant}

member : List ℕ → Shape → Member
member name shape = record { name = name; shape = shape; comment = [] }

types : List NamedType
types = axis_type ∷ []

mix : Symbol
mix = title_symbol 7 (codes "Mix" ++ replicate 5 0)

plant_is_accepted : IsAccepted plant 3
unfolding trees_of trees_behind type_size members_end type_align greatest_align type_depth greatest_depth type_text digits
plant_is_accepted = record {
  routes = refl;
  types = record { count = lit≤ tt; each = refl };
  some_port = lit< tt;
  few_ports = lit≤ tt;
  numbers = refl;
  each_port = refl;
  each_signal_once = refl;
}

-- two signals are too few
signal_is_missing : is_port types 2 (port_with (symbols_with (count_symbol 0) mix)) ≡ false
unfolding types mix trees_of trees_behind type_size members_end type_align greatest_align type_depth greatest_depth type_text digits
signal_is_missing = refl

-- `Main.count` at 6 covers bytes of `Main.axis`
symbols_overlap : is_port types 3 (port_with (symbols_with (count_symbol 6) mix)) ≡ false
unfolding types mix trees_of trees_behind type_size members_end type_align greatest_align type_depth greatest_depth type_text digits
symbols_overlap = refl

-- a name that begins another one
name_within_name : is_port types 3
    (port_with (plain_symbol (codes "Main") (One (Plain BYTE)) Process 0 (0 ∷ []) ∷ plain_symbol (codes "main.a") (One (Plain BYTE)) Process 1
    (0 ∷ []) ∷ [])) ≡ false
unfolding trees_of trees_behind type_size type_text digits
name_within_name = refl

-- a name that has another as its first letters is another name
name_beside_name : is_port types 3
    (port_with (plain_symbol (codes "Main.a") (One (Plain BYTE)) Process 0 (0 ∷ []) ∷ plain_symbol (codes "Main.ab") (One (Plain BYTE)) Process 1
    (0 ∷ []) ∷ [])) ≡ true
unfolding types mix trees_of trees_behind type_size type_text digits
name_beside_name = refl

-- a structure of itself
names_itself : are_types_behind [] (Structure (codes "A") (member (codes "a") (One (Struct 0)) ∷ []) ∷ []) ≡ false
unfolding member trees_of trees_behind type_size members_end type_align greatest_align type_depth greatest_depth
names_itself = refl

mode : Kind → List EnumValue → NamedType
mode base values = Enumeration (codes "Mode") base values

value : List ℕ → ℕ → EnumValue
value name n = record { name = name; number = pos n }

mode_is_accepted : are_types_behind [] (mode INT (value (codes "Auto") 2 ∷ value (codes "Off") 0 ∷ []) ∷ []) ≡ true
unfolding mode value trees_of trees_behind type_size type_depth
mode_is_accepted = refl

value_out_of_range : are_types_behind [] (mode USINT (value (codes "Auto") 256 ∷ []) ∷ []) ≡ false
unfolding mode value trees_of trees_behind type_size type_depth
value_out_of_range = refl

same_value_twice : are_types_behind [] (mode INT (value (codes "A") 2 ∷ value (codes "B") 2 ∷ []) ∷ []) ≡ false
unfolding mode value trees_of trees_behind type_size type_depth
same_value_twice = refl

bit_is_no_base : are_types_behind [] (mode BYTE (value (codes "A") 2 ∷ []) ∷ []) ≡ false
unfolding mode value trees_of trees_behind type_size type_depth
bit_is_no_base = refl

first_value : number_bytes INT (pos 2) ≡ 2 ∷ 0 ∷ []
first_value = refl

negative_value : number_bytes INT (negsuc 1) ≡ 254 ∷ 255 ∷ []
negative_value = refl
