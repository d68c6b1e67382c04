-- Worked examples of the verdict, by computation.
use Rattle.std.proofs.Common.{◌≡◌, ℕ, List, ◌++◌, refl, true, Some, Err, is_ok, option_map}
use Rattle.std.specs.Prelude.{codes}
use Rattle.toml.specs.Parse.{parse_document}
use Rattle.toml.proofs.OnLiterals.{toml_on_literals}
use Rattle.spec_plant.specs.Trees.{trees_behind, trees_of}
use Rattle.spec_plant.specs.Sizes.{type_align, greatest_align, type_size, members_end, type_depth, greatest_depth}
use Rattle.spec_plant.specs.Spelling.{type_text}
use Rattle.std.specs.Fmt.{digits}
use Rattle.hex.specs.Hex.{decode_pairs}
use Rattle.spec_rules.specs.Tables.{route_in, member_in, value_in, structure_in, enumeration_in, type_in, symbol_in, port_in, document_in}
use Rattle.spec_plant.specs.Shapes.{shape_of_text}
use Rattle.spec_rules.specs.Described.{types_behind}
use Rattle.spec_rules.specs.RouteRules.{wrong_schema, wrong_net, wrong_rights}
use Rattle.spec_rules.specs.TypeRules.{wrong_type_name, wrong_part}
use Rattle.spec_rules.specs.SizeRules.{wrong_size}
use Rattle.spec_rules.specs.PortRules.{wrong_port, wrong_upload}
use Rattle.spec_rules.specs.SymbolRules.{wrong_name, wrong_type, wrong_place, wrong_content, wrong_signal}
use Rattle.spec_rules.specs.Verdict.{table_verdict}

-- a document without its other keys
schema_alone : option_map (table_verdict 3) (parse_document (codes "schema = 2\n")) ≡ Some (Err (record { number = 2; item = 0 }))
unfolding toml_on_literals route_in member_in value_in structure_in enumeration_in type_in symbol_in port_in document_in shape_of_text types_behind
    wrong_schema wrong_net wrong_rights wrong_type_name wrong_part wrong_size wrong_port wrong_upload wrong_name wrong_type wrong_place wrong_content
    wrong_signal trees_behind trees_of type_align greatest_align type_size members_end type_depth greatest_depth type_text digits decode_pairs
schema_alone = refl

-- a plant of one port with three symbols, of which the second begins here
abbrev plant_with_axis_at : List ℕ → List ℕ
plant_with_axis_at axis =
    codes "schema = 1\nnet = \"5.1.2.3.1.1\"\n[[route]]\nnet = \"192.168.0.9.1.1\"\nrights = \"control\"\n"
    ++ codes "[[route]]\nnet = \"192.168.0.10.1.1\"\nrights = \"read\"\n[[type]]\nname = \"Axis\"\nmember = [\n"
    ++ codes "  { name = \"active\", type = \"BOOL\" },\n  { name = \"pos\", type = \"DINT\" },\n  { name = \"label\", type = \"STRING(5)\" },\n]\n"
    ++ codes "[[port]]\nport = 851\nname = \"Plc30 App\"\nmajor = 3\nminor = 1\nbuild = 1711\ninputs = 16\noutputs = 16\nmemory = 32\ndata = 128\n"
    ++ codes "[[port.symbol]]\nname = \"Main.count\"\ntype = \"DINT\"\narea = \"data\"\noffset = 0\ninitial = \"2a000000\"\n"
    ++ codes "[[port.symbol]]\nname = \"Main.axis\"\ntype = \"ARRAY [1..3] OF Axis\"\narea = \"data\"\noffset = "
    ++ axis
    ++ codes "\n[[port.symbol]]\nname = \"Main.wave\"\ntype = \"UINT\"\narea = \"data\"\noffset = 64\nsignal = 2\n"

-- a symbol that covers a byte of the one before it
overlap : option_map (table_verdict 3) (parse_document (plant_with_axis_at (codes "2")))
    ≡ Some (Err (record { number = 12; item = 1 }))
unfolding toml_on_literals route_in member_in value_in structure_in enumeration_in type_in symbol_in port_in document_in shape_of_text types_behind
    wrong_schema wrong_net wrong_rights wrong_type_name wrong_part wrong_size wrong_port wrong_upload wrong_name wrong_type wrong_place wrong_content
    wrong_signal trees_behind trees_of type_align greatest_align type_size members_end type_depth greatest_depth type_text digits decode_pairs
overlap = refl

-- a signal that is not there
no_signal : option_map (table_verdict 2) (parse_document (plant_with_axis_at (codes "8")))
    ≡ Some (Err (record { number = 14; item = 2 }))
unfolding toml_on_literals route_in member_in value_in structure_in enumeration_in type_in symbol_in port_in document_in shape_of_text types_behind
    wrong_schema wrong_net wrong_rights wrong_type_name wrong_part wrong_size wrong_port wrong_upload wrong_name wrong_type wrong_place wrong_content
    wrong_signal trees_behind trees_of type_align greatest_align type_size members_end type_depth greatest_depth type_text digits decode_pairs
no_signal = refl

-- a plant that keeps the rules
plant : option_map (λ t. is_ok (table_verdict 3 t)) (parse_document (plant_with_axis_at (codes "8"))) ≡ Some true
unfolding toml_on_literals route_in member_in value_in structure_in enumeration_in type_in symbol_in port_in document_in shape_of_text types_behind
    wrong_schema wrong_net wrong_rights wrong_type_name wrong_part wrong_size wrong_port wrong_upload wrong_name wrong_type wrong_place wrong_content
    wrong_signal trees_behind trees_of type_align greatest_align type_size members_end type_depth greatest_depth type_text digits decode_pairs
plant = refl
