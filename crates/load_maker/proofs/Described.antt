-- The document of a load is read as its description, by computation.
use Rattle.std.proofs.Common.{◌≡◌, ℕ, refl, ap, ◌∙◌, true, false, List, length, Some}
use Rattle.std.specs.Prelude.{Ok, nat_lt}
use Rattle.std.specs.Fmt.{digits}
use Rattle.spec_plant.specs.Trees.{trees_behind, trees_of}
use Rattle.spec_plant.specs.Sizes.{type_align, greatest_align, type_size, members_end, type_depth, greatest_depth}
use Rattle.spec_plant.specs.Spelling.{type_text}
use Rattle.hex.specs.Hex.{decode_pairs}
use Rattle.spec_rules.specs.Tables.{route_in, member_in, value_in, structure_in, enumeration_in, type_in, symbol_in, port_in, document_in}
use Rattle.spec_plant.specs.Shapes.{shape_of_text}
use Rattle.spec_rules.specs.Described.{types_behind}
use Rattle.spec_rules.specs.RouteRules.{wrong_schema, wrong_net, wrong_rights}
use Rattle.spec_rules.specs.TypeRules.{wrong_type_name, wrong_part}
use Rattle.spec_rules.specs.SizeRules.{wrong_size}
use Rattle.spec_rules.specs.PortRules.{wrong_port, wrong_upload}
use Rattle.spec_rules.specs.SymbolRules.{wrong_name, wrong_type, wrong_place, wrong_content, wrong_signal}
use Rattle.spec_rules.specs.Verdict.{table_verdict}
use Rattle.spec_rules.specs.TextVerdict.{Described, text_verdict, document_of}
use Rattle.toml_writer.specs.Text.{needs_escape, quotes_after, escaped, encoding_of, string_text, key_text}
use Rattle.table_text.specs.PlainTable.{is_plain_table}
use Rattle.table_text.specs.TableText.{document_text}
use Rattle.toml.specs.Data.{members_depth}
use Rattle.load_maker.specs.LoadDescription.{symbol_tables, route_tables, load_table, load_description}

pub load_described : (signals : ℕ) → table_verdict signals load_table ≡ Ok load_description
unfolding load_table symbol_tables route_tables load_description route_in member_in value_in structure_in enumeration_in type_in symbol_in port_in
    document_in shape_of_text types_behind wrong_schema wrong_net wrong_rights wrong_type_name wrong_part wrong_size wrong_port wrong_upload
    wrong_name wrong_type wrong_place wrong_content wrong_signal trees_behind trees_of type_align greatest_align type_size members_end type_depth
    greatest_depth type_text digits decode_pairs
load_described signals = refl

pub load_plain : is_plain_table load_table ≡ true
unfolding load_table symbol_tables route_tables digits
load_plain = refl

pub load_depth : members_depth load_table ≡ 4
unfolding load_table symbol_tables route_tables digits
load_depth = refl

load_short : nat_lt 16777216 (length (document_text load_table)) ≡ false
unfolding load_table symbol_tables route_tables digits document_text needs_escape quotes_after escaped encoding_of string_text key_text
load_short = refl

-- whatever document has the table and this text
pub load_read : (signals : ℕ) (text : List ℕ) → text ≡ document_text load_table
    → document_of text ≡ Some load_table → text_verdict signals text ≡ Described load_description
unfolding text_verdict
load_read signals text is document =
    let short : nat_lt 16777216 (length text) ≡ false = ap (λ t. nat_lt 16777216 (length t)) is ∙ load_short in
    rw (short, document, load_described signals) refl
