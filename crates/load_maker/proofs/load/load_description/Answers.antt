use Rattle.std.proofs.Common.{ap, ◌∙◌, arith}
use Rattle.toml.specs.Data.{members_depth}
use Rattle.table_text.specs.PlainTable.{is_plain_table}
use Rattle.table_text.specs.TableText.{document_text}
use Rattle.std.specs.Prelude.{Some}
use Rattle.load_maker.proofs.Described.{load_plain, load_depth, load_read}
use Rattle.load_maker.proofs.load.load_description.Goals as goal

pub text_of_table-requires-clause-plain : goal.text_of_table-requires-clause-plain
text_of_table-requires-clause-plain c = ap is_plain_table c.in_ok-table.ensures ∙ load_plain

pub text_of_table-requires-clause-shallow : goal.text_of_table-requires-clause-shallow
text_of_table-requires-clause-shallow c = let deep = ap members_depth c.in_ok-table.ensures ∙ load_depth in omega (arith, deep)

pub returns-clause-described : goal.returns-clause-described
returns-clause-described c =
    λ signals. load_read signals c.in_ok-text.text (c.in_ok-text.ensures.text ∙ ap document_text c.in_ok-table.ensures)
    (c.in_ok-text.ensures.reads_back ∙ ap Some c.in_ok-table.ensures)
