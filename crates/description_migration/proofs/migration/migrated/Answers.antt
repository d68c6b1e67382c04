use Rattle.std.proofs.Common.{◌∙◌, arith}
use Rattle.toml.specs.View.{table_view}
use Rattle.description_migration.proofs.MigratedLemmas.{second_fits, text_made}
use Rattle.description_migration.proofs.migration.migrated.Goals as goal

pub text_of_table-requires-clause-plain : goal.text_of_table-requires-clause-plain
text_of_table-requires-clause-plain c =
    let fits = second_fits c.args.bytes.now (table_view c.in_ok-table.table) c.requires c.in_ok-table.ensures c.keys_ascend.ensures in fits.plain

pub text_of_table-requires-clause-shallow : goal.text_of_table-requires-clause-shallow
text_of_table-requires-clause-shallow c =
    let fits = second_fits c.args.bytes.now (table_view c.in_ok-table.table) c.requires c.in_ok-table.ensures c.keys_ascend.ensures in
    omega (arith, fits.shallow)

pub returns-clause-text : goal.returns-clause-text
returns-clause-text c =
    text_made c.args.bytes.now c.in_ok-text.text (table_view c.in_ok-table.table) c.requires c.in_ok-table.ensures c.in_ok-text.ensures.text

pub returns-clause-document : goal.returns-clause-document
returns-clause-document c = c.in_ok-text.ensures.reads_back ∙ c.in_ok-table.ensures
