use Rattle.std.proofs.Common.{ap, ◌∙◌, Some, option_map}
use Rattle.description_migration.specs.Migration.{second_schema}
use Rattle.description_migration.proofs.migration.second_table.Goals as goal

pub returns : goal.returns
unfolding second_schema
returns c = ap Some c.in_ok-set_number.ensures ∙ ap (option_map second_schema) c.in_ok-table.ensures
