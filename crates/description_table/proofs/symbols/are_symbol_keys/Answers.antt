use Rattle.std.proofs.Common.{ap, sym, ◌∙◌}
use Rattle.toml.specs.View.{table_view}
use Rattle.spec_rules.specs.Fields.{only_keys}
use Rattle.spec_rules.specs.Tables.{symbol_keys}
use Rattle.description_table.proofs.symbols.are_symbol_keys.Goals as goal

pub returns-then-second : goal.returns-then-second
returns-then-second c = c.only_keys.ensures ∙ ap (λ second. only_keys (symbol_keys second) (table_view c.args.table.now)) (sym c.if-second.true)

pub returns-else-second : goal.returns-else-second
returns-else-second c = c.only_keys-else-second.ensures ∙ ap (λ second. only_keys (symbol_keys second) (table_view c.args.table.now)) (sym c.if-second.false)
