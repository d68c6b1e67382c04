use Rattle.std.proofs.Common.{option_map, sym, ap, ◌∙◌}
use Rattle.toml.specs.View.{table_view}
use Rattle.description_table.specs.Views.{document_view}
use Rattle.symbol_file.proofs.reading.read_table.Goals as goal

pub read_document-requires : goal.read_document-requires
read_document-requires c = record {
  table = table_view c.args.table.now;
  is = sym (ap (option_map document_view) (sym c.in-Ok-Some.field-0-is) ∙ c.in-Ok-Some.ensures);
}
