use Rattle.toml.specs.View.{table_view}
use Rattle.symbol_file.proofs.AnswerLemmas.{document_of-some, document_of-none}
use Rattle.description_migration.proofs.migration.table_of.Goals as goal

pub returns-in-Ok : goal.returns-in-Ok
returns-in-Ok c = document_of-some c.args.bytes.now (table_view c.in-Ok.table) c.in-Ok.ensures.ok.0 c.in-Ok.ensures.ok.1

pub unreachable-requires : goal.unreachable-requires
unreachable-requires c =
    let none = document_of-none c.args.bytes.now (c.in-Err.ensures.refused (λ memory. let told = c.is_memory.ensures.1 memory in cc)) in
    let some = c.requires.is in
    cc
