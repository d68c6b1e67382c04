use Rattle.toml.specs.View.{table_view}
use Rattle.symbol_file.proofs.AnswerLemmas.{document_of-some, document_of-none}
use Rattle.symbol_file.proofs.reading.table_in.Goals as goal

pub returns-in-Ok : goal.returns-in-Ok
returns-in-Ok c = document_of-some c.args.bytes.now (table_view c.in-Ok.table) c.in-Ok.ensures.ok.0 c.in-Ok.ensures.ok.1

pub returns-else-is_memory : goal.returns-else-is_memory
returns-else-is_memory c =
    document_of-none c.args.bytes.now (c.in-Err.ensures.refused (λ memory. let told = c.is_memory.ensures.1 memory in cc))
