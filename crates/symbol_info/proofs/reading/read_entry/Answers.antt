use Rattle.std.proofs.Common.{arith}
use Rattle.symbol_info.proofs.EntryLemmas.{text_read, none_read}
use Rattle.symbol_info.proofs.reading.read_entry.Goals as goal

pub returns-clause-text : goal.returns-clause-text
returns-clause-text c = text_read c.entry_in.result c.args.bytes.now (λ i. omega (arith, c.type_inv.bytes i)) c.entry_in.ensures

pub returns-clause-none : goal.returns-clause-none
returns-clause-none c = none_read c.entry_in.result c.args.bytes.now (λ i. omega (arith, c.type_inv.bytes i)) c.entry_in.ensures
