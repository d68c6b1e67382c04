use Rattle.spec_machine.proofs.WritableBytes.{writes_by_symbols, writes_in_symbol}
use Rattle.spec_machine.proofs.areas.symbols_tell_who_writes.Goals as goal

pub returns-clause-ranges : goal.returns-clause-ranges
returns-clause-ranges c = writes_by_symbols

pub returns-clause-symbols : goal.returns-clause-symbols
returns-clause-symbols c = writes_in_symbol
