-- the symbols before this one begin with what is stored of them
use Rattle.std.proofs.Common.{◌≡◌, map}
use Rattle.type_layout.specs.Descriptions.{symbol_of}
use Rattle.type_layout.specs.NamedTypes.{types_of}
use Rattle.persist_store.specs.Entries.{entry_meant}
use Rattle.spec_persistent.specs.Stored.{symbol_with_stored}
use Rattle.stored_values.proofs.MappedTurns.{changed_to}
use Rattle.stored_values.proofs.symbols.store_symbols.Given as goal

abbrev pub invariant-loop-symbol : goal.invariant-loop-symbol
invariant-loop-symbol l =
    map symbol_of l.symbols ≡ changed_to symbol_of (symbol_with_stored (map entry_meant l.entries) (types_of l.types) l.port) l.initial.symbols l.symbol-index
