-- One symbol more.
use Rattle.std.proofs.Common.{map}
use Rattle.spec_plant.specs.AcceptedTypes.{IsSized}
use Rattle.spec_plant.specs.Description.{Symbol}
use Rattle.spec_persistent.specs.Stored.{symbol_with_stored}
use Rattle.type_layout.specs.Descriptions.{symbol_of}
use Rattle.type_layout.specs.NamedTypes.{types_of}
use Rattle.persist_store.specs.Entries.{entry_meant}
use Rattle.stored_values.proofs.MappedTurns.{turn_mapped, next_holds}
use Rattle.stored_values.proofs.symbols.store_symbols.Goals as goal

pub store_symbol-requires-clause-sized : goal.store_symbol-requires-clause-sized
store_symbol-requires-clause-sized c =
    next_holds (λ (s : Symbol). IsSized (types_of c.args.types.now) s.shape) symbol_of
    (symbol_with_stored (map entry_meant c.args.entries.now) (types_of c.args.types.now) c.args.port)
    c.args.symbols.now c.loop-symbol.symbols c.loop-symbol.symbol-index c.symbol-item.result c.loop-symbol-test.true c.loop-symbol.invariant c.requires.sized

pub loop-symbol-preserved : goal.loop-symbol-preserved
loop-symbol-preserved c =
    turn_mapped symbol_of (symbol_with_stored (map entry_meant c.args.entries.now) (types_of c.args.types.now) c.args.port)
    c.args.symbols.now c.loop-symbol.symbols c.loop-symbol.symbol-index c.symbol-item.result
    c.store_symbol.new.symbol c.loop-symbol-test.true c.loop-symbol.invariant c.in_ok-store_symbol.ensures
