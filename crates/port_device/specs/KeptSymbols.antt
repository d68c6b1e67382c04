-- The symbols that a reload keeps, told by numbers: what the code's entries mean.
use Rattle.std.specs.Prelude.{List, map}
use Rattle.symbol_table.specs.declared.kept.KeptPlace.{KeptPlace}
use Rattle.spec_machine.specs.NumberedPlaces.{KeptSymbol}
use Rattle.port_device.specs.Answers.{numbered}

abbrev pub kept_symbol_of : KeptPlace → KeptSymbol
kept_symbol_of e = record { port = e.port; before = numbered e.from; after = numbered e.to }

abbrev pub kept_symbols_of : List KeptPlace → List KeptSymbol
kept_symbols_of = map kept_symbol_of
