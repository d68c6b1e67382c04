-- For private contracts, and cited by no public clause: the entry of a symbol that a document writes.
use Rattle.std.specs.Prelude.{ℕ, List}
use Rattle.spec_plant.specs.Listed.{NamedType}
use Rattle.spec_plant.specs.Entries.{symbol_entry_length}
use Rattle.spec_rules.specs.Written.{WrittenSymbol}
use Rattle.spec_rules.specs.Described.{symbol_described}

abbrev pub written_length : List NamedType → WrittenSymbol → ℕ
written_length types s = symbol_entry_length types (symbol_described types s)
