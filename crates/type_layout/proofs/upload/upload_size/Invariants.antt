-- The entries so far, and those that are left.
use Rattle.std.proofs.Common.{◌≡◌, ◌+◌, drop}
use Rattle.std.specs.Prelude.{sum_by}
use Rattle.spec_plant.specs.Entries.{symbol_entry_length, upload_size}
use Rattle.type_layout.specs.NamedTypes.{types_of}
use Rattle.type_layout.specs.Descriptions.{symbol_of, symbols_of}
use Rattle.type_layout.proofs.upload.upload_size.Given as goal

abbrev pub invariant-loop-symbol : goal.invariant-loop-symbol
invariant-loop-symbol l =
    l.size + sum_by (λ s. symbol_entry_length (types_of l.types) (symbol_of s)) (drop l.symbol-index l.symbols)
    ≡ upload_size (types_of l.fn.types) (symbols_of l.fn.symbols)
