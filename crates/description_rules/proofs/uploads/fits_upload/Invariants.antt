use Rattle.std.proofs.Common.{◌≡◌, map, drop, nat_le}
use Rattle.std.specs.Prelude.{sum_by}
use Rattle.type_layout.specs.NamedTypes.{types_of}
use Rattle.description_table.specs.Views.{symbol_view}
use Rattle.description_rules.specs.Uploads.{written_length}
use Rattle.description_rules.proofs.uploads.fits_upload.Given as goal

-- the entries fit exactly where those from this one on fit into what is left
abbrev pub invariant-loop-symbol : goal.invariant-loop-symbol
invariant-loop-symbol l =
    nat_le (sum_by (written_length (types_of l.known.types)) (map symbol_view l.symbols)) 2000000
    ≡ nat_le (sum_by (written_length (types_of l.known.types)) (map symbol_view (drop l.symbol-index l.symbols))) l.room
