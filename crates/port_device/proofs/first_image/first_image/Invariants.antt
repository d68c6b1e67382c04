use Rattle.std.proofs.Common.{◌≡◌, map, drop, length, replicate}
use Rattle.spec_plant.specs.Accepted.{image_size}
use Rattle.type_layout.specs.Descriptions.{sizes_of}
use Rattle.symbol_table.specs.Rows.{symbols_of_rows}
use Rattle.symbol_table.specs.Tables.{TableSymbol}
use Rattle.port_device.specs.PlacedBytes.{with_all_bytes, placed_symbol}
use Rattle.port_device.proofs.first_image.first_image.Given as goal

-- with the symbols that are left, it becomes the image of all
abbrev pub invariant-loop-row : goal.invariant-loop-row
invariant-loop-row l =
    (length l.image ≡ image_size (sizes_of l.sizes))
    × (with_all_bytes (sizes_of l.sizes) l.image (map (placed_symbol (λ (s : TableSymbol). s.initial)) (symbols_of_rows (drop l.row-index l.rows)))
    ≡ with_all_bytes (sizes_of l.sizes) (replicate (image_size (sizes_of l.sizes)) 0)
    (map (placed_symbol (λ (s : TableSymbol). s.initial)) (symbols_of_rows l.rows)))
