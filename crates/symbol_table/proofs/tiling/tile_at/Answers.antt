-- Each symbol of the area ends by the area's size.
use Rattle.type_layout.specs.Descriptions.{area_of, sizes_of}
use Rattle.symbol_table.specs.Rows.{symbols_of_rows}
use Rattle.symbol_table.proofs.Gaps.{all_end_by}
use Rattle.symbol_table.proofs.tiling.tile_at.Goals as goal

pub tile_within-requires-clause-within : goal.tile_within-requires-clause-within
tile_within-requires-clause-within c =
    rw c.in_area-size.ensures (all_end_by (symbols_of_rows c.args.rows.now) (sizes_of c.args.sizes) (area_of c.args.area) c.requires.within)
