-- The gap's begin and end.
use Rattle.type_layout.specs.Descriptions.{area_of}
use Rattle.symbol_table.specs.Rows.{symbols_of_rows}
use Rattle.symbol_table.proofs.Gaps.{is_gap}
use Rattle.symbol_table.proofs.tiling.gap_from.Goals as goal

pub returns : goal.returns
returns c =
    is_gap (symbols_of_rows c.args.rows.now) (area_of c.args.area) c.args.size
    c.args.«at» c.args.first c.gap_end-end.result c.requires.starts c.gap_end-end.ensures
