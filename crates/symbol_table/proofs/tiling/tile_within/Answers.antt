-- The last symbol before the byte covers it, or ends where the gap begins.
use Rattle.type_layout.specs.Descriptions.{area_of}
use Rattle.symbol_table.specs.Rows.{symbols_of_rows}
use Rattle.symbol_table.proofs.Gaps.{starts_last}
use Rattle.symbol_table.proofs.tiling.tile_within.Goals as goal

pub gap_from-requires-else-at-end-clause-starts : goal.gap_from-requires-else-at-end-clause-starts
gap_from-requires-else-at-end-clause-starts c =
    starts_last (symbols_of_rows c.args.rows.now) (area_of c.args.area) c.args.«at»
    (c.in-Some.number, c.in-Some.end) c.requires.bytes c.in-Some.ensures.some c.if-at-end.false
