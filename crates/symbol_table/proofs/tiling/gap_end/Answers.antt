-- The gap ends where the first symbol behind the byte begins.
use Rattle.type_layout.specs.Descriptions.{area_of}
use Rattle.symbol_table.specs.Rows.{symbols_of_rows}
use Rattle.symbol_table.proofs.Gaps.{ends_first}
use Rattle.symbol_table.proofs.tiling.gap_end.Goals as goal

pub returns-in-Some : goal.returns-in-Some
returns-in-Some c =
    ends_first (symbols_of_rows c.args.rows.now) (area_of c.args.area) c.args.«at»
    c.args.size c.in-Some.start c.requires.bytes c.requires.within c.in-Some.ensures.some
