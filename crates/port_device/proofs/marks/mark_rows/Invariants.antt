use Rattle.std.proofs.Common.{take}
use Rattle.type_layout.specs.Descriptions.{sizes_of}
use Rattle.symbol_table.specs.Rows.{symbols_of_rows}
use Rattle.port_device.specs.Marks.{AreMarks}
use Rattle.port_device.proofs.marks.mark_rows.Given as goal

-- the symbols before this one have their marks
abbrev pub invariant-loop-row : goal.invariant-loop-row
invariant-loop-row l = AreMarks (sizes_of l.sizes) l.marks (symbols_of_rows (take l.row-index l.rows))
