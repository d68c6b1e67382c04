use Rattle.std.proofs.Common.{rules}
use Rattle.session.proofs.SampleCells.{sample_cells}
use Rattle.session.proofs.notes_group.sample_of_four.Goals as goal

pub returns : goal.returns
returns c = sample_cells c.sample_head.result c.args.bytes c.args.handle c.sample_head.ensures (search rules)
