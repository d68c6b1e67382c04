use Rattle.std.proofs.Common.{rules}
use Rattle.session.proofs.SampleCells.{sample_cells_of_two}
use Rattle.session.proofs.notes_group.sample_of_two.Goals as goal

pub returns : goal.returns
returns c = sample_cells_of_two c.sample_head.result c.args.bytes c.args.handle c.sample_head.ensures (search rules)
