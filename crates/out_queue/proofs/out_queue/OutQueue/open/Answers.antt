use Rattle.std.proofs.Common.{◌∙◌}
use Rattle.out_queue.proofs.OpenLemmas.{opened_parts}
use Rattle.out_queue.proofs.out_queue.OutQueue.open.Goals as goal

pub returns-clause-open : goal.returns-clause-open
returns-clause-open c =
    (opened_parts _ c.self.inside.frames _ c.into_parts-run.ensures c.self.invariant c.from_vec.ensures).open_

pub returns-clause-frames : goal.returns-clause-frames
returns-clause-frames c =
    (opened_parts _ c.self.inside.frames _ c.into_parts-run.ensures c.self.invariant c.from_vec.ensures).frames_ ∙ c.self.view_is

pub returns-clause-tail : goal.returns-clause-tail
returns-clause-tail c =
    (opened_parts _ c.self.inside.frames _ c.into_parts-run.ensures c.self.invariant c.from_vec.ensures).tail
