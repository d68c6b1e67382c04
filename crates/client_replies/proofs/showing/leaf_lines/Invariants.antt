use Rattle.std.proofs.Common.{◌≡◌, map, take}
use Rattle.spec_client.specs.Leaves.{leaf_line}
use Rattle.spec_client.specs.Stages as stages
use Rattle.client_leaves.specs.Kept.{leaf_kept}
use Rattle.client_replies.specs.Stages.{output_kept}
use Rattle.client_replies.proofs.showing.leaf_lines.Given as goal

-- the lines of the leaves before this one
abbrev pub invariant-loop-leaf : goal.invariant-loop-leaf
invariant-loop-leaf l =
    map output_kept l.outputs ≡ map (λ x. stages.ToPrint (leaf_line l.bytes x)) (map leaf_kept (take l.leaf-index l.leaves))
