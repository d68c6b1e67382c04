-- No name that was passed is one that the path begins with. Where there are names, one is left or a step was made.
use Rattle.std.proofs.Common.{◌+◌, ◌-◌, ◌≤◌, min, length, map}
use Rattle.std.specs.Prelude.{◌^◌}
use Rattle.name_paths.specs.Identifier.{lower}
use Rattle.name_paths.specs.Path.{first_names}
use Rattle.symbol_table.proofs.Halving.{Costs}
use Rattle.symbol_table.proofs.Narrowed.{Narrowed}
use Rattle.symbol_table.specs.NameKeys.{key_of}
use Rattle.symbol_table.proofs.name_order.NameOrder.search.Given as goal

abbrev pub invariant-loop-low : goal.invariant-loop-low
invariant-loop-low g l =
    Narrowed (map key_of l.self-inside.entries.items) (map lower (first_names l.path)) l.low l.high
    × (l.fn.steps ≤ l.steps)
    × Costs (2 ^ (l.steps - l.fn.steps)) (l.high - l.low) (length (map key_of l.self-inside.entries.items))
    × (min 1 (length (map key_of l.self-inside.entries.items)) ≤ (l.high - l.low) + (l.steps - l.fn.steps))

abbrev pub decreases-loop-low : goal.decreases-loop-low
decreases-loop-low g l = l.high - l.low
