-- those before this one are counted
use Rattle.std.proofs.Common.{◌≡◌, ◌+◌, ◌≤◌, length, drop}
use Rattle.std.specs.Prelude.{filter}
use Rattle.store_file.specs.Ranks as ranks
use Rattle.store_file.proofs.copy_name.later_than.Given as goal

abbrev pub invariant-loop-one : goal.invariant-loop-one
invariant-loop-one l =
    (l.count ≤ l.one-index)
    × (l.count + length (filter (ranks.later_than l.made l.rank) (drop l.one-index l.there)) ≡ length (filter (ranks.later_than l.made l.rank) l.there))
