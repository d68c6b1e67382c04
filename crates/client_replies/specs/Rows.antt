-- A recording whose rows can be kept.
use Rattle.std.specs.Prelude.{◌+◌, ◌≤◌, ◌<◌, ◌^◌}
use Rattle.spec_client.specs.Stages.{Recording, Stage, Records}

-- the numbers of all its rows are from 1 to 2 ^ 63 - 1
abbrev pub HasRowNumbers : Recording → Type 0
HasRowNumbers r = (0 < r.first) × (r.first + r.watching.count ≤ 2 ^ 63)

-- at this stage
abbrev pub HasNumbers : Stage → Type 0
HasNumbers (Records wait r) = HasRowNumbers r
HasNumbers stage = Unit {0}
