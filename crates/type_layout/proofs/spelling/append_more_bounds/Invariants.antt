-- The bounds before this one are written.
use Rattle.std.proofs.Common.{◌≡◌, ◌++◌, take}
use Rattle.std.specs.Prelude.{flat_map}
use Rattle.type_layout.specs.Spelled.{comma_bound}
use Rattle.type_layout.proofs.spelling.append_more_bounds.Given as goal

abbrev pub invariant-loop-bound : goal.invariant-loop-bound
invariant-loop-bound l = l.out ≡ l.initial.out ++ flat_map comma_bound (take l.bound-index l.bounds)
