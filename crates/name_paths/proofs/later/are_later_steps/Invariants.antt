use Rattle.std.proofs.Common.{◌≡◌, length, drop, is_some}
use Rattle.name_paths.specs.Path.{later_steps_of, pieces_of}
use Rattle.name_paths.specs.Pieces.{IsRest}
use Rattle.name_paths.proofs.later.are_later_steps.Given as goal

-- what is left is steps where the whole is
abbrev pub invariant-loop-rest : goal.invariant-loop-rest
invariant-loop-rest l = record {
  rest : IsRest l.rest;
  same : is_some (later_steps_of (drop 1 (pieces_of l.rest))) ≡ is_some (later_steps_of (drop 1 (pieces_of l.initial.rest)));
}

abbrev pub decreases-loop-rest : goal.decreases-loop-rest
decreases-loop-rest l = length l.rest
