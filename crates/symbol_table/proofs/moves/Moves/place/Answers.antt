-- The place goes with its symbol's entry.
use Rattle.std.proofs.Common.{◌∙◌, ap}
use Rattle.std.specs.Prelude.{option_map}
use Rattle.symbol_table.specs.Moves.{moved_place, part_in}
use Rattle.symbol_table.proofs.moves.Moves.place.Goals as goal

pub returns-in_err-entry : goal.returns-in_err-entry
unfolding moved_place
returns-in_err-entry c = c.from_residual.ensures ∙ ap (option_map (part_in c.args.p)) c.in_err-entry.ensures.found

pub returns : goal.returns
unfolding moved_place
returns c = ap (option_map (part_in c.args.p)) c.in_ok-entry.ensures.found
