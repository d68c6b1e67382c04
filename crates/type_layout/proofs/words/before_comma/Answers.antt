-- The parts round the first comma.
use Rattle.std.proofs.Common.{sym}
use Rattle.std.proofs.lemmas.List.{take_rest}
use Rattle.name_paths.specs.Path.{is_comma}
use Rattle.name_paths.proofs.SplitLemmas.{slice_split-position}
use Rattle.type_layout.proofs.words.before_comma.Goals as goal

pub returns-in-None : goal.returns-in-None
returns-in-None c = rw (sym c.in-None.ensures) at (slice_split-position is_comma c.args.text.now)

pub returns-in-Some : goal.returns-in-Some
returns-in-Some c = rw take_rest (rw (sym c.in-Some.ensures) at (slice_split-position is_comma c.args.text.now))
