-- The grammar tests the ranges of what it reads.
use Rattle.std.proofs.Common.{Some, map, sym}
use Rattle.std.specs.Prelude.{string_bytes}
use Rattle.cli_words.proofs.FitLemmas.{read_fits}
use Rattle.cli_words.proofs.read.read_words.Goals as goal

pub returns-in-Ok-clause-fits : goal.returns-in-Ok-clause-fits
returns-in-Ok-clause-fits c = read_fits (map string_bytes c.args.words.now) (Some c.in-Ok.command) (sym c.in-Ok.ensures)
