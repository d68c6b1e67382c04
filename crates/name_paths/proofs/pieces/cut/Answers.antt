use Rattle.std.proofs.Common.{sym}
use Rattle.std.proofs.lemmas.List.{take_rest}
use Rattle.name_paths.proofs.PieceLemmas.{pieces_of-position}
use Rattle.name_paths.proofs.pieces.cut.Goals as goal

pub returns-in-None-clause-pieces : goal.returns-in-None-clause-pieces
returns-in-None-clause-pieces c = rw (sym c.in-None.ensures) at (pieces_of-position c.args.text.now)

pub returns-in-Some-clause-pieces : goal.returns-in-Some-clause-pieces
returns-in-Some-clause-pieces c = rw take_rest (rw (sym c.in-Some.ensures) at (pieces_of-position c.args.text.now)).0

pub returns-in-Some-clause-rest : goal.returns-in-Some-clause-rest
returns-in-Some-clause-rest c = rw take_rest (rw (sym c.in-Some.ensures) at (pieces_of-position c.args.text.now)).1
