use Rattle.std.proofs.lemmas.List.{take_rest}
use Rattle.session.proofs.plain.payload_in.Goals as goal

pub returns : goal.returns
returns c = take_rest c.args.ams.now 32
