use Rattle.memchr.specs.Find.{is_byte}
use Rattle.replay_script.proofs.PlaceLemmas.{first_place}
use Rattle.replay_script.proofs.lines.place_of.Goals as goal

pub returns : goal.returns
returns c = first_place (is_byte c.args.byte) c.args.bytes.now c.memchr.result c.memchr.ensures
