-- The log is the script's play, and the text is that of the log.
use Rattle.type_layout.specs.Descriptions.{description_of}
use Rattle.plant_commands.proofs.PlayLemmas.{text_played}
use Rattle.plant_commands.proofs.play.play.Goals as goal

pub returns : goal.returns
returns g c =
    let built = c.in_ok-core.ensures in
    text_played c.in_ok-core.core c.play.new.served (description_of c.args.description) (g.G.Sources.waves c.args.signals) c.args.script c.in_ok-log.log
    c.in_ok-text.text built.serves built.counted built.notes c.in_ok-log.ensures c.in_ok-text.ensures
