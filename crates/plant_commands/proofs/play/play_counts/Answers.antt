-- The counts are those of the script's play.
use Rattle.type_layout.specs.Descriptions.{description_of}
use Rattle.plant_commands.proofs.PlayLemmas.{counts_played}
use Rattle.plant_commands.proofs.play.play_counts.Goals as goal

pub returns : goal.returns
returns g c =
    let built = c.in_ok-core.ensures in
    counts_played c.in_ok-core.core c.play.new.served (description_of c.args.description) (g.G.Sources.waves c.args.signals) c.args.script c.in_ok-_log._log
    c.in_ok-text.text built.serves built.counted built.notes c.in_ok-_log.ensures c.in_ok-text.ensures
