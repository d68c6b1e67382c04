-- The log is the script's play, and the text is that of the log.
use Rattle.type_layout.specs.Descriptions.{description_of}
use Rattle.plant_commands.proofs.RelayPlayLemmas.{relay_played}
use Rattle.plant_commands.proofs.relay_play.play_relay.Goals as goal

pub returns : goal.returns
returns g c =
    relay_played c.in_ok-relay.relay c.play.new.served (description_of c.args.description) c.args.script c.in_ok-log.log c.in_ok-text.text
    c.in_ok-relay.ensures c.in_ok-log.ensures c.in_ok-text.ensures
