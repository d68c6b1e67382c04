-- A client who asks a port of a world, and what a single request of his does: one of a packet, or a part of a sum.
use Rattle.spec_formats.specs.Request.{Request}
use Rattle.spec_machine.specs.World.{World, setup_of}
use Rattle.spec_machine.specs.Client.{Client, client_after}
use Rattle.spec_machine.specs.Acts.{Act, Outcome, outcome_of, effect_of}
use Rattle.spec_machine.specs.Meanings.{meant_by}
use Rattle.spec_machine.specs.Requests.{plain_act, act_of}
use Rattle.spec_machine.specs.Writes.{Asker}
use Rattle.port_device.specs.Endings.{world_after_act}

pub record Asking : Type 0 where
  pub world : World
  pub client : Client
  pub asker : Asker

abbrev pub act_asked : Asking → Request → Act
act_asked a r = act_of (setup_of a.world) a.client a.asker r

-- what a request means to the server, and what one does that is taken as it is written
abbrev pub meant_in : Asking → Request → Request
meant_in a r = meant_by a.world.profile a.client a.asker.port r

abbrev pub plain_asked : Asking → Request → Act
plain_asked a r = plain_act (setup_of a.world) a.client a.asker r

abbrev pub outcome_asked : Asking → Request → Outcome
outcome_asked a r = outcome_of a.world.memory (act_asked a r)

-- the asking after an act
abbrev pub after_act : Asking → Act → Asking
after_act a act = record {
  world = world_after_act a.world act;
  client = client_after a.client (effect_of act);
  asker = a.asker;
}

abbrev pub asking_after : Asking → Request → Asking
asking_after a r = after_act a (act_asked a r)
