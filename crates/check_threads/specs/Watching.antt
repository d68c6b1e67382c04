-- A session behind a request of its client.
use Rattle.std.specs.Prelude.{[]}
use Rattle.spec_plant.specs.Description.{Description}
use Rattle.spec_machine.specs.Client.{Client}
use Rattle.spec_machine.specs.World.{world_of}
use Rattle.session.specs.SessionState.{SessionState}
use Rattle.session.specs.StandsFor.{StandsFor}

-- it stands for some client over the plant of a description
pub record IsServedByPortsOf (d : Description) (s : SessionState) : Type 0 where
  pub client : Client
  pub stands : StandsFor (world_of d []).plant client s
