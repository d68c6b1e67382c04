-- A new session over new ports serves some world.
use Rattle.std.proofs.Common.{[]}
use Rattle.type_layout.specs.Descriptions.{description_of}
use Rattle.spec_machine.specs.Client.{new_client}
use Rattle.spec_machine.specs.World.{world_of}
use Rattle.cases_device.proofs.calls.sessions.take.Goals as goal

pub take-requires-clause-served : goal.take-requires-clause-served
take-requires-clause-served c = record {
  world = world_of (description_of c.in_ok-d.d) [];
  client = new_client;
  held = c.in_ok-ports.ensures [];
  stands = c.in_ok-session.ensures.stands _;
}
