-- The session stands for the client that its request leaves, over a plant that the request leaves as it is.
use Rattle.std.proofs.Common.{[], refl}
use Rattle.type_layout.specs.Descriptions.{description_of}
use Rattle.spec_machine.specs.Client.{new_client}
use Rattle.spec_machine.specs.World.{world_of}
use Rattle.check_threads.proofs.Served.{stands_behind}
use Rattle.check_threads.proofs.plant.watching.Goals as goal

pub take-requires-clause-served : goal.take-requires-clause-served
take-requires-clause-served c = record {
  world = world_of (description_of c.args.d.now) [];
  client = new_client;
  held = c.in_ok-ports.ensures [];
  stands = c.in_ok-session.ensures.stands _;
}

pub returns : goal.returns
returns c =
    stands_behind (description_of c.args.d.now) _ _ _ _ (c.in_ok-_added.ensures.takes (world_of (description_of c.args.d.now) []) new_client
    (c.in_ok-ports.ensures []) (c.in_ok-session.ensures.stands _)
    (record { net_is = refl; routes_are = c.in_ok-admission.ensures.routes; others_are = c.in_ok-admission.ensures.others }))
