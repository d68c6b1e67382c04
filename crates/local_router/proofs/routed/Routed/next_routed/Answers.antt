-- What came of the wire inside, and what is made of it.
use Rattle.std.proofs.Common.{ap}
use Rattle.local_router.proofs.RouteLemmas.{routes_event}
use Rattle.local_router.proofs.routed.Routed.next_routed.Goals as goal

pub returns-in-Event-clause-routes : goal.returns-in-Event-clause-routes
returns-in-Event-clause-routes g c =
    routes_event c.give.result c.args.net.bytes c.in-Event.event _ _ _ (g.W.Wire.state c.make_room.new.self.wire) (g.W.Wire.state c.args.self.now.wire)
    (g.W.Wire.state c.next.new.self) _ c.make_room.ensures.waiting
    (ap g.W.Wire.state c.make_room.ensures.wire) c.in-Event.ensures.gives c.give.ensures.routes
