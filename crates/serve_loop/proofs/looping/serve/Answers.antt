-- What the end of the turns says of the wire.
use Rattle.serve_loop.proofs.EndLemmas.{logs_turns, logs_offers, streams_of_turns, events_by, end_rose, no_end, stops_rose, no_stops}
use Rattle.serve_loop.proofs.looping.serve.Goals as goal

pub returns-clause-turns : goal.returns-clause-turns
returns-clause-turns g c =
    logs_turns _ _ _ _ (g.W.Wire.state c.args.wire.now) (g.W.Wire.state c.serve_alone-ended.new.wire) _ _ c.serve_alone-ended.ensures.serve

pub returns-clause-offers : goal.returns-clause-offers
returns-clause-offers g c =
    logs_offers _ _ _ _ (g.W.Wire.state c.args.wire.now) (g.W.Wire.state c.serve_alone-ended.new.wire) _ _ c.serve_alone-ended.ensures.serve

pub returns-clause-streams : goal.returns-clause-streams
returns-clause-streams g c =
    streams_of_turns _ _ _ _ (g.W.Wire.state c.args.wire.now) (g.W.Wire.state c.serve_alone-ended.new.wire) _ _ c.serve_alone-ended.ensures.serve

pub returns-clause-events : goal.returns-clause-events
returns-clause-events g c =
    events_by _ _ _ _ (g.W.Wire.state c.args.wire.now) (g.W.Wire.state c.serve_alone-ended.new.wire) _ _ c.serve_alone-ended.ensures.serve

pub returns-clause-done : goal.returns-clause-done
returns-clause-done g c = end_rose _ _ _ _ (g.W.Wire.state c.args.wire.now) (g.W.Wire.state c.serve_alone-ended.new.wire) _ _ c.serve_alone-ended.ensures.serve

pub returns-clause-not_done : goal.returns-clause-not_done
returns-clause-not_done g c =
    no_end _ _ _ _ (g.W.Wire.state c.args.wire.now) (g.W.Wire.state c.serve_alone-ended.new.wire) _ _ c.serve_alone-ended.ensures.serve

pub returns-clause-link_fault : goal.returns-clause-link_fault
returns-clause-link_fault g c =
    stops_rose _ _ _ _ (g.W.Wire.state c.args.wire.now) (g.W.Wire.state c.serve_alone-ended.new.wire) _ _ c.serve_alone-ended.ensures.serve

pub returns-clause-no_link_fault : goal.returns-clause-no_link_fault
returns-clause-no_link_fault g c =
    no_stops _ _ _ _ (g.W.Wire.state c.args.wire.now) (g.W.Wire.state c.serve_alone-ended.new.wire) _ _ c.serve_alone-ended.ensures.serve
