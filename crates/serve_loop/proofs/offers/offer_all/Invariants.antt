-- A run and some offers were taken, and fewer are left.
use Rattle.std.proofs.Common.{◌≡◌, ◌≤◌}
use Rattle.serve_loop.specs.Leads.{Leads}
use Rattle.serve_loop.specs.Serving.{Begins}
use Rattle.serve_loop.proofs.offers.offer_all.Given as goal

abbrev pub invariant-loop : goal.invariant-loop
invariant-loop g l = record {
  led : Leads g.M.Served.steps g.M.Served.noted (g.M.Served.serves l.fn.served) (g.M.Served.serves l.served)
      (g.W.Wire.state l.fn.wire).history (g.W.Wire.state l.wire).history 0 (Begins g.M.Served.steps l.conn);
  kept : g.W.Wire.kept l.wire ≡ g.W.Wire.kept l.fn.wire;
  later : (g.W.Wire.state l.fn.wire).faults ≤ (g.W.Wire.state l.wire).faults;
  wanted : (g.W.Wire.state l.fn.wire).wants ≤ (g.W.Wire.state l.wire).wants;
}

abbrev pub decreases-loop : goal.decreases-loop
decreases-loop g l = g.M.Served.offers_left l.served l.conn
