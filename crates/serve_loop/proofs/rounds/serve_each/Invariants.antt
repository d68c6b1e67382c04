-- The connections of the numbers before this one are served.
use Rattle.std.proofs.Common.{◌≡◌, ◌≤◌}
use Rattle.serve_loop.specs.Leads.{Leads}
use Rattle.serve_loop.proofs.RoundLemmas.{RoundFrom}
use Rattle.serve_loop.proofs.rounds.serve_each.Given as goal

abbrev pub invariant-loop-number : goal.invariant-loop-number
invariant-loop-number g l = record {
  led : Leads g.M.Served.steps g.M.Served.noted (g.M.Served.serves l.initial.served) (g.M.Served.serves l.served)
      (g.W.Wire.state l.initial.wire).history (g.W.Wire.state l.wire).history 0 (RoundFrom g.M.Served.steps l.numbers l.number-index);
  kept : g.W.Wire.kept l.wire ≡ g.W.Wire.kept l.initial.wire;
  later : (g.W.Wire.state l.initial.wire).faults ≤ (g.W.Wire.state l.wire).faults;
  wanted : (g.W.Wire.state l.initial.wire).wants ≤ (g.W.Wire.state l.wire).wants;
}
