-- So many turns were taken, and shown.
use Rattle.std.proofs.Common.{◌≡◌, ◌≤◌, ◌-◌}
use Rattle.serve_loop.specs.Beside.{ShowsTurns}
use Rattle.serve_loop.specs.Telling.{Told}
use Rattle.serve_loop.specs.TurnTaken.{StandsOver}
use Rattle.serve_loop.proofs.beside_loop.serve_beside.Given as goal

abbrev pub invariant-loop-taken : goal.invariant-loop-taken
invariant-loop-taken g l = record {
  shows : ShowsTurns g.M.Served.body_of g.M.Served.steps g.M.Served.noted (g.M.Served.serves l.initial.served) (g.M.Served.serves l.served)
      (g.W.Wire.state l.initial.wire).history (g.W.Wire.state l.wire).history l._taken
      (g.A.Beside.seen l.initial.beside l.initial.outside l.beside l.outside);
  ready : g.A.Beside.ready (l.limit - l._taken) l.beside l.outside;
  told : Told g.M.Served.comes_to g.M.Served.steps g.M.Served.noted
      (StandsOver (g.M.Served.serves l.initial.served) (g.W.Wire.state l.initial.wire).history.opened)
      (StandsOver (g.M.Served.serves l.served) (g.W.Wire.state l.wire).history.opened)
      (g.W.Wire.state l.initial.wire).history (g.W.Wire.state l.wire).history l._taken (g.A.Beside.told l.initial.beside) (g.A.Beside.told l.beside);
  kept : g.W.Wire.kept l.wire ≡ g.W.Wire.kept l.initial.wire;
  later : (g.W.Wire.state l.initial.wire).faults ≤ (g.W.Wire.state l.wire).faults;
  wanted : (g.W.Wire.state l.initial.wire).wants ≤ (g.W.Wire.state l.wire).wants;
}
