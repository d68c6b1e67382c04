use Rattle.std.proofs.Common.{◌+◌, ◌-◌, ◌*◌, ◌^◌, ◌<◌, ◌≤◌, length, take}
use Rattle.sum_commands.specs.Forms.{HasParts, front_width}
use Rattle.sum_commands.specs.Served.{StandsForSome}
use Rattle.sum_commands.specs.Stops.{KeepsFront}
use Rattle.sum_commands.proofs.RunningLemmas.{Continues}
use Rattle.sum_commands.proofs.run.run_parts.Given as goal

-- whatever runs the parts that are left from here runs all from the beginning
abbrev pub invariant-loop : goal.invariant-loop
invariant-loop g l =
    let stands_for = g.P.PartService.stands_for in
    record {
      parts : HasParts l.rest.form (l.n - l.counter) l.rest.heads.now l.rest.written.now;
      continues : (s : g.P.PartService.State) → stands_for l.initial.service s
          → Continues stands_for g.P.PartService.given g.P.PartService.left g.P.PartService.may_leave
          l.initial.rest.form l.n l.initial.rest.heads.now l.initial.rest.written.now s (take l.start l.initial.out)
          l.rest.form (l.n - l.counter) l.rest.heads.now l.rest.written.now l.service l.at l.out;
      some : StandsForSome stands_for l.service;
      room : l.at + front_width l.rest.form * (l.n - l.counter) ≤ length l.out;
      small : l.at + front_width l.rest.form * (l.n - l.counter) < 2 ^ 64;
      behind : l.start ≤ l.at;
      begun : KeepsFront l.start l.initial.out l.out;
    }
