use Rattle.std.proofs.Common.{◌≡◌, ◌+◌, ◌-◌, ◌*◌, ◌≤◌, [], ◌++◌, length, take, replicate, sum}
use Rattle.spec_machine.specs.Sums.{numbers_of_heads}
use Rattle.sum_commands.specs.declared.form.Form.TheVariants as form
use Rattle.sum_commands.proofs.RunningLemmas.{Continues}
use Rattle.sum_commands.proofs.lent.put_lent.Given as goal

-- the data so far is that of the reads before this one, and whatever runs those that are left runs all from the beginning
abbrev pub invariant-loop : goal.invariant-loop
invariant-loop g l = record {
  heads : 12 * (l.n - l.counter) ≤ length l.rest;
  continues : (s : g.P.PartService.State) → g.P.PartService.stands_for l.service s
      → Continues g.P.PartService.stands_for g.P.PartService.given g.P.PartService.left g.P.PartService.may_leave
      form.Reads l.n l.heads [] s [] form.Reads (l.n - l.counter) l.rest [] l.service (4 * l.counter)
      (replicate (4 * l.n) 0 ++ take l.at l.room);
  room : l.at + sum (numbers_of_heads (l.n - l.counter) 12 8 l.rest) ≡ length l.room;
  len : length l.room ≡ length l.initial.room;
}
