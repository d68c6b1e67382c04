use Rattle.std.proofs.Common.{◌≡◌, ◌≤◌, ◌+◌, ◌-◌, ◌*◌, length, sum}
use Rattle.spec_machine.specs.Sums.{numbers_of_heads}
use Rattle.sum_commands.proofs.heads.total.Given as goal

abbrev pub invariant-loop : goal.invariant-loop
invariant-loop l = record {
  heads : l.width * (l.n - l.counter) ≤ length l.rest;
  value : l.total + sum (numbers_of_heads (l.n - l.counter) l.width l.at l.rest)
      ≡ sum (numbers_of_heads l.n l.width l.at l.bytes);
  small : l.total ≤ l.counter * 4294967295;
}
