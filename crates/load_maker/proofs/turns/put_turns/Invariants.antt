use Rattle.std.proofs.Common.{◌≡◌, ◌++◌, ◌<◌}
use Rattle.load_maker.specs.MadeLines.{script_text}
use Rattle.load_maker.specs.LoadScript.{load_number, first_turns}
use Rattle.load_maker.proofs.turns.put_turns.Given as goal

-- the numbers and the lines so far
abbrev pub invariant-loop-i : goal.invariant-loop-i
invariant-loop-i l = record {
  number : l.x ≡ load_number l.fn.n l.i;
  small : l.x < 2147483648;
  lines : l.out ≡ l.initial.out ++ script_text (first_turns l.fn.n l.i);
}
