use Rattle.std.proofs.Common.{◌≡◌, drop}
use Rattle.cli_words.specs.Values.{are_distinct}
use Rattle.cli_words.proofs.values.are_distinct.Given as goal

-- no word before this one stands behind itself again
abbrev pub invariant-loop-at : goal.invariant-loop-at
invariant-loop-at l = are_distinct (drop l.at l.words) ≡ are_distinct l.words
