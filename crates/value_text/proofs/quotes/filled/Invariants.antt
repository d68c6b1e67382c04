use Rattle.std.proofs.Common.{◌≡◌, ◌++◌, ◌-◌, ◌≤◌, length, replicate}
use Rattle.value_text.proofs.quotes.filled.Given as goal

-- NULs alone stand behind the string
abbrev pub invariant-nuls : goal.invariant-nuls
invariant-nuls l = record {
  filled : l.value ≡ l.initial.value ++ replicate (length l.value - length l.initial.value) 0;
  most : length l.value ≤ l.size;
  least : length l.initial.value ≤ length l.value;
}

abbrev pub decreases-nuls : goal.decreases-nuls
decreases-nuls l = l.size - length l.value
