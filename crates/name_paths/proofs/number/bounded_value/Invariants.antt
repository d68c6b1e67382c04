use Rattle.std.proofs.Common.{◌≡◌, ◌≤◌, drop, min}
use Rattle.name_paths.specs.declared.number.TheConstants.{TOO_GREAT}
use Rattle.name_paths.specs.Number.{number_from, number_of_digits}
use Rattle.name_paths.proofs.number.bounded_value.Given as goal

-- what is left to read makes the number from here
abbrev pub invariant-loop-c : goal.invariant-loop-c
invariant-loop-c l = record {
  bounded : l.value ≤ TOO_GREAT;
  same : min (number_from l.value (drop l.c-index l.text)) TOO_GREAT ≡ min (number_of_digits l.text) TOO_GREAT;
}
