use Rattle.std.proofs.Common.{◌≡◌, drop}
use Rattle.cli_words.specs.Words.{value_of}
use Rattle.cli_words.proofs.division.value_of_option.Given as goal

-- no option before this one has the name
abbrev pub invariant-loop-option : goal.invariant-loop-option
invariant-loop-option l = value_of l.name (drop l.option-index l.options) ≡ value_of l.name l.options
