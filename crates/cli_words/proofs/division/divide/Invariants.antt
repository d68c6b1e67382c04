use Rattle.std.proofs.Common.{◌≡◌, map, string_bytes, drop}
use Rattle.cli_words.specs.Words.{division_of}
use Rattle.cli_words.specs.Dividing.{finished}
use Rattle.cli_words.proofs.division.divide.Given as goal

-- the words so far are divided
abbrev pub invariant-loop-at : goal.invariant-loop-at
invariant-loop-at l = finished l.division l.pending (map string_bytes (drop l.at l.words)) ≡ division_of (map string_bytes l.words)
