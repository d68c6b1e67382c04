use Rattle.std.proofs.Common.{◌≡◌, map, string_bytes, take}
use Rattle.cli_words.specs.Dividing.{finished_by}
use Rattle.cli_words.proofs.division.add_rest.Given as goal

-- the words before this one are added
abbrev pub invariant-loop-word : goal.invariant-loop-word
invariant-loop-word l = l.division ≡ finished_by l.initial.division (map string_bytes (take l.word-index l.words))
