use Rattle.std.proofs.Common.{◌≡◌, drop}
use Rattle.cli_words.specs.Values.{stands_in}
use Rattle.cli_words.proofs.values.stands_in.Given as goal

-- no word before this one is the name
abbrev pub invariant-loop-word : goal.invariant-loop-word
invariant-loop-word l = stands_in (drop l.word-index l.words) l.name ≡ stands_in l.words l.name
