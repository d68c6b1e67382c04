use Rattle.std.proofs.Common.{◌≡◌, drop}
use Rattle.cli_words.specs.Values.{are_texts}
use Rattle.cli_words.proofs.values.are_texts.Given as goal

-- the words before this one are short enough
abbrev pub invariant-loop-word : goal.invariant-loop-word
invariant-loop-word l = are_texts (drop l.word-index l.words) ≡ are_texts l.words
