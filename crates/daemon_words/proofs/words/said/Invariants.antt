use Rattle.std.proofs.Common.{take, map}
use Rattle.std.specs.Prelude.{string_bytes}
use Rattle.daemon_words.specs.Reading.{PutsWords, no_word}
use Rattle.daemon_words.proofs.words.said.Given as goal

-- the words before this one were read
abbrev pub invariant-loop-word : goal.invariant-loop-word
invariant-loop-word l = PutsWords (map string_bytes (take l.word-index l.words)) no_word l.read
