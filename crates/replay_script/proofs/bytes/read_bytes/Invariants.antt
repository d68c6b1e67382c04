-- The bytes of the words that were read stand before those of the rest.
use Rattle.std.proofs.Common.{◌≡◌, ◌+◌, length}
use Rattle.std.specs.Option.{option_copied, option_map_or}
use Rattle.spec_machine.specs.ScriptLines.{words_of}
use Rattle.spec_machine.specs.ScriptWords.{behind, bytes_of_words}
use Rattle.replay_script.specs.Lines.{words_behind}
use Rattle.replay_script.proofs.bytes.read_bytes.Given as goal

abbrev pub invariant-loop-rest : goal.invariant-loop-rest
invariant-loop-rest l = bytes_of_words (words_of l.text) ≡ behind l.bytes (bytes_of_words (words_behind (option_copied l.rest)))

abbrev pub decreases-loop-rest : goal.decreases-loop-rest
decreases-loop-rest l = option_map_or (λ text. length text + 1) (option_copied l.rest) 0
