-- The right that a word gives to all machines without a route. This project's own choice.
use Rattle.std.specs.Prelude.{ℕ, List, Option, Some, None, bytes_eq, codes, if◌then◌else◌}
use Rattle.daemon_words.specs.declared.others_word.OthersWord.{OthersWord}
use Rattle.daemon_words.specs.declared.others_word.OthersWord.TheVariants.{Read, Write}

-- two words give one
abbrev pub others_in : List ℕ → Option OthersWord
others_in word = if bytes_eq word (codes "read") then Some Read else if bytes_eq word (codes "write") then Some Write else None
