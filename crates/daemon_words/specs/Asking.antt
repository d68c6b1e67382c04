-- What the words of a command line ask for. This project's own choice.
use Rattle.std.specs.Prelude.{ℕ, List}
use Rattle.daemon_words.specs.declared.asked.Asked.{Asked}
use Rattle.daemon_words.specs.declared.asked.Asked.TheVariants.{Help, Version, Check, Run}
use Rattle.daemon_words.specs.Reading.{Says}

-- words that ask for a daemon name its file and say what is given
abbrev pub IsAsked : List (List ℕ) → Asked → Type 0
IsAsked words Help = Unit {0}
IsAsked words Version = Unit {0}
IsAsked words (Check file) = Unit {0}
IsAsked words (Run file said) = Says words file said
