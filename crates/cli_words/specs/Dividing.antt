-- What one word does to a division that is under way; no public clause cites this.
use Rattle.std.specs.Prelude.{◌≡◌, ℕ, List, [], ◌∷◌, ◌++◌, Option, Some, None, option_map, Result, Ok, Err}
use Rattle.cli_words.specs.declared.refusal.Refusal.{Refusal}
use Rattle.cli_words.specs.declared.refusal.Refusal.TheVariants as refusal
use Rattle.cli_words.specs.declared.division.Division.{Division}
use Rattle.cli_words.specs.declared.division.Next.{Next}
use Rattle.cli_words.specs.declared.division.Next.TheVariants as next
use Rattle.cli_words.specs.Words.{divided}

-- words that were divided, and then others behind them
abbrev pub joined : Division → Division → Division
joined first later = record { positional = first.positional ++ later.positional; options = first.options ++ later.options }

-- the division of all words, where some are divided and others are left
unfoldable pub finished : Division → Option (List ℕ) → List (List ℕ) → Option Division
finished first pending words = option_map (joined first) (divided pending words)

-- with positional words alone behind it
abbrev pub finished_by : Division → List (List ℕ) → Division
finished_by first words = record { positional = first.positional ++ words; options = first.options }

-- with one more option
abbrev pub with_last_option : Division → List ℕ → List ℕ → Division
with_last_option first name value = record { positional = first.positional; options = first.options ++ record { name = name; value = value } ∷ [] }

-- how the division goes on behind a word: the division of all words stays what it was
abbrev pub TakesWord : Division → Division → Option (List ℕ) → List ℕ → Result Next Refusal → Type 0
TakesWord old new pending word (Ok (next.Word after)) = (words : List (List ℕ)) → finished old pending (word ∷ words) ≡ finished new after words
TakesWord old new pending word (Ok next.Positional) = (words : List (List ℕ)) → finished old pending (word ∷ words) ≡ Some (finished_by new words)
TakesWord old new pending word (Err refusal.OffGrammar) = (words : List (List ℕ)) → finished old pending (word ∷ words) ≡ None
TakesWord old new pending word (Err refusal.Memory) = Unit {0}
