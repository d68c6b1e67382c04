use Rattle.std.proofs.Common.{None, Some, sym, ap, ◌∙◌}
use Rattle.cli_words.specs.Dividing.{finished}
use Rattle.cli_words.proofs.DividingLemmas.{finished-plain, finished-joined, finished-named, finished-end}
use Rattle.cli_words.proofs.division.take_first.Goals as goal

pub returns-in-EndOfOptions : goal.returns-in-EndOfOptions
returns-in-EndOfOptions c = λ words. finished-end _ _ words (sym c.in_ok-kind_of_word.ensures ∙ c.in-EndOfOptions.is)

pub returns-in_ok-add_positional-in-Plain : goal.returns-in_ok-add_positional-in-Plain
returns-in_ok-add_positional-in-Plain c = λ words.
    finished-plain _ _ words (sym c.in_ok-kind_of_word.ensures ∙ c.in-Plain.is)
    ∙ ap (λ d. finished d None words) (sym c.in_ok-add_positional-in-Plain.ensures)

pub returns-in_ok-add_option-in-Joined : goal.returns-in_ok-add_option-in-Joined
returns-in_ok-add_option-in-Joined c = λ words.
    finished-joined _ _ _ _ words (sym c.in_ok-kind_of_word.ensures ∙ c.in-Joined.is)
    ∙ ap (λ d. finished d None words) (sym c.in_ok-add_option-in-Joined.ensures)

pub returns-in_ok-name-in-Named : goal.returns-in_ok-name-in-Named
returns-in_ok-name-in-Named c = λ words.
    finished-named _ _ words (sym c.in_ok-kind_of_word.ensures ∙ c.in-Named.is)
    ∙ ap (λ name. finished c.args.division.now (Some name) words) (sym c.in_ok-name-in-Named.ensures)
