use Rattle.std.proofs.Common.{None, sym, ap, ◌∙◌}
use Rattle.cli_words.specs.Dividing.{finished}
use Rattle.cli_words.proofs.DividingLemmas.{finished-dash, finished-value}
use Rattle.cli_words.proofs.division.take_value.Goals as goal

pub returns-then-begins_with_dash : goal.returns-then-begins_with_dash
returns-then-begins_with_dash c = λ words. finished-dash _ _ _ words (sym c.begins_with_dash.ensures ∙ c.if-begins_with_dash.true)

pub returns : goal.returns
returns c = λ words.
    finished-value _ _ _ words (sym c.begins_with_dash.ensures ∙ c.if-begins_with_dash.false)
    ∙ ap (λ d. finished d None words) (sym (rw c.in_ok-value.ensures at c.in_ok-add_option.ensures))
