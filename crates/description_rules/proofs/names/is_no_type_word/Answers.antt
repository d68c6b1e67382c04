use Rattle.std.proofs.Common.{sym, ◌∙◌, None, Some}
use Rattle.description_rules.proofs.WordLemmas.{type_words_differ}
use Rattle.description_rules.proofs.names.is_no_type_word.Goals as goal

pub returns-in-None : goal.returns-in-None
returns-in-None c = c.is_no_other_word.ensures ∙ sym (type_words_differ c.args.text.now None c.in-None.ensures)

pub returns-in-Some : goal.returns-in-Some
returns-in-Some c = sym (type_words_differ c.args.text.now (Some _) c.in-Some.ensures)
