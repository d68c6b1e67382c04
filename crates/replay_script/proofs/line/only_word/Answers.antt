-- Behind a space there is a second word.
use Rattle.std.proofs.Common.{ap}
use Rattle.std.specs.Option.{option_copied}
use Rattle.replay_script.proofs.GrammarLemmas.{only_of-more}
use Rattle.replay_script.proofs.line.only_word.Goals as goal

pub returns-in_default-Some : goal.returns-in_default-Some
returns-in_default-Some c =
    only_of-more (option_copied c.args.rest) c.in-Some.text.now c.first_word.result.0.now (option_copied c.first_word.result.1)
    c.in_default-Some.field-0-1.now (ap option_copied c.in-Some.is) c.first_word.ensures.words (ap option_copied c.in_default-Some.is-1)
