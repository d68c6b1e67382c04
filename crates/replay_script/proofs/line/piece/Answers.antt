-- A whole line is a piece.
use Rattle.std.proofs.Common.{ap, sym, ◌∙◌}
use Rattle.std.specs.Option.{option_copied}
use Rattle.replay_script.proofs.GrammarLemmas.{after_bytes-piece}
use Rattle.replay_script.proofs.line.piece.Goals as goal

pub returns-clause-said : goal.returns-clause-said
returns-clause-said c = after_bytes-piece c.args.progress.now (option_copied c.args.rest) (option_copied c.first_word.result.1) c.in-Some.rest.now
    c.first_word.result.0.now c.in-Some-others.words.now c.in-Some-2.bytes c.in-Some-open.conn
    (ap option_copied c.in-Some.is) c.first_word.ensures.words (ap option_copied c.in-Some-others.is)
    (sym c.open.ensures.number ∙ c.in-Some-open.is) (sym c.in_ok-bytes.ensures ∙ c.in-Some-2.is)
