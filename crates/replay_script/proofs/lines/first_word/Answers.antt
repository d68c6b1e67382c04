-- The first word goes up to the first space, or to the end.
use Rattle.std.proofs.Common.{◌+◌}
use Rattle.std.proofs.lemmas.List.{take_rest}
use Rattle.replay_script.proofs.LineLemmas.{found, missing, is_space, words_of-first, words_of-last}
use Rattle.replay_script.proofs.lines.first_word.Goals as goal

pub returns-in-Some-clause-words : goal.returns-in-Some-clause-words
returns-in-Some-clause-words c =
    let text = c.args.text.now in
    let f = found is_space text c.in-Some.at c.in-Some.ensures in
    rw (take_rest text (c.in-Some.at + 1)) (words_of-first text c.in-Some.at f.is f.within)

pub returns-in-None-clause-words : goal.returns-in-None-clause-words
returns-in-None-clause-words c = words_of-last c.args.text.now (missing is_space c.args.text.now c.in-None.ensures)
