-- The words are read one by one.
use Rattle.std.proofs.Common.{ap}
use Rattle.std.specs.Option.{option_copied}
use Rattle.replay_script.proofs.ByteLemmas.{bytes_of_words-more, bytes_of_words-refused, bytes_of_words-end}
use Rattle.replay_script.proofs.bytes.read_bytes.Goals as goal

pub returns-then-not-branch : goal.returns-then-not-branch
returns-then-not-branch c = let e = c.if-not-branch.true in
    bytes_of_words-refused _ c.loop-rest.bytes c.append_word.new.bytes c.first_word.result.0.now c.in-Some.words.now
    (option_copied c.loop-rest.rest) (option_copied c.first_word.result.1) c.loop-rest.invariant (ap option_copied c.in-Some.is)
    c.first_word.ensures.words (rw e at c.in_ok-append_word.ensures)

pub loop-rest-preserved : goal.loop-rest-preserved
loop-rest-preserved c = let e = c.if-not-branch.false in
    bytes_of_words-more _ c.loop-rest.bytes c.append_word.new.bytes c.first_word.result.0.now c.in-Some.words.now
    (option_copied c.loop-rest.rest) (option_copied c.first_word.result.1) c.loop-rest.invariant (ap option_copied c.in-Some.is)
    c.first_word.ensures.words (rw e at c.in_ok-append_word.ensures)

pub returns : goal.returns
returns c = bytes_of_words-end _ c.loop-rest.bytes (option_copied c.loop-rest.rest) c.loop-rest.invariant (ap option_copied c.in_default.is)
