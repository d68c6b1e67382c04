-- One word more.
use Rattle.std.proofs.Common.{rules, ◌≡◌, subst, get_or}
use Rattle.std.specs.Prelude.{string_bytes}
use Rattle.daemon_words.specs.Reading.{PutsWord, PutsWords, no_word}
use Rattle.daemon_words.proofs.ReadingLemmas.{puts_next}
use Rattle.daemon_words.proofs.words.said.Goals as goal

pub loop-word-preserved : goal.loop-word-preserved
loop-word-preserved c =
    let word = c.word-item.result in
    let text : c.as_str.result.now ≡ string_bytes (get_or c.args.words.now c.loop-word.word-index word) = search rules in
    puts_next string_bytes c.args.words.now c.loop-word.word-index word no_word c.loop-word.read c.put.new.self c.loop-word-test.true
    c.loop-word.invariant (subst (λ w. PutsWord w c.loop-word.read c.put.new.self) text c.in_ok-put.ensures)

pub loop-word-init : goal.loop-word-init
unfolding PutsWords
loop-word-init c = c.new-read.ensures
