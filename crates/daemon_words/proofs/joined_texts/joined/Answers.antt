-- One text more, and all of them.
use Rattle.std.proofs.Common.{rules, ◌≡◌, ◌∙◌, drop, []}
use Rattle.std.specs.Prelude.{string_bytes}
use Rattle.daemon_words.specs.Setups.{joined}
use Rattle.std.proofs.lemmas.List.{drop_all}
use Rattle.daemon_words.proofs.TextLemmas.{joined_next, joined_end, if_ok}
use Rattle.daemon_words.proofs.joined_texts.joined.Goals as goal

pub loop-text-preserved : goal.loop-text-preserved
loop-text-preserved c =
    joined_next c.args.texts.now c.loop-text.text-index (string_bytes c.loop-text.line) (string_bytes c.add.new.line) c.as_str.result.now
    c.loop-text-test.true (search rules) (search rules) c.loop-text.invariant

pub returns : goal.returns
returns c =
    let none : drop c.loop-text.text-index c.args.texts.now ≡ [] = drop_all c.loop-text.text-index c.args.texts.now (search rules) in
    let line : c.as_str-2.result.now ≡ string_bytes c.loop-text.line = search rules in
    if_ok c.copy_of.result (λ t. t ≡ c.as_str-2.result.now) (λ t. t ≡ joined c.args.texts.now)
    (λ t is. is ∙ (line ∙ joined_end c.args.texts.now (drop c.loop-text.text-index c.args.texts.now) (string_bytes c.loop-text.line) none
    c.loop-text.invariant))
    c.copy_of.ensures
