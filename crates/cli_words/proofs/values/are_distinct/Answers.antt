use Rattle.std.proofs.Common.{◌≡◌, ◌+◌, drop, true, false, sym, ◌∙◌, arith}
use Rattle.std.proofs.lemmas.List.{drop_all, take_rest}
use Rattle.cli_words.specs.Values.{stands_in}
use Rattle.cli_words.proofs.NameLemmas.{are_distinct-here, are_distinct-later, are_distinct-end}
use Rattle.cli_words.proofs.values.are_distinct.Goals as goal

pub returns-then-stands_in : goal.returns-then-stands_in
returns-then-stands_in c =
    let again : stands_in (drop (c.loop-at.at + 1) c.args.words.now) c.index-words-at.result ≡ true =
    sym (rw (take_rest, c.as_str.ensures) at c.if-stands_in.ensures) in
    sym (sym c.loop-at.invariant ∙ are_distinct-here c.args.words.now c.index-words-at.result c.loop-at.at (omega arith) c.index-words-at.is again)

pub loop-at-preserved : goal.loop-at-preserved
loop-at-preserved c =
    let new : stands_in (drop (c.loop-at.at + 1) c.args.words.now) c.index-words-at.result ≡ false =
    sym (rw (take_rest, c.as_str.ensures) at c.if-stands_in.ensures) in
    sym (are_distinct-later c.args.words.now c.index-words-at.result c.loop-at.at (omega arith) c.index-words-at.is new) ∙ c.loop-at.invariant

pub returns : goal.returns
returns c = sym (sym c.loop-at.invariant ∙ are_distinct-end (drop c.loop-at.at c.args.words.now) (drop_all c.loop-at.at c.args.words.now (omega arith)))
