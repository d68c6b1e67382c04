use Rattle.std.proofs.Common.{sym, ap, ◌∙◌, refl, arith, map}
use Rattle.std.specs.Char.{to_ascii_lowercase}
use Rattle.std.proofs.lemmas.Bool.{false≢true}
use Rattle.cli_words.proofs.NameLemmas.{stands_in-here, stands_in-later}
use Rattle.cli_words.proofs.values.stands_in.Goals as goal

pub returns-then-eq_ignore_ascii_case : goal.returns-then-eq_ignore_ascii_case
returns-then-eq_ignore_ascii_case c =
    let same = rw c.as_str.ensures at (c.if-eq_ignore_ascii_case.ensures.test.0 refl) in
    sym (sym c.loop-word.invariant
    ∙ stands_in-here c.args.words.now c.args.name.now c.word-item.result c.loop-word.word-index (omega arith) c.word-item.is same)

pub loop-word-preserved : goal.loop-word-preserved
loop-word-preserved c =
    sym (stands_in-later c.args.words.now c.args.name.now c.word-item.result c.loop-word.word-index (omega arith) c.word-item.is
    (λ same. false≢true (c.if-eq_ignore_ascii_case.ensures.test.1 (ap (map to_ascii_lowercase) c.as_str.ensures ∙ same))))
    ∙ c.loop-word.invariant
