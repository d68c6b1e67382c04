use Rattle.std.proofs.Common.{◌≡◌, [], map, string_bytes, drop, sym, ap, ◌∙◌, arith}
use Rattle.std.proofs.lemmas.List.{drop_all}
use Rattle.cli_words.specs.Dividing.{finished}
use Rattle.cli_words.proofs.DividingLemmas.{finished-fresh, finished-none, finished-pending}
use Rattle.cli_words.proofs.division.divide.Goals as goal

pub loop-at-init : goal.loop-at-init
loop-at-init c = rw (c.new.ensures, c.new-2.ensures) (finished-fresh _)

pub returns-in-None : goal.returns-in-None
returns-in-None c =
    let at_end : drop c.loop-at.at c.args.words.now ≡ [] = drop_all c.loop-at.at c.args.words.now (omega arith) in
    sym c.loop-at.invariant
    ∙ ap (λ words. finished c.loop-at.division c.loop-at.pending (map string_bytes words)) at_end
    ∙ ap (λ pending. finished c.loop-at.division pending []) c.in-None.is
    ∙ finished-none c.loop-at.division

pub returns-in-Some : goal.returns-in-Some
returns-in-Some c =
    let at_end : drop c.loop-at.at c.args.words.now ≡ [] = drop_all c.loop-at.at c.args.words.now (omega arith) in
    sym c.loop-at.invariant
    ∙ ap (λ words. finished c.loop-at.division c.loop-at.pending (map string_bytes words)) at_end
    ∙ ap (λ pending. finished c.loop-at.division pending []) c.in-Some.is
    ∙ finished-pending c.loop-at.division c.in-Some.field-0
