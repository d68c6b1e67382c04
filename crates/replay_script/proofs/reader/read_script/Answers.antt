-- Each line is read, or refused by its number.
use Rattle.std.proofs.Common.{Err, ◌+◌, ap, sym, ◌∙◌, eqb-true}
use Rattle.replay_script.proofs.ReadLemmas.{Reads-refused, Reads-read, Reads-end}
use Rattle.replay_script.proofs.reader.read_script.Goals as goal

pub returns-then-not-branch : goal.returns-then-not-branch
returns-then-not-branch c =
    let e = c.if-not-branch.true in
    let r = c.loop-rest.progress in
    let none = rw e at c.in_ok-take.ensures.read in
    let counted = rw e at c.in_ok-take.ensures.lines in
    Reads-refused c.args.bytes.now c.loop-rest.rest.now c.first_line.result.0.now c.first_line.result.1.now r c.loop-rest.invariant
    c.first_line.ensures.lines none
    ∙ ap (λ n. Err (n + 1)) (sym (c.lines.ensures ∙ counted))

pub loop-rest-preserved : goal.loop-rest-preserved
loop-rest-preserved c =
    let e = c.if-not-branch.false in
    let read = rw e at c.in_ok-take.ensures.read in
    let counted = rw e at c.in_ok-take.ensures.lines in
    Reads-read c.args.bytes.now c.loop-rest.rest.now c.first_line.result.0.now c.first_line.result.1.now c.loop-rest.progress c.take.new.self
    c.loop-rest.invariant c.first_line.ensures.lines c.first_line.ensures.shorter read counted

pub returns : goal.returns
returns c =
    let none = eqb-true _ _ (sym c.is_empty.ensures ∙ c.loop-rest-test.false) in
    Reads-end c.args.bytes.now c.loop-rest.rest.now c.loop-rest.progress c.loop-rest.invariant none ∙ sym c.into_script.ensures
