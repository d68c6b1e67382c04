use Rattle.std.proofs.Common.{true, false, refl, sym, ◌∙◌}
use Rattle.server_core.proofs.DeliverLemmas.{delivers_one}
use Rattle.server_core.proofs.delivering.deliver_note.Goals as goal

pub returns-then-branch : goal.returns-then-branch
returns-then-branch c = λ o there.
    delivers_one c.args.outlets.now c.give.new.self c.args.i o c.args.note.now c.as_slice.result.now c.args.summary.now c.count_samples.new.self true
    c.as_slice.ensures c.in_ok-give.ensures.given (sym c.if-branch.true ∙ c.in_ok-give.ensures.fitted) c.count_samples.ensures there

pub returns-else-branch : goal.returns-else-branch
returns-else-branch c = λ o there.
    delivers_one c.args.outlets.now c.give.new.self c.args.i o c.args.note.now c.as_slice.result.now c.args.summary.now c.args.summary.now false
    c.as_slice.ensures c.in_ok-give.ensures.given (sym c.if-branch.false ∙ c.in_ok-give.ensures.fitted) refl there
