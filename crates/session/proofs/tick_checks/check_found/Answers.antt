use Rattle.std.proofs.Common.{true, false, refl, ap}
use Rattle.notify_table.specs.Rounds.{RoundState, next_handle}
use Rattle.session.proofs.TickChecks.{check_is, next_made}
use Rattle.session.proofs.tick_checks.check_found.Goals as goal

pub returns-in_ok-add-clause-check : goal.returns-in_ok-add-clause-check
returns-in_ok-add-clause-check c = λ w found.
    check_is w c.args.round.now.moment (next_handle c.args.round.now) c.args.round.now.table c.check.new.self.table c.args.groups.now.groups
    c.add.new.self.groups c.args.spec.now c.args.bytes.now true c.requires.spec c.requires.due found c.if-check.ensures.sent
    (ap (λ (r : RoundState). r.table) c.check.ensures.new) (rw c.handle-handle.ensures at c.in_ok-add.ensures.groups)

pub returns-else-check-clause-check : goal.returns-else-check-clause-check
returns-else-check-clause-check c = λ w found.
    check_is w c.args.round.now.moment (next_handle c.args.round.now) c.args.round.now.table c.check.new.self.table c.args.groups.now.groups
    c.args.groups.now.groups c.args.spec.now c.args.bytes.now false c.requires.spec c.requires.due found c.if-check.ensures.sent
    (ap (λ (r : RoundState). r.table) c.check.ensures.new) refl

pub returns-in_err-add-clause-made : goal.returns-in_err-add-clause-made
returns-in_err-add-clause-made c = next_made c.args.bytes.now c.args.round.now c.check.new.self c.check.ensures.new

pub returns-in_ok-add-clause-made : goal.returns-in_ok-add-clause-made
returns-in_ok-add-clause-made c = next_made c.args.bytes.now c.args.round.now c.check.new.self c.check.ensures.new

pub returns-else-check-clause-made : goal.returns-else-check-clause-made
returns-else-check-clause-made c = next_made c.args.bytes.now c.args.round.now c.check.new.self c.check.ensures.new
