use Rattle.std.proofs.Common.{true, false, refl}
use Rattle.session.proofs.TickChecks.{check_is}
use Rattle.session.proofs.tick_checks.check_bytes.Goals as goal

pub returns-in_ok-add-clause-check : goal.returns-in_ok-add-clause-check
returns-in_ok-add-clause-check c = λ w found.
    check_is w c.args.now c.args.handle c.args.watches.now c.checked.new.self c.args.groups.now.groups c.add.new.self.groups c.args.spec.now
    c.args.bytes.now true c.requires.spec c.requires.due found c.if-checked.ensures.sent c.checked.ensures.watches c.in_ok-add.ensures.groups

pub returns-else-checked-clause-check : goal.returns-else-checked-clause-check
returns-else-checked-clause-check c = λ w found.
    check_is w c.args.now c.args.handle c.args.watches.now c.checked.new.self c.args.groups.now.groups c.args.groups.now.groups c.args.spec.now
    c.args.bytes.now false c.requires.spec c.requires.due found c.if-checked.ensures.sent c.checked.ensures.watches refl
