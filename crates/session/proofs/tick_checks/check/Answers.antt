use Rattle.session.proofs.TickChecks.{spec_is_short}
use Rattle.session.proofs.tick_checks.check.Goals as goal

pub check_spec-requires-clause-short : goal.check_spec-requires-clause-short
check_spec-requires-clause-short c =
    spec_is_short c.args.handle c.args.watches.now c.in-Some.spec c.spec.ensures.table c.in-Some.ensures.spec
