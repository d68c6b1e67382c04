use Rattle.std.proofs.Common.{sym, ◌∙◌}
use Rattle.session.proofs.SumGroups.{more-strict, more-wide}
use Rattle.session.proofs.groups.is_more_sum.Goals as goal

pub returns-then-not-is_wide : goal.returns-then-not-is_wide
returns-then-not-is_wide c = more-strict c.args.port.now.manner c.args.number (sym c.is_wide.ensures ∙ c.if-not-is_wide.true)

pub returns : goal.returns
returns c = c.is_wide_sum.ensures ∙ more-wide c.args.port.now.manner c.args.number (sym c.is_wide.ensures ∙ c.if-not-is_wide.false)
