use Rattle.std.proofs.Common.{arith}
use Rattle.session.proofs.TickChecks.{none_checked, check_asked, one_more_checked, few_due}
use Rattle.session.proofs.tick_checks.check_all.Goals as goal

pub loop-handle-init : goal.loop-handle-init
loop-handle-init c = rw c.requires.none ((λ w holds. none_checked w c.args.now c.args.watches.now), omega arith)

pub check-requires-clause-due : goal.check-requires-clause-due
check-requires-clause-due c =
    check_asked c.args.ports.now c.args.now c.loop-handle.handle-index c.args.handles.now c.args.watches.now c.loop-handle.watches
    c.loop-handle.groups.groups c.requires.readable c.loop-handle.invariant.0 c.requires.table c.requires.rising c.requires.due (omega arith)

pub check-requires-clause-few : goal.check-requires-clause-few
check-requires-clause-few c =
    omega (arith, c.loop-handle.invariant.1, few_due c.args.now c.args.handles.now c.args.watches.now c.requires.table c.requires.due)

pub loop-handle-preserved : goal.loop-handle-preserved
loop-handle-preserved c = (
  (λ w holds. one_more_checked w c.args.now c.loop-handle.handle-index c.args.handles.now c.args.watches.now c.loop-handle.watches c.check.new.watches
      c.loop-handle.groups.groups c.check.new.groups.groups (c.loop-handle.invariant.0 w holds) (c.in_ok-check.ensures.check w holds)
      c.requires.table c.requires.rising c.requires.due (omega arith)),
  omega (arith, c.loop-handle.invariant.1, c.check.ensures.added),
)
