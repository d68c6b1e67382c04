use Rattle.std.proofs.Common.{refl, sym, subst, arith}
use Rattle.server_core.specs.Checking.{IsCheckable}
use Rattle.server_core.proofs.CheckLemmas.{none_asked, next_is, one_more_asked}
use Rattle.server_core.proofs.checking.check_in_order.Goals as goal

pub loop-i-init : goal.loop-i-init
loop-i-init g c = (none_asked c.args.ports.now c.args.net.bytes c.args.now, refl)

pub check_one-requires-after_bounds : goal.check_one-requires-after_bounds
check_one-requires-after_bounds g c κs within =
    subst (IsCheckable c.args.ports.now)
    (sym (next_is c.loop-i.i c.args.list.now c.loop-i.list c.index-list-i.result (omega arith) (omega arith) c.loop-i.invariant.1))
    (c.requires c.loop-i.i c.index-list-i.result (omega arith))

pub loop-i-preserved : goal.loop-i-preserved
loop-i-preserved g c =
    one_more_asked c.args.ports.now c.args.net.bytes c.args.now c.loop-i.i c.args.list.now c.loop-i.list _ c.check_one.new.turned (omega arith) (omega arith)
    c.loop-i.invariant.0 c.loop-i.invariant.1 c.in_ok-check_one.ensures
