use Rattle.std.proofs.lemmas.Result.{IfOk-weaker, on_ok_weaker}
use Rattle.session.proofs.TickAgreed.{tick_told, tick_readable, tick_leaves, tick_served}
use Rattle.session.proofs.session.Session.tick.Goals as goal

pub check_due-requires : goal.check_due-requires
check_due-requires c =
    let served = rw (← c.self.view_is) at c.requires in
    tick_readable c.args.ports.now _ served

pub returns-clause-frames : goal.returns-clause-frames
returns-clause-frames c =
    rw (← c.self.view_is) (IfOk-weaker c.check_due.result _ _ (λ frames told.
    tick_told c.args.now c.args.net.bytes c.args.ports.now _ frames told) c.check_due.ensures.frames)

pub returns-clause-stands : goal.returns-clause-stands
returns-clause-stands c =
    rw (← c.self.view_is) (on_ok_weaker c.check_due.result (λ left.
    tick_leaves c.args.now c.args.ports.now _ c.check_due.new.watches left) c.check_due.ensures.watches)

pub returns-clause-served : goal.returns-clause-served
returns-clause-served c =
    let served = rw (← c.self.view_is) at c.requires in
    on_ok_weaker c.check_due.result (λ left.
    tick_served c.args.now c.args.ports.now _ c.check_due.new.watches served left) c.check_due.ensures.watches
