use Rattle.std.proofs.Common.{sym, ap, ◌∙◌}
use Rattle.notify_table.specs.Table.{due_handles}
use Rattle.notify_table.proofs.TableLemmas.{found, checkable, not_missing, checked_granted, checked_table, others_due}
use Rattle.notify_table.proofs.watches.Watches.checked.Goals as goal

pub check-requires-clause-len : goal.check-requires-clause-len
check-requires-clause-len c =
    let f = found c.self.inside.schedule c.self.inside.granted c.args.handle c.in-Some.at c.self.invariant (sym c.in-Some.ensures) in
    (checkable c.self.inside.schedule c.self.inside.granted c.args.handle c.args.now c.args.bytes.now c.args.self.now c.in-Some.at c.self.view_is f
    c.requires).1

pub invariant_of-self : goal.invariant_of-self
invariant_of-self c =
    let f = found c.self.inside.schedule c.self.inside.granted c.args.handle c.in-Some.at c.self.invariant (sym c.in-Some.ensures) in
    rw c.check.ensures.new.2 (checked_granted c.self.inside.schedule c.self.inside.granted c.args.handle c.args.now c.args.bytes.now c.in-Some.at
    c.check.ensures.new.0 c.check.ensures.new.1 c.self.invariant f)

pub unreachable-requires : goal.unreachable-requires
unreachable-requires c =
    not_missing c.self.inside.schedule c.self.inside.granted c.args.handle c.args.now c.args.bytes.now c.args.self.now c.self.view_is
    (sym c.find.ensures ∙ c.in-None.is) c.requires

pub returns-clause-sent : goal.returns-clause-sent
returns-clause-sent c =
    let f = found c.self.inside.schedule c.self.inside.granted c.args.handle c.in-Some.at c.self.invariant (sym c.in-Some.ensures) in
    rw (← c.self.view_is, f.live) c.check.ensures.sent

pub returns-clause-watches : goal.returns-clause-watches
returns-clause-watches c =
    let f = found c.self.inside.schedule c.self.inside.granted c.args.handle c.in-Some.at c.self.invariant (sym c.in-Some.ensures) in
    let due = (checkable c.self.inside.schedule c.self.inside.granted c.args.handle c.args.now c.args.bytes.now c.args.self.now c.in-Some.at
    c.self.view_is f c.requires).0 in
    rw (← c.self.view_is, c.check.ensures.new.2)
    (checked_table c.self.inside.schedule c.self.inside.granted c.args.handle c.args.now c.args.bytes.now c.in-Some.at c.check.ensures.new.0 f due)

pub returns-clause-others_due : goal.returns-clause-others_due
returns-clause-others_due c =
    ap (due_handles c.args.now) (returns-clause-watches c)
    ∙ others_due c.args.handle c.args.now c.args.bytes.now c.args.self.now.watches
