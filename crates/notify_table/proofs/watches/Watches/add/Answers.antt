use Rattle.std.proofs.Common.{◌+◌, ◌<◌, length, refl}
use Rattle.notify_table.specs.Table.{handle_of}
use Rattle.notify_table.specs.Numbered.{by_number}
use Rattle.notify_table.specs.Specs.{new_watch}
use Rattle.notify_table.proofs.TableLemmas.{added_granted, added_table}
use Rattle.notify_table.proofs.watches.Watches.add.Goals as goal

pub invariant_of-self-2 : goal.invariant_of-self-2
invariant_of-self-2 c =
    let room : length (by_number handle_of c.self.inside.granted c.self.inside.schedule) < 512 = rw (← c.self.view_is) at
    (c.is_full.ensures.room c.if-is_full.false).0 in
    rw c.in_ok-add.ensures.ok.2
    (added_granted c.self.inside.schedule c.self.inside.granted c.in_ok-add.ensures.ok.0 (new_watch (c.self.inside.granted + 1) c.args.spec)
    c.self.invariant refl
    room c.in_ok-add.ensures.ok.1 c.requires)

pub returns-clause-ok : goal.returns-clause-ok
returns-clause-ok c =
    rw (← c.self.view_is, c.in_ok-add.ensures.ok.2)
    (added_table c.self.inside.schedule c.self.inside.granted c.in_ok-add.ensures.ok.0 (new_watch (c.self.inside.granted + 1) c.args.spec)
    c.self.invariant refl)
