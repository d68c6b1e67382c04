use Rattle.std.proofs.Common.{◌≡◌, arith, nat_eq, refl, subst, true}
use Rattle.notify_table.specs.Table.{is_numbered}
use Rattle.notify_table.proofs.ScheduleLemmas.{first_passes}
use Rattle.notify_table.proofs.schedule.is_first.Goals as goal

pub returns-in-Some : goal.returns-in-Some
returns-in-Some c = λ same.
    let some = c.in-Some.ensures.variant.0 refl in
    first_passes (is_numbered c.args.handle) c.args.ring.now.items c.in-Some.record.now (omega (arith, c.args.ring.now.ok.0, some))
    c.in-Some.ensures.lookup (subst (λ h. nat_eq h c.args.handle ≡ true) c.handle.ensures same)
