use Rattle.std.proofs.Common.{◌+◌, refl, ap, ◌∙◌, arith}
use Rattle.session.proofs.TickChecks.{none_checked, check_asked, one_more_checked, few_due}
use Rattle.session.proofs.tick_checks.check_in_place.Goals as goal

pub loop-i-init : goal.loop-i-init
loop-i-init c = record {
  checked = λ w holds. rw c.requires.none (none_checked w c.args.round.now.moment c.args.round.now.table);
  added = rw c.requires.none (omega arith);
  handles = refl;
  moment = refl;
  made = c.requires.opened.none;
}

pub check_next-requires-clause-next : goal.check_next-requires-clause-next
check_next-requires-clause-next c = rw (c.loop-i.invariant.made, c.loop-i.invariant.handles) (omega arith)

pub check_next-requires-clause-due : goal.check_next-requires-clause-due
check_next-requires-clause-due c =
    rw (c.loop-i.invariant.made, c.loop-i.invariant.handles, c.loop-i.invariant.moment)
    (check_asked c.args.ports.now c.args.round.now.moment c.loop-i._i c.args.round.now.handles c.args.round.now.table c.loop-i.round.table
    c.loop-i.groups.groups c.requires.readable c.loop-i.invariant.checked c.requires.opened.table c.requires.opened.rising c.requires.opened.due
    (omega arith))

pub check_next-requires-clause-few : goal.check_next-requires-clause-few
check_next-requires-clause-few c =
    omega (
      arith,
      c.loop-i.invariant.added,
      few_due c.args.round.now.moment c.args.round.now.handles c.args.round.now.table c.requires.opened.table c.requires.opened.due,
    )

pub loop-i-preserved : goal.loop-i-preserved
loop-i-preserved c = record {
  checked = λ w holds.
      one_more_checked w c.args.round.now.moment c.loop-i._i c.args.round.now.handles c.args.round.now.table c.loop-i.round.table
      c.check_next.new.round.table c.loop-i.groups.groups c.check_next.new.groups.groups (c.loop-i.invariant.checked w holds)
      (rw (c.loop-i.invariant.made, c.loop-i.invariant.handles, c.loop-i.invariant.moment) at (c.in_ok-check_next.ensures.check w holds))
      c.requires.opened.table c.requires.opened.rising c.requires.opened.due (omega arith);
  added = omega (arith, c.loop-i.invariant.added, c.check_next.ensures.added);
  handles = c.check_next.ensures.made.handles ∙ c.loop-i.invariant.handles;
  moment = c.check_next.ensures.made.moment ∙ c.loop-i.invariant.moment;
  made = c.check_next.ensures.made.made ∙ ap (λ n. n + 1) c.loop-i.invariant.made;
}
