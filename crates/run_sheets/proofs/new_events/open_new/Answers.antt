-- One event more opens a new number.
use Rattle.std.proofs.Common.{rules}
use Rattle.run_sheets.proofs.NewLemmas.{new_from, nothing_left}
use Rattle.run_sheets.proofs.new_events.open_new.Goals as goal

pub loop-event-preserved : goal.loop-event-preserved
loop-event-preserved c = λ rest.
    c.loop-event.invariant (new_from c.args.events.now c.loop-event.event-index _ c.loop-event.opened.items c.note.new.opened.items
    c.loop-event-test.true c.event-item.is (search rules) c.in_ok-note.ensures rest)

pub returns : goal.returns
returns c = λ new. c.loop-event.invariant (nothing_left c.args.events.now c.loop-event.event-index c.loop-event.opened.items c.loop-event-test.false)
