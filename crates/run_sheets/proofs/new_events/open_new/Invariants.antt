-- All open new numbers, if those that are left do.
use Rattle.std.proofs.Common.{[], drop}
use Rattle.std.specs.Prelude.{IsTrue}
use Rattle.ads_outside.specs.Opened.{are_new}
use Rattle.run_sheets.proofs.new_events.open_new.Given as goal

abbrev pub invariant-loop-event : goal.invariant-loop-event
invariant-loop-event l = IsTrue (are_new (drop l.event-index l.events) l.opened.items) → IsTrue (are_new l.events [])
