-- A wire in memory that tells its log, or takes frames in runs.
use Rattle.std.specs.Prelude.{List}
use Rattle.ads_outside.specs.declared.event.Event.{Event}
use Rattle.ads_outside.specs.MemWire.{HeldWire, state_of_held, state_of_runs}
use Rattle.ads_outside.specs.WireState.{WireState}
use Rattle.run_sheets.specs.declared.two_wires.CaseWire.{CaseWire}
use Rattle.run_sheets.specs.declared.two_wires.CaseWire.TheVariants as case_wire

abbrev pub told_of : CaseWire → WireState
told_of (case_wire.ByFrames w) = state_of_held w
told_of (case_wire.ByRuns w) = state_of_runs w.wire

-- the events that it gives
abbrev pub events_of : CaseWire → List Event
events_of (case_wire.ByFrames w) = w.events
events_of (case_wire.ByRuns w) = w.wire.events
