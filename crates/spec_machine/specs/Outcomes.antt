-- What an event comes to, as whoever hands it to the server is told.
use Rattle.std.specs.Prelude.{ℕ}
use Rattle.ads_outside.specs.declared.event.Event.{Event}
use Rattle.ads_outside.specs.declared.event.Event.TheVariants as event
use Rattle.spec_machine.specs.Device.{Device, DescriptionFault, Reloading, Accepted, Refused}
use Rattle.spec_machine.specs.MachineState.{MachineState}

-- the machine has moved; a reload gave a new version; a reload was refused, and why
pub data EventOutcome : Type 0 where
  Done : EventOutcome
  ReloadOk : ℕ → EventOutcome
  ReloadRefused : DescriptionFault → EventOutcome

abbrev pub outcome_of_reload : {W : Type 0} → Reloading W → EventOutcome
outcome_of_reload (Accepted version world) = ReloadOk version
outcome_of_reload (Refused fault) = ReloadRefused fault

abbrev pub outcome_of_event : {W C : Type 0} → Device W C → MachineState W C → Event → EventOutcome
outcome_of_event device s (event.Reload bytes) = outcome_of_reload (device.reload bytes s.world)
outcome_of_event device s e = Done
