-- The device that a core serves: the whole one.
use Rattle.spec_machine.specs.Device.{Device}
use Rattle.spec_machine.specs.Connection.{Connection}
use Rattle.spec_machine.specs.MachineState.{MachineState, Exchange}
use Rattle.spec_machine.specs.Moves.{EventStep}
use Rattle.spec_machine.specs.Events.{state_after_event}
pub use Rattle.spec_machine.specs.World.{World}
pub use Rattle.spec_machine.specs.Client.{Client}
use Rattle.spec_server.specs.Server.{server_device}

unfoldable pub served : Device World Client
served = server_device

-- an event of its machine
abbrev pub served_step : EventStep World Client
served_step = state_after_event served

abbrev pub ServedConnection : Type 0
ServedConnection = Connection Client

abbrev pub ServedExchange : Type 0
ServedExchange = Exchange World Client

abbrev pub ServedState : Type 0
ServedState = MachineState World Client
