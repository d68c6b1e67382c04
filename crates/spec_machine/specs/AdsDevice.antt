-- The device whole: what an AMS packet, a tick and a reload do.
use Rattle.std.specs.Prelude.{ℕ, List, length, Result, Ok, Err}
use Rattle.spec_plant.specs.Description.{Description}
use Rattle.spec_machine.specs.Device.{Device, DescriptionFault, Reloading, Accepted, Refused}
use Rattle.spec_machine.specs.Moves.{EventStep}
use Rattle.spec_machine.specs.Events.{state_after_event}
use Rattle.spec_machine.specs.World.{World, setup_of}
use Rattle.spec_machine.specs.Client.{Client, new_client}
use Rattle.spec_machine.specs.Packets.{decide}
use Rattle.spec_machine.specs.Replies.{performed}
use Rattle.spec_machine.specs.Ticks.{world_after_tick, client_after_tick}
use Rattle.spec_machine.specs.Reloads.{world_after_reload, client_reloaded}

-- what the bytes of a description are, for so many signals: an accepted description, or why it is none
abbrev pub DescriptionReading : Type 0
DescriptionReading = List ℕ → ℕ → Result Description DescriptionFault

abbrev pub reloading : World → Result Description DescriptionFault → Reloading World
reloading w (Err fault) = Refused fault
reloading w (Ok d) = Accepted (world_after_reload w d).version (world_after_reload w d)

-- the device that reads descriptions so
abbrev pub ads_device : DescriptionReading → Device World Client
ads_device reading = record {
  new_client = new_client;
  take = λ w c packet. performed (decide (setup_of w) c packet) packet w c;
  world_after_tick = world_after_tick;
  client_after_tick = client_after_tick;
  reload = λ bytes w. reloading w (reading bytes (length w.signals));
  client_after_reload = client_reloaded;
}

-- the server's machine over it, an event at a time
abbrev pub server_step : DescriptionReading → EventStep World Client
server_step reading = state_after_event (ads_device reading)
