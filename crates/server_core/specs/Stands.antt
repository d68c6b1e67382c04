-- What the code keeps of a connection while a piece of it is taken stands for a connection of the machine.
-- No public clause cites this file.
use Rattle.std.specs.Prelude.{◌≡◌, Bool, false}
use Rattle.spec_plant.specs.World.{Plant}
use Rattle.ams_tcp.specs.Held.{Held}
use Rattle.ams_tcp.specs.History.{History}
use Rattle.out_queue.specs.Open.{frames_of}
use Rattle.out_queue.specs.declared.open_queue.OpenQueue.{OpenQueue}
use Rattle.connections.specs.Carries.{IsOutlet, IsStreamOf}
use Rattle.connections.specs.declared.outlet.Outlet.{Outlet}
use Rattle.session.specs.SessionState.{SessionState}
use Rattle.session.specs.StandsFor.{StandsFor}
use Rattle.server_core.specs.declared.summary.Summary.{Summary}
use Rattle.server_core.specs.declared.device.Device.{Device}
use Rattle.server_core.specs.Served.{ServedConnection, ServedExchange}
use Rattle.server_core.specs.Counts.{Counts}
use Rattle.server_core.specs.HoldsWorld.{HoldsWorld}

pub record Conn : Type 0 where
  pub stream : Held
  pub session : SessionState
  pub outlet : Outlet

-- what waits where a queue is open, and whether the connection is to be shut
abbrev pub outlet_with : OpenQueue → Bool → Outlet
outlet_with queue closes = record { out = frames_of queue; closing = closes; blocked = false }

abbrev pub conn_of : Held → SessionState → OpenQueue → Bool → Conn
conn_of stream session queue closes = record { stream = stream; session = session; outlet = outlet_with queue closes }

-- what the splitter was fed, and gave
abbrev pub history_of : Held → ServedConnection → History
history_of stream k = record { fed = k.received; given = k.frames_taken; told_broken = stream.told_broken }

-- of a connection that is closing nothing more is asked
abbrev pub IsClientOf : Plant → SessionState → ServedConnection → Type 0
IsClientOf plant session k = k.closing ≡ false → StandsFor plant k.client session

-- over a plant, since neither a byte nor a signal has a part in it
pub record Stands (plant : Plant) (conn : Conn) (k : ServedConnection) : Type 0 where
  pub stream : IsStreamOf conn.stream k
  pub client : IsClientOf plant conn.session k
  pub outlet : IsOutlet conn.outlet k

-- the code's connection stands for the one after, the device holds the world after, and the counts follow
pub record Goes (new : Conn) (device : Device) (old_counts new_counts : Summary) (before after : ServedExchange) : Type 0 where
  pub stands : Stands before.world.plant new after.connection
  pub holds : HoldsWorld device after.world
  pub plant : after.world.plant ≡ before.world.plant
  pub signals : after.world.signals ≡ before.world.signals
  pub counted : Counts old_counts new_counts before.connection after.connection
  pub number : after.connection.number ≡ before.connection.number
  pub gone : after.connection.gone ≡ before.connection.gone
