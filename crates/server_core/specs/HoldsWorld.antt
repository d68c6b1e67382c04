-- The device of a core holds a world: its ports hold the bytes, its NetId and routes are those of the plant, and its right of
-- others is that of the profile.
use Rattle.std.specs.Prelude.{◌≡◌, ◌<◌, ◌^◌, List, length}
use Rattle.signals.specs.Wave.{Wave}
use Rattle.port_device.specs.Holds.{HoldsPorts}
use Rattle.session.specs.SessionState.{SessionState}
use Rattle.session.specs.StandsFor.{StandsFor}
use Rattle.session.specs.Takes.{HasAddress}
use Rattle.server_core.specs.declared.device.Device.{Device}
use Rattle.server_core.specs.Served.{World, Client, ServedState}

pub record HoldsWorld (d : Device) (w : World) : Type 0 where
  pub ports : HoldsPorts w d.ports
  pub address : HasAddress w d.net.bytes d.admission

-- with its signals and the last moment
pub record HoldsState (d : Device) (waves : List Wave) (s : ServedState) : Type 0 where
  pub world : HoldsWorld d s.world
  pub signals : s.world.signals ≡ waves
  pub count : d.signals ≡ length waves
  pub few : length waves < 2 ^ 32
  pub moment : d.moment ≡ s.moment

-- the device holds a world, and the session stands for a client over it
pub record IsConnected (d : Device) (s : SessionState) : Type 0 where
  pub world : World
  pub client : Client
  pub held : HoldsWorld d world
  pub stands : StandsFor world.plant client s
