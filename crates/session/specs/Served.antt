-- The condition of a session's calls, and what they keep of the ports.
use Rattle.std.specs.Prelude.{◌≡◌, List, [], ◌∷◌}
use Rattle.spec_machine.specs.World.{World}
use Rattle.spec_machine.specs.Client.{Client}
use Rattle.port_device.specs.PortMemory.{PortMemory, PortsMemory}
use Rattle.port_device.specs.Endings.{KeepsDescription}
use Rattle.port_device.specs.Holds.{HoldsPorts}
use Rattle.session.specs.SessionState.{SessionState}
use Rattle.session.specs.StandsFor.{StandsFor}

-- The ports hold some world, and the session stands for some client over it: so places of live handles are places of the
-- table, and what notifications watch lies in its area.
pub record IsServed (ports : PortsMemory) (s : SessionState) : Type 0 where
  pub world : World
  pub client : Client
  pub held : HoldsPorts world ports
  pub stands : StandsFor world.plant client s

-- only bytes and state words of ports may be others
abbrev pub KeepEach : List PortMemory → List PortMemory → Type 0
KeepEach [] [] = Unit {0}
KeepEach (m ∷ ms) (n ∷ ns) = KeepsDescription m n × KeepEach ms ns
KeepEach ms ns = ⊥

pub record KeepDescriptions (old new : PortsMemory) : Type 0 where
  pub types : new.types ≡ old.types
  pub version : new.version ≡ old.version
  pub ports : KeepEach old.ports new.ports
