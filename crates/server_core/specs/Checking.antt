-- The check of all sessions at a tick. Private: no public clause cites this file.
use Rattle.std.specs.Prelude.{◌≡◌, ℕ, List, false}
use Rattle.spec_machine.specs.Ticks.{client_after_tick}
use Rattle.spec_machine.specs.World.{World}
use Rattle.port_device.specs.Holds.{HoldsPorts}
use Rattle.port_device.specs.PortMemory.{PortsMemory}
use Rattle.session.specs.Served.{IsServed}
use Rattle.server_core.specs.declared.turned.Turned.{Turned}
use Rattle.server_core.specs.Asked.{EachAsked}

-- a session that is not left out is served by these ports
abbrev pub IsCheckable : PortsMemory → Turned → Type 0
IsCheckable ports t = t.skip ≡ false → IsServed ports t.session

-- each session was asked at this moment, over whatever world the ports hold
unfoldable pub AreAsked : PortsMemory → List ℕ → ℕ → List Turned → List Turned → Type 0
AreAsked ports net now old new = (w : World) → HoldsPorts w ports → w.plant.net ≡ net
    → EachAsked w.plant w.plant (client_after_tick now w) old new
