-- What a plant's ports are once one of them that was lent for writing is given back.
use Rattle.std.specs.Prelude.{ℕ, Option}
use Rattle.std.specs.Borrow.{LendsIf, Fml, MutBor}
use Rattle.port_device.specs.contracts.ports.Ports.{the_row}
use Rattle.port_device.specs.contracts.port.Port as port
use Rattle.port_device.specs.PortMemory.{PortMemory, PortsMemory, with_port}

-- the port with this number ends as what was last written through r, and all others as they were
abbrev pub LendsPort : MutBor PortsMemory → ℕ → Option (MutBor PortMemory) → Fml
LendsPort ports number r = LendsIf the_row port.the_row ports r (with_port ports.now number) ports.now
