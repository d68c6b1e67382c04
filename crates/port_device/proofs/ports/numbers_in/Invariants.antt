use Rattle.std.proofs.Common.{◌≡◌, map, take}
use Rattle.port_device.specs.PortMemory.{PortMemory}
use Rattle.port_device.proofs.ports.numbers_in.Given as goal

-- the numbers of the ports before this one stand there
abbrev pub invariant-loop-port : goal.invariant-loop-port
invariant-loop-port l = l.numbers.items ≡ map (λ (m : PortMemory). m.number) (take l.port-index l.ports)
