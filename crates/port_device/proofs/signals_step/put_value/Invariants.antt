use Rattle.std.proofs.Common.{◌≡◌, ◌++◌, map, take, drop}
use Rattle.port_device.specs.Signals.{port_after_step}
use Rattle.port_device.proofs.signals_step.put_value.Given as goal

-- the ports before this one have followed the signal
abbrev pub invariant-loop-port : goal.invariant-loop-port
invariant-loop-port l =
    l.ports ≡ map (port_after_step l.signal l.value) (take l.port-index l.initial.ports) ++ drop l.port-index l.initial.ports
