use Rattle.std.proofs.Common.{◌≡◌, map, drop}
use Rattle.port_device.specs.Signals.{ports_after_steps}
use Rattle.port_device.proofs.StepLemmas.{stepped_to}
use Rattle.port_device.proofs.signals_step.step_all.Given as goal

-- the signals before this one have stepped; with those that are left, the ports become what all signals make of them
abbrev pub invariant-loop-signal : goal.invariant-loop-signal
invariant-loop-signal g l =
    (map (λ b. (goal.Signal-dyn g (b.vtable, b.value)).wave b.value) l.bank.signals.items
    ≡ stepped_to l.signal (map (λ b. (goal.Signal-dyn g (b.vtable, b.value)).wave b.value) l.initial.bank.signals.items))
    × (ports_after_steps l.signal (drop l.signal (map (λ b. (goal.Signal-dyn g (b.vtable, b.value)).wave b.value) l.initial.bank.signals.items)) l.ports
    ≡ ports_after_steps 0 (map (λ b. (goal.Signal-dyn g (b.vtable, b.value)).wave b.value) l.initial.bank.signals.items) l.initial.ports)
