use Rattle.std.proofs.Common.{◌≡◌, ◌+◌, suc, List, ◌++◌, map, take, drop, get_or, ◌∙◌, ap, arith}
use Rattle.std.specs.Prelude.{slice_set}
use Rattle.port_device.specs.PortMemory.{PortMemory}
use Rattle.port_device.specs.Signals.{port_after_step}
use Rattle.port_device.proofs.StepLemmas.{mapped_one}
use Rattle.port_device.proofs.signals_step.put_value.Goals as goal

pub loop-port-preserved : goal.loop-port-preserved
loop-port-preserved c =
    let f : PortMemory → PortMemory = port_after_step c.args.signal c.args.value in
    let i = c.loop-port.port-index in
    let x : PortMemory = c.port-item.result in
    let ports : List PortMemory = c.loop-port.ports in
    let all : List PortMemory = c.args.ports.now in
    let next : suc i ≡ i + 1 = omega arith in
    ap (slice_set ports i) c.follow.ensures
    ∙ ap (λ ys. slice_set ys i (f (get_or ys i x))) c.loop-port.invariant
    ∙ mapped_one f all i x c.loop-port-test.true
    ∙ ap (λ n. map f (take n all) ++ drop n all) next
