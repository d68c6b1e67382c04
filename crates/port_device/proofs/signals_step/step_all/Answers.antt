use Rattle.std.proofs.Common.{refl, arith}
use Rattle.port_device.proofs.StepLemmas.{turn-within, turn-bank, turn-ports, end-bank, end-ports}
use Rattle.port_device.proofs.signals_step.step_all.Goals as goal

pub loop-signal-init : goal.loop-signal-init
loop-signal-init g c = (refl, refl)

pub step-value-requires : goal.step-value-requires
step-value-requires g c =
    turn-within c.loop-signal.signal c.count-signal-end.result _ _ (c.loop-signal.invariant.0) c.count-signal-end.ensures c.loop-signal-test.true

pub loop-signal-preserved : goal.loop-signal-preserved
loop-signal-preserved g c = (
  turn-bank c.loop-signal.signal c.count-signal-end.result _ _ _ (c.loop-signal.invariant.0) c.count-signal-end.ensures c.loop-signal-test.true
      c.step-value.ensures.moved,
  turn-ports c.loop-signal.signal c.step-value.result _ _ c.loop-signal.ports c.put_value.new.ports _ (c.loop-signal.invariant.0) c.step-value.ensures.value
      c.put_value.ensures (c.loop-signal.invariant.1),
)

pub returns-clause-ports : goal.returns-clause-ports
returns-clause-ports g c =
    let end = c.loop-signal-test.false in
    let count = c.count-signal-end.ensures in
    end-ports c.loop-signal.signal _ c.loop-signal.ports _ (c.loop-signal.invariant.1) (omega (arith, end, count))

pub returns-clause-bank : goal.returns-clause-bank
returns-clause-bank g c =
    let end = c.loop-signal-test.false in
    let count = c.count-signal-end.ensures in
    end-bank c.loop-signal.signal _ _ (c.loop-signal.invariant.0) (omega (arith, end, count))
