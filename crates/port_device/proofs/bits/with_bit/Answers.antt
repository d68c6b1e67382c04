use Rattle.std.proofs.Common.{◌<◌, arith}
use Rattle.port_device.proofs.BitLemmas.{room_for_bit}
use Rattle.port_device.proofs.bits.with_bit.Goals as goal

pub overflow_add-result : goal.overflow_add-result
overflow_add-result c =
    let byte_fits : c.args.byte < 256 = omega arith in
    rw c.unit_of-unit.ensures (omega (arith, room_for_bit c.args.byte c.args.bit byte_fits c.requires))
