use Rattle.spec_plant.specs.Named.{port_numbered}
use Rattle.type_layout.specs.Descriptions.{area_of}
use Rattle.session.proofs.TickBytes.{byte_of_bit, bit_found}
use Rattle.session.proofs.tick_bytes.bit_in.Goals as goal

pub bytes_in-bytes-requires : goal.bytes_in-bytes-requires
bytes_in-bytes-requires c = byte_of_bit c.args.ports.now c.args.port (area_of c.args.area) c.args.«at» c.args.bit c.requires

pub returns : goal.returns
returns c = λ w holds.
    bit_found w (port_numbered c.args.port w.plant.ports) (area_of c.args.area) c.args.«at» c.args.bit c.bit_of.result
    c.bytes_in-bytes.result.now (c.bytes_in-bytes.ensures.bytes w holds) c.bytes_in-bytes.ensures.len c.bit_of.ensures
