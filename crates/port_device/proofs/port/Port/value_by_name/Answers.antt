use Rattle.std.proofs.Common.{refl}
use Rattle.spec_plant.specs.Finding.{found_of}
use Rattle.port_device.proofs.AskLemmas.{value_passed, unknown_value}
use Rattle.port_device.proofs.port.Port.value_by_name.Goals as goal

pub returns-in-Ok-clause-answer : goal.returns-in-Ok-clause-answer
returns-in-Ok-clause-answer c =
    value_passed c.args.self.now c.in-Ok.place c.args.len c.args.name.now c.read_place.result c.args.out.now c.read_place.new.out
    c.in-Ok.ensures.found c.read_place.ensures.answer

pub returns-in-Err-clause-answer : goal.returns-in-Err-clause-answer
returns-in-Err-clause-answer c = λ w d p h.
    unknown_value w d p c.args.len c.args.name.now c.in-Err.code c.args.out.now (found_of p.symbols c.args.name.now) refl (c.in-Err.ensures.found w p h)
