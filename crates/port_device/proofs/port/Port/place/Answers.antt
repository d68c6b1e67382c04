use Rattle.std.proofs.Common.{refl}
use Rattle.std.specs.Prelude.{Some, None}
use Rattle.spec_plant.specs.Finding.{found_of}
use Rattle.port_device.proofs.NameLemmas.{finds_place, finds_nothing, finds_at_port}
use Rattle.port_device.proofs.port.Port.place.Goals as goal

pub returns-in-Some-clause-found : goal.returns-in-Some-clause-found
returns-in-Some-clause-found c = λ w p h.
    let now = c.args.self.now in
    finds_place w p now c.args.name.now h (found_of p.symbols c.args.name.now) c.in-Some.found refl
    (finds_at_port w p now c.args.name.now (Some c.in-Some.found) h (c.in-Some.ensures.found h.port h.table))

pub returns-in-None-clause-found : goal.returns-in-None-clause-found
returns-in-None-clause-found c = λ w p h.
    let now = c.args.self.now in
    finds_nothing w p now.types p.symbols (found_of p.symbols c.args.name.now)
    (finds_at_port w p now c.args.name.now None h (c.in-None.ensures.found h.port h.table))
