use Rattle.std.proofs.Common.{refl, arith}
use Rattle.std.specs.Prelude.{Some, None, nat_lt}
use Rattle.std.proofs.lemmas.Bool.{lt-ltb, ltb-true}
use Rattle.spec_plant.specs.Finding.{found_of}
use Rattle.port_device.proofs.AskLemmas.{info_short, info_unknown, info_found}
use Rattle.port_device.proofs.GroupLemmas.{is_false}
use Rattle.port_device.proofs.NameLemmas.{finds_at_port}
use Rattle.port_device.proofs.port.Port.info_by_name.Goals as goal

pub returns-then-len-lt12-clause-answer : goal.returns-then-len-lt12-clause-answer
returns-then-len-lt12-clause-answer c = λ w d p h. info_short w d p c.args.len c.args.name.now c.args.out.now (lt-ltb c.args.len 12 c.if-len-lt12.true)

pub returns-in_ok-put_info-in-Some-clause-answer : goal.returns-in_ok-put_info-in-Some-clause-answer
returns-in_ok-put_info-in-Some-clause-answer c = λ w d p h.
    let enough = c.if-len-lt12.false in
    info_found w d p c.args.self.now.types c.args.len c.args.name.now c.args.out.now c.put_info.new.out c.in-Some.found (found_of p.symbols c.args.name.now)
    (is_false (nat_lt c.args.len 12) (λ t. omega (arith, ltb-true c.args.len 12 t, enough))) refl
    (finds_at_port w p c.args.self.now c.args.name.now (Some c.in-Some.found) h (c.in-Some.ensures.found h.port h.table)) c.in_ok-put_info-in-Some.ensures.ok

pub returns-in-None-clause-answer : goal.returns-in-None-clause-answer
returns-in-None-clause-answer c = λ w d p h.
    let enough = c.if-len-lt12.false in
    info_unknown w d p c.args.self.now.types c.args.len c.args.name.now c.args.out.now (found_of p.symbols c.args.name.now)
    (is_false (nat_lt c.args.len 12) (λ t. omega (arith, ltb-true c.args.len 12 t, enough))) refl
    (finds_at_port w p c.args.self.now c.args.name.now None h (c.in-None.ensures.found h.port h.table))
