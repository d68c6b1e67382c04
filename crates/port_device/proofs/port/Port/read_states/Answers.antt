use Rattle.std.proofs.Common.{◌++◌, ◌∙◌, ap, take, drop}
use Rattle.port_device.proofs.ReadLemmas.{states_read}
use Rattle.port_device.proofs.port.Port.read_states.Goals as goal

pub returns-in_ok-put-in-Ok-clause-answer : goal.returns-in_ok-put-in-Ok-clause-answer
returns-in_ok-put-in-Ok-clause-answer c = λ w p h.
    states_read w p c.args.self.now c.args.offset c.args.len c.args.out.now c.put.new.self h c.in-Ok.ensures.within (c.in-Ok.ensures.reach p.number)
    (c.in_ok-put-in-Ok.ensures.ok ∙ ap (λ bs. c.args.out.now ++ bs) (c.part_of.ensures ∙ ap (λ bs. take c.args.len (drop c.args.offset bs)) c.own-own.ensures))
