use Rattle.std.proofs.Common.{◌≤◌, ◌+◌, length, sym, arith, length-drop}
use Rattle.session.proofs.PlainLemmas.{plain-takes}
use Rattle.session.proofs.PortsKept.{keep-with}
use Rattle.session.proofs.TakeLemmas.{some-asks}
use Rattle.session.proofs.session.Session.take_plain.Goals as goal

pub answer_plain-requires-clause-some : goal.answer_plain-requires-clause-some
answer_plain-requires-clause-some c =
    some-asks c.args.ports.now c.args.self.now c.args.packet.h.target.port c.in-Some.port.now c.requires.served (sym c.in-Some.ensures.value)

pub answer_plain-requires-clause-long : goal.answer_plain-requires-clause-long
answer_plain-requires-clause-long c = omega (arith, c.requires.plain.payload.long, length-drop 32 c.args.ams.now, c.requires.packet.least)

pub returns-in-Ok-clause-takes : goal.returns-in-Ok-clause-takes
returns-in-Ok-clause-takes c =
    plain-takes c.args.ams.now c.args.net.bytes c.args.admission.now c.args.packet c.args.ports.now c.in-Some.port.now c.answer_plain.new.port
    c.args.self.now c.answer_plain.new.self c.args.out.now c.answer_plain.new.out c.requires.plain (sym c.in-Some.ensures.value) c.in-Ok.ensures.whole

pub returns-in-Ok-clause-keeps : goal.returns-in-Ok-clause-keeps
returns-in-Ok-clause-keeps c =
    keep-with c.args.ports.now c.args.packet.h.target.port c.in-Some.port.now c.answer_plain.new.port (sym c.in-Some.ensures.value) c.answer_plain.ensures.keeps

pub returns-in-Err-clause-keeps : goal.returns-in-Err-clause-keeps
returns-in-Err-clause-keeps c =
    keep-with c.args.ports.now c.args.packet.h.target.port c.in-Some.port.now c.answer_plain.new.port (sym c.in-Some.ensures.value) c.answer_plain.ensures.keeps
