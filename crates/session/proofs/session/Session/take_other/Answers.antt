use Rattle.std.proofs.Common.{length, drop}
use Rattle.spec_machine.specs.World.{World}
use Rattle.ams_header.specs.Header.{ams_header_of}
use Rattle.session.specs.Takes.{HasAddress}
use Rattle.session.proofs.PortsKept.{keep-same}
use Rattle.session.proofs.TakeLemmas.{takes-silent, takes-close, takes-error, takes-refused, if-asked}
use Rattle.session.proofs.session.Session.take_other.Goals as goal

pub returns-in_err-error_frame-in-Error-clause-keeps : goal.returns-in_err-error_frame-in-Error-clause-keeps
returns-in_err-error_frame-in-Error-clause-keeps c = keep-same _

pub returns-in_err-refused_frame-in-Refused-clause-keeps : goal.returns-in_err-refused_frame-in-Refused-clause-keeps
returns-in_err-refused_frame-in-Refused-clause-keeps c = keep-same _

pub returns-in-Silent-clause-keeps : goal.returns-in-Silent-clause-keeps
returns-in-Silent-clause-keeps c = keep-same _

pub returns-in-Close-clause-keeps : goal.returns-in-Close-clause-keeps
returns-in-Close-clause-keeps c = keep-same _

pub returns-in_ok-error_frame-in-Error-clause-keeps : goal.returns-in_ok-error_frame-in-Error-clause-keeps
returns-in_ok-error_frame-in-Error-clause-keeps c = keep-same _

pub returns-in_ok-refused_frame-in-Refused-clause-keeps : goal.returns-in_ok-refused_frame-in-Refused-clause-keeps
returns-in_ok-refused_frame-in-Refused-clause-keeps c = keep-same _

pub returns-in-Silent-clause-takes : goal.returns-in-Silent-clause-takes
returns-in-Silent-clause-takes c = λ w x held stands address.
    takes-silent w x c.args.ams.now c.args.ports.now c.args.self.now held stands (c.in-Silent.ensures w x held address)

pub returns-in-Close-clause-takes : goal.returns-in-Close-clause-takes
returns-in-Close-clause-takes c = λ w x held stands address.
    let said = c.in-Close.ensures w x held address in
    takes-close w x c.args.ams.now said.0 c.args.ports.now c.args.self.now held stands said.1.0 said.1.1

pub returns-in_ok-error_frame-in-Error-clause-takes : goal.returns-in_ok-error_frame-in-Error-clause-takes
returns-in_ok-error_frame-in-Error-clause-takes c = λ w x held stands address.
    let said = c.in-Error.ensures w x held address in
    takes-error w x c.args.ams.now _ (ams_header_of c.in-Error.h) c.in-Error.code c.args.ports.now c.args.self.now held stands said.0 said.1
    c.in_ok-error_frame-in-Error.ensures.frame

pub returns-in_ok-refused_frame-in-Refused-clause-takes : goal.returns-in_ok-refused_frame-in-Refused-clause-takes
returns-in_ok-refused_frame-in-Refused-clause-takes c = λ w x held stands address.
    let said = c.in-Refused.ensures w x held address in
    takes-refused w x c.args.ams.now _ (ams_header_of c.in-Refused.h) c.args.ports.now c.args.self.now held stands said.0 said.1
    c.in_ok-refused_frame-in-Refused.ensures.frame

pub returns-in-Asked-clause-takes : goal.returns-in-Asked-clause-takes
returns-in-Asked-clause-takes c =
    let H : World → Type 0 = λ w. HasAddress w c.args.net.bytes c.args.admission.now in
    if-asked H c.args.ams.now (drop (length c.args.out.now) c.answer.new.out) c.in-Asked.h c.in-Asked.rights c.in-Asked.request c.args.ports.now
    c.answer.new.ports c.args.self.now c.answer.new.self c.answer.result c.in-Asked.ensures c.answer.ensures.answers
