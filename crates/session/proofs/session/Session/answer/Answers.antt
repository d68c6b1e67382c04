use Rattle.std.proofs.Common.{◌≡◌, sym, refl, ◌∙◌, arith, rules}
use Rattle.std.specs.Prelude.{None}
use Rattle.ads_commands.specs.Request.{request_meant}
use Rattle.ams_header.specs.Header.{ams_header_of}
use Rattle.port_device.specs.PortMemory.{memory_numbered}
use Rattle.session.proofs.FrameLemmas.{begins-kept, kept-front, on-err}
use Rattle.session.proofs.PortsKept.{keep-same, keep-with}
use Rattle.session.proofs.TakeLemmas.{no-port, some-asks, some-session, same-port, answers-asked, extends-room}
use Rattle.session.proofs.session.Session.answer.Goals as goal

pub returns-in_default-clause-answers : goal.returns-in_default-clause-answers
returns-in_default-clause-answers c = λ a held stands from found.
    let none : memory_numbered c.args.h.now.target.port c.args.ports.now.ports ≡ None = search rules in
    absurd (no-port a.world c.args.ports.now c.args.h.now.target.port a.asker.port held none found)

pub returns-in_default-clause-keeps : goal.returns-in_default-clause-keeps
returns-in_default-clause-keeps c = keep-same _

pub returns-in_err-put_room-clause-keeps : goal.returns-in_err-put_room-clause-keeps
returns-in_err-put_room-clause-keeps c =
    keep-with c.args.ports.now c.args.h.now.target.port c.in-Some.port.now c.in-Some.port.now (sym c.in-Some.ensures.value) refl

pub run-requires-clause-some : goal.run-requires-clause-some
run-requires-clause-some c =
    some-asks c.args.ports.now c.args.self.now c.args.h.now.target.port c.in-Some.port.now c.requires.served (sym c.in-Some.ensures.value)

pub run-requires-clause-served : goal.run-requires-clause-served
run-requires-clause-served c =
    some-session c.args.ports.now c.args.self.now c.args.h.now.target.port c.in-Some.port.now c.requires.served (sym c.in-Some.ensures.value)

pub framed-requires : goal.framed-requires
framed-requires c =
    let more = extends-room c.args.ports.now c.args.h.now.target.port c.in-Some.port.now c.run.new.port c.args.self.now c.run.new.self
    c.args.h.now.source c.args.rights (request_meant c.args.request) c.put_room.new.out c.run.new.out c.requires.served (sym c.in-Some.ensures.value)
    c.in-Ok.ensures.runs in
    omega (arith, c.len-start.ensures, c.in_ok-put_room.ensures.long, more.longer)

pub returns-in_err-framed-in-Ok-clause-no_memory : goal.returns-in_err-framed-in-Ok-clause-no_memory
returns-in_err-framed-in-Ok-clause-no_memory c =
    let more = extends-room c.args.ports.now c.args.h.now.target.port c.in-Some.port.now c.run.new.port c.args.self.now c.run.new.self
    c.args.h.now.source c.args.rights (request_meant c.args.request) c.put_room.new.out c.run.new.out c.requires.served (sym c.in-Some.ensures.value)
    c.in-Ok.ensures.runs in
    let kept = kept-front c.args.out.now c.put_room.new.out c.run.new.out c.len-start.result c.len-start.ensures c.in_ok-put_room.ensures.long
    c.in_ok-put_room.ensures.begins more in
    on-err _ _ (c.in_err-framed-in-Ok.ensures.cut ∙ kept)

pub returns-in_err-framed-in-Ok-clause-keeps : goal.returns-in_err-framed-in-Ok-clause-keeps
returns-in_err-framed-in-Ok-clause-keeps c =
    keep-with c.args.ports.now c.args.h.now.target.port c.in-Some.port.now c.run.new.port (sym c.in-Some.ensures.value) c.in-Ok.ensures.keeps

pub returns-in_ok-framed-in-Ok-clause-answers : goal.returns-in_ok-framed-in-Ok-clause-answers
returns-in_ok-framed-in-Ok-clause-answers c = λ a held stands from found.
    let more = extends-room c.args.ports.now c.args.h.now.target.port c.in-Some.port.now c.run.new.port c.args.self.now c.run.new.self
    c.args.h.now.source c.args.rights (request_meant c.args.request) c.put_room.new.out c.run.new.out c.requires.served (sym c.in-Some.ensures.value)
    c.in-Ok.ensures.runs in
    let kept = kept-front c.args.out.now c.put_room.new.out c.run.new.out c.len-start.result c.len-start.ensures c.in_ok-put_room.ensures.long
    c.in_ok-put_room.ensures.begins more in
    let own = same-port a.world c.args.ports.now c.args.h.now.target.port c.in-Some.port.now a.asker.port held (sym c.in-Some.ensures.value) found in
    answers-asked a (ams_header_of c.args.h.now) (request_meant c.args.request) c.args.ports.now c.args.h.now.target.port c.in-Some.port.now c.run.new.port
    c.args.self.now c.run.new.self c.len-start.result c.args.out.now c.put_room.new.out c.run.new.out c.framed.new.out held found
    (c.in-Ok.ensures.runs a (record { held = own; stands = stands }) from) c.len-start.ensures c.in_ok-put_room.ensures.long kept
    c.in_ok-framed-in-Ok.ensures.frame

pub returns-in_ok-framed-in-Ok-clause-appends : goal.returns-in_ok-framed-in-Ok-clause-appends
returns-in_ok-framed-in-Ok-clause-appends c =
    let more = extends-room c.args.ports.now c.args.h.now.target.port c.in-Some.port.now c.run.new.port c.args.self.now c.run.new.self
    c.args.h.now.source c.args.rights (request_meant c.args.request) c.put_room.new.out c.run.new.out c.requires.served (sym c.in-Some.ensures.value)
    c.in-Ok.ensures.runs in
    let kept = kept-front c.args.out.now c.put_room.new.out c.run.new.out c.len-start.result c.len-start.ensures c.in_ok-put_room.ensures.long
    c.in_ok-put_room.ensures.begins more in
    begins-kept c.args.out.now _ _ c.framed.new.out c.in_ok-framed-in-Ok.ensures.frame kept

pub returns-in_ok-framed-in-Ok-clause-keeps : goal.returns-in_ok-framed-in-Ok-clause-keeps
returns-in_ok-framed-in-Ok-clause-keeps c =
    keep-with c.args.ports.now c.args.h.now.target.port c.in-Some.port.now c.run.new.port (sym c.in-Some.ensures.value) c.in-Ok.ensures.keeps

pub returns-in-Err-clause-keeps : goal.returns-in-Err-clause-keeps
returns-in-Err-clause-keeps c =
    keep-with c.args.ports.now c.args.h.now.target.port c.in-Some.port.now c.run.new.port (sym c.in-Some.ensures.value) c.in-Err.ensures.keeps
