use Rattle.std.proofs.Common.{sym, subst}
use Rattle.spec_formats.specs.Header.{payload_of}
use Rattle.ams_header.specs.Header.{ams_header_of}
use Rattle.session.specs.declared.plain.Plain.{Plain}
use Rattle.session.specs.Plain.{RunsWhole, plain_meant}
use Rattle.session.proofs.RunLemmas.{ok-then}
use Rattle.session.proofs.session.Session.answer_plain.Goals as goal

pub returns-in-Read-clause-whole : goal.returns-in-Read-clause-whole
returns-in-Read-clause-whole c = ok-then c.read_whole.result _ _ (λ said a asks from.
    let h = ams_header_of c.args.packet.h in
    let K : Plain → Type 0 = λ k. RunsWhole a h (plain_meant k (payload_of c.args.ams.now)) c.args.out.now c.read_whole.new.out c.args.port.now
    c.args.self.now in
    subst K (sym c.in-Read.is) (said a h c.requires.header asks))
    c.read_whole.ensures.whole

pub returns-in-Write-clause-whole : goal.returns-in-Write-clause-whole
returns-in-Write-clause-whole c = ok-then c.write_whole.result _ _ (λ said a asks from.
    let h = ams_header_of c.args.packet.h in
    let K : Plain → Type 0 = λ k. RunsWhole a h (plain_meant k (payload_of c.args.ams.now)) c.args.out.now c.write_whole.new.out c.write_whole.new.port
    c.write_whole.new.self in
    subst K (sym c.in-Write.is) (said a h c.requires.header asks from.address from.rights_are))
    c.write_whole.ensures.whole

pub returns-in-State-clause-whole : goal.returns-in-State-clause-whole
returns-in-State-clause-whole c = ok-then c.state_whole.result _ _ (λ said a asks from.
    let h = ams_header_of c.args.packet.h in
    let K : Plain → Type 0 = λ k. RunsWhole a h (plain_meant k (payload_of c.args.ams.now)) c.args.out.now c.state_whole.new.out c.args.port.now
    c.args.self.now in
    subst K (sym c.in-State.is) (said a h c.requires.header asks))
    c.state_whole.ensures.whole
