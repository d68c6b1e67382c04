use Rattle.std.proofs.Common.{sym, subst}
use Rattle.ads_commands.specs.declared.request.Request.{Request}
use Rattle.ads_commands.specs.Request.{request_meant}
use Rattle.spec_formats.specs.Request as format
use Rattle.session.specs.declared.requests.NoteRequest.{NoteRequest}
use Rattle.session.specs.Runs.{Runs}
use Rattle.session.proofs.RunLemmas.{ok-then}
use Rattle.session.proofs.session.Session.run.Goals as goal

pub returns-in-Control-clause-runs : goal.returns-in-Control-clause-runs
returns-in-Control-clause-runs c = ok-then c.control.result _ _ (λ said a h from.
    let R : Request → Type 0 = λ q. Runs a (request_meant q) c.args.out.now c.control.new.out c.control.new.port c.args.self.now in
    subst R (sym c.in-Control.is) (said a c.args.asker.source c.in-Control.bytes.now h from)) c.control.ensures.runs

pub returns-in-Add-clause-runs : goal.returns-in-Add-clause-runs
returns-in-Add-clause-runs c = ok-then c.add.result _ _ (λ said a h from.
    let R : Request → Type 0 = λ q. Runs a (request_meant q) c.args.out.now c.add.new.out c.args.port.now c.add.new.self in
    let N : NoteRequest → Type 0 = λ x. Runs a (format.AddDeviceNotification x.group x.offset x.len x.mode c.in-Add.delay x.cycle)
    c.args.out.now c.add.new.out c.args.port.now c.add.new.self in
    subst R (sym c.in-Add.is) (subst N c.new-asked-in-Add.ensures (said a c.in-Add.delay h from))) c.add.ensures.runs

pub returns-in-Note-clause-runs : goal.returns-in-Note-clause-runs
returns-in-Note-clause-runs c = ok-then c.note.result _ _ (λ said a h from.
    let R : Request → Type 0 = λ q. Runs a (request_meant q) c.args.out.now c.note.new.out c.args.port.now c.args.self.now in
    subst R (sym c.in-Note.is) (said a c.args.port.now c.in-Note.field-0.now h)) c.note.ensures.runs

pub returns-in-Delete-clause-runs : goal.returns-in-Delete-clause-runs
returns-in-Delete-clause-runs c = ok-then c.delete.result _ _ (λ said a h from.
    let R : Request → Type 0 = λ q. Runs a (request_meant q) c.args.out.now c.delete.new.out c.args.port.now c.delete.new.self in
    subst R (sym c.in-Delete.is) (said a c.args.port.now c.number.ensures h)) c.delete.ensures.runs
