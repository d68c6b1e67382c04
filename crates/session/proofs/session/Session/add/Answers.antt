use Rattle.std.proofs.Common.{◌<◌, ◌^◌, rules, sym, subst, ap, ◌∙◌, ◌++◌, ℕ}
use Rattle.std.specs.Prelude.{Result}
use Rattle.return_codes.specs.declared.code.Code.{Code}
use Rattle.spec_formats.specs.Reply as reply
use Rattle.spec_formats.specs.Request.{AddDeviceNotification}
use Rattle.session.specs.Asking.{act_asked}
use Rattle.session.specs.Runs.{Runs}
use Rattle.session.specs.SessionState.{SessionState}
use Rattle.session.specs.Watching.{AddsAs}
use Rattle.session.proofs.RunLemmas.{ok-then, added-runs, unadded-runs}
use Rattle.session.proofs.session.Session.add.Goals as goal

pub returns-in-Ok-clause-runs : goal.returns-in-Ok-clause-runs
returns-in-Ok-clause-runs c =
    let fits : c.in-Ok.handle < 2 ^ 32 = search rules in
    let x = c.args.asked.now in
    ok-then c.put_reply.result _ _ (λ put a delay h from.
    let r = AddDeviceNotification x.group x.offset x.len x.mode delay x.cycle in
    let A : Result ℕ Code → Type 0 = λ y. AddsAs a (act_asked a r) y c.added.new.self.watches in
    let R : SessionState → Type 0 = λ s. Runs a r c.args.out.now c.put_reply.new.out c.args.port.now s in
    subst R (sym c.in_ok-handle.ensures.keeps)
    (added-runs a x.group x.offset x.len x.mode delay x.cycle c.in-Ok.handle c.args.port.now c.args.self.now _ _ _ h fits
    (subst A c.in-Ok.is (c.in_ok-handle.ensures.adds a delay h from.address)) put))
    c.put_reply.ensures.ok

pub returns-in-Err-clause-runs : goal.returns-in-Err-clause-runs
returns-in-Err-clause-runs c =
    let x = c.args.asked.now in
    ok-then c.put_reply-in-Err.result _ _ (λ put a delay h from.
    let r = AddDeviceNotification x.group x.offset x.len x.mode delay x.cycle in
    let A : Result ℕ Code → Type 0 = λ y. AddsAs a (act_asked a r) y c.added.new.self.watches in
    let R : SessionState → Type 0 = λ s. Runs a r c.args.out.now c.put_reply-in-Err.new.out c.args.port.now s in
    subst R (sym c.in_ok-handle.ensures.keeps)
    (unadded-runs a x.group x.offset x.len x.mode delay x.cycle c.in-Err.code c.args.port.now c.args.self.now _ _ _ h
    (subst A c.in-Err.is (c.in_ok-handle.ensures.adds a delay h from.address))
    (put ∙ ap (λ n. c.args.out.now ++ reply.written_bytes (reply.AddDeviceNotification n 0)) c.number.ensures)))
    c.put_reply-in-Err.ensures.ok
