use Rattle.session.proofs.GrantLemmas.{given, not-given, full-leaves, said-full, said-not-full, full-act, grant-answers, grant-leaves, refused-answers}
use Rattle.return_codes.specs.declared.code.Code.TheVariants.{C700}
use Rattle.spec_machine.specs.ByName.{grant_act}
use Rattle.std.proofs.Common.{◌≡◌, ◌+◌, [], ◌∷◌, ◌++◌}
use Rattle.spec_machine.specs.Handles.{Grant}
use Rattle.sym_handles.specs.History.{History, Represents}
use Rattle.session.proofs.granting.grant_place.Goals as goal

pub returns-in_ok-put32-in-Ok-clause-answer : goal.returns-in_ok-put32-in-Ok-clause-answer
returns-in_ok-put32-in-Ok-clause-answer c = λ port number a named asks is_named.
    grant-answers a port c.args.handles.now named c.in-Ok.handle _ _ asks
    (said-not-full c.in_ok-handle.field-0 c.in-Ok.handle c.args.handles.now c.in-Ok.is c.in_ok-handle.ensures.full)
    (given (λ n. n ≡ c.args.handles.now.granted + 1) c.in_ok-handle.field-0 c.in-Ok.handle c.in-Ok.is c.in_ok-handle.ensures.number)
    c.in_ok-put32-in-Ok.ensures.ok

pub returns-in_ok-put32-in-Ok-clause-leaves : goal.returns-in_ok-put32-in-Ok-clause-leaves
returns-in_ok-put32-in-Ok-clause-leaves c = λ port number a named asks is_named.
    grant-leaves a port c.args.handles.now _ c.args.ams_port c.args.place named asks number
    (said-not-full c.in_ok-handle.field-0 c.in-Ok.handle c.args.handles.now c.in-Ok.is c.in_ok-handle.ensures.full) is_named
    (given (λ n. (history : History) → Represents c.args.handles.now history → Represents c.grant.new.self (history ++ Grant c.args.ams_port c.args.place ∷ []))
    c.in_ok-handle.field-0 c.in-Ok.handle c.in-Ok.is c.in_ok-handle.ensures.granted)

pub returns-in-Err-clause-answer : goal.returns-in-Err-clause-answer
returns-in-Err-clause-answer c = λ port number a named asks is_named.
    refused-answers a.world (grant_act a.client a.asker.port named) C700 c.args.out.now
    (full-act a port c.args.handles.now named asks
    (said-full c.in_ok-handle.field-0 c.in-Err._full c.args.handles.now c.in-Err.is c.in_ok-handle.ensures.full))

pub returns-in-Err-clause-leaves : goal.returns-in-Err-clause-leaves
returns-in-Err-clause-leaves c = λ port number a named asks is_named.
    full-leaves a port c.args.handles.now c.grant.new.self named asks
    (not-given (c.grant.new.self ≡ c.args.handles.now) c.in_ok-handle.field-0 c.in-Err._full c.in-Err.is c.in_ok-handle.ensures.err)
    (said-full c.in_ok-handle.field-0 c.in-Err._full c.args.handles.now c.in-Err.is c.in_ok-handle.ensures.full)
