use Rattle.std.proofs.Common.{subst}
use Rattle.std.specs.Prelude.{IfOk, Result}
use Rattle.spec_plant.specs.Accepted.{IsAccepted}
use Rattle.type_layout.specs.Descriptions.{description_of}
use Rattle.type_layout.specs.declared.description.Description as layout
use Rattle.symbol_file.specs.declared.fault.DescFault.{DescFault}
use Rattle.server_core.proofs.ReloadLemmas.{refuses_takes, accepts_takes, if_ok}
use Rattle.server_core.proofs.server.Server.reload.Goals as goal

pub returns-in-Err : goal.returns-in-Err
returns-in-Err c = if_ok c.refuse.result (λ outcome refuses. λ waves some.
    refuses_takes c.args.self.now c.refuse.new.self waves c.args.text.now c.in_ok-answer.answer
    c.in-Err.fault outcome c.in-Err.is c.in_ok-answer.ensures.verdict refuses some) c.refuse.ensures

pub accept-requires-clause-accepted : goal.accept-requires-clause-accepted
accept-requires-clause-accepted c =
    subst (λ (answer : Result layout.Description DescFault). IfOk answer (λ d. IsAccepted (description_of d) c.args.self.now.device.signals))
    c.in-Ok.is c.in_ok-answer.ensures.accepted

pub returns-in-Ok : goal.returns-in-Ok
returns-in-Ok c = if_ok c.accept.result (λ outcome accepts. λ waves some.
    accepts_takes c.args.self.now c.accept.new.self waves c.args.text.now c.in_ok-answer.answer
    c.in-Ok.d outcome c.in-Ok.is c.in_ok-answer.ensures.verdict accepts some) c.accept.ensures
