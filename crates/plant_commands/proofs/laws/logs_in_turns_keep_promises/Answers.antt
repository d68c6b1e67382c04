use Rattle.spec_machine.specs.Profile.{strict}
use Rattle.plant_commands.proofs.PromiseLemmas.{holds_accepted, turns_keep_promises}
use Rattle.plant_commands.proofs.laws.logs_in_turns_keep_promises.Goals as goal

pub returns-clause-strict : goal.returns-clause-strict
returns-clause-strict c = λ d waves log turns. turns_keep_promises strict d waves log turns

pub returns-clause-each : goal.returns-clause-each
returns-clause-each c = λ profile d waves log turns. turns_keep_promises profile d waves log turns

pub returns-clause-accepted : goal.returns-clause-accepted
returns-clause-accepted c = λ profile d waves log accepted. holds_accepted profile d waves log accepted
