use Rattle.std.proofs.Common.{refl, arith, ◌∙◌, ap}
use Rattle.spec_machine.specs.Manner.{Manner}
use Rattle.spec_machine.specs.Meanings.{mode_in}
use Rattle.spec_machine.specs.Requests.{mode_of}
use Rattle.notify_table.specs.Specs.{mode_meant}
use Rattle.session.proofs.LookLemmas.{port-number}
use Rattle.session.proofs.WatchingLemmas.{asked_too_much, asked_off, asked_nothing, asked_for}
use Rattle.session.proofs.watching.spec_with_mode.Goals as goal

pub returns-then-asked-gt-MOST_BYTES-clause-asked : goal.returns-then-asked-gt-MOST_BYTES-clause-asked
returns-then-asked-gt-MOST_BYTES-clause-asked c = λ a delay asks address.
    asked_too_much a c.args.asked.now.group c.args.asked.now.offset c.args.asked.now.len c.args.asked.now.mode delay c.args.asked.now.cycle
    (mode_meant c.args.mode) (c.requires.mode ∙ ap (λ (x : Manner). mode_of (mode_in x c.args.asked.now.mode)) asks.held.manner) (omega arith)

pub returns-in-Err-clause-asked : goal.returns-in-Err-clause-asked
returns-in-Err-clause-asked c = (λ a delay asks address.
    asked_off a c.args.asked.now.group c.args.asked.now.offset c.args.asked.now.len c.args.asked.now.mode delay c.args.asked.now.cycle
    (mode_meant c.args.mode) c.in-Err.code
    (c.requires.mode ∙ ap (λ (x : Manner). mode_of (mode_in x c.args.asked.now.mode)) asks.held.manner) (omega arith) (c.in-Err.ensures.watched a asks))

pub returns-then-asked-eq0-clause-asked : goal.returns-then-asked-eq0-clause-asked
returns-then-asked-eq0-clause-asked c = (λ a delay asks address.
    asked_nothing a c.args.asked.now.group c.args.asked.now.offset c.args.asked.now.len c.args.asked.now.mode delay c.args.asked.now.cycle
    (mode_meant c.args.mode) c.in-Ok.watched
    (c.requires.mode ∙ ap (λ (x : Manner). mode_of (mode_in x c.args.asked.now.mode)) asks.held.manner) (omega arith) (c.in-Ok.ensures.watched a asks))

pub returns-else-asked-eq0-clause-asked : goal.returns-else-asked-eq0-clause-asked
returns-else-asked-eq0-clause-asked c = (λ a delay asks address.
    asked_for a c.args.asked.now.group c.args.asked.now.offset c.args.asked.now.len c.args.asked.now.mode delay c.args.asked.now.cycle
    (record { port = c.number.result; to = c.args.asker.source; watched = c.in-Ok.watched; mode = c.args.mode; cycle = c.args.asked.now.cycle })
    (c.requires.mode ∙ ap (λ (x : Manner). mode_of (mode_in x c.args.asked.now.mode)) asks.held.manner) (omega arith) (omega arith)
    (c.in-Ok.ensures.watched a asks)
    (c.number.ensures ∙ port-number a.world a.asker.port c.args.port.now asks.held) address refl)
