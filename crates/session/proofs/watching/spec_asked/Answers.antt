use Rattle.std.proofs.Common.{sym, ◌∙◌, ap}
use Rattle.std.specs.Prelude.{option_map}
use Rattle.spec_machine.specs.Manner.{Manner}
use Rattle.spec_machine.specs.Meanings.{mode_in}
use Rattle.spec_machine.specs.Requests.{mode_of}
use Rattle.notify_table.specs.Specs.{mode_meant}
use Rattle.session.proofs.WatchingLemmas.{asked_no_mode}
use Rattle.session.proofs.watching.spec_asked.Goals as goal

pub returns-in-None-clause-asked : goal.returns-in-None-clause-asked
returns-in-None-clause-asked c = λ a delay asks address.
    asked_no_mode a c.args.asked.now.group c.args.asked.now.offset c.args.asked.now.len c.args.asked.now.mode delay c.args.asked.now.cycle
    (ap (λ (x : Manner). mode_of (mode_in x c.args.asked.now.mode)) (sym asks.held.manner) ∙ ap mode_of (sym c.meant_mode.ensures)
    ∙ sym c.mode_named.ensures ∙ ap (option_map mode_meant) c.in-None.is)
