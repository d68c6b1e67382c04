use Rattle.std.proofs.Common.{◌∙◌}
use Rattle.spec_machine.specs.RunText.{notes_of_event}
use Rattle.server_core.specs.Served.{served}
use Rattle.server_core.proofs.TookLemmas.{stands_wholes}
use Rattle.server_core.proofs.core_for_loop.CoreServed.took_run.Goals as goal

pub returns-clause-follows : goal.returns-clause-follows
returns-clause-follows g c = λ x frames s some.
    let follows = c.took_run.ensures.follows x.running frames s.serves some in
    stands_wholes (notes_of_event served) c.took_run.new.self c.args.conn frames x follows.serves
    (follows.counted s.counted) (c.took_run.ensures.notes ∙ s.notes)
