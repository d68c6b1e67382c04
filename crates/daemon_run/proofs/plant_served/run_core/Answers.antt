-- What the run of the loop came to is printed.
use Rattle.spec_machine.specs.RunText.{notes_of_event}
use Rattle.server_core.specs.Served.{served}
use Rattle.server_core.specs.Serves.{StandsAt}
use Rattle.daemon_run.specs.Endless.{endless}
use Rattle.daemon_run.proofs.RunningLemmas.{served_so}
use Rattle.daemon_run.proofs.plant_served.run_core.Goals as goal

pub returns-clause-ends : goal.returns-clause-ends
returns-clause-ends g c = λ x stands.
    served_so (notes_of_event served) (StandsAt c.args.core.now) (StandsAt c.serve_telling-ended.new.served) x c.serve_telling-ended.result endless
    c.print_end.result (g.S.Sink.state c.args.out.now) (g.S.Sink.state c.print_end.new.out)
    (g.W.Wire.state c.args.wire.now) (g.W.Wire.state c.serve_telling-ended.new.wire) c.serve_telling-ended.ensures.serve c.print_end.ensures.prints stands
