-- What the run of the loop came to is printed.
use Rattle.ads_outside.specs.declared.end.End.TheVariants as end
use Rattle.plant_commands.proofs.MachineLemmas.{runs_machine}
use Rattle.plant_commands.proofs.machine_run.run_machine.Goals as goal

pub returns-in-Done-clause-ends : goal.returns-in-Done-clause-ends
returns-in-Done-clause-ends g c = λ counts tells x stands.
    runs_machine g.M.Served.steps g.M.Served.noted (g.M.Served.serves c.args.machine.now) (g.M.Served.serves c.serve.new.served)
    counts x end.Done c.args.events c.print_machine.result
    (g.S.Sink.state c.args.out.now) (g.S.Sink.state c.print_machine.new.out) (g.W.Wire.state c.args.wire.now) (g.W.Wire.state c.serve.new.wire)
    c.in-Done.ensures.serve (c.print_machine.ensures.prints counts tells) stands

pub returns-in-Budget-clause-ends : goal.returns-in-Budget-clause-ends
returns-in-Budget-clause-ends g c = λ counts tells x stands.
    runs_machine g.M.Served.steps g.M.Served.noted (g.M.Served.serves c.args.machine.now) (g.M.Served.serves c.serve.new.served)
    counts x end.Budget c.args.events c.print_machine-in-Budget.result
    (g.S.Sink.state c.args.out.now) (g.S.Sink.state c.print_machine-in-Budget.new.out) (g.W.Wire.state c.args.wire.now) (g.W.Wire.state c.serve.new.wire)
    c.in-Budget.ensures.serve (c.print_machine-in-Budget.ensures.prints counts tells) stands

pub returns-in-LinkFault-clause-ends : goal.returns-in-LinkFault-clause-ends
returns-in-LinkFault-clause-ends g c = λ counts tells x stands.
    runs_machine g.M.Served.steps g.M.Served.noted (g.M.Served.serves c.args.machine.now) (g.M.Served.serves c.serve.new.served)
    counts x end.LinkFault c.args.events c.print_and_end.result
    (g.S.Sink.state c.args.out.now) (g.S.Sink.state c.print_and_end.new.out) (g.W.Wire.state c.args.wire.now) (g.W.Wire.state c.serve.new.wire)
    c.in-LinkFault.ensures.serve c.print_and_end.ensures stands

pub returns-in-Memory-clause-ends : goal.returns-in-Memory-clause-ends
returns-in-Memory-clause-ends g c = λ counts tells x stands.
    runs_machine g.M.Served.steps g.M.Served.noted (g.M.Served.serves c.args.machine.now) (g.M.Served.serves c.serve.new.served)
    counts x end.Memory c.args.events c.end_without_memory.result
    (g.S.Sink.state c.args.out.now) (g.S.Sink.state c.end_without_memory.new.out) (g.W.Wire.state c.args.wire.now) (g.W.Wire.state c.serve.new.wire)
    c.in-Memory.ensures.serve (c.end_without_memory.ensures.memory, c.end_without_memory.ensures.line) stands
