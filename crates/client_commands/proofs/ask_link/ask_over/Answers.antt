-- The call was made, or memory was wanting before.
use Rattle.std.proofs.Common.{refl}
use Rattle.client_commands.specs.Between.{asking_between}
use Rattle.client_commands.proofs.CallLemmas.{call_ends, same_calling}
use Rattle.client_commands.proofs.AskLemmas.{never_called}
use Rattle.client_commands.proofs.ask_link.ask_over.Goals as goal

pub returns-in-Err : goal.returns-in-Err
returns-in-Err g c = record {
  ends = never_called (asking_between c.args.what.now c.args.addrs c.args.to.now) c.end_without_memory.result (g.S.Sink.state c.args.out.now)
      (g.S.Sink.state c.end_without_memory.new.out) (g.L.Link.tells c.args.link.now) (g.L.Link.state c.args.link.now)
      c.end_without_memory.ensures.memory c.end_without_memory.ensures.line;
}

pub returns-in-Ok : goal.returns-in-Ok
returns-in-Ok g c = record {
  ends = call_ends (asking_between c.args.what.now c.args.addrs c.args.to.now) _ c.run_call-answer.result c.print_answer.result
      (g.S.Sink.state c.args.out.now) (g.S.Sink.state c.run_call-answer.new.out) (g.S.Sink.state c.print_answer.new.out)
      (g.L.Link.tells c.args.link.now) (g.L.Link.tells c.run_call-answer.new.link) (g.L.Link.state c.args.link.now)
      (g.L.Link.state c.run_call-answer.new.link) (same_calling _ _ _ _ _ _ _ _ refl refl c.in-Ok.ensures.meant refl)
      c.run_call-answer.ensures.called c.run_call-answer.ensures.out_later c.print_answer.ensures;
}
