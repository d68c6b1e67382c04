-- The recording was made, or memory was wanting before.
use Rattle.std.proofs.Common.{ap, refl, ◌∙◌}
use Rattle.client_calls.specs.Recording.{record_meant}
use Rattle.client_commands.specs.Between.{recording_between}
use Rattle.client_commands.proofs.CallLemmas.{same_calling}
use Rattle.client_commands.proofs.RecordLemmas.{never_recorded, recorded_ends}
use Rattle.client_commands.proofs.RecordedRows.{names_fit, record_adds}
use Rattle.client_commands.proofs.record_link.record_into.Goals as goal

pub returns-in-Err-clause-ends : goal.returns-in-Err-clause-ends
returns-in-Err-clause-ends g c =
    never_recorded (recording_between c.args.what.now c.args.addrs c.args.to.now c.args.rows) c.end_without_memory.result
    (g.S.Sink.state c.args.out.now) (g.S.Sink.state c.end_without_memory.new.out) (g.L.Link.tells c.args.link.now)
    (g.L.Link.state c.args.link.now) (g.K.Keeper.state c.args.keeper.now) c.end_without_memory.ensures.memory c.end_without_memory.ensures.line

pub returns-in-Ok-clause-ends : goal.returns-in-Ok-clause-ends
returns-in-Ok-clause-ends g c =
    let call = ap (λ names. record_meant names c.spec_of-spec.result) (c.in-Ok.ensures ∙ c.as_slice.ensures) ∙ c.spec_of-spec.ensures.meant in
    recorded_ends (recording_between c.args.what.now c.args.addrs c.args.to.now c.args.rows) _ c.run_record-answer.result c.print_recorded.result
    (g.S.Sink.state c.args.out.now) (g.S.Sink.state c.run_record-answer.new.out) (g.S.Sink.state c.print_recorded.new.out)
    (g.L.Link.tells c.args.link.now) (g.L.Link.tells c.run_record-answer.new.link) (g.L.Link.state c.args.link.now)
    (g.L.Link.state c.run_record-answer.new.link) (g.K.Keeper.state c.args.keeper.now) (g.K.Keeper.state c.run_record-answer.new.keeper)
    (same_calling _ _ _ _ _ _ _ _ refl refl call refl) tt
    c.run_record-answer.ensures.recorded c.run_record-answer.ensures.out_later c.print_recorded.ensures

pub returns-in-Ok-clause-grows : goal.returns-in-Ok-clause-grows
returns-in-Ok-clause-grows g c =
    let call = ap (λ names. record_meant names c.spec_of-spec.result) (c.in-Ok.ensures ∙ c.as_slice.ensures) ∙ c.spec_of-spec.ensures.meant in
    record_adds c.args.what.now _ c.args.rows c.run_record-answer.result (g.L.Link.tells c.args.link.now) (g.L.Link.tells c.run_record-answer.new.link)
    (g.L.Link.state c.args.link.now) (g.L.Link.state c.run_record-answer.new.link) (g.S.Sink.state c.args.out.now)
    (g.S.Sink.state c.run_record-answer.new.out) (g.K.Keeper.state c.args.keeper.now) (g.K.Keeper.state c.run_record-answer.new.keeper)
    c.requires.what call c.requires.numbers c.requires.counts c.run_record-answer.ensures.recorded

pub run_record-answer-requires-clause-names : goal.run_record-answer-requires-clause-names
run_record-answer-requires-clause-names g c = names_fit c.args.what.now c.in-Ok.names (c.in-Ok.ensures ∙ c.as_slice.ensures) c.requires.what

pub returns-in-Ok-clause-names : goal.returns-in-Ok-clause-names
returns-in-Ok-clause-names g c = c.run_record-answer.ensures.out_later.names
