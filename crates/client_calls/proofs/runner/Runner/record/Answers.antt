use Rattle.std.proofs.Common.{◌≡◌, map, ap, ◌∙◌}
use Rattle.spec_client.specs.Stages as stages
use Rattle.ams_header.specs.Header.{address_of}
use Rattle.client_replies.specs.Stages.{stage_kept, output_kept}
use Rattle.client_calls.specs.Recording.{record_meant}
use Rattle.client_calls.proofs.RecordingLemmas.{recording_begins, recording_stands}
use Rattle.client_calls.proofs.StandingLemmas.{kept}
use Rattle.client_calls.proofs.runner.Runner.record.Goals as goal

pub returns : goal.returns
returns c =
    let p = c.in_ok-stage.field-0 in
    let outputs = map output_kept c.from_vec.result.items in
    let same = ap (λ os. stages.progress (stage_kept p.stage) (map output_kept os)) (c.from_vec.ensures.items ∙ c.into_vec.ensures) in
    recording_stands (kept c.in_ok-client.client (stage_kept p.stage) outputs) (address_of c.args.me) (address_of c.args.peer)
    c.args.names.now c.args.spec c.requires.names c.requires.spec c.in_ok-client.ensures
    (recording_begins c.args.names.now c.as_slice.result.now c.args.spec
    (stages.progress (stage_kept p.stage) outputs) c.as_slice.ensures (same ∙ c.in_ok-stage.ensures))
