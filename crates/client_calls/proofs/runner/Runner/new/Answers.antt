use Rattle.std.proofs.Common.{◌≡◌, map, ap, ◌∙◌}
use Rattle.spec_client.specs.Stages as stages
use Rattle.ams_header.specs.Header.{address_of}
use Rattle.client_replies.specs.Stages.{call_meant, stage_kept, output_kept}
use Rattle.client_calls.proofs.StandingLemmas.{kept, stands_new}
use Rattle.client_calls.proofs.runner.Runner.new.Goals as goal

pub returns : goal.returns
returns c =
    let p = c.in_ok-stage.field-0 in
    stands_new (kept c.in_ok-client.client (stage_kept p.stage) (map output_kept c.from_vec.result.items)) (address_of c.args.me) (address_of c.args.peer)
    (call_meant c.args.call) c.requires c.in_ok-client.ensures
    (ap (λ os. stages.progress (stage_kept p.stage) (map output_kept os)) (c.from_vec.ensures.items ∙ c.into_vec.ensures) ∙ c.in_ok-stage.ensures)
