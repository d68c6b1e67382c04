use Rattle.std.proofs.Common.{refl, ap, ◌∙◌}
use Rattle.spec_plant.specs.Rights.{rights_of}
use Rattle.type_layout.specs.Descriptions.{description_of}
use Rattle.connections.specs.Carries.{IsStreamOf}
use Rattle.ams_relay.proofs.StartLemmas.{starts, nothing_beside}
use Rattle.ams_relay.proofs.router.Relay.build.Goals as goal

pub returns : goal.returns
returns c = record {
  working = refl;
  holds = starts c.empty.result (description_of c.args.d)
      (λ net. ap (rights_of net) c.empty.ensures.routes ∙ c.in_ok-routes.ensures net) c.empty.ensures.outlets c.empty.ensures.peers c.empty.ensures.owners
      c.empty.ensures.counts;
  streams = nothing_beside IsStreamOf c.empty.result.outlets c.new.result.items c.empty.ensures.outlets c.new.ensures.items;
  notes = refl;
}
