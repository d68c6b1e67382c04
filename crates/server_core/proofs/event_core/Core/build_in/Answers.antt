use Rattle.std.proofs.Common.{ap}
use Rattle.server_core.specs.CoreState.{started_in}
use Rattle.server_core.specs.ServerView.{sessions_of}
use Rattle.server_core.specs.Profiles.{profile_of}
use Rattle.type_layout.specs.Descriptions.{description_of}
use Rattle.server_core.proofs.CoreLemmas.{started_serves}
use Rattle.server_core.proofs.event_core.Core.build_in.Goals as goal

pub invariant_of-result : goal.invariant_of-result
invariant_of-result g c = λ e.
    let waves = g.S.Sources.waves c.args.signals in
    let d = description_of c.args.d in
    record {
      state = started_in (profile_of c.args.profile) d waves;
      serves = started_serves (profile_of c.args.profile) _ waves d
          (c.in_ok-device.ensures waves c.count-count.ensures c.requires.few)
          c.new.ensures.outlets c.new.ensures.streams (ap sessions_of c.new.ensures.sessions);
    }
