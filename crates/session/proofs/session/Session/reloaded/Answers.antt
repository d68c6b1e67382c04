use Rattle.std.proofs.Common.{ap, ◌∙◌, map}
use Rattle.std.proofs.lemmas.Result.{IfOk-weaker}
use Rattle.notify_table.specs.Reloads.{ended_meant}
use Rattle.session.proofs.ReloadedAgreed.{places_in_old_world, reloaded_stands, reloaded_frames, few_ended}
use Rattle.session.proofs.TickChecks.{on_ok_always}
use Rattle.session.proofs.session.Session.reloaded.Goals as goal

pub moved-requires-2 : goal.moved-requires-2
moved-requires-2 c =
    let asked = rw (← c.self.view_is) at c.requires in
    places_in_old_world c.args.moves.now c.args.ports.now _ asked

pub end_frames-requires : goal.end_frames-requires
end_frames-requires c =
    few_ended c.args.moves.now c.args.ports.now c.self.inside.watches c.as_slice.result.now c.in_ok-ended.ensures.table
    (ap (map ended_meant) c.as_slice.ensures ∙ c.in_ok-ended.ensures.ended)

pub returns-clause-frames : goal.returns-clause-frames
returns-clause-frames c =
    rw (← c.self.view_is) (IfOk-weaker c.end_frames.result _ _ (λ frames made w v k are stands net_is.
    reloaded_frames c.args.time c.args.net.bytes w v k c.args.moves.now c.args.ports.now _ c.as_slice.result.now frames are stands net_is
    (ap (map ended_meant) c.as_slice.ensures ∙ c.in_ok-ended.ensures.ended) made) c.end_frames.ensures.frames)

pub returns-clause-stands : goal.returns-clause-stands
returns-clause-stands c =
    rw (← c.self.view_is) (on_ok_always c.end_frames.result (λ w v k are stands.
    reloaded_stands c.args.time w v k c.args.moves.now c.args.ports.now _ c.moved-2.new.self c.moved.new.self are stands c.moved-2.ensures.moved
    c.in_ok-ended.ensures.watches))
