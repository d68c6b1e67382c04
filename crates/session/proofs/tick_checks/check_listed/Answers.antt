use Rattle.std.proofs.Common.{ap, ◌∙◌, map}
use Rattle.std.proofs.lemmas.Result.{IfOk-weaker}
use Rattle.session.specs.Checks.{samples_found}
use Rattle.session.specs.NoteGroups.{frame_of_group}
use Rattle.session.proofs.NotesGrouped.{frames_of_groups}
use Rattle.session.proofs.TickChecks.{all_checked, on_ok_always}
use Rattle.session.proofs.tick_checks.check_listed.Goals as goal

pub returns-clause-watches : goal.returns-clause-watches
returns-clause-watches c = on_ok_always c.into_frames.result (λ w holds.
    (all_checked w c.args.now c.as_slice.result.now c.args.watches.now c.check_all.new.watches c.check_all.new.groups.groups
    (c.in_ok-check_all.ensures w holds) c.in_ok-handles.ensures.table (c.as_slice.ensures ∙ c.in_ok-handles.ensures.due)).0)

pub returns-clause-frames : goal.returns-clause-frames
returns-clause-frames c = IfOk-weaker c.into_frames.result _ _ (λ frames made w holds.
    let groups = (all_checked w c.args.now c.as_slice.result.now c.args.watches.now c.check_all.new.watches c.check_all.new.groups.groups
    (c.in_ok-check_all.ensures w holds) c.in_ok-handles.ensures.table (c.as_slice.ensures ∙ c.in_ok-handles.ensures.due)).1 in
    made ∙ (ap (map (frame_of_group c.args.net.bytes c.args.now)) groups
    ∙ frames_of_groups c.args.net.bytes c.args.now (samples_found c.args.now w c.args.watches.now.watches))) c.into_frames.ensures.frames
