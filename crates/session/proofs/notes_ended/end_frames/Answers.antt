use Rattle.std.proofs.Common.{ap, ◌∙◌, map}
use Rattle.std.proofs.lemmas.Result.{IfOk-weaker}
use Rattle.session.specs.NoteGroups.{frame_of_group}
use Rattle.session.specs.NotesEnded.{samples_of_ended}
use Rattle.session.proofs.NotesGrouped.{frames_of_groups}
use Rattle.session.proofs.notes_ended.end_frames.Goals as goal

pub returns-clause-frames : goal.returns-clause-frames
returns-clause-frames c = IfOk-weaker c.into_frames.result _ _ (λ frames made.
    made ∙ (ap (map (frame_of_group c.args.net.bytes c.args.time)) c.in_ok-add_ended.ensures
    ∙ frames_of_groups c.args.net.bytes c.args.time (samples_of_ended c.args.ended.now))) c.into_frames.ensures.frames
