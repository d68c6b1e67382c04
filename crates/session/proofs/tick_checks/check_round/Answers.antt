use Rattle.std.proofs.Common.{ap, ◌∙◌, map}
use Rattle.std.proofs.lemmas.Result.{IfOk-weaker}
use Rattle.session.specs.Checks.{samples_found}
use Rattle.session.specs.NoteGroups.{frame_of_group, grouped_text}
use Rattle.session.proofs.NotesGrouped.{frames_of_groups}
use Rattle.session.proofs.TickChecks.{all_checked, on_ok_always}
use Rattle.session.proofs.tick_checks.check_round.Goals as goal

pub returns-clause-watches : goal.returns-clause-watches
returns-clause-watches c = on_ok_always c.into_frames.result (λ w holds.
    c.close.ensures ∙ (all_checked w c.args.round.moment c.args.round.handles c.args.round.table c.check_in_place.new.round.table
    c.check_in_place.new.groups.groups (c.in_ok-check_in_place.ensures.checked w holds) c.requires.opened.table c.requires.opened.due).0)

pub returns-clause-frames : goal.returns-clause-frames
returns-clause-frames c = IfOk-weaker c.into_frames.result _ _ (λ frames made w holds.
    let groups = (all_checked w c.args.round.moment c.args.round.handles c.args.round.table c.check_in_place.new.round.table
    c.check_in_place.new.groups.groups (c.in_ok-check_in_place.ensures.checked w holds) c.requires.opened.table c.requires.opened.due).1 in
    made ∙ (ap (map (frame_of_group c.args.net.bytes c.moment-now.result)) groups
    ∙ ap (λ m. map (frame_of_group c.args.net.bytes m) (grouped_text (samples_found c.args.round.moment w c.args.round.table.watches))) c.moment-now.ensures
    ∙ frames_of_groups c.args.net.bytes c.args.round.moment (samples_found c.args.round.moment w c.args.round.table.watches))) c.into_frames.ensures.frames
