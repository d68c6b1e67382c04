use Rattle.std.proofs.Common.{◌≡◌, map}
use Rattle.std.specs.List.{All}
use Rattle.session.specs.NoteFrames.{produced_of, IsNoteFrame}
use Rattle.session.specs.NoteGroups.{frame_of_group}
use Rattle.session.proofs.notes_groups.NoteGroups.into_frames.Given as goal

abbrev pub invariant-loop-group : goal.invariant-loop-group
invariant-loop-group l =
    (map produced_of l.frames ≡ map (frame_of_group l.net.bytes l.now) l.yielded) × All IsNoteFrame l.frames
