use Rattle.std.proofs.Common.{◌≡◌, take}
use Rattle.session.specs.NoteGroups.{grouped_text}
use Rattle.session.specs.NotesEnded.{samples_of_ended}
use Rattle.session.proofs.notes_ended.add_ended.Given as goal

abbrev pub invariant-loop-end : goal.invariant-loop-end
invariant-loop-end l =
    (l.groups.groups ≡ grouped_text (samples_of_ended (take l.end-index l.ended))) × (l.groups.added ≡ l.end-index)
