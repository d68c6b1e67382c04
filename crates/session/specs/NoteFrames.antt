-- What the frames of samples are to the machine.
use Rattle.std.specs.Prelude.{◌<◌, ◌≤◌, length}
use Rattle.spec_machine.specs.Device.{Produced, Notification}
use Rattle.session.specs.declared.notes.NoteFrame.{NoteFrame}

abbrev pub produced_of : NoteFrame → Produced
produced_of f = Notification f.samples f.frame

-- a frame is not empty, and has at most 512 samples of at most 2,048 bytes
pub record IsNoteFrame (f : NoteFrame) : Type 0 where
  pub some : 0 < length f.frame
  pub few : f.samples ≤ 512
  pub short : length f.frame ≤ 1_052_730
