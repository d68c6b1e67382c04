use Rattle.std.proofs.Common.{arith, length-drop}
use Rattle.session.proofs.NotesHead.{frame_written}
use Rattle.session.proofs.notes_group.NoteGroup.into_frame.Goals as goal

pub returns-clause-frame : goal.returns-clause-frame
returns-clause-frame c =
    rw (← c.self.view_is)
    (frame_written c.args.net.bytes c.args.now _ _ c.put_head.new.bytes (omega (arith, length-drop 58 c.self.inside.bytes, c.self.invariant.0))
    c.put_head.ensures.header c.put_head.ensures.head)

pub returns-clause-short : goal.returns-clause-short
returns-clause-short c = record {
  some = omega (arith, c.put_head.ensures.len, c.self.invariant.0);
  few = c.self.invariant.1;
  short = omega (arith, c.put_head.ensures.len, c.self.invariant.1, c.self.invariant.2);
}
