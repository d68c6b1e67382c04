use Rattle.std.proofs.Common.{rules}
use Rattle.session.specs.NoteGroups.{head_text}
use Rattle.session.proofs.NotesHead.{three_written}
use Rattle.session.proofs.notes_head.put_head.Goals as goal

pub returns-clause-head : goal.returns-clause-head
unfolding head_text
returns-clause-head c =
    let written = three_written c.args.bytes.now c.write_at.new.bytes c.write_at-2.new.bytes c.write_at-3.new.bytes c.lead.result c.header.result c.stamp.result
    (search rules) (search rules) (search rules) c.write_at.ensures.written c.write_at-2.ensures.written c.write_at-3.ensures.written
    _ _ _ c.lead.ensures c.header.ensures c.stamp.ensures in
    rw c.len.ensures at written
