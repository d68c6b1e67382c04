-- A note is a word and a number.
use Rattle.replay_script.proofs.log_lines.put_note.Goals as goal

pub returns-in-Refused : goal.returns-in-Refused
returns-in-Refused c = rw c.in-Refused.is (rw c.from-in-Refused.ensures at c.put_numbered-in-Refused.ensures)
