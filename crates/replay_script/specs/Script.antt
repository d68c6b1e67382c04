-- What the lines of a script that was read mean.
use Rattle.std.specs.Prelude.{ℕ, List, length, filter, Bool, true, false}
use Rattle.spec_machine.specs.ScriptLine.{ScriptLine, Happens, TakesAtMost, FailsNext}
use Rattle.replay_script.specs.declared.script_line.ScriptLine as declared
use Rattle.replay_script.specs.declared.script_line.ScriptLine.TheVariants as line

-- what a line says
abbrev pub line_meant : declared.ScriptLine → ScriptLine
line_meant (line.Happens event) = Happens event
line_meant (line.TakesAtMost conn room) = TakesAtMost conn room
line_meant (line.FailsNext conn) = FailsNext conn

-- a line that is an event: a connection that takes further bytes is writable
abbrev pub is_event : ScriptLine → Bool
is_event (Happens event) = true
is_event (TakesAtMost conn room) = true
is_event (FailsNext conn) = false

-- how many events a script has
abbrev pub event_count : List ScriptLine → ℕ
event_count lines = length (filter is_event lines)
