-- How a run ends and what it prints, where nothing fails.
use Rattle.std.specs.Prelude.{ℕ, List}
use Rattle.run_tasks.specs.declared.status.Status.{Status}
use Rattle.run_tasks.specs.StatusTable.{last_line_of}

pub record Ending : Type 0 where
  pub status : Status
  pub text : List ℕ

-- a status whose last line is all that is printed
abbrev pub line_alone : Status → Ending
line_alone s = record { status = s; text = last_line_of s }
