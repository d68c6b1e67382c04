-- The rows that a call gives to be kept: by number, from its first one on, and no more than it was asked for.
use Rattle.std.specs.Prelude.{ℕ, ◌≤◌, List, length}
use Rattle.spec_formats.specs.Header.{AmsAddress}
use Rattle.spec_samples.specs.Row.{Row}
use Rattle.spec_samples.specs.Laws.{AreCountedFrom}
use Rattle.spec_client.specs.Calls.{Call, Record}
use Rattle.spec_client.specs.CallOver.{call_over}
use Rattle.spec_client.specs.Conversation.{LinkAnswer}

-- the number of a recording's first row
abbrev pub first_row : Call → ℕ
first_row (Record names watching first) = first
first_row call = 0

-- how many rows a recording takes; any other call takes none
abbrev pub row_limit : Call → ℕ
row_limit (Record names watching first) = watching.count
row_limit call = 0

pub record IsCounted (first limit : ℕ) (rows : List Row) : Type 0 where
  pub numbers : AreCountedFrom first rows
  pub few : length rows ≤ limit

-- So the rows of a recording have the numbers from its first one on, each once, and are at most as many as were asked for.
abbrev pub KeepsCounted : Type 0
KeepsCounted = (me peer : AmsAddress) (call : Call) (now : ℕ) (answers : List LinkAnswer)
    → IsCounted (first_row call) (row_limit call) (call_over me peer call now answers).kept
