-- How each status ends the process: its number, and the last line that it prints. This project's own choice.
use Rattle.std.specs.Prelude.{ℕ, List, [], ◌∷◌, ◌++◌, ◌==◌, if◌then◌else◌, codes}
use Rattle.std.specs.Fmt.{decimal}
use Rattle.spec_client.specs.EndLines.{status_of_end, last_line_of_end}
pub use Rattle.spec_client.specs.Printed.{line}
use Rattle.spec_client.specs.Stages.{CallEnd, Refused, BadPeer, TimedOut, BadValue}
use Rattle.spec_machine.specs.SummaryText.{counted}
use Rattle.run_tasks.specs.declared.status.Status.{Status}
use Rattle.run_tasks.specs.declared.status.Status.TheVariants as status

-- the broken rule and its item; 0 stands for no TOML document
abbrev pub description_line : ℕ → ℕ → List ℕ
description_line number item =
    if number == 0 then line (codes "ads: description syntax")
    else counted (codes "ads: description rule ") number ++ counted (codes " item ") item ++ 10 ∷ []

pub record Row : Type 0 where
  -- the exit status of the process
  pub number : ℕ
  -- the last line, where there is one
  pub line : List ℕ

-- how a client's call ends, as the client has it
abbrev pub row_of_end : CallEnd → Row
row_of_end end = record { number = status_of_end end; line = last_line_of_end end }

abbrev pub row_of : Status → Row
row_of status.Done = record { number = 0; line = [] }
row_of status.Usage = record { number = 1; line = line (codes "ads: usage") }
row_of (status.BadDescription rule item) = record { number = 2; line = description_line rule item }
row_of (status.BadScript n) = record { number = 3; line = line (codes "ads: script line " ++ decimal n) }
row_of status.ReadFault = record { number = 4; line = line (codes "ads: read fault") }
row_of status.WriteFault = record { number = 5; line = [] }
row_of status.LinkFault = record { number = 6; line = line (codes "ads: link fault") }
row_of status.Budget = record { number = 7; line = line (codes "ads: budget") }
row_of (status.Refused code) = row_of_end (Refused code)
row_of (status.BadPeer broke) = row_of_end (BadPeer broke)
row_of (status.TimedOut sent now) = row_of_end (TimedOut sent now)
row_of status.BadValue = row_of_end BadValue
row_of status.Memory = record { number = 10; line = line (codes "ads: memory") }
row_of status.TooLong = record { number = 12; line = line (codes "ads: file too long") }
row_of status.StoreFault = record { number = 14; line = line (codes "ads: store fault") }
row_of status.StoreLimit = record { number = 15; line = line (codes "ads: store limit") }
row_of status.KeeperFault = record { number = 16; line = line (codes "ads: keeper fault") }

abbrev pub number_of : Status → ℕ
number_of s = (row_of s).number

abbrev pub last_line_of : Status → List ℕ
last_line_of s = (row_of s).line
