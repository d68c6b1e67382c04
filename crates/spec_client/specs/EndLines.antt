-- How a client command ends: its status, and the line that tells it. This project's own format.
use Rattle.std.specs.Prelude.{ℕ, List, [], ◌++◌, codes, Option, Some, None}
use Rattle.std.specs.Fmt.{decimal}
use Rattle.spec_formats.specs.Codes.{text_of_code}
use Rattle.spec_client.specs.Printed.{line, hexadecimal}
use Rattle.spec_client.specs.Stages.{CallEnd, Done, Refused, BadPeer, BadValue, TimedOut}
use Rattle.spec_client.specs.Conversation.{LoopEnd, CallEnded, Budget}

abbrev pub status_of_end : CallEnd → ℕ
status_of_end Done = 0
status_of_end (Refused code) = 8
status_of_end (BadPeer peer) = 9
status_of_end (TimedOut sent now) = 11
status_of_end BadValue = 13

abbrev pub status_of : LoopEnd → ℕ
status_of (CallEnded end) = status_of_end end
status_of Budget = 7

-- a code without a text is its number alone
abbrev pub behind_number : Option (List ℕ) → List ℕ
behind_number None = []
behind_number (Some text) = codes " " ++ text

abbrev pub code_text : ℕ → List ℕ
code_text code = hexadecimal code ++ behind_number (text_of_code code)

abbrev pub last_line_of_end : CallEnd → List ℕ
last_line_of_end Done = []
last_line_of_end (Refused code) = line (codes "ads: refused " ++ code_text code)
last_line_of_end (BadPeer peer) = line (codes "ads: bad peer")
last_line_of_end (TimedOut sent now) = line (codes "ads: timed out " ++ decimal sent ++ codes " " ++ decimal now)
last_line_of_end BadValue = line (codes "ads: bad value")

abbrev pub last_line_of : LoopEnd → List ℕ
last_line_of (CallEnded end) = last_line_of_end end
last_line_of Budget = line (codes "ads: budget")
