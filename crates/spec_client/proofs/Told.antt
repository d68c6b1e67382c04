-- How the worked examples tell how a call ended: its status, and behind it all that is printed.
use Rattle.std.specs.Prelude.{ℕ, List, [], ◌∷◌, ◌++◌, Option, Some, None}
use Rattle.spec_client.specs.Conversation.{LoopEnd, Conversation}
use Rattle.spec_client.specs.EndLines.{status_of, last_line_of}

abbrev told_of : Option LoopEnd → List ℕ → List ℕ
told_of None text = []
told_of (Some end) text = status_of end ∷ text ++ last_line_of end

abbrev pub told_in : Conversation → List ℕ
told_in c = told_of c.end c.text
