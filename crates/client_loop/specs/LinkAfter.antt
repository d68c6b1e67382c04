-- What a link's answers make of its history.
use Rattle.std.specs.Prelude.{ℕ, List, [], ◌∷◌, Option, Some, None}
use Rattle.ads_outside.specs.LinkState.{LinkHistory, connected_at, bytes_came, quiet_came, closed_came, broke_off}
use Rattle.spec_client.specs.Conversation.{LinkAnswer, Bytes, Quiet, Closed, LoopEnd}

abbrev pub history_after_answer : LinkHistory → LinkAnswer → LinkHistory
history_after_answer h (Bytes bytes now) = bytes_came now h
history_after_answer h (Quiet now) = quiet_came now h
history_after_answer h (Closed now) = closed_came now h

abbrev pub history_after_answers : LinkHistory → List LinkAnswer → LinkHistory
history_after_answers h [] = h
history_after_answers h (answer ∷ answers) = history_after_answers (history_after_answer h answer) answers

-- the history of a link that was connected at a moment, and then gave these answers
abbrev pub history_over : ℕ → List LinkAnswer → LinkHistory
history_over now answers = history_after_answers (connected_at now) answers

-- the history behind the last answer to a call that ended so; where it goes on, to receive failed then
abbrev pub history_left : Option LoopEnd → LinkHistory → LinkHistory
history_left (Some ended) h = h
history_left None h = broke_off h
