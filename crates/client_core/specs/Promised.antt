-- What is promised of what is told: an answer is one to a request that was issued, and a timeout that of one that was given up.
use Rattle.std.specs.Prelude.{ℕ, List}
use Rattle.spec_formats.specs.Header.{AmsAddress}
use Rattle.spec_client.specs.Heard.{Heard, Answered, TimedOut}
use Rattle.spec_client.specs.History.{ClientHistory}
use Rattle.spec_client_laws.specs.Fates.{AnswersRequest, TellsTimeout}

-- behind a history, what is told of a request is told of one that was issued: its answer, before any tick that came five seconds or more
-- after it, or that the first such tick came
abbrev pub IsPromised : AmsAddress → AmsAddress → ClientHistory → Heard → Type 0
IsPromised me peer h (Answered id error command payload) = AnswersRequest me peer h id error command payload
IsPromised me peer h (TimedOut id sent now) = TellsTimeout me peer h id sent now
IsPromised me peer h heard = Unit {0}
