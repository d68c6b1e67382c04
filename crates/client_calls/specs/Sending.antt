-- What a call sends, in the protocol's words.
use Rattle.std.specs.Prelude.{ℕ, List}
use Rattle.spec_formats.specs.Header.{AmsAddress}
use Rattle.spec_client.specs.Calls.{Call}
use Rattle.spec_client.specs.Runner.{new_runner, turn}
use Rattle.spec_client_laws.specs.Runs.{RunMove, runner_after, IsSentAlone}
use Rattle.client_calls.specs.Kept.{RunnerKept}
use Rattle.client_calls.specs.Represents.{StandsFor}
use Rattle.client_calls.specs.declared.call_step.CallStep.{CallStep}
use Rattle.client_calls.specs.declared.call_step.CallStep.TheVariants as step

-- bytes that are sent at this moment are a request, and no other request waits for its answer: so it is in every call, whatever
-- came to it
abbrev pub SendsAlone : ℕ → RunnerKept → CallStep → Type 0
SendsAlone now old (step.Send bytes) = (me peer : AmsAddress) (call : Call) (moves : List RunMove)
    → StandsFor old (runner_after (new_runner me peer call) moves)
    → IsSentAlone now bytes (turn now (runner_after (new_runner me peer call) moves)).runner.client
SendsAlone now old step = Unit {0}
