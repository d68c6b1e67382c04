-- A call sends one request at a time.
use Rattle.std.proofs.Common.{◌≡◌, ℕ, sym}
use Rattle.spec_client.specs.Runner.{Runner, new_runner, turn}
use Rattle.spec_client_laws.specs.Runs.{runner_after}
use Rattle.spec_client_laws.proofs.RunLemmas.{sends_one_by_one}
use Rattle.client_calls.specs.Kept.{RunnerKept}
use Rattle.client_calls.specs.Represents.{StandsFor}
use Rattle.client_calls.specs.Sending.{SendsAlone}
use Rattle.client_calls.specs.Steps.{step_meant}
use Rattle.client_calls.specs.declared.call_step.CallStep.{CallStep}
use Rattle.client_calls.specs.declared.call_step.CallStep.TheVariants as out

pub sends_alone : (now : ℕ) (old : RunnerKept) (step : CallStep) → ((r : Runner) → StandsFor old r → step_meant step ≡ (turn now r).step)
    → SendsAlone now old step
sends_alone now old (out.Send bytes) told =
    λ me peer call moves s. sends_one_by_one me peer call moves now bytes (sym (told (runner_after (new_runner me peer call) moves) s))
sends_alone now old step told = tt
