-- What a runner keeps stands for a runner of the definitions: whatever turn it has then, it gives what that one gives.
use Rattle.std.specs.Prelude.{◌≡◌}
use Rattle.spec_formats.specs.Header.{AmsAddress}
use Rattle.spec_client.specs.Client.{new_client}
use Rattle.spec_client.specs.History.{ClientHistory, client_after}
use Rattle.spec_client.specs.Runner.{Runner}
use Rattle.client_core.specs.Represents.{Represents}
use Rattle.client_replies.specs.Sound.{IsSound}
use Rattle.client_calls.specs.Kept.{RunnerKept}

-- what is kept stands for this runner, whose client is what some history leaves
pub record StandsFor (k : RunnerKept) (r : Runner) : Type 0 where
  pub me : AmsAddress
  pub peer : AmsAddress
  pub history : ClientHistory
  pub client_is : client_after (new_client me peer) history ≡ r.client
  pub client : Represents me peer k.client history
  pub stage_is : k.stage ≡ r.stage
  pub pending_is : k.pending ≡ r.pending
  pub sound : IsSound r

-- the call goes on: it stands for some runner
abbrev pub IsGoingOn : RunnerKept → Type 0
IsGoingOn k = (r : Runner) × StandsFor k r

-- it stands for what it stood for
abbrev pub StandsStill : RunnerKept → RunnerKept → Type 0
StandsStill old new = (r : Runner) → StandsFor old r → StandsFor new r
