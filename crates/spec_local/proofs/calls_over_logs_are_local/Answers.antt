use Rattle.spec_local.proofs.CallLogs.{calls_are_local}
use Rattle.spec_local.proofs.calls_over_logs_are_local.Goals as goal

pub returns : goal.returns
returns g c = calls_are_local
