use Rattle.spec_local.proofs.LinkLogs.{first_parts, call_logs_begin}
use Rattle.spec_local.proofs.first_parts_are_logs.Goals as goal

pub returns : goal.returns
returns g c = record { first = first_parts; call = call_logs_begin }
