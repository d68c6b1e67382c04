-- What a client's answers mean in the definitions.
use Rattle.std.specs.Prelude.{Option, Some, None, Result, Ok, Err}
use Rattle.spec_client.specs.Heard as spec
use Rattle.spec_client.specs.Client as client
use Rattle.client_core.specs.declared.heard.Heard.{Heard}
use Rattle.client_core.specs.declared.heard.Heard.TheVariants as value
use Rattle.client_core.specs.declared.heard.Issued.{Issued}
use Rattle.client_core.specs.declared.heard.Outstanding.{Outstanding}

abbrev pub heard_meant : Heard → spec.Heard
heard_meant (value.Answered id error command bytes) = spec.Answered id error command bytes
heard_meant (value.Sample handle time bytes) = spec.Sampled handle time bytes
heard_meant (value.Ended handle) = spec.Ended handle
heard_meant (value.Stray id) = spec.Stray id
heard_meant (value.TimedOut id sent now) = spec.TimedOut id sent now
heard_meant value.NotYet = spec.NotYet
heard_meant (value.Broken peer) = spec.Broken peer

-- an issued request, or none where it was refused
abbrev pub issued_meant : Result Issued Outstanding → Option client.Issued
issued_meant (Ok issued) = Some (record { id = issued.id; frame = issued.frame })
issued_meant (Err refused) = None
