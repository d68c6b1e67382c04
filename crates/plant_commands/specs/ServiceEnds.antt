-- How a run ends that calls its files and a wire at most.
use Rattle.std.specs.Prelude.{◌≡◌}
use Rattle.ads_outside.specs.SinkState.{SinkState}
use Rattle.ads_outside.specs.WireState.{WireHistory}
use Rattle.run_tasks.specs.declared.status.Status.{Status}
use Rattle.run_tasks.specs.EndsOr.{EndsOrBy}
use Rattle.run_tasks.specs.Verdict.{Verdict, Serves}
use Rattle.plant_commands.specs.Serving.{EndsService}

-- its ending is printed, and no wire is called; or the service is run
abbrev pub ServesBy : Verdict → Type 0 → Status → SinkState → SinkState → WireHistory → WireHistory → Type 0
ServesBy verdict reading_failed s out out_new wire wire_new =
    EndsOrBy Serves (λ service. EndsService service s out out_new wire wire_new) (wire_new ≡ wire) verdict reading_failed s out out_new
