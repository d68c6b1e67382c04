-- How the run of a plant ends.
use Rattle.std.specs.Prelude.{◌≡◌, ℕ, List, Option, Some, None}
use Rattle.ads_outside.specs.SinkState.{SinkState}
use Rattle.ads_outside.specs.WireState.{WireHistory}
use Rattle.keep_play.specs.KeptDisk.{DiskUse}
use Rattle.run_tasks.specs.declared.status.Status.{Status}
use Rattle.run_tasks.specs.EndsOr.{EndsOrBy}
use Rattle.run_tasks.specs.Verdict.{Verdict}
use Rattle.plant_commands.specs.Serving.{EndsService}
use Rattle.daemon_run.specs.Kept.{EndsKept}
use Rattle.daemon_run.specs.Plant.{Plant, Serving, service_of, serves_plant}

-- without a store as a service ends; with one as it ends over that
abbrev pub EndsBy : Option (List ℕ) → Serving → Plant → Status → SinkState → SinkState → DiskUse → WireHistory → WireHistory → Type 0
EndsBy None h x s out out_new disk old new = EndsService (service_of h x) s out out_new old new
EndsBy (Some store) h x s out out_new disk old new = EndsKept h x s out out_new disk old new

abbrev pub EndsPlant : Serving → Plant → Status → SinkState → SinkState → DiskUse → WireHistory → WireHistory → Type 0
EndsPlant h x s out out_new disk old new = EndsBy h.store h x s out out_new disk old new

-- its ending is printed, and neither the wire nor the disk is called; or the plant is served; or a reading failed, and that is told
abbrev pub PlantBy : Serving → Type 0 → Verdict → Type 0 → Status → SinkState → SinkState → DiskUse → WireHistory → WireHistory → Type 0
PlantBy h disk_same verdict reading_failed s out out_new disk wire wire_new =
    EndsOrBy (serves_plant h) (λ x. EndsPlant h x s out out_new disk wire wire_new) ((wire_new ≡ wire) × disk_same) verdict reading_failed s out out_new
