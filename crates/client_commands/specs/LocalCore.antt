-- The core of a file's description, or the end of a run that has none; no public clause cites this.
use Rattle.std.specs.Prelude.{◌≡◌, ◌⊎◌, ℕ, List, length, Option}
use Rattle.ads_base.specs.declared.net_id.NetId.{NetId}
use Rattle.ads_outside.specs.declared.named_file.NamedFile.{NamedFile}
use Rattle.ads_outside.specs.Named.{bytes_of}
use Rattle.ads_outside.specs.SinkState.{SinkState}
use Rattle.signals.specs.Wave.{Wave}
use Rattle.spec_plant.specs.Description.{Description}
use Rattle.type_layout.specs.Descriptions.{description_of}
use Rattle.server_core.specs.CoreState.{started}
use Rattle.server_core.specs.Serves.{CoreView, Serves}
use Rattle.run_tasks.specs.declared.described.Accepted.{Accepted}
use Rattle.run_tasks.specs.declared.status.Status.{Status}
use Rattle.run_tasks.specs.EndsOr.{PrintsBy, WantsMemory}
use Rattle.run_tasks.specs.Outcomes.{IsRead}
use Rattle.run_tasks.specs.Readings.{OverFile}
use Rattle.run_tasks.specs.Verdict.{Verdict, verdict_of_description_file}

-- the description was read from the file, its NetId is this, and the core serves it
pub record IsCoreOf (waves : List Wave) (name : List ℕ) (held : Option (List NamedFile)) (net : NetId) (core : CoreView) : Type 0 where
  pub read : Accepted
  pub found : IsRead (length waves) name held read
  pub named : net.bytes ≡ (description_of read.description).net
  pub serves : Serves core (started (description_of read.description) waves)

-- memory was wanting, or the file decides
abbrev pub EndsUnopened : ℕ → (List ℕ → Description → Verdict) → List ℕ → Option (List NamedFile) → Type 0 → Status → SinkState → SinkState → Type 0
EndsUnopened signals made name held failed s out out_new =
    WantsMemory s out out_new
    ⊎ OverFile held (λ files. PrintsBy (verdict_of_description_file signals made (bytes_of files name)) failed s out out_new)
