-- A run ends that was to call the server of a file's description: it has none, or the server was called.
use Rattle.std.proofs.Common.{ℕ, List, Option, inl, inr, length}
use Rattle.ads_outside.specs.declared.named_file.NamedFile.{NamedFile}
use Rattle.ads_outside.specs.Named.{bytes_of}
use Rattle.ads_outside.specs.SinkState.{SinkState}
use Rattle.signals.specs.Wave.{Wave}
use Rattle.ads_base.specs.declared.net_id.NetId.{NetId}
use Rattle.spec_plant.specs.Description.{Description}
use Rattle.type_layout.specs.Descriptions.{description_of}
use Rattle.server_core.specs.Serves.{CoreView}
use Rattle.run_tasks.specs.declared.status.Status.{Status}
use Rattle.run_tasks.specs.EndsOr.{EndsOr, EndsOrBy, PrintsBy, WantsMemory}
use Rattle.run_tasks.specs.Readings.{OverFile}
use Rattle.run_tasks.specs.Verdict.{Verdict, verdict_of_description_file}
use Rattle.run_tasks.proofs.EndLemmas.{wants_described, ends_read}
use Rattle.run_tasks.proofs.ReadingLemmas.{map_file}
use Rattle.client_commands.specs.LocalCore.{EndsUnopened, IsCoreOf}

by_printed : {X : Type 0} (kind : X → Verdict) (C : X → Type 0) (v : Verdict) (failed : Type 0) (s : Status) (out out_new : SinkState)
    → PrintsBy v failed s out out_new → EndsOrBy kind C (Unit {0}) v failed s out out_new
by_printed kind C v failed s out out_new (inl (inl printed)) = inl (inl printed)
by_printed kind C v failed s out out_new (inl (inr served)) = absurd served.comes
by_printed kind C v failed s out out_new (inr unread) = inr unread

pub ends_unopened : {X : Type 0} (kind : X → Verdict) (C : X → Type 0) (signals : ℕ) (made : List ℕ → Description → Verdict) (name : List ℕ)
    (held : Option (List NamedFile)) (failed : Type 0) (s : Status) (out out_new : SinkState)
    → (WantsMemory s out out_new → (bytes : List ℕ) (d : Description) → EndsOr kind C (Unit {0}) (made bytes d) s out out_new)
    → EndsUnopened signals made name held failed s out out_new
    → OverFile held (λ files. EndsOrBy kind C (Unit {0}) (verdict_of_description_file signals made (bytes_of files name)) failed s out out_new)
ends_unopened kind C signals made name held failed s out out_new all (inl wants) =
    wants_described kind C (Unit {0}) held signals made name failed s out out_new tt wants (all wants)
ends_unopened kind C signals made name held failed s out out_new all (inr told) =
    map_file held (λ files. PrintsBy (verdict_of_description_file signals made (bytes_of files name)) failed s out out_new)
    (λ files. EndsOrBy kind C (Unit {0}) (verdict_of_description_file signals made (bytes_of files name)) failed s out out_new)
    (λ files printed. by_printed kind C (verdict_of_description_file signals made (bytes_of files name)) failed s out out_new printed) told

pub ends_opened : {X : Type 0} (kind : X → Verdict) (C : X → Type 0) (waves : List Wave) (made : List ℕ → Description → Verdict) (name : List ℕ)
    (held : Option (List NamedFile)) (failed : Type 0) (s : Status) (out out_new : SinkState) (net : NetId) (core : CoreView)
    → (is : IsCoreOf waves name held net core) → EndsOr kind C (Unit {0}) (made is.read.bytes (description_of is.read.description)) s out out_new
    → OverFile held (λ files. EndsOrBy kind C (Unit {0}) (verdict_of_description_file (length waves) made (bytes_of files name)) failed s out out_new)
ends_opened kind C waves made name held failed s out out_new net core is ends =
    ends_read kind C (Unit {0}) held (length waves) made name is.read.bytes (description_of is.read.description) failed s out out_new is.found.has is.found.is
    ends
