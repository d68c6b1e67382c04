-- What a migration prints.
use Rattle.std.proofs.Common.{◌≡◌, ℕ, List, Option, Some, None, inl, inr, subst, sym}
use Rattle.ads_outside.specs.declared.named_file.NamedFile.{NamedFile}
use Rattle.ads_outside.specs.SinkState.{SinkState}
use Rattle.run_tasks.specs.declared.file_task.FileTask.{FileTask}
use Rattle.run_tasks.specs.declared.file_task.FileTask.TheVariants as file_task
use Rattle.run_tasks.specs.declared.status.Status.{Status}
use Rattle.run_tasks.specs.declared.status.Status.TheVariants as status
use Rattle.run_tasks.specs.declared.task.Task.{Task}
use Rattle.run_tasks.specs.declared.task.Task.TheVariants as task
use Rattle.run_tasks.specs.Ending.{Ending}
use Rattle.plant_commands.specs.Migrated.{IsMigrationOf, HasMigratedFile, HasMigrated}
use Rattle.run_tasks.specs.Prints.{PrintsEnding}

-- what was printed is the text of the outcome
put_done : (signals : ℕ) (name : List ℕ) (e : Ending) (held : Option (List NamedFile)) (old new : SinkState) → PrintsEnding e status.Done old new
    → IsMigrationOf signals (file_task.Migrate name) e.status held e.text → HasMigratedFile signals (file_task.Migrate name) status.Done held old new
put_done signals name e held old new (inl h) is = record {
  text = e.text;
  put = h.1;
  is = subst (λ s. IsMigrationOf signals (file_task.Migrate name) s held e.text) (sym h.0) is;
}
put_done signals name e held old new (inr (inl h)) is = let bad : status.Done ≡ status.WriteFault = h.0 in cc
put_done signals name e held old new (inr (inr h)) is = let bad : status.Done ≡ status.Memory = h.0 in cc

put_so : (signals : ℕ) (name : List ℕ) (e : Ending) (s : Status) (held : Option (List NamedFile)) (old new : SinkState) → PrintsEnding e s old new
    → IsMigrationOf signals (file_task.Migrate name) e.status held e.text → HasMigratedFile signals (file_task.Migrate name) s held old new
put_so signals name e status.Done held old new printed is = put_done signals name e held old new printed is
put_so signals name e status.Usage held old new printed is = tt
put_so signals name e (status.BadDescription n i) held old new printed is = tt
put_so signals name e (status.BadScript n) held old new printed is = tt
put_so signals name e status.ReadFault held old new printed is = tt
put_so signals name e status.WriteFault held old new printed is = tt
put_so signals name e status.LinkFault held old new printed is = tt
put_so signals name e status.Budget held old new printed is = tt
put_so signals name e status.Memory held old new printed is = tt
put_so signals name e status.TooLong held old new printed is = tt
put_so signals name e (status.Refused n) held old new printed is = tt
put_so signals name e (status.BadPeer broke) held old new printed is = tt
put_so signals name e (status.TimedOut m n) held old new printed is = tt
put_so signals name e status.BadValue held old new printed is = tt
put_so signals name e status.StoreFault held old new printed is = tt
put_so signals name e status.StoreLimit held old new printed is = tt
put_so signals name e status.KeeperFault held old new printed is = tt

pub put_migrated : (signals : ℕ) (t : FileTask) (e : Ending) (s : Status) (held : Option (List NamedFile)) (old new : SinkState) → PrintsEnding e s old new
    → IsMigrationOf signals t e.status held e.text → HasMigratedFile signals t s held old new
put_migrated signals (file_task.Migrate name) e s held old new printed is = put_so signals name e s held old new printed is
put_migrated signals (file_task.Selftest script) e s held old new printed is = tt
put_migrated signals (file_task.Check d) e s held old new printed is = tt
put_migrated signals (file_task.Replay d script) e s held old new printed is = tt
put_migrated signals (file_task.Relay d script) e s held old new printed is = tt
put_migrated signals (file_task.Load n) e s held old new printed is = tt

at_memory : (signals : ℕ) (t : FileTask) (held : Option (List NamedFile)) (old new : SinkState) → HasMigratedFile signals t status.Memory held old new
at_memory signals (file_task.Migrate name) held old new = tt
at_memory signals (file_task.Selftest script) held old new = tt
at_memory signals (file_task.Check d) held old new = tt
at_memory signals (file_task.Replay d script) held old new = tt
at_memory signals (file_task.Relay d script) held old new = tt
at_memory signals (file_task.Load n) held old new = tt

-- a run for want of memory is no migration that is done
pub without_memory : (signals : ℕ) (t : FileTask) (s : Status) (held : Option (List NamedFile)) (old new : SinkState) → s ≡ status.Memory
    → HasMigratedFile signals t s held old new
without_memory signals t s held old new is = subst (λ r. HasMigratedFile signals t r held old new) (sym is) (at_memory signals t held old new)

-- of a task that is known
pub of_task : (signals : ℕ) (t u : Option Task) (s : Status) (held : Option (List NamedFile)) (old new : SinkState) → t ≡ u
    → HasMigrated signals u s held old new → HasMigrated signals t s held old new
of_task signals t u s held old new is h = subst (λ x. HasMigrated signals x s held old new) (sym is) h

any_at_memory : (signals : ℕ) (t : Option Task) (held : Option (List NamedFile)) (old new : SinkState) → HasMigrated signals t status.Memory held old new
any_at_memory signals None held old new = tt
any_at_memory signals (Some (task.OfFiles t)) held old new = at_memory signals t held old new
any_at_memory signals (Some (task.Serve d l n)) held old new = tt
any_at_memory signals (Some (task.RelayServe d l n)) held old new = tt
any_at_memory signals (Some (task.Keep d script store)) held old new = tt
any_at_memory signals (Some (task.Ask what client)) held old new = tt
any_at_memory signals (Some (task.Record what)) held old new = tt

pub any_without_memory : (signals : ℕ) (t : Option Task) (s : Status) (held : Option (List NamedFile)) (old new : SinkState) → s ≡ status.Memory
    → HasMigrated signals t s held old new
any_without_memory signals t s held old new is = subst (λ r. HasMigrated signals t r held old new) (sym is) (any_at_memory signals t held old new)
