-- What `migrate` leaves in the sink that is done: the description of its file under schema 2.
use Rattle.std.specs.Prelude.{◌≡◌, ℕ, List, Option, Some}
use Rattle.ads_outside.specs.declared.named_file.NamedFile.{NamedFile}
use Rattle.ads_outside.specs.declared.put.Put.TheVariants as put
use Rattle.ads_outside.specs.Named.{bytes_of}
use Rattle.ads_outside.specs.Puts.{Puts}
use Rattle.ads_outside.specs.SinkState.{SinkState}
use Rattle.description_migration.specs.Migration.{IsMigrated}
use Rattle.run_tasks.specs.declared.file_task.FileTask.{FileTask}
use Rattle.run_tasks.specs.declared.file_task.FileTask.TheVariants as file_task
use Rattle.run_tasks.specs.declared.status.Status.{Status}
use Rattle.run_tasks.specs.declared.status.Status.TheVariants as status
use Rattle.run_tasks.specs.declared.task.Task.{Task}
use Rattle.run_tasks.specs.declared.task.Task.TheVariants as task
use Rattle.run_tasks.specs.Readings.{OverFile}

-- a text is the migration of the bytes of a file: its table is the file's under schema 2, and rules 2 to 15 give the
-- same description of both
pub record MigratesFile (signals : ℕ) (name : List ℕ) (held : Option (List NamedFile)) (text : List ℕ) : Type 0 where
  pub bytes : List ℕ
  pub were : OverFile held (λ files. bytes_of files name ≡ Some bytes)
  pub is : IsMigrated signals bytes text

-- what a task with this status has as its text
abbrev pub IsMigrationOf : ℕ → FileTask → Status → Option (List NamedFile) → List ℕ → Type 0
IsMigrationOf signals (file_task.Migrate description) status.Done held text = MigratesFile signals description held text
IsMigrationOf signals t s held text = Unit {0}

-- the text of a migration that is done was put, and nothing else
pub record PutsMigration (signals : ℕ) (name : List ℕ) (held : Option (List NamedFile)) (old new : SinkState) : Type 0 where
  pub text : List ℕ
  pub put : Puts put.All old new text
  pub is : MigratesFile signals name held text

abbrev pub HasMigratedFile : ℕ → FileTask → Status → Option (List NamedFile) → SinkState → SinkState → Type 0
HasMigratedFile signals (file_task.Migrate description) status.Done held old new = PutsMigration signals description held old new
HasMigratedFile signals t s held old new = Unit {0}

-- of a run of any task that ended so
abbrev pub HasMigrated : ℕ → Option Task → Status → Option (List NamedFile) → SinkState → SinkState → Type 0
HasMigrated signals (Some (task.OfFiles t)) s held old new = HasMigratedFile signals t s held old new
HasMigrated signals t s held old new = Unit {0}
