-- Which files a run has read, and what they held.
use Rattle.std.specs.Prelude.{◌⊎◌, ℕ, Bool, true, false, List, [], ◌∷◌, Option, Some, None}
use Rattle.ads_outside.specs.declared.named_file.NamedFile.{NamedFile}
use Rattle.ads_outside.specs.FilesState.{ReadsSome, ReadsAll}
use Rattle.cli_words.specs.declared.client_words.PeerWords.{PeerWords}
use Rattle.cli_words.specs.declared.client_words.PeerWords.TheVariants as peer
use Rattle.run_tasks.specs.declared.file_task.FileTask.{FileTask}
use Rattle.run_tasks.specs.declared.file_task.FileTask.TheVariants as file_task
use Rattle.run_tasks.specs.declared.status.Status.{Status}
use Rattle.run_tasks.specs.declared.status.Status.TheVariants as status
use Rattle.run_tasks.specs.declared.task.Task.{Task}
use Rattle.run_tasks.specs.declared.task.Task.TheVariants as task

abbrev pub Names : Type 0
Names = Option (List (List ℕ))

-- a fact about the files; where they are not told, about some files
abbrev pub OverFile : Option (List NamedFile) → (List NamedFile → Type 0) → Type 0
OverFile None fact = (files : List NamedFile) × fact files
OverFile (Some files) fact = fact files

-- a fact about the files at two readings: where they are told they are the same; where they are not, they may have
-- changed between
abbrev pub OverFiles : Option (List NamedFile) → (List NamedFile → List NamedFile → Type 0) → Type 0
OverFiles None fact = (first : List NamedFile) × (second : List NamedFile) × fact first second
OverFiles (Some files) fact = fact files files

-- the file of a task with one: it was read, or memory was wanting
abbrev pub ReadsOne : Status → Names → Names → List ℕ → Type 0
ReadsOne status.Memory old new name = ReadsSome old new (name ∷ [])
ReadsOne s old new name = ReadsAll old new (name ∷ [])

abbrev pub ReadsOneOrBoth : Names → Names → List ℕ → List ℕ → Type 0
ReadsOneOrBoth old new description script =
    ReadsAll old new (description ∷ []) ⊎ ReadsAll old new (description ∷ script ∷ [])

-- the description, and then the script: only where the description is accepted
abbrev pub ReadsBoth : Status → Names → Names → List ℕ → List ℕ → Type 0
ReadsBoth status.Done old new description script = ReadsAll old new (description ∷ script ∷ [])
ReadsBoth (status.BadScript n) old new description script = ReadsAll old new (description ∷ script ∷ [])
ReadsBoth (status.BadDescription n item) old new description script = ReadsAll old new (description ∷ [])
ReadsBoth status.StoreFault old new description script = ReadsAll old new (description ∷ script ∷ [])
ReadsBoth status.StoreLimit old new description script = ReadsAll old new (description ∷ script ∷ [])
ReadsBoth status.Memory old new description script = ReadsSome old new (description ∷ script ∷ [])
ReadsBoth s old new description script = ReadsOneOrBoth old new description script

-- the files that a run of a task has read, which ended so
abbrev pub ReadsFilesOf : FileTask → Status → Names → Names → Type 0
ReadsFilesOf (file_task.Selftest script) s old new = ReadsOne s old new script
ReadsFilesOf (file_task.Check description) s old new = ReadsOne s old new description
ReadsFilesOf (file_task.Replay description script) s old new = ReadsBoth s old new description script
ReadsFilesOf (file_task.Relay description script) s old new = ReadsBoth s old new description script
ReadsFilesOf (file_task.Load n) s old new = ReadsAll old new []
ReadsFilesOf (file_task.Migrate description) s old new = ReadsOne s old new description

-- whether a task asks for no file
abbrev pub asks_no_file : FileTask → Bool
asks_no_file (file_task.Load n) = true
asks_no_file t = false

-- whether a client asks over the link
abbrev pub is_over_link : PeerWords → Bool
is_over_link (peer.To to net) = true
is_over_link (peer.Local description) = false

abbrev pub asks_link : Option Task → Bool
asks_link (Some (task.Ask what client)) = is_over_link client.peer
asks_link (Some (task.Record what)) = is_over_link what.client.peer
asks_link t = false

-- whether a task is served over a wire
abbrev pub is_service : Option Task → Bool
is_service (Some (task.Serve description listen events)) = true
is_service (Some (task.RelayServe description listen events)) = true
is_service t = false

-- whether a task keeps values on a disk
abbrev pub asks_disk : Option Task → Bool
asks_disk (Some (task.Keep description script store)) = true
asks_disk t = false

-- whether a task records samples in a keeper
abbrev pub asks_keeper : Option Task → Bool
asks_keeper (Some (task.Record what)) = true
asks_keeper t = false

abbrev pub reads_no_file : Option Task → Bool
reads_no_file None = true
reads_no_file (Some (task.OfFiles t)) = asks_no_file t
reads_no_file (Some (task.Ask what client)) = is_over_link client.peer
reads_no_file (Some (task.Record what)) = is_over_link what.client.peer
reads_no_file t = false

-- of a client's command: the description of the server in the same process
abbrev pub ReadsOfPeer : PeerWords → Status → Names → Names → Type 0
ReadsOfPeer (peer.To to net) s old new = ReadsAll old new []
ReadsOfPeer (peer.Local description) s old new = ReadsOne s old new description

abbrev pub ReadsFiles : Option Task → Status → Names → Names → Type 0
ReadsFiles None s old new = ReadsAll old new []
ReadsFiles (Some (task.OfFiles t)) s old new = ReadsFilesOf t s old new
ReadsFiles (Some (task.Serve description listen events)) s old new = ReadsOne s old new description
ReadsFiles (Some (task.RelayServe description listen events)) s old new = ReadsOne s old new description
ReadsFiles (Some (task.Keep description script store)) s old new = ReadsBoth s old new description script
ReadsFiles (Some (task.Ask what client)) s old new = ReadsOfPeer client.peer s old new
ReadsFiles (Some (task.Record what)) s old new = ReadsOfPeer what.client.peer s old new
