-- Which files a run has opened to keep values or samples in: the one that its words name, and no other.
use Rattle.std.specs.Prelude.{ℕ, List, [], ◌∷◌, Option, Some}
use Rattle.ads_outside.specs.FilesState.{ReadsSome, ReadsAll}
use Rattle.run_tasks.specs.declared.status.Status.{Status}
use Rattle.run_tasks.specs.declared.status.Status.TheVariants as status
use Rattle.run_tasks.specs.declared.task.Task.{Task}
use Rattle.run_tasks.specs.declared.task.Task.TheVariants as task
use Rattle.run_tasks.specs.Readings.{Names}

-- a run that ended so may not have come to its file: the words, a file, the output or memory ended it
abbrev pub MayOpenNothing : Status → Type 0
MayOpenNothing status.Usage = Unit {0}
MayOpenNothing (status.BadDescription n item) = Unit {0}
MayOpenNothing (status.BadScript n) = Unit {0}
MayOpenNothing status.ReadFault = Unit {0}
MayOpenNothing status.WriteFault = Unit {0}
MayOpenNothing status.Memory = Unit {0}
MayOpenNothing status.TooLong = Unit {0}
MayOpenNothing s = ⊥

-- the file of this name was opened, once; where the run may not have come to it, once or not
abbrev pub OpensOne : Status → Names → Names → List ℕ → Type 0
OpensOne status.Usage old new name = ReadsSome old new (name ∷ [])
OpensOne (status.BadDescription n item) old new name = ReadsSome old new (name ∷ [])
OpensOne (status.BadScript n) old new name = ReadsSome old new (name ∷ [])
OpensOne status.ReadFault old new name = ReadsSome old new (name ∷ [])
OpensOne status.WriteFault old new name = ReadsSome old new (name ∷ [])
OpensOne status.Memory old new name = ReadsSome old new (name ∷ [])
OpensOne status.TooLong old new name = ReadsSome old new (name ∷ [])
OpensOne s old new name = ReadsAll old new (name ∷ [])

-- the store of `keep` on the disk; no other task calls a disk
abbrev pub OpensStore : Option Task → Status → Names → Names → Type 0
OpensStore (Some (task.Keep description script store)) s old new = OpensOne s old new store
OpensStore t s old new = Unit {0}

-- the table of `record` in the keeper; no other task calls a keeper
abbrev pub OpensTable : Option Task → Status → Names → Names → Type 0
OpensTable (Some (task.Record what)) s old new = OpensOne s old new what.store
OpensTable t s old new = Unit {0}
