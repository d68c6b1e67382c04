-- What the calls of a disk tell of its file.
use Rattle.std.specs.Prelude.{◌≡◌, ◌≤◌, ℕ, min, List, [], ◌∷◌, ◌++◌, length, take, drop, replicate, Option, Some, None, Result, Ok, Err}
use Rattle.ads_outside.specs.FilesState.{ReadsAll, ReadsSome}
use Rattle.persist_store.specs.declared.disk_open.DiskOpen.{DiskOpen}
use Rattle.persist_store.specs.declared.disk_open.DiskOpen.TheVariants as open_
use Rattle.persist_store.specs.declared.disk_read.DiskRead.{DiskRead}
use Rattle.persist_store.specs.declared.disk_read.DiskRead.TheVariants as read

-- the greatest number of bytes that one read gives
abbrev pub MAX_READ : ℕ
MAX_READ = 4294967295

-- what stands at a place, as far as there is room
abbrev pub bytes_at : ℕ → ℕ → List ℕ → List ℕ
bytes_at place room file = take (min room MAX_READ) (drop place file)

-- the length of the file, where it is told
abbrev pub Opens : DiskOpen → Option (List ℕ) → Type 0
Opens (open_.Ready n) (Some file) = n ≡ length file
Opens (open_.Ready n) None = Unit {0}
Opens open_.Failed file = Unit {0}
Opens open_.Memory file = Unit {0}

-- a name was opened; where memory was wanting it may not have been
abbrev pub OpensName : DiskOpen → Option (List (List ℕ)) → Option (List (List ℕ)) → List ℕ → Type 0
OpensName (open_.Ready n) old new name = ReadsAll old new (name ∷ [])
OpensName open_.Failed old new name = ReadsAll old new (name ∷ [])
OpensName open_.Memory old new name = ReadsSome old new (name ∷ [])

-- the same of a call that opens a name and may go on: an answer comes behind the opening alone
abbrev pub OpensOnce : {T E : Type 0} → Result T E → Option (List (List ℕ)) → Option (List (List ℕ)) → List ℕ → Type 0
OpensOnce (Ok answer) old new name = ReadsAll old new (name ∷ [])
OpensOnce (Err e) old new name = ReadsSome old new (name ∷ [])

-- no other name was opened, where names are told
abbrev pub OpensOnly : Option (List (List ℕ)) → Option (List (List ℕ)) → List ℕ → Type 0
OpensOnly None new name = Unit {0}
OpensOnly (Some old) new name = (n : ℕ) × (new ≡ Some (old ++ replicate n name))

-- the number of the bytes that stand there, and these at the front of the buffer, where they are told
abbrev pub Reads : DiskRead → Option (List ℕ) → ℕ → List ℕ → Type 0
Reads (read.Bytes n) (Some file) place buffer =
    (n ≡ length (bytes_at place (length buffer) file)) × (take n buffer ≡ bytes_at place (length buffer) file)
Reads (read.Bytes n) None place buffer = n ≤ length buffer
Reads read.Failed file place buffer = Unit {0}
