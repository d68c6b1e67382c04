-- Which files a run has read, by how it ended.
use Rattle.std.proofs.Common.{◌≡◌, ◌∷◌, [], ℕ, List, Some, None, subst, sym}
use Rattle.ads_outside.specs.FilesState.{ReadsSome, ReadsAll}
use Rattle.run_tasks.specs.declared.status.Status.{Status}
use Rattle.run_tasks.specs.declared.status.Status.TheVariants as status
use Rattle.run_tasks.specs.Readings.{Names, ReadsOne}

-- all of one or two names is some of two
pub some_of_two : (old new : Names) (a b : List ℕ) → ReadsAll old new (a ∷ b ∷ []) → ReadsSome old new (a ∷ b ∷ [])
some_of_two None new a b h = tt
some_of_two (Some names) new a b h = (2, h)

pub first_of_two : (old new : Names) (a b : List ℕ) → ReadsAll old new (a ∷ []) → ReadsSome old new (a ∷ b ∷ [])
first_of_two None new a b h = tt
first_of_two (Some names) new a b h = (1, h)

pub some_of_one : (old new : Names) (a : List ℕ) → ReadsAll old new (a ∷ []) → ReadsSome old new (a ∷ [])
some_of_one None new a h = tt
some_of_one (Some names) new a h = (1, h)

-- one file was read, however the run ended
pub reads_one : (s : Status) (old new : Names) (a : List ℕ) → ReadsAll old new (a ∷ []) → ReadsOne s old new a
reads_one status.Memory old new a h = some_of_one old new a h
reads_one status.Done old new a h = h
reads_one status.Usage old new a h = h
reads_one (status.BadDescription n i) old new a h = h
reads_one (status.BadScript n) old new a h = h
reads_one status.ReadFault old new a h = h
reads_one status.WriteFault old new a h = h
reads_one status.LinkFault old new a h = h
reads_one status.Budget old new a h = h
reads_one status.TooLong old new a h = h
reads_one (status.Refused n) old new a h = h
reads_one (status.BadPeer broke) old new a h = h
reads_one (status.TimedOut m n) old new a h = h
reads_one status.BadValue old new a h = h
reads_one status.StoreFault old new a h = h
reads_one status.StoreLimit old new a h = h
reads_one status.KeeperFault old new a h = h

pub reads_some_of_one : (s : Status) (old new : Names) (a : List ℕ) → s ≡ status.Memory → ReadsSome old new (a ∷ []) → ReadsOne s old new a
reads_some_of_one s old new a is h = subst (λ r. ReadsOne r old new a) (sym is) h
