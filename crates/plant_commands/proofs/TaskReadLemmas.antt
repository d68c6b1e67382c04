-- Which files a run has read, by how it ended.
use Rattle.std.proofs.Common.{◌≡◌, ◌∷◌, [], ℕ, suc, take, append_assoc, List, Some, None, inl, inr, subst, ap, sym, ◌∙◌, ◌++◌}
use Rattle.ads_outside.specs.FilesState.{ReadsSome, ReadsAll}
use Rattle.ads_outside.specs.SinkState.{SinkState}
use Rattle.run_tasks.specs.declared.file_task.FileTask.{FileTask}
use Rattle.run_tasks.specs.declared.file_task.FileTask.TheVariants as file_task
use Rattle.run_tasks.specs.declared.status.Status.{Status}
use Rattle.run_tasks.specs.declared.status.Status.TheVariants as status
use Rattle.run_tasks.specs.Ending.{Ending}
use Rattle.plant_commands.specs.FileOutcomes.{IsOfFileTask}
use Rattle.run_tasks.specs.Prints.{PrintsEnding}
use Rattle.run_tasks.specs.Readings.{Names, ReadsFilesOf, ReadsBoth, ReadsOne}
use Rattle.run_tasks.proofs.ReadLemmas.{first_of_two, some_of_one, some_of_two}

one_without_memory : (s : Status) (old new : Names) (a : List ℕ) → ReadsOne s old new a → ReadsSome old new (a ∷ [])
one_without_memory status.Memory old new a h = h
one_without_memory status.Done old new a h = some_of_one old new a h
one_without_memory status.Usage old new a h = some_of_one old new a h
one_without_memory (status.BadDescription n i) old new a h = some_of_one old new a h
one_without_memory (status.BadScript n) old new a h = some_of_one old new a h
one_without_memory status.ReadFault old new a h = some_of_one old new a h
one_without_memory status.WriteFault old new a h = some_of_one old new a h
one_without_memory status.LinkFault old new a h = some_of_one old new a h
one_without_memory status.Budget old new a h = some_of_one old new a h
one_without_memory status.TooLong old new a h = some_of_one old new a h
one_without_memory (status.Refused n) old new a h = some_of_one old new a h
one_without_memory (status.BadPeer broke) old new a h = some_of_one old new a h
one_without_memory (status.TimedOut m n) old new a h = some_of_one old new a h
one_without_memory status.BadValue old new a h = some_of_one old new a h
one_without_memory status.StoreFault old new a h = some_of_one old new a h
one_without_memory status.StoreLimit old new a h = some_of_one old new a h
one_without_memory status.KeeperFault old new a h = some_of_one old new a h

two_without_memory : (s : Status) (old new : Names) (a b : List ℕ) → ReadsBoth s old new a b → ReadsSome old new (a ∷ b ∷ [])
two_without_memory status.Memory old new a b h = h
two_without_memory status.Done old new a b h = some_of_two old new a b h
two_without_memory (status.BadDescription n i) old new a b h = first_of_two old new a b h
two_without_memory (status.BadScript n) old new a b h = some_of_two old new a b h
two_without_memory status.Usage old new a b (inl h) = first_of_two old new a b h
two_without_memory status.Usage old new a b (inr h) = some_of_two old new a b h
two_without_memory status.ReadFault old new a b (inl h) = first_of_two old new a b h
two_without_memory status.ReadFault old new a b (inr h) = some_of_two old new a b h
two_without_memory status.WriteFault old new a b (inl h) = first_of_two old new a b h
two_without_memory status.WriteFault old new a b (inr h) = some_of_two old new a b h
two_without_memory status.LinkFault old new a b (inl h) = first_of_two old new a b h
two_without_memory status.LinkFault old new a b (inr h) = some_of_two old new a b h
two_without_memory status.Budget old new a b (inl h) = first_of_two old new a b h
two_without_memory status.Budget old new a b (inr h) = some_of_two old new a b h
two_without_memory status.TooLong old new a b (inl h) = first_of_two old new a b h
two_without_memory status.TooLong old new a b (inr h) = some_of_two old new a b h
two_without_memory (status.Refused n) old new a b (inl h) = first_of_two old new a b h
two_without_memory (status.Refused n) old new a b (inr h) = some_of_two old new a b h
two_without_memory (status.BadPeer broke) old new a b (inl h) = first_of_two old new a b h
two_without_memory (status.BadPeer broke) old new a b (inr h) = some_of_two old new a b h
two_without_memory (status.TimedOut m n) old new a b (inl h) = first_of_two old new a b h
two_without_memory (status.TimedOut m n) old new a b (inr h) = some_of_two old new a b h
two_without_memory status.BadValue old new a b (inl h) = first_of_two old new a b h
two_without_memory status.BadValue old new a b (inr h) = some_of_two old new a b h
two_without_memory status.StoreFault old new a b h = some_of_two old new a b h
two_without_memory status.StoreLimit old new a b h = some_of_two old new a b h
two_without_memory status.KeeperFault old new a b (inl h) = first_of_two old new a b h
two_without_memory status.KeeperFault old new a b (inr h) = some_of_two old new a b h

-- where a run ends for want of memory, it has read as far as it may
wants_memory : (t : FileTask) (s : Status) (old new : Names) → ReadsFilesOf t s old new → ReadsFilesOf t status.Memory old new
wants_memory (file_task.Selftest script) s old new h = one_without_memory s old new script h
wants_memory (file_task.Check description) s old new h = one_without_memory s old new description h
wants_memory (file_task.Replay description script) s old new h = two_without_memory s old new description script h
wants_memory (file_task.Relay description script) s old new h = two_without_memory s old new description script h
wants_memory (file_task.Load n) s old new h = h
wants_memory (file_task.Migrate description) s old new h = one_without_memory s old new description h

one_fault : (s : Status) (old new : Names) (a : List ℕ) → IsOfFileTask s → ReadsOne s old new a → ReadsOne status.WriteFault old new a
one_fault status.Memory old new a plain h = absurd plain
one_fault status.WriteFault old new a plain h = h
one_fault status.LinkFault old new a plain h = h
one_fault status.Budget old new a plain h = h
one_fault status.Done old new a plain h = h
one_fault status.Usage old new a plain h = h
one_fault (status.BadDescription n i) old new a plain h = h
one_fault (status.BadScript n) old new a plain h = h
one_fault status.ReadFault old new a plain h = h
one_fault status.TooLong old new a plain h = h
one_fault (status.Refused n) old new a plain h = absurd plain
one_fault (status.BadPeer broke) old new a plain h = absurd plain
one_fault (status.TimedOut m n) old new a plain h = absurd plain
one_fault status.BadValue old new a plain h = absurd plain
one_fault status.StoreFault old new a plain h = absurd plain
one_fault status.StoreLimit old new a plain h = absurd plain
one_fault status.KeeperFault old new a plain h = absurd plain

two_fault : (s : Status) (old new : Names) (a b : List ℕ) → IsOfFileTask s → ReadsBoth s old new a b → ReadsBoth status.WriteFault old new a b
two_fault status.Memory old new a b plain h = absurd plain
two_fault status.WriteFault old new a b plain h = h
two_fault status.LinkFault old new a b plain h = h
two_fault status.Budget old new a b plain h = h
two_fault status.Done old new a b plain h = inr h
two_fault (status.BadDescription n i) old new a b plain h = inl h
two_fault (status.BadScript n) old new a b plain h = inr h
two_fault status.Usage old new a b plain h = h
two_fault status.ReadFault old new a b plain h = h
two_fault status.TooLong old new a b plain h = h
two_fault (status.Refused n) old new a b plain h = absurd plain
two_fault (status.BadPeer broke) old new a b plain h = absurd plain
two_fault (status.TimedOut m n) old new a b plain h = absurd plain
two_fault status.BadValue old new a b plain h = absurd plain
two_fault status.StoreFault old new a b plain h = absurd plain
two_fault status.StoreLimit old new a b plain h = absurd plain
two_fault status.KeeperFault old new a b plain h = absurd plain

writing_fails : (t : FileTask) (s : Status) (old new : Names) → IsOfFileTask s → ReadsFilesOf t s old new → ReadsFilesOf t status.WriteFault old new
writing_fails (file_task.Selftest script) s old new plain h = one_fault s old new script plain h
writing_fails (file_task.Check description) s old new plain h = one_fault s old new description plain h
writing_fails (file_task.Replay description script) s old new plain h = two_fault s old new description script plain h
writing_fails (file_task.Relay description script) s old new plain h = two_fault s old new description script plain h
writing_fails (file_task.Load n) s old new plain h = h
writing_fails (file_task.Migrate description) s old new plain h = one_fault s old new description plain h

-- the files that a run has read which printed its outcome
pub reads_as_ended : (t : FileTask) (e : Ending) (s : Status) (old new : Names) (before after : SinkState) → IsOfFileTask e.status
    → PrintsEnding e s before after → ReadsFilesOf t e.status old new → ReadsFilesOf t s old new
reads_as_ended t e s old new before after plain (inl h) reads = subst (λ r. ReadsFilesOf t r old new) (sym h.0) reads
reads_as_ended t e s old new before after plain (inr (inl h)) reads =
    subst (λ r. ReadsFilesOf t r old new) (sym h.0) (writing_fails t e.status old new plain reads)
reads_as_ended t e s old new before after plain (inr (inr h)) reads =
    subst (λ r. ReadsFilesOf t r old new) (sym h.0) (wants_memory t e.status old new reads)

-- a run for want of memory has read some
pub reads_without_memory : (t : FileTask) (s : Status) (old new : Names) → s ≡ status.Memory → ReadsFilesOf t status.Memory old new → ReadsFilesOf t s old new
reads_without_memory t s old new is reads = subst (λ r. ReadsFilesOf t r old new) (sym is) reads

-- a first name was read, and some behind it
pub some_behind : (old mid new : Names) (a b : List ℕ) → ReadsAll old mid (a ∷ []) → ReadsSome mid new (b ∷ []) → ReadsSome old new (a ∷ b ∷ [])
some_behind None mid new a b first some = tt
some_behind (Some names) mid new a b first some =
    let behind : ReadsSome (Some (names ++ a ∷ [])) new (b ∷ []) = subst (λ m. ReadsSome m new (b ∷ [])) first some in
    (suc behind.0, behind.1 ∙ ap (λ xs. Some xs) (append_assoc names (a ∷ []) (take behind.0 (b ∷ []))))
