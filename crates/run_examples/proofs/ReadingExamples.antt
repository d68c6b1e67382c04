-- Which files a run reads and opens, by computation.
use Rattle.std.specs.Prelude.{◌≡◌, refl, ℕ, List, [], ◌∷◌, codes, length, map, true, false, Option, Some, None, bytes_eq, ◌==◌}
use Rattle.std.proofs.Common.{ap, inl, inr, sym}
use Rattle.std.proofs.lemmas.Bool.{false≢true}
use Rattle.ads_outside.specs.declared.named_file.NamedFile.{NamedFile}
use Rattle.run_tasks.specs.declared.client_task.ClientTask.TheVariants as ask
use Rattle.run_tasks.specs.declared.file_task.FileTask.TheVariants as file_task
use Rattle.run_tasks.specs.declared.status.Status.TheVariants as status
use Rattle.run_tasks.specs.declared.task.Task.{Task}
use Rattle.run_tasks.specs.declared.task.Task.TheVariants as task
use Rattle.run_tasks.specs.Openings.{OpensOne, OpensStore, OpensTable}
use Rattle.run_tasks.specs.Readings.{Names, OverFile, OverFiles, ReadsFiles, asks_disk, asks_keeper, asks_link, reads_no_file}
use Rattle.run_examples.proofs.TaskExamples.{client, client_here, what}

abbrev p : List ℕ
p = codes "p"

abbrev s : List ℕ
s = codes "s"

abbrev f : List ℕ
f = codes "f"

-- names before and behind a run
abbrev read : List (List ℕ) → Names
read names = Some names

abbrev count_in : Names → ℕ
count_in None = 0
count_in (Some names) = length names

abbrev replay : Option Task
replay = Some (task.OfFiles (file_task.Replay p s))

abbrev keep : Option Task
keep = Some (task.Keep p s f)

-- words that are no command read nothing
usage_reads_nothing : ReadsFiles None status.Usage (read []) (read [])
usage_reads_nothing = refl

-- a play reads the description and then the script; behind a description that is refused it reads no script
both_read : ReadsFiles replay status.Done (read []) (read (p ∷ s ∷ []))
both_read = refl

one_read : ReadsFiles replay (status.BadDescription 3 0) (read []) (read (p ∷ []))
one_read = refl

-- where a file could not be read it was the first of them or the second
first_not_read : ReadsFiles replay status.ReadFault (read []) (read (p ∷ []))
first_not_read = inl refl

second_not_read : ReadsFiles replay status.ReadFault (read []) (read (p ∷ s ∷ []))
second_not_read = inr refl

-- memory may be wanting before any
none_read : ReadsFiles replay status.Memory (read []) (read [])
none_read = (0, refl)

-- but never the script without being asked for, never the script first, and not the description alone where all was played
script_of_refused : ReadsFiles replay (status.BadDescription 3 0) (read []) (read (p ∷ s ∷ [])) → ⊥
script_of_refused e = false≢true (ap (λ o. count_in o == 1) e)

abbrev first_in : Names → List ℕ
first_in (Some (name ∷ names)) = name
first_in names = []

other_order : ReadsFiles replay status.Done (read []) (read (s ∷ p ∷ [])) → ⊥
other_order e = false≢true (ap (λ o. bytes_eq (first_in o) p) e)

no_script_read : ReadsFiles keep status.Done (read []) (read (p ∷ [])) → ⊥
no_script_read e = false≢true (ap (λ o. count_in o == 2) e)

-- what was read before stays
behind_others : ReadsFiles (Some (task.Serve p s 1)) status.LinkFault (read (f ∷ [])) (read (f ∷ p ∷ []))
behind_others = refl

-- a client over the link reads nothing; one in the process reads the description
over_the_link : ReadsFiles (Some (task.Ask ask.State client)) status.Done (read []) (read [])
over_the_link = refl

in_the_process : ReadsFiles (Some (task.Ask ask.State client_here)) status.Done (read []) (read (p ∷ []))
in_the_process = refl

recorded_over_the_link : ReadsFiles (Some (task.Record what)) status.KeeperFault (read []) (read [])
recorded_over_the_link = refl

-- which tasks ask for a link, a disk, a keeper, and no file
abbrev tasks : List (Option Task)
tasks = None ∷ Some (task.OfFiles (file_task.Load 3)) ∷ Some (task.OfFiles (file_task.Check p)) ∷ Some (task.Serve p s 1) ∷ Some (task.RelayServe p s 1)
    ∷ keep ∷ Some (task.Ask ask.State client) ∷ Some (task.Ask ask.State client_here) ∷ Some (task.Record what) ∷ []

links : map asks_link tasks ≡ false ∷ false ∷ false ∷ false ∷ false ∷ false ∷ true ∷ false ∷ true ∷ []
links = refl

disks : map asks_disk tasks ≡ false ∷ false ∷ false ∷ false ∷ false ∷ true ∷ false ∷ false ∷ false ∷ []
disks = refl

keepers : map asks_keeper tasks ≡ false ∷ false ∷ false ∷ false ∷ false ∷ false ∷ false ∷ false ∷ true ∷ []
keepers = refl

no_file : map reads_no_file tasks ≡ true ∷ true ∷ false ∷ false ∷ false ∷ false ∷ true ∷ false ∷ true ∷ []
no_file = refl

-- `keep` opens its store once
store_opened : OpensStore keep status.Done (read []) (read (f ∷ []))
store_opened = refl

store_not_opened : OpensStore keep status.Done (read []) (read []) → ⊥
store_not_opened e = false≢true (ap (λ o. count_in o == 1) e)

another_opened : OpensStore keep status.StoreFault (read []) (read (s ∷ [])) → ⊥
another_opened e = false≢true (ap (λ o. bytes_eq (first_in o) f) e)

opened_twice : OpensStore keep status.Done (read []) (read (f ∷ f ∷ [])) → ⊥
opened_twice e = false≢true (ap (λ o. count_in o == 1) e)

-- a run that a script ended may not have come to it
not_come_to : OpensStore keep (status.BadScript 4) (read []) (read [])
not_come_to = (0, refl)

-- `record` opens its table, also where the keeper fails then
table_opened : OpensTable (Some (task.Record what)) status.KeeperFault (read []) (read (f ∷ []))
table_opened = refl

table_not_opened : OpensTable (Some (task.Record what)) (status.Refused 0x710) (read []) (read []) → ⊥
table_not_opened e = false≢true (ap (λ o. count_in o == 1) e)

table_of_usage : OpensOne status.Usage (read []) (read []) f
table_of_usage = (0, refl)

-- a fact about files that are told, and about files that are not
abbrev one_file : List NamedFile
one_file = record { name = p; bytes = 1 ∷ [] } ∷ []

told_file : OverFile (Some one_file) (λ files. length files ≡ 1)
told_file = refl

untold_file : OverFile None (λ files. length files ≡ 1)
untold_file = (one_file, refl)

-- files that are told do not change between two readings
told_files : OverFiles (Some one_file) (λ first second. length first ≡ length second)
told_files = refl

changed_files : OverFiles None (λ first second. (length first ≡ 1) × (length second ≡ 0))
changed_files = (one_file, [], (refl, refl))

told_files_changed : OverFiles (Some one_file) (λ first second. (length first ≡ 1) × (length second ≡ 0)) → ⊥
told_files_changed (first, second) = false≢true (sym (ap (λ n. n == 1) second))
