-- What the calls of a disk and of a keeper tell, by computation.
use Rattle.std.specs.Prelude.{◌++◌, replicate, true, false, Bool, ◌≡◌, refl, ℕ, List, [], ◌∷◌, codes, length, Option, Some, None, Ok, bytes_eq, ◌==◌}
use Rattle.std.proofs.Common.{sym, ap}
use Rattle.std.proofs.lemmas.Bool.{false≢true, le-leb}
use Rattle.persist_store.specs.declared.disk_open.DiskOpen.TheVariants as open_
use Rattle.persist_store.specs.declared.disk_read.DiskRead.TheVariants as read
use Rattle.persist_store.specs.Disk.{MAX_READ, Opens, OpensName, OpensOnce, OpensOnly, Reads, bytes_at}
use Rattle.persist_store.specs.Marks.{Mark, MarksOne, MarksStay}
use Rattle.sample_store.specs.declared.keeper_open.KeeperOpen.TheVariants as table
use Rattle.sample_store.specs.Keeper as keeper
use Rattle.sample_store.specs.Views.{row_kept}
use Rattle.run_examples.proofs.KeptExamples.{unused}

-- a file of four bytes
abbrev four : List ℕ
four = 1 ∷ 2 ∷ 3 ∷ 4 ∷ []

-- what stands at a place, as far as there is room
inside : bytes_at 1 2 four ≡ 2 ∷ 3 ∷ []
inside = refl

over_the_end : bytes_at 3 9 four ≡ 4 ∷ []
over_the_end = refl

behind_it : bytes_at 4 9 four ≡ []
behind_it = refl

most : MAX_READ ≡ 4294967295
most = refl

-- its length is told, of a disk that tells its file
opened : Opens (open_.Ready 4) (Some four)
opened = refl

shorter : Opens (open_.Ready 3) (Some four) → ⊥
shorter e = false≢true (ap (λ n. n == 4) e)

untold : Opens (open_.Ready 3) None
untold = tt

-- a read gives all that stands there, up to its room, at the front of the buffer
reads : Reads (read.Bytes 3) (Some four) 1 (2 ∷ 3 ∷ 4 ∷ 99 ∷ 99 ∷ [])
reads = (refl, refl)

too_few : Reads (read.Bytes 2) (Some four) 1 (2 ∷ 3 ∷ 99 ∷ []) → ⊥
too_few (count, bytes) = false≢true (ap (λ n. n == 3) count)

others : Reads (read.Bytes 2) (Some four) 1 (2 ∷ 4 ∷ []) → ⊥
others (count, bytes) = false≢true (ap (λ l. bytes_eq l (2 ∷ 3 ∷ [])) bytes)

no_more_than_room : Reads (read.Bytes 3) None 1 (2 ∷ 3 ∷ []) → ⊥
no_more_than_room h = false≢true (le-leb 3 2 h)

failed : Reads read.Failed (Some four) 1 []
failed = tt

-- the names that were opened
abbrev a : List ℕ
a = codes "a"

abbrev b : List ℕ
b = codes "b"

abbrev count_in : Option (List (List ℕ)) → ℕ
count_in None = 0
count_in (Some names) = length names

name_added : OpensName (open_.Ready 0) (Some (a ∷ [])) (Some (a ∷ b ∷ [])) b
name_added = refl

name_missing : OpensName open_.Failed (Some (a ∷ [])) (Some (a ∷ [])) b → ⊥
name_missing e = false≢true (ap (λ o. count_in o == 2) e)

memory_wanting : OpensName open_.Memory (Some (a ∷ [])) (Some (a ∷ [])) b
memory_wanting = (0, refl)

table_named : keeper.OpensName (table.Ready 7) (Some []) (Some (a ∷ [])) a
table_named = refl

table_not_named : keeper.OpensName (table.Ready 7) (Some []) (Some []) a → ⊥
table_not_named e = false≢true (ap (λ o. count_in o == 1) e)

-- an answer comes behind one opening; and no other name is opened
opened_once : OpensOnce {T = ℕ} {E = ℕ} (Ok 1) (Some []) (Some (a ∷ [])) a
opened_once = refl

not_opened : OpensOnce {T = ℕ} {E = ℕ} (Ok 1) (Some []) (Some []) a → ⊥
not_opened e = false≢true (ap (λ o. count_in o == 1) e)

opened_twice : OpensOnly (Some []) (Some (a ∷ a ∷ [])) a
opened_twice = (2, refl)

-- a mark more is told, or none
abbrev mark : Mark
mark = record { wire = unused; file = Some four }

abbrev Told : ℕ → List Mark → Type 0
Told n marks = marks ≡ replicate n mark

marked : MarksOne Told 0 1 unused (Some four)
marked = λ marks e. ap (λ l. l ++ mark ∷ []) e

stays : MarksStay Told 1 1
stays = λ marks e. e

abbrev is_empty : List Mark → Bool
is_empty [] = true
is_empty (m ∷ ms) = false

not_told_more : MarksStay Told 0 1 → ⊥
not_told_more s = false≢true (sym (ap is_empty (s [] refl)))

-- a row of the code is a row of the definitions
a_row : row_kept (record { number = 7; name = a; time = 5; bytes = four }) ≡ record { number = 7; name = a; time = 5; bytes = four }
a_row = refl
