-- What is known of a keeper: its rows and the names that were opened, where they are told, and how many calls failed.
use Rattle.std.specs.Prelude.{◌≡◌, ℕ, ◌+◌, ◌≤◌, List, [], ◌∷◌, length, Option, Some, None, option_map}
use Rattle.ads_outside.specs.FilesState.{ReadsAll, ReadsSome}
use Rattle.spec_samples.specs.Row.{Row}
use Rattle.spec_samples.specs.Rows.{rows_after_put}
use Rattle.spec_samples.specs.Totals.{total_of}
use Rattle.spec_samples.specs.Laws.{AreCountedFrom}
use Rattle.sample_store.specs.declared.keeper_open.KeeperOpen.{KeeperOpen}
use Rattle.sample_store.specs.declared.keeper_open.KeeperOpen.TheVariants as open_
use Rattle.sample_store.specs.declared.kept.Kept.{Kept}
use Rattle.sample_store.specs.declared.kept.Kept.TheVariants as kept
use Rattle.sample_store.specs.declared.totalled.Totalled.{Totalled}
use Rattle.sample_store.specs.declared.totalled.Totalled.TheVariants as totalled
use Rattle.sample_store.specs.Views.{total_told}

pub record KeeperState : Type 0 where
  pub rows : Option (List Row)
  -- the names that were opened, in order, where they are told
  pub names : Option (List (List ℕ))
  pub faults : ℕ

-- the rows have the numbers from 1 on, where they are told
abbrev pub AreNumbered : Option (List Row) → Type 0
AreNumbered None = Unit {0}
AreNumbered (Some rows) = AreCountedFrom 1 rows

-- so many rows are there, where they are told
abbrev pub Counts : KeeperOpen → Option (List Row) → Type 0
Counts (open_.Ready n) (Some rows) = n ≡ length rows
Counts (open_.Ready n) None = Unit {0}
Counts open_.Failed rows = Unit {0}
Counts open_.Memory rows = Unit {0}

-- a name was opened; where memory was wanting it may not have been
abbrev pub OpensName : KeeperOpen → Option (List (List ℕ)) → Option (List (List ℕ)) → List ℕ → Type 0
OpensName (open_.Ready n) old new name = ReadsAll old new (name ∷ [])
OpensName open_.Failed old new name = ReadsAll old new (name ∷ [])
OpensName open_.Memory old new name = ReadsSome old new (name ∷ [])

-- the number is there or the next one, where rows are told
abbrev pub IsNext : Option (List Row) → ℕ → Type 0
IsNext None n = Unit {0}
IsNext (Some rows) n = n ≤ length rows + 1

-- the rows after a put; where it was not done they are as before
abbrev pub Keeps : Kept → Option (List Row) → Option (List Row) → Row → Type 0
Keeps kept.Done old new put = new ≡ option_map (λ rows. rows_after_put rows put) old
Keeps kept.Failed old new put = new ≡ old
Keeps kept.Memory old new put = new ≡ old

-- the total of a name, and that there is none exactly where no row has it; where rows are told
abbrev pub Totals : Totalled → Option (List Row) → List ℕ → Type 0
Totals (totalled.Found total) (Some rows) name = total_of name rows ≡ Some (total_told total)
Totals (totalled.Found total) None name = Unit {0}
Totals totalled.Nothing (Some rows) name = total_of name rows ≡ None
Totals totalled.Nothing None name = Unit {0}
Totals totalled.Failed rows name = Unit {0}
Totals totalled.Memory rows name = Unit {0}
