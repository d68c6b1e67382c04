-- What is known of files: what they hold, which of them were read, and how many readings failed.
use Rattle.std.specs.Prelude.{◌≡◌, ℕ, List, [], ◌∷◌, ◌++◌, take, Option, Some, None}
use Rattle.ads_outside.specs.declared.got.Got.{Got}
use Rattle.ads_outside.specs.declared.got.Got.TheVariants as got
use Rattle.ads_outside.specs.declared.named_file.NamedFile.{NamedFile}

pub record FilesState : Type 0 where
  -- the files, where they are told
  pub held : Option (List NamedFile)
  -- the names that were read, in order, where they are told
  pub names : Option (List (List ℕ))
  -- how many readings failed
  pub faults : ℕ

-- some of these names, from the first on, were read after the others; where names are told
abbrev pub ReadsSome : Option (List (List ℕ)) → Option (List (List ℕ)) → List (List ℕ) → Type 0
ReadsSome None new names = Unit {0}
ReadsSome (Some old) new names = (n : ℕ) × (new ≡ Some (old ++ take n names))

-- all of these names were read after the others
abbrev pub ReadsAll : Option (List (List ℕ)) → Option (List (List ℕ)) → List (List ℕ) → Type 0
ReadsAll None new names = Unit {0}
ReadsAll (Some old) new names = new ≡ Some (old ++ names)

-- a name was read; where memory was wanting it may not have been
abbrev pub AddsName : Got → Option (List (List ℕ)) → Option (List (List ℕ)) → List ℕ → Type 0
AddsName (got.Bytes bytes) old new name = ReadsAll old new (name ∷ [])
AddsName got.TooLong old new name = ReadsAll old new (name ∷ [])
AddsName got.Failed old new name = ReadsAll old new (name ∷ [])
AddsName got.Memory old new name = ReadsSome old new (name ∷ [])
