-- What the words of a command line say, one behind another. This project's own choice.
use Rattle.std.specs.Prelude.{◌≡◌, ◌⊎◌, ℕ, List, [], ◌∷◌, ◌++◌, Option, Some, None, codes}
use Rattle.daemon_words.specs.declared.field.Field.{Field}
use Rattle.daemon_words.specs.declared.field.Field.TheVariants.{Description, Listen, Store, SaveEach, Allow, OtherRoutes, Profile, Signal, Status, Log}
use Rattle.daemon_words.specs.declared.field.Field.TheVariants.{StopFile, StoreDamaged, KeepDescription, Settle}
use Rattle.daemon_words.specs.Said.{Said, Puts, nothing_said}

-- the option of a field; the description and the signals have none
abbrev pub option_of : Field → List ℕ
option_of Description = []
option_of Listen = codes "--listen"
option_of Store = codes "--store"
option_of SaveEach = codes "--save-each"
option_of StoreDamaged = codes "--store-damaged"
option_of KeepDescription = codes "--keep-description"
option_of Settle = codes "--settle"
option_of Allow = codes "--allow"
option_of OtherRoutes = codes "--other-routes"
option_of Profile = codes "--profile"
option_of Signal = []
option_of Status = codes "--status"
option_of Log = codes "--log"
option_of StopFile = codes "--stop-file"

-- what words said so far: the option whose value is to come, the file, and the fields
pub record SoFar : Type 0 where
  pub pending : Option Field
  pub file : Option (List ℕ)
  pub said : Said

-- no word was read
abbrev pub no_word : SoFar
no_word = record { pending = None; file = None; said = nothing_said }

-- a word is the value of the option before it
pub record IsValue (word : List ℕ) (old new : SoFar) : Type 0 where
  pub field : Field
  pub before : old.pending ≡ Some field
  pub puts : Puts field word old.said new.said
  pub behind : new ≡ record { pending = None; file = old.file; said = new.said }

-- a word is the file
pub record IsFile (word : List ℕ) (old new : SoFar) : Type 0 where
  pub before : old.pending ≡ None
  pub first : old.file ≡ None
  pub behind : new ≡ record { pending = None; file = Some word; said = old.said }

-- a word is an option, whose value is to come
pub record IsOption (word : List ℕ) (old new : SoFar) : Type 0 where
  pub field : Field
  pub before : old.pending ≡ None
  pub option : word ≡ option_of field
  pub behind : new ≡ record { pending = Some field; file = old.file; said = old.said }

-- a word is an option, an equals sign and its value
pub record IsPair (word : List ℕ) (old new : SoFar) : Type 0 where
  pub field : Field
  pub value : List ℕ
  pub before : old.pending ≡ None
  pub pair : word ≡ option_of field ++ 61 ∷ value
  pub puts : Puts field value old.said new.said
  pub behind : new ≡ record { pending = None; file = old.file; said = new.said }

-- a word is one of these
abbrev pub PutsWord : List ℕ → SoFar → SoFar → Type 0
PutsWord word old new = IsValue word old new ⊎ (IsFile word old new ⊎ (IsOption word old new ⊎ IsPair word old new))

-- words, one behind another
unfoldable pub PutsWords : List (List ℕ) → SoFar → SoFar → Type 0
PutsWords [] old new = new ≡ old
PutsWords (word ∷ words) old new = (mid : SoFar) × PutsWord word old mid × PutsWords words mid new

-- words name a file and say this
abbrev pub Says : List (List ℕ) → List ℕ → Said → Type 0
Says words file said = PutsWords words no_word (record { pending = None; file = Some file; said = said })
