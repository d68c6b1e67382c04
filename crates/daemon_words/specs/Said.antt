-- What words and a configuration say of a daemon, a field at a time. This project's own choice.
use Rattle.std.specs.Prelude.{◌≡◌, ℕ, Bool, true, false, List, [], ◌∷◌, ◌++◌, Option, Some, None, IsSome, IsTrue, decimal}
use Rattle.daemon_words.specs.declared.field.Field.{Field}
use Rattle.daemon_words.specs.declared.field.Field.TheVariants.{Description, Listen, Store, SaveEach, Allow, OtherRoutes, Profile, Signal, Status, Log}
use Rattle.daemon_words.specs.declared.field.Field.TheVariants.{StopFile, StoreDamaged, KeepDescription, Settle}
use Rattle.daemon_words.specs.declared.ip_net.IpNet.{IpNet}
use Rattle.daemon_words.specs.declared.seconds.Seconds.{Seconds}
use Rattle.daemon_words.specs.declared.settle.Settle as settle_time
use Rattle.daemon_words.specs.declared.log_form.LogForm.{LogForm}
use Rattle.daemon_words.specs.declared.others_word.OthersWord.{OthersWord}
use Rattle.daemon_words.specs.declared.profile_word.ProfileWord.{ProfileWord}
use Rattle.daemon_words.specs.declared.signal_table.SignalTable.{SignalTable}
use Rattle.daemon_words.specs.OthersWords.{others_in}
use Rattle.daemon_words.specs.YesNo.{begins_in, truth_in}

-- what was said so far; what was not is nothing, or an empty list
pub record Said : Type 0 where
  pub description : Option (List ℕ)
  pub listen : List (List ℕ)
  pub store : Option (List ℕ)
  pub save_each : Option Seconds
  pub begins : Bool
  pub keeps : Option Bool
  pub settle : Option settle_time.Settle
  pub allow : List IpNet
  pub others : Option OthersWord
  pub profile : Option ProfileWord
  pub signals : List SignalTable
  pub status : Option (List ℕ)
  pub log : Option LogForm
  pub stop_file : Option (List ℕ)

-- nothing was said
abbrev pub nothing_said : Said
nothing_said = record {
  description = None;
  listen = [];
  store = None;
  save_each = None;
  begins = false;
  keeps = None;
  settle = None;
  allow = [];
  others = None;
  profile = None;
  signals = [];
  status = None;
  log = None;
  stop_file = None;
}

-- a text is the decimal text of these seconds
abbrev pub SaysSeconds : List ℕ → Option Seconds → Type 0
SaysSeconds text None = ⊥
SaysSeconds text (Some seconds) = text ≡ decimal seconds.count

-- a text is the decimal text of the seconds for which a description is to stand
abbrev pub SaysSettle : List ℕ → Option settle_time.Settle → Type 0
SaysSettle text None = ⊥
SaysSettle text (Some settle) = text ≡ decimal settle.count

-- a text sets a field, which was not set before; of addresses and nets it adds one
abbrev pub Puts : Field → List ℕ → Said → Said → Type 0
Puts Description text old new = (old.description ≡ None) × (new ≡ record old { description = Some text })
Puts Listen text old new = new ≡ record old { listen = old.listen ++ text ∷ [] }
Puts Store text old new = (old.store ≡ None) × (new ≡ record old { store = Some text })
Puts SaveEach text old new = (old.save_each ≡ None) × SaysSeconds text new.save_each × (new ≡ record old { save_each = new.save_each })
Puts StoreDamaged text old new = (old.begins ≡ false) × IsTrue (begins_in text) × (new ≡ record old { begins = true })
Puts KeepDescription text old new = (old.keeps ≡ None) × IsSome (truth_in text) × (new ≡ record old { keeps = truth_in text })
Puts Settle text old new = (old.settle ≡ None) × SaysSettle text new.settle × (new ≡ record old { settle = new.settle })
Puts Allow text old new = (net : IpNet) × (new ≡ record old { allow = old.allow ++ net ∷ [] })
Puts OtherRoutes text old new = (old.others ≡ None) × IsSome new.others × (new ≡ record old { others = others_in text })
Puts Profile text old new = (old.profile ≡ None) × IsSome new.profile × (new ≡ record old { profile = new.profile })
Puts Signal text old new = ⊥
Puts Status text old new = (old.status ≡ None) × (new ≡ record old { status = Some text })
Puts Log text old new = (old.log ≡ None) × IsSome new.log × (new ≡ record old { log = new.log })
Puts StopFile text old new = (old.stop_file ≡ None) × (new ≡ record old { stop_file = Some text })
