-- The setup of what was said. This project's own choice.
use Rattle.std.specs.Prelude.{◌≡◌, ◌==◌, ℕ, false, List, [], ◌∷◌, ◌++◌, length, Option, Some, None, is_some, codes, if◌then◌else◌}
use Rattle.daemon_words.specs.declared.field.Field.{Field}
use Rattle.daemon_words.specs.declared.field.Field.TheVariants.{SaveEach, StoreDamaged, KeepDescription}
use Rattle.daemon_words.specs.declared.log_form.LogForm.TheVariants.{Plain}
use Rattle.daemon_words.specs.declared.profile_word.ProfileWord.TheVariants.{Wide}
use Rattle.daemon_words.specs.declared.seconds.Seconds.{Seconds}
use Rattle.daemon_words.specs.declared.settle.Settle.{Settle}
use Rattle.daemon_words.specs.declared.setup.Setup.{Setup}
use Rattle.daemon_words.specs.Said.{Said}

-- what was said, or what stands for nothing
abbrev pub said_or : {X : Type 0} → X → Option X → X
said_or other None = other
said_or other (Some x) = x

-- a line with one more text, behind a comma and a blank where something stands before it
abbrev pub line_with : List ℕ → List ℕ → List ℕ
line_with line text = if length line == 0 then text else line ++ codes ", " ++ text

-- a line with more texts
unfoldable pub line_with_all : List ℕ → List (List ℕ) → List ℕ
line_with_all line [] = line
line_with_all line (text ∷ texts) = line_with_all (line_with line text) texts

-- texts with a comma and a blank between each two
abbrev pub joined : List (List ℕ) → List ℕ
joined texts = line_with_all [] texts

-- where it listens: the addresses that were said, or this one
abbrev pub listen_or : List ℕ → List (List ℕ) → List ℕ
listen_or other [] = other
listen_or other (text ∷ texts) = joined (text ∷ texts)

-- seconds between two looks at what is to be saved: 10 where nothing was said
abbrev pub seconds_or : Option Seconds → ℕ
seconds_or None = 10
seconds_or (Some s) = s.count

-- seconds for which a changed description is to stand: 0 where nothing was said
abbrev pub settle_or : Option Settle → ℕ
settle_or None = 0
settle_or (Some s) = s.count

-- what was said of a store, where none is named: what is first of how often to save, a damaged store, and descriptions that are kept
abbrev pub lacks_store : Said → Option Field
lacks_store said = if is_some said.store then None
    else if is_some said.save_each then Some SaveEach
    else if said.begins then Some StoreDamaged
    else if said_or false said.keeps then Some KeepDescription else None

-- a setup has the fields that were said; of the description it is the one that was said, or this file
pub record SetsUp (said : Said) (file : List ℕ) (setup : Setup) : Type 0 where
  pub description : setup.description ≡ said_or file said.description
  pub listen : setup.listen ≡ listen_or (codes "127.0.0.1:48898") said.listen
  pub store : setup.store ≡ said.store
  pub save_each : setup.save_each ≡ seconds_or said.save_each
  pub begins : setup.begins_damaged ≡ said.begins
  pub keeps : setup.keeps_description ≡ said_or false said.keeps
  pub settle : setup.settle ≡ settle_or said.settle
  pub allow : setup.allow ≡ said.allow
  pub others : setup.others ≡ said.others
  pub profile : setup.profile ≡ said_or Wide said.profile
  pub status : setup.status ≡ said.status
  pub log : setup.log ≡ said_or Plain said.log
  pub stop_file : setup.stop_file ≡ said.stop_file
