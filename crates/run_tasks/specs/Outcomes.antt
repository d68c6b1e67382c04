-- Outcomes of a command against its verdict; no public clause cites this.
use Rattle.std.specs.Prelude.{◌≡◌, ◌⊎◌, ◌≤◌, ◌<◌, ℕ, List, length, Option, Some, Result, Ok, Err, IsSomeAnd}
use Rattle.ads_outside.specs.declared.named_file.NamedFile.{NamedFile}
use Rattle.ads_outside.specs.Limit.{file_limit}
use Rattle.ads_outside.specs.Named.{bytes_of}
use Rattle.symbol_file.specs.declared.fault.DescFault.{DescFault}
use Rattle.symbol_file.specs.declared.fault.DescFault.TheVariants as fault
use Rattle.spec_rules.specs.TextVerdict.{Described, text_verdict}
use Rattle.type_layout.specs.Descriptions.{description_of}
use Rattle.run_tasks.specs.declared.described.Accepted.{Accepted}
use Rattle.run_tasks.specs.declared.outcome.Outcome.{Outcome}
use Rattle.run_tasks.specs.declared.status.Status.{Status}
use Rattle.run_tasks.specs.declared.status.Status.TheVariants as status
use Rattle.run_tasks.specs.Verdict.{Verdict, Ends, ended}
use Rattle.run_tasks.specs.Readings.{OverFile}

abbrev pub verdict_in : Outcome → Verdict
verdict_in o = Ends (record { status = o.status; text = o.text })

-- the outcome is the verdict's
abbrev pub IsOutcome : Verdict → Outcome → Type 0
IsOutcome verdict o = verdict_in o ≡ verdict

-- the outcome is the verdict's, or a reading failed
abbrev pub Decides : Verdict → Type 0 → Outcome → Type 0
Decides verdict reading_failed o = IsOutcome verdict o ⊎ (reading_failed × IsOutcome (ended status.ReadFault) o)

-- the file has these bytes, no more than the limit
pub record HasBytes (name bytes : List ℕ) (files : List NamedFile) : Type 0 where
  pub are : bytes_of files name ≡ Some bytes
  pub short : length bytes ≤ file_limit

-- the file is above the limit
abbrev pub IsLong : List ℕ → List NamedFile → Type 0
IsLong name files = IsSomeAnd (bytes_of files name) (λ bytes. file_limit < length bytes)

-- what the reading of a file gives: its bytes; or the end of the run, since it is too long, or could not be read
abbrev pub Finds : Option (List NamedFile) → List ℕ → Type 0 → Result (List ℕ) Outcome → Type 0
Finds held name failed (Ok bytes) = OverFile held (HasBytes name bytes)
Finds held name failed (Err o) =
    (OverFile held (IsLong name) × IsOutcome (ended status.TooLong) o)
    ⊎ (failed × IsOutcome (ended status.ReadFault) o)

-- the status of a file that gives no bytes
abbrev pub IsOfFile : Status → Type 0
IsOfFile status.TooLong = Unit {0}
IsOfFile status.ReadFault = Unit {0}
IsOfFile s = ⊥

-- no reading failed
abbrev pub IsNoReadFault : Status → Type 0
IsNoReadFault status.ReadFault = ⊥
IsNoReadFault s = Unit {0}

-- a description that is refused
abbrev pub status_of_fault : DescFault → Status
status_of_fault fault.Syntax = status.BadDescription 0 0
status_of_fault (fault.Rule number item) = status.BadDescription number item

-- that of a description's file that gives no accepted one
abbrev pub IsOfDescription : Status → Type 0
IsOfDescription (status.BadDescription n item) = Unit {0}
IsOfDescription s = IsOfFile s

-- the file has these bytes, and they write this description
pub record IsRead (signals : ℕ) (name : List ℕ) (held : Option (List NamedFile)) (read : Accepted) : Type 0 where
  pub has : OverFile held (HasBytes name read.bytes)
  pub is : Described (description_of read.description) ≡ text_verdict signals read.bytes
