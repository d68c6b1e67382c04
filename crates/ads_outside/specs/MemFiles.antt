-- Files in memory.
use Rattle.std.specs.Prelude.{ℕ, List, Option, Some, None, length, nat_lt, if◌then◌else◌}
use Rattle.ads_outside.specs.declared.got.Got.{Got}
use Rattle.ads_outside.specs.declared.got.Got.TheVariants as got
use Rattle.ads_outside.specs.declared.named_file.NamedFile.{NamedFile}
use Rattle.ads_outside.specs.Limit.{file_limit}
use Rattle.ads_outside.specs.Named.{bytes_of}
use Rattle.ads_outside.specs.FailingCalls.{FailingCalls, fails_next, called, faulted}

-- the files, the names that were read, and the calls that are to fail
pub record HeldFiles : Type 0 where
  pub files : List NamedFile
  pub names : List (List ℕ)
  pub failing : FailingCalls

-- what is answered of a file: a missing one is a fault
abbrev pub got_of : Option (List ℕ) → Got
got_of None = got.Failed
got_of (Some bytes) = if nat_lt file_limit (length bytes) then got.TooLong else got.Bytes bytes

-- what the next call answers
abbrev pub answer_of : HeldFiles → List ℕ → Got
answer_of held name =
    if fails_next held.failing then got.Failed else got_of (bytes_of held.files name)

-- the calls after one that answered this
abbrev pub failing_after : Got → FailingCalls → FailingCalls
failing_after (got.Bytes bytes) f = called f
failing_after got.TooLong f = called f
failing_after got.Failed f = faulted f
failing_after got.Memory f = called f
