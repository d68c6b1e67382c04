-- Which call a recording is, and what it may be asked for.
use Rattle.std.specs.Prelude.{ℕ, ◌≤◌, List, length}
use Rattle.spec_client.specs.Calls.{Call, Record}
use Rattle.client_replies.specs.Sound.{AreShort}
use Rattle.client_replies.specs.Stages.{mode_meant, watching_of}
use Rattle.client_calls.specs.declared.record_spec.RecordSpec.{RecordSpec}

abbrev pub record_meant : List (List ℕ) → RecordSpec → Call
record_meant names spec = Record names (watching_of (mode_meant spec.mode) spec.cycle spec.count) spec.first

-- 1 to 16 names, each short
pub record AreNames (names : List (List ℕ)) : Type 0 where
  pub some : 1 ≤ length names
  pub most : length names ≤ 16
  pub short : AreShort names

-- 1 to 1,000,000 rows, with numbers that can be put
pub record CanRecord (spec : RecordSpec) : Type 0 where
  pub some : 1 ≤ spec.count
  pub most : spec.count ≤ 1000000
  pub first : 1 ≤ spec.first
  pub last : spec.first ≤ 9223372036853775808
