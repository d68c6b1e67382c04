-- What is written of a read, by the form of its sum. No public clause cites it.
use Rattle.std.specs.Prelude.{◌≡◌, ℕ, List, ◌++◌, length, Bool, true, false}
use Rattle.std.specs.Int.{w32, to_le_bytes}
use Rattle.spec_formats.specs.Codes.{no_error}
use Rattle.spec_formats.specs.Request.{Request}
use Rattle.spec_machine.specs.Acts.{Outcome}
use Rattle.sum_commands.specs.declared.form.Form.{Form}
use Rattle.sum_commands.specs.declared.form.Form.TheVariants as form
use Rattle.sum_commands.specs.Parts.{written_over}

-- a sum of this form is of reads
abbrev pub is_of_reads : Form → Bool
is_of_reads form.Reads = true
is_of_reads form.Writes = false
is_of_reads form.ReadWrites = false
is_of_reads form.ToldReads = true
is_of_reads form.ShortReads = true
is_of_reads form.Additions = false
is_of_reads form.ShortAdditions = false
is_of_reads form.Deletions = false

-- how long the result of a read is: only a sum of plain reads does not tell how many bytes were given
abbrev pub read_width : Form → ℕ
read_width form.Reads = 4
read_width _ = 8

-- the result of a read with this code, which gave so many bytes
abbrev pub read_front : Form → ℕ → ℕ → List ℕ
read_front form.Reads code given = to_le_bytes w32 code
read_front _ code given = to_le_bytes w32 code ++ to_le_bytes w32 given

-- how many zeros fill a read that lacks so many bytes
abbrev pub zeros_of : Form → ℕ → ℕ
zeros_of form.Reads lacks = lacks
zeros_of form.ToldReads lacks = lacks
zeros_of _ lacks = 0

-- a read is well, its bytes were written over those that stand at a place, and it left the service as it was
pub record WritesLent {V S : Type 0} (stands_for : V → S → Type 0) (given : S → Request → Outcome) (leaves : S → Request → S)
    (r : Request) (before : S) (service : V) (len at : ℕ) (room room' : List ℕ) : Type 0 where
  pub state : stands_for service (leaves before r)
  pub code : (given before r).code ≡ no_error
  pub long : length (given before r).bytes ≡ len
  pub bytes : room' ≡ written_over at (given before r).bytes room
