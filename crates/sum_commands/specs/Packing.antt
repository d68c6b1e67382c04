-- What the reply of a sum has of a part, by the sum's form. No public clause cites it.
-- Beckhoff Information System, "ADS Sum Command".
use Rattle.std.specs.Prelude.{◌≡◌, ◌≤◌, ℕ, List, [], ◌++◌, length}
use Rattle.std.specs.Int.{w32, to_le_bytes}
use Rattle.spec_formats.specs.Numbers.{number32}
use Rattle.spec_formats.specs.Request.{Request}
use Rattle.spec_machine.specs.Acts.{Outcome}
use Rattle.spec_machine.specs.Sums.{filled}
use Rattle.sum_commands.specs.declared.form.Form.{Form}
use Rattle.sum_commands.specs.declared.form.Form.TheVariants as form
use Rattle.sum_commands.specs.Parts.{asked_of, written_over}

-- a result, and behind it the length of what was given
abbrev pub told_front : Outcome → List ℕ
told_front o = to_le_bytes w32 o.code ++ to_le_bytes w32 (length o.bytes)

-- a result, and behind it the handle that was given, or 0
abbrev pub handle_front : Outcome → List ℕ
handle_front o = to_le_bytes w32 o.code ++ to_le_bytes w32 (number32 0 o.bytes)

-- what stands in front: the result, in some forms with the length or the handle
abbrev pub front_of : Form → Outcome → List ℕ
front_of form.Reads o = to_le_bytes w32 o.code
front_of form.Writes o = to_le_bytes w32 o.code
front_of form.ReadWrites o = told_front o
front_of form.ToldReads o = told_front o
front_of form.ShortReads o = told_front o
front_of form.Additions o = handle_front o
front_of form.ShortAdditions o = handle_front o
front_of form.Deletions o = to_le_bytes w32 o.code

-- what stands behind all fronts: what was given, in some forms filled to the asked length; a write, an addition or a deletion has none
abbrev pub data_of : Form → Request → Outcome → List ℕ
data_of form.Reads r o = filled (asked_of r) o.bytes
data_of form.Writes r o = []
data_of form.ReadWrites r o = o.bytes
data_of form.ToldReads r o = filled (asked_of r) o.bytes
data_of form.ShortReads r o = o.bytes
data_of form.Additions r o = []
data_of form.ShortAdditions r o = []
data_of form.Deletions r o = []

-- a part is run in a state: the service then stands for the one that it leaves, the part's data was appended, and what
-- stands in front of it was written at its place
pub record Runs {V S : Type 0} (stands_for : V → S → Type 0) (given : S → Request → Outcome) (leaves : S → Request → S)
    (form : Form) (r : Request) (before : S) (after : V) (at : ℕ) (out out' : List ℕ) : Type 0 where
  pub state : stands_for after (leaves before r)
  pub bytes : out' ≡ written_over at (front_of form (given before r)) (out ++ data_of form r (given before r))
  pub asked : length (data_of form r (given before r)) ≤ asked_of r
