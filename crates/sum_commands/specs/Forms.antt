-- The forms of a sum, part by part. No public clause cites it.
use Rattle.std.specs.Prelude.{◌≡◌, ◌≤◌, ℕ, ◌+◌, ◌*◌, List, [], ◌++◌, length, take, sum, flat_map}
use Rattle.spec_formats.specs.Numbers.{number32}
use Rattle.spec_formats.specs.Ranges.{greatest_len}
use Rattle.spec_formats.specs.Request.{Request, Read, Write, ReadWrite, DeleteDeviceNotification}
use Rattle.spec_machine.specs.Acts.{Outcome}
use Rattle.spec_machine.specs.Sums.{SumRequest, sum_of_reads, sum_of_writes, sum_of_read_writes, sum_of_told_reads, sum_of_short_reads}
use Rattle.spec_machine.specs.Sums.{additions_of_width, sum_of_deletions, addition_parts, deletion_parts, with_handles}
use Rattle.spec_machine.specs.Sums.{read_parts, write_parts, read_write_parts, numbers_of_heads, codes_of, told, filled_data, MAX_PARTS}
use Rattle.spec_machine.specs.Sums.{given_in_turn, left_in_turn}
use Rattle.sum_commands.specs.declared.form.Form.{Form}
use Rattle.sum_commands.specs.declared.form.Form.TheVariants as form
use Rattle.sum_commands.specs.Additions.{addition_of}

abbrev pub sum_in : Form → ℕ → List ℕ → SumRequest
sum_in form.Reads n bytes = sum_of_reads n bytes
sum_in form.Writes n bytes = sum_of_writes n bytes
sum_in form.ReadWrites n bytes = sum_of_read_writes n bytes
sum_in form.ToldReads n bytes = sum_of_told_reads n bytes
sum_in form.ShortReads n bytes = sum_of_short_reads n bytes
sum_in form.Additions n bytes = additions_of_width 40 n bytes
sum_in form.ShortAdditions n bytes = additions_of_width 24 n bytes
sum_in form.Deletions n bytes = sum_of_deletions n bytes

-- how long the head of a part is
abbrev pub head_width : Form → ℕ
head_width form.Reads = 12
head_width form.Writes = 12
head_width form.ReadWrites = 16
head_width form.ToldReads = 12
head_width form.ShortReads = 12
head_width form.Additions = 40
head_width form.ShortAdditions = 24
head_width form.Deletions = 4

-- how long a part's result is in the reply, with the length of its data where that is told
abbrev pub front_width : Form → ℕ
front_width form.Reads = 4
front_width form.Writes = 4
front_width form.ReadWrites = 8
front_width form.ToldReads = 8
front_width form.ShortReads = 8
front_width form.Additions = 8
front_width form.ShortAdditions = 8
front_width form.Deletions = 4

-- how many bytes the first part writes
abbrev pub written_len : Form → List ℕ → ℕ
written_len form.Reads heads = 0
written_len form.Writes heads = number32 8 heads
written_len form.ReadWrites heads = number32 12 heads
written_len form.ToldReads heads = 0
written_len form.ShortReads heads = 0
written_len form.Additions heads = 0
written_len form.ShortAdditions heads = 0
written_len form.Deletions heads = 0

-- how many bytes n parts write
abbrev pub all_written : Form → ℕ → List ℕ → ℕ
all_written form.Reads n heads = 0
all_written form.Writes n heads = sum (numbers_of_heads n 12 8 heads)
all_written form.ReadWrites n heads = sum (numbers_of_heads n 16 12 heads)
all_written form.ToldReads n heads = 0
all_written form.ShortReads n heads = 0
all_written form.Additions n heads = 0
all_written form.ShortAdditions n heads = 0
all_written form.Deletions n heads = 0

-- how many bytes n parts ask
abbrev pub all_asked : Form → ℕ → List ℕ → ℕ
all_asked form.Reads n heads = sum (numbers_of_heads n 12 8 heads)
all_asked form.Writes n heads = 0
all_asked form.ReadWrites n heads = sum (numbers_of_heads n 16 8 heads)
all_asked form.ToldReads n heads = sum (numbers_of_heads n 12 8 heads)
all_asked form.ShortReads n heads = sum (numbers_of_heads n 12 8 heads)
all_asked form.Additions n heads = 0
all_asked form.ShortAdditions n heads = 0
all_asked form.Deletions n heads = 0

-- the first part
abbrev pub part_of : Form → List ℕ → List ℕ → Request
part_of form.Reads heads bytes = Read (number32 0 heads) (number32 4 heads) (number32 8 heads)
part_of form.Writes heads bytes =
    Write (number32 0 heads) (number32 4 heads) (take (number32 8 heads) bytes)
part_of form.ReadWrites heads bytes =
    ReadWrite (number32 0 heads) (number32 4 heads) (number32 8 heads) (take (number32 12 heads) bytes)
part_of form.ToldReads heads bytes = Read (number32 0 heads) (number32 4 heads) (number32 8 heads)
part_of form.ShortReads heads bytes = Read (number32 0 heads) (number32 4 heads) (number32 8 heads)
part_of form.Additions heads bytes = addition_of heads
part_of form.ShortAdditions heads bytes = addition_of heads
part_of form.Deletions heads bytes = DeleteDeviceNotification (number32 0 heads)

abbrev pub parts_of : Form → ℕ → List ℕ → List ℕ → List Request
parts_of form.Reads n heads bytes = read_parts n heads
parts_of form.Writes n heads bytes = write_parts n heads bytes
parts_of form.ReadWrites n heads bytes = read_write_parts n heads bytes
parts_of form.ToldReads n heads bytes = read_parts n heads
parts_of form.ShortReads n heads bytes = read_parts n heads
parts_of form.Additions n heads bytes = addition_parts n 40 heads
parts_of form.ShortAdditions n heads bytes = addition_parts n 24 heads
parts_of form.Deletions n heads bytes = deletion_parts n heads

-- the results, which stand in front
abbrev pub fronts_in : Form → List Outcome → List ℕ
fronts_in form.Reads os = codes_of os
fronts_in form.Writes os = codes_of os
fronts_in form.ReadWrites os = told os
fronts_in form.ToldReads os = told os
fronts_in form.ShortReads os = told os
fronts_in form.Additions os = with_handles os
fronts_in form.ShortAdditions os = with_handles os
fronts_in form.Deletions os = codes_of os

-- the data, which stands behind
abbrev pub data_in : Form → ℕ → List ℕ → List Outcome → List ℕ
data_in form.Reads n heads os = filled_data (numbers_of_heads n 12 8 heads) os
data_in form.Writes n heads os = []
data_in form.ReadWrites n heads os = flat_map (λ (o : Outcome). o.bytes) os
data_in form.ToldReads n heads os = filled_data (numbers_of_heads n 12 8 heads) os
data_in form.ShortReads n heads os = flat_map (λ (o : Outcome). o.bytes) os
data_in form.Additions n heads os = []
data_in form.ShortAdditions n heads os = []
data_in form.Deletions n heads os = []

-- there are n heads, and the data that they say is written
pub record HasParts (form : Form) (n : ℕ) (heads written : List ℕ) : Type 0 where
  pub heads_there : head_width form * n ≤ length heads
  pub written_there : all_written form n heads ≤ length written

-- the sum runs: few parts, all bytes are there and no more, and the reply is short enough
pub record IsAccepted (s : SumRequest) (n len read_len : ℕ) : Type 0 where
  pub few : n ≤ MAX_PARTS
  pub whole : s.data_len ≡ len
  pub asked : s.reply_len ≤ read_len
  pub short : s.reply_len ≤ greatest_len

-- n parts are run: the state that they leave, and what was appended to the fronts and to the data
pub record RunsAll {V S : Type 0} (stands_for : V → S → Type 0) (given : S → Request → Outcome) (leaves : S → Request → S)
    (form : Form) (n : ℕ) (heads written : List ℕ) (before : S) (after : V) (fronts fronts' : List ℕ) (out out' : List ℕ) : Type 0 where
  pub state : stands_for after (left_in_turn leaves before (parts_of form n heads written))
  pub front : fronts'
      ≡ fronts ++ fronts_in form (given_in_turn given leaves before (parts_of form n heads written))
  pub bytes : out'
      ≡ out ++ data_in form n heads (given_in_turn given leaves before (parts_of form n heads written))
  pub asked : length out' ≤ length out + all_asked form n heads
  pub room : length fronts' ≡ length fronts + front_width form * n

-- n parts are run, and their reply was appended
pub record Replies {V S : Type 0} (stands_for : V → S → Type 0) (given : S → Request → Outcome) (leaves : S → Request → S)
    (form : Form) (n : ℕ) (heads written : List ℕ) (before : S) (after : V) (out out' : List ℕ) : Type 0 where
  pub state : stands_for after (left_in_turn leaves before (parts_of form n heads written))
  pub bytes : out'
      ≡ out ++ (fronts_in form (given_in_turn given leaves before (parts_of form n heads written))
      ++ data_in form n heads (given_in_turn given leaves before (parts_of form n heads written)))
  pub asked : length out' ≤ length out + (front_width form * n + all_asked form n heads)
