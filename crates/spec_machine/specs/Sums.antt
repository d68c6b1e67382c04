-- Sum commands: their parts, one after another, and the packing of what the parts gave.
-- Beckhoff Information System, "ADS Sum Command".
use Rattle.std.specs.Prelude.{ℕ, zero, suc, ◌+◌, ◌*◌, List, [], ◌∷◌, ◌++◌, length, take, drop}
use Rattle.std.specs.Prelude.{flat_map, sum, nat_lt, not, ◌||◌, ◌==◌, if◌then◌else◌}
use Rattle.std.specs.Prelude.{Option, Some, None}
use Rattle.std.specs.Int.{w32, to_le_bytes}
pub use Rattle.spec_frames.specs.Number.{filled}
use Rattle.spec_formats.specs.Codes.{invalid_size, invalid_value}
use Rattle.spec_formats.specs.Numbers.{number32}
use Rattle.spec_formats.specs.Ranges.{greatest_len}
use Rattle.spec_formats.specs.Request.{Request, Read, Write, ReadWrite, AddDeviceNotification, DeleteDeviceNotification}
use Rattle.spec_machine.specs.Acts.{Outcome}

-- what parts give and leave, one after another, over any meaning of a part: what it gives in a state,
-- and the state that it leaves
unfoldable pub given_in_turn : {S P R : Type 0} → (S → P → R) → (S → P → S) → S → List P → List R
given_in_turn gives leaves s [] = []
given_in_turn gives leaves s (p ∷ ps) = gives s p ∷ given_in_turn gives leaves (leaves s p) ps

unfoldable pub left_in_turn : {S P : Type 0} → (S → P → S) → S → List P → S
left_in_turn leaves s [] = s
left_in_turn leaves s (p ∷ ps) = left_in_turn leaves (leaves s p) ps

-- how the parts of a sum are packed: reads with their lengths, writes, or reads and writes; reads whose results tell how
-- many bytes each gave, with the lengths that they asked; additions of notifications, whose results tell their handles
pub data SumForm : Type 0 where
  OfReads : List ℕ → SumForm
  OfWrites : SumForm
  OfReadWrites : SumForm
  OfToldReads : List ℕ → SumForm
  OfAdditions : SumForm

-- a sum that is taken apart: how long its data must be, the greatest length of its reply, its parts,
-- and how they are packed
pub record SumRequest : Type 0 where
  pub data_len : ℕ
  pub reply_len : ℕ
  pub parts : List Request
  pub form : SumForm

-- a number of each head: n heads of a width
abbrev pub numbers_of_heads : ℕ → ℕ → ℕ → List ℕ → List ℕ
numbers_of_heads zero width at bytes = []
numbers_of_heads (suc n) width at bytes =
    number32 at bytes ∷ numbers_of_heads n width at (drop width bytes)

-- n times group 4, offset 4, length 4
abbrev pub read_parts : ℕ → List ℕ → List Request
read_parts zero heads = []
read_parts (suc n) heads =
    Read (number32 0 heads) (number32 4 heads) (number32 8 heads) ∷ read_parts n (drop 12 heads)

-- n times group 4, offset 4, length 4, then the data in order
abbrev pub write_parts : ℕ → List ℕ → List ℕ → List Request
write_parts zero heads bytes = []
write_parts (suc n) heads bytes =
    Write (number32 0 heads) (number32 4 heads) (take (number32 8 heads) bytes)
    ∷ write_parts n (drop 12 heads) (drop (number32 8 heads) bytes)

-- n times group 4, offset 4, read length 4, write length 4, then the data in order
abbrev pub read_write_parts : ℕ → List ℕ → List ℕ → List Request
read_write_parts zero heads bytes = []
read_write_parts (suc n) heads bytes =
    ReadWrite (number32 0 heads) (number32 4 heads) (number32 8 heads) (take (number32 12 heads) bytes)
    ∷ read_write_parts n (drop 16 heads) (drop (number32 12 heads) bytes)

-- how long the heads of n additions are: with the 16 reserved bytes of the command's payload, or without them, which the data
-- tells by its length
abbrev pub addition_width : ℕ → List ℕ → ℕ
addition_width n bytes = if length bytes == 24 * n then 24 else 40

-- n heads of this width: group 4, offset 4, length 4, transmission mode 4, max delay 4, cycle time 4, and what is reserved
abbrev pub addition_parts : ℕ → ℕ → List ℕ → List Request
addition_parts zero width heads = []
addition_parts (suc n) width heads =
    AddDeviceNotification (number32 0 heads) (number32 4 heads) (number32 8 heads) (number32 12 heads) (number32 16 heads)
    (number32 20 heads)
    ∷ addition_parts n width (drop width heads)

-- n times notification handle 4
abbrev pub deletion_parts : ℕ → List ℕ → List Request
deletion_parts zero heads = []
deletion_parts (suc n) heads = DeleteDeviceNotification (number32 0 heads) ∷ deletion_parts n (drop 4 heads)

abbrev pub sum_of_reads : ℕ → List ℕ → SumRequest
sum_of_reads n bytes = record {
  data_len = 12 * n;
  reply_len = 4 * n + sum (numbers_of_heads n 12 8 bytes);
  parts = read_parts n bytes;
  form = OfReads (numbers_of_heads n 12 8 bytes);
}

abbrev pub sum_of_writes : ℕ → List ℕ → SumRequest
sum_of_writes n bytes = record {
  data_len = 12 * n + sum (numbers_of_heads n 12 8 bytes);
  reply_len = 4 * n;
  parts = write_parts n bytes (drop (12 * n) bytes);
  form = OfWrites;
}

abbrev pub sum_of_read_writes : ℕ → List ℕ → SumRequest
sum_of_read_writes n bytes = record {
  data_len = 16 * n + sum (numbers_of_heads n 16 12 bytes);
  reply_len = 8 * n + sum (numbers_of_heads n 16 8 bytes);
  parts = read_write_parts n bytes (drop (16 * n) bytes);
  form = OfReadWrites;
}

-- reads whose results tell their lengths, each as long as what it gives
abbrev pub sum_of_short_reads : ℕ → List ℕ → SumRequest
sum_of_short_reads n bytes = record (sum_of_reads n bytes) { reply_len = 8 * n + sum (numbers_of_heads n 12 8 bytes); form = OfReadWrites }

-- reads whose results tell their lengths, each filled to the length that it asks
abbrev pub sum_of_told_reads : ℕ → List ℕ → SumRequest
sum_of_told_reads n bytes = record (sum_of_short_reads n bytes) { form = OfToldReads (numbers_of_heads n 12 8 bytes) }

-- additions of notifications, whose results tell their handles, where a head has this width
abbrev pub additions_of_width : ℕ → ℕ → List ℕ → SumRequest
additions_of_width width n bytes = record {
  data_len = width * n;
  reply_len = 8 * n;
  parts = addition_parts n width bytes;
  form = OfAdditions;
}

-- the same, where the data tells the width
abbrev pub sum_of_additions : ℕ → List ℕ → SumRequest
sum_of_additions n bytes = additions_of_width (addition_width n bytes) n bytes

-- deletions of notifications
abbrev pub sum_of_deletions : ℕ → List ℕ → SumRequest
sum_of_deletions n bytes = record {
  data_len = 4 * n;
  reply_len = 4 * n;
  parts = deletion_parts n bytes;
  form = OfWrites;
}

-- This project's own choice: how many parts a sum may have.
abbrev pub MAX_PARTS : ℕ
MAX_PARTS = 500

-- the code that refuses a sum of n parts, before any part is run
unfoldable pub sum_refusal : ℕ → ℕ → ℕ → ℕ → ℕ → Option ℕ
sum_refusal n data_len len reply_len read_len =
    if nat_lt MAX_PARTS n then Some invalid_value
    else if not (data_len == len) then Some invalid_size
    else if nat_lt read_len reply_len || nat_lt greatest_len reply_len then Some invalid_size
    else None

abbrev pub codes_of : List Outcome → List ℕ
codes_of os = flat_map (λ (o : Outcome). to_le_bytes w32 o.code) os

-- data filled with zeros to the asked lengths
abbrev pub filled_data : List ℕ → List Outcome → List ℕ
filled_data [] os = []
filled_data (len ∷ lens) [] = []
filled_data (len ∷ lens) (o ∷ os) = filled len o.bytes ++ filled_data lens os

-- each result, and the length of what was given
abbrev pub told : List Outcome → List ℕ
told os = flat_map (λ (o : Outcome). to_le_bytes w32 o.code ++ to_le_bytes w32 (length o.bytes)) os

-- each result, and the handle that was given, or 0 where there is none
abbrev pub with_handles : List Outcome → List ℕ
with_handles os = flat_map (λ (o : Outcome). to_le_bytes w32 o.code ++ to_le_bytes w32 (number32 0 o.bytes)) os

-- n results of 4 bytes, then the data of each part, as long as it asked; n results of 4 bytes; n times
-- result 4 and length 4, then the data, or the data of each part as long as it asked; n times result 4 and handle 4
unfoldable pub packed : SumForm → List Outcome → List ℕ
packed (OfReads lens) os = codes_of os ++ filled_data lens os
packed OfWrites os = codes_of os
packed OfReadWrites os = told os ++ flat_map (λ (o : Outcome). o.bytes) os
packed (OfToldReads lens) os = told os ++ filled_data lens os
packed OfAdditions os = with_handles os
