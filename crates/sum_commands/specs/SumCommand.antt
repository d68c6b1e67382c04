-- A sum by its group: its parts, the code that refuses it, its reply.
-- Beckhoff Information System, "ADS Sum Command".
use Rattle.std.specs.Prelude.{ℕ, List, Option, Some, None, Result, Ok, Err, ◌==◌, if◌then◌else◌}
use Rattle.spec_formats.specs.Groups.{sum_read, sum_write, sum_read_write}
use Rattle.spec_formats.specs.Request.{Request}
use Rattle.spec_machine.specs.Acts.{Outcome}
use Rattle.spec_machine.specs.Sums.{SumRequest, sum_of_reads, sum_of_writes, sum_of_read_writes, sum_of_told_reads, sum_of_short_reads}
use Rattle.spec_machine.specs.Sums.{sum_of_additions, sum_of_deletions, sum_refusal, packed}
use Rattle.spec_machine.specs.MoreSums.{sum_told_read, sum_short_read, sum_add}
use Rattle.spec_machine.specs.Sums.{given_in_turn, left_in_turn}
use Rattle.return_codes.specs.declared.code.Code.{Code}
use Rattle.return_codes.specs.Code.{number_of}

-- the sum of n parts in these bytes: reads, writes, read-writes, reads that tell their lengths, additions or deletions of
-- notifications
abbrev pub sum_of : ℕ → ℕ → List ℕ → SumRequest
sum_of group n bytes =
    if group == sum_read then sum_of_reads n bytes
    else if group == sum_write then sum_of_writes n bytes
    else if group == sum_read_write then sum_of_read_writes n bytes
    else if group == sum_told_read then sum_of_told_reads n bytes
    else if group == sum_short_read then sum_of_short_reads n bytes
    else if group == sum_add then sum_of_additions n bytes
    else sum_of_deletions n bytes

-- the code that refuses a sum
abbrev pub refusal_in : SumRequest → ℕ → ℕ → ℕ → Option ℕ
refusal_in s n len read_len = sum_refusal n s.data_len len s.reply_len read_len

-- the code of a refusal, and none of what was not refused
abbrev pub refused_by : {X : Type 0} → Result X Code → Option ℕ
refused_by (Ok x) = None
refused_by (Err code) = Some (number_of code)

-- the reply of parts that run one after another
abbrev pub sum_reply : {S : Type 0} → (S → Request → Outcome) → (S → Request → S) → S → SumRequest → List ℕ
sum_reply given leaves before s = packed s.form (given_in_turn given leaves before s.parts)

-- the state that the parts leave
abbrev pub left_by_sum : {S : Type 0} → (S → Request → S) → S → SumRequest → S
left_by_sum leaves before s = left_in_turn leaves before s.parts
