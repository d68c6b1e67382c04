-- What a request leads to once its packet has passed the checks: its one act, or, of a sum command, an act for
-- each part. Beckhoff Information System, "ADS Sum Command".
use Rattle.std.specs.Prelude.{ℕ, List, [], ◌∷◌, length, Option, Some, None}
use Rattle.std.specs.Option.{option_or}
use Rattle.spec_formats.specs.Groups.{Group, SumRead, SumWrite, SumReadWrite}
use Rattle.spec_formats.specs.Request.{Request, ReadWrite}
use Rattle.spec_machine.specs.Profile.{Profile}
use Rattle.spec_machine.specs.World.{Setup}
use Rattle.spec_machine.specs.Client.{Client, client_after}
use Rattle.spec_machine.specs.Acts.{Act, effect_of}
use Rattle.spec_machine.specs.Answers.{answered_group, READ_WRITE}
use Rattle.spec_machine.specs.Writes.{Asker}
use Rattle.spec_machine.specs.Requests.{act_of}
use Rattle.spec_machine.specs.Sums.{SumRequest, sum_of_reads, sum_of_writes, sum_of_read_writes}
use Rattle.spec_machine.specs.Sums.{sum_refusal, given_in_turn}
use Rattle.spec_machine.specs.MoreSums.{more_sums}
use Rattle.spec_machine.specs.Decisions.{Single, Sum, Decision, Perform, refuse}

-- each part is decided for the client that the parts before it left
abbrev pub client_after_request : Setup → Asker → Client → Request → Client
client_after_request d k c r = client_after c (effect_of (act_of d c k r))

unfoldable pub acts_of : Setup → Client → Asker → List Request → List Act
acts_of d c k requests = given_in_turn (λ c r. act_of d c k r) (client_after_request d k) c requests

-- the sum that a group of every server is, by the number of its parts and its data
abbrev pub sum_of_group : Option Group → Option (ℕ → List ℕ → SumRequest)
sum_of_group (Some SumRead) = Some sum_of_reads
sum_of_group (Some SumWrite) = Some sum_of_writes
sum_of_group (Some SumReadWrite) = Some sum_of_read_writes
sum_of_group group = None

-- the sum that a ReadWrite of a group is to a server of this profile: one that it knows besides, or what the group says
abbrev pub known_sum : Profile → ℕ → Option (ℕ → List ℕ → SumRequest)
known_sum profile group = option_or (more_sums profile group) (sum_of_group (answered_group READ_WRITE group))

abbrev pub decide_single : Setup → Client → Asker → Request → Decision
decide_single d c k r = Perform (acts_of d c k (r ∷ [])) Single

-- a sum is refused whole, before any part is run, or each part is run
abbrev pub decide_parts : Setup → Client → Asker → SumRequest → Option ℕ → Decision
decide_parts d c k s (Some code) = refuse code
decide_parts d c k s None = Perform (acts_of d c k s.parts) (Sum s.form)

abbrev pub decide_sum : Setup → Client → Asker → ℕ → ℕ → ℕ → SumRequest → Decision
decide_sum d c k n len read_len s = decide_parts d c k s (sum_refusal n s.data_len len s.reply_len read_len)

-- a sum's offset is the number of its parts
abbrev pub decide_read_write : Setup → Client → Asker → Option (ℕ → List ℕ → SumRequest) → ℕ → ℕ → ℕ → List ℕ → Decision
decide_read_write d c k (Some sum) group n read_len bytes = decide_sum d c k n (length bytes) read_len (sum n bytes)
decide_read_write d c k None group n read_len bytes = decide_single d c k (ReadWrite group n read_len bytes)

unfoldable pub decide_request : Setup → Client → Asker → Request → Decision
decide_request d c k (ReadWrite group offset read_len bytes) =
    decide_read_write d c k (known_sum d.profile group) group offset read_len bytes
decide_request d c k r = decide_single d c k r
