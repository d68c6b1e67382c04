-- Runners whose requests can be sent, one after another.
use Rattle.std.specs.Prelude.{ℕ, ◌+◌, ◌≤◌, ◌<◌, ◌^◌, List, [], ◌∷◌, length}
use Rattle.spec_formats.specs.Request as request
use Rattle.spec_client.specs.Unanswered.{outstanding_count}
use Rattle.spec_client.specs.Calls.{Call, Info, State, Control, Get, Set, Symbols, Watch, Show, Record, MAX_SIZE}
pub use Rattle.spec_client.specs.Calls.{MAX_TEXT, AreShort}
use Rattle.spec_client.specs.Stages.{Output, ToSend, ToPrint, ToKeep, ForSamples, Stage, AwaitsEntry}
use Rattle.spec_client.specs.Stages.{AwaitsHandle, AwaitsTypeInfo, AwaitsTypes, Watches, Records}
use Rattle.spec_client.specs.Runner.{Runner}
use Rattle.client_replies.specs.Rows.{HasRowNumbers}

-- each text of the call is short, and its rows have numbers from 1 to 2 ^ 63 - 1
abbrev pub HasShortTexts : Call → Type 0
HasShortTexts Info = Unit {0}
HasShortTexts State = Unit {0}
HasShortTexts (Control ads device) = Unit {0}
HasShortTexts (Get name) = length name ≤ MAX_TEXT
HasShortTexts (Set name text) = (length name ≤ MAX_TEXT) × (length text ≤ MAX_TEXT)
HasShortTexts Symbols = Unit {0}
HasShortTexts (Watch name watching) = length name ≤ MAX_TEXT
HasShortTexts (Show name) = length name ≤ MAX_TEXT
HasShortTexts (Record names watching first) = AreShort names × (0 < first) × (first + watching.count ≤ 2 ^ 63)

-- the greatest length of the data of a request
abbrev pub MAX_DATA : ℕ
MAX_DATA = 2000000

-- the data of a request is short enough to be sent
abbrev pub HasShortData : request.Request → Type 0
HasShortData (request.Write group offset bytes) = length bytes ≤ MAX_DATA
HasShortData (request.WriteControl ads device bytes) = length bytes ≤ MAX_DATA
HasShortData (request.DeviceNotification bytes) = length bytes ≤ MAX_DATA
HasShortData (request.ReadWrite group offset read_len bytes) = length bytes ≤ MAX_DATA
HasShortData r = Unit {0}

abbrev pub IsSendable : Output → Type 0
IsSendable (ToSend r) = HasShortData r
IsSendable (ToPrint text) = Unit {0}
IsSendable (ToKeep row) = (0 < row.number) × (row.number < 2 ^ 63)

abbrev pub AreSendable : List Output → Type 0
AreSendable [] = Unit {0}
AreSendable (output ∷ outputs) = IsSendable output × AreSendable outputs

-- what the stage is to send later is short
abbrev pub HasShortNames : Stage → Type 0
HasShortNames (AwaitsEntry purpose name) = length name ≤ MAX_TEXT
HasShortNames (AwaitsHandle value) = length value ≤ MAX_SIZE
HasShortNames (AwaitsTypeInfo name e) = length name ≤ MAX_TEXT
HasShortNames (AwaitsTypes name e count) = length name ≤ MAX_TEXT
HasShortNames (Records wait r) = AreShort r.names × HasRowNumbers r
HasShortNames stage = Unit {0}

-- how many requests are to be sent
abbrev pub asked_count : List Output → ℕ
asked_count [] = 0
asked_count (ToSend r ∷ outputs) = 1 + asked_count outputs
asked_count (ToPrint text ∷ outputs) = asked_count outputs
asked_count (ToKeep row ∷ outputs) = asked_count outputs

-- a call that waits for samples waits for no answer, and any other for one at most
abbrev pub most_asked : Stage → ℕ
most_asked (Watches e handle left) = 0
most_asked (Records ForSamples r) = 0
most_asked stage = 1

-- the call's requests can be sent, one after another
pub record IsSound (r : Runner) : Type 0 where
  pub names : HasShortNames r.stage
  pub sendable : AreSendable r.pending
  pub one_by_one : asked_count r.pending + outstanding_count r.client.unanswered ≤ most_asked r.stage
