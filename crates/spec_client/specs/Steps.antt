-- What a call does when something is heard, and how it begins.
use Rattle.std.specs.Prelude.{ℕ, zero, suc, List, [], ◌∷◌, ◌==◌, if◌then◌else◌}
use Rattle.spec_formats.specs.Reply.{reply_of}
use Rattle.spec_formats.specs.Request.{ReadDeviceInfo, ReadState, WriteControl, DeleteDeviceNotification}
use Rattle.spec_formats.specs.SymbolEntry.{SymbolEntry}
use Rattle.spec_formats.specs.ValueText.{value_text}
use Rattle.spec_client.specs.Heard.{Heard, Answered, Sampled, Ended, Broken}
use Rattle.spec_client.specs.Heard as heard
use Rattle.spec_client.specs.Calls.{Call, Info, State, Control, Get, Set, Symbols, Watch, Show, Record, entry_request, upload_info_request}
use Rattle.spec_client.specs.Printed.{ok_line, ended_line, sample_line}
use Rattle.spec_client.specs.Stages.{BadPeer, TimedOut, ToSend, ToPrint, ToGet, ToSet, ToWatch, ToShow, Stage}
use Rattle.spec_client.specs.Stages.{AwaitsFacts, AwaitsState, AwaitsLast, AwaitsEntry, AwaitsUploadInfo}
use Rattle.spec_client.specs.Stages.{Watches, Records, Progress, progress, stay, ended_at, done_with}
use Rattle.spec_client.specs.Recordings.{recording_begun, recorded_at, after_record_sample, after_record_end}
use Rattle.spec_client.specs.Replies.{after_answer}

-- behind the last sample the notification is deleted
abbrev pub with_samples_left : SymbolEntry → ℕ → ℕ → List ℕ → Progress
with_samples_left e handle zero text = progress (AwaitsLast []) (ToPrint text ∷ ToSend (DeleteDeviceNotification handle) ∷ [])
with_samples_left e handle (suc left) text = progress (Watches e handle (suc left)) (ToPrint text ∷ [])

abbrev pub after_watched_sample : SymbolEntry → ℕ → ℕ → ℕ → List ℕ → Progress
after_watched_sample e handle zero time bytes = stay (Watches e handle zero)
after_watched_sample e handle (suc left) time bytes =
    with_samples_left e handle left (sample_line time (value_text e.type_id bytes))

-- samples of other notifications, and those that nobody waits for, are passed over
unfoldable pub after_sample : Stage → ℕ → ℕ → List ℕ → Progress
after_sample (Watches e watched left) handle time bytes =
    if handle == watched then after_watched_sample e watched left time bytes else stay (Watches e watched left)
after_sample (Records wait r) handle time bytes = after_record_sample wait r time bytes (recorded_at r handle)
after_sample stage handle time bytes = stay stage

-- where the watched notification ends, the call is done; a recording goes on without one that ended
unfoldable pub after_end : Stage → ℕ → Progress
after_end (Watches e watched left) handle =
    if handle == watched then done_with (ToPrint ended_line ∷ []) else stay (Watches e watched left)
after_end (Records wait r) handle = after_record_end wait r handle
after_end stage handle = stay stage

unfoldable pub after_heard : Stage → Heard → Progress
after_heard stage (Answered id error command payload) = after_answer stage error (reply_of command payload) payload
after_heard stage (Sampled handle time bytes) = after_sample stage handle time bytes
after_heard stage (Ended handle) = after_end stage handle
after_heard stage (heard.TimedOut id sent now) = ended_at stage (TimedOut sent now)
after_heard stage (Broken peer) = ended_at stage (BadPeer peer)
after_heard stage h = stay stage

-- the first request of a call
unfoldable pub begun : Call → Progress
begun Info = progress AwaitsFacts (ToSend ReadDeviceInfo ∷ [])
begun State = progress AwaitsState (ToSend ReadState ∷ [])
begun (Control ads device) = progress (AwaitsLast ok_line) (ToSend (WriteControl ads device []) ∷ [])
begun (Get name) = progress (AwaitsEntry ToGet name) (ToSend (entry_request name) ∷ [])
begun (Set name text) = progress (AwaitsEntry (ToSet text) name) (ToSend (entry_request name) ∷ [])
begun Symbols = progress AwaitsUploadInfo (ToSend upload_info_request ∷ [])
begun (Watch name watching) = progress (AwaitsEntry (ToWatch watching) name) (ToSend (entry_request name) ∷ [])
begun (Show name) = progress (AwaitsEntry ToShow name) (ToSend (entry_request name) ∷ [])
begun (Record names watching first) = recording_begun names watching first
