-- Where a call stands: the answer or the samples that it waits for, and what it has learned so far.
use Rattle.std.specs.Prelude.{ℕ, List, []}
use Rattle.ads_base.specs.declared.peer.Peer.{Peer}
use Rattle.ads_base.specs.declared.peer.Peer.TheVariants as peer
use Rattle.spec_formats.specs.Request.{Request}
use Rattle.spec_formats.specs.SymbolEntry.{SymbolEntry}
use Rattle.spec_samples.specs.Row.{Row}
use Rattle.spec_client.specs.Calls.{Watching}
use Rattle.spec_client.specs.Leaves.{Leaf}

-- how a call ended
pub data CallEnd : Type 0 where
  Done : CallEnd
  -- by an AMS error or a result
  Refused : (code : ℕ) → CallEnd
  BadPeer : Peer → CallEnd
  -- the text is no value of the symbol
  BadValue : CallEnd
  -- no answer came to the request that was sent at this moment
  TimedOut : (sent now : ℕ) → CallEnd

-- what a call gives to be done: a request, a printed text, a row for the table of samples
pub data Output : Type 0 where
  ToSend : Request → Output
  ToPrint : List ℕ → Output
  ToKeep : Row → Output

-- what a symbol's entry is asked for
pub data Purpose : Type 0 where
  ToGet : Purpose
  ToSet : (text : List ℕ) → Purpose
  ToWatch : Watching → Purpose
  ToShow : Purpose

-- a notification, and the name that its samples are kept under
pub record Recorded : Type 0 where
  pub handle : ℕ
  pub name : List ℕ

pub record Recording : Type 0 where
  pub watching : Watching
  -- the number of the first row
  pub first : ℕ
  -- the names whose entries are not asked for yet
  pub names : List (List ℕ)
  -- the entries so far, in the order of the names
  pub entries : List SymbolEntry
  -- in the order of the names that they were added for first
  pub notifications : List Recorded
  -- the handles of those that have ended
  pub ended : List ℕ
  -- how many samples are kept
  pub kept : ℕ

-- what a recording waits for
pub data RecordWait : Type 0 where
  ForEntry : RecordWait
  -- the notification of a symbol with this name
  ForNotification : (name : List ℕ) → RecordWait
  ForSamples : RecordWait
  -- a deletion, behind which those that have not ended of these handles are deleted
  ForDeletion : (left : List ℕ) → RecordWait

pub data Stage : Type 0 where
  AwaitsFacts : Stage
  AwaitsState : Stage
  -- the call's last answer, and what is printed then
  AwaitsLast : (text : List ℕ) → Stage
  AwaitsEntry : Purpose → (name : List ℕ) → Stage
  AwaitsValue : SymbolEntry → Stage
  -- a handle, and the bytes that are written then
  AwaitsHandle : (value : List ℕ) → Stage
  AwaitsWrite : (handle : ℕ) → Stage
  AwaitsUploadInfo : Stage
  AwaitsUpload : (count : ℕ) → Stage
  AwaitsNotification : SymbolEntry → Watching → Stage
  -- so many samples of a notification
  Watches : SymbolEntry → (handle left : ℕ) → Stage
  AwaitsTypeInfo : (name : List ℕ) → SymbolEntry → Stage
  AwaitsTypes : (name : List ℕ) → SymbolEntry → (count : ℕ) → Stage
  -- a value of this size, whose leaves are printed
  AwaitsLeaves : (size : ℕ) → List Leaf → Stage
  Records : RecordWait → Recording → Stage
  Finished : CallEnd → Stage
  -- a recording that ended, with the entries that it took
  FinishedRecording : CallEnd → (entries : List SymbolEntry) → Stage

-- where a call stands then, and what is to be done before anything more is heard
pub record Progress : Type 0 where
  pub stage : Stage
  pub outputs : List Output

abbrev pub progress : Stage → List Output → Progress
progress stage outputs = record { stage = stage; outputs = outputs }

-- nothing changes
abbrev pub stay : Stage → Progress
stay stage = progress stage []

-- a call that is no recording ends
abbrev pub ended : CallEnd → Progress
ended end = progress (Finished end) []

-- a recording ends
abbrev pub recording_ended : CallEnd → Recording → Progress
recording_ended end r = progress (FinishedRecording end r.entries) []

-- any call ends at this stage
abbrev pub ended_at : Stage → CallEnd → Progress
ended_at (Records wait r) end = recording_ended end r
ended_at stage end = ended end

-- the entries that a recording took, in the order of its names
abbrev pub entries_taken : Stage → List SymbolEntry
entries_taken (Records wait r) = r.entries
entries_taken (FinishedRecording end entries) = entries
entries_taken stage = []

-- a call is done with this
abbrev pub done_with : List Output → Progress
done_with outputs = progress (Finished Done) outputs

-- an answer that is not what was asked for, told by its bytes behind the AMS header
abbrev pub bad_text : List ℕ → CallEnd
bad_text payload = BadPeer (peer.Text payload)
