-- A recording: each symbol's entry and notification in turn, samples until there are enough, then the deletions.
use Rattle.std.specs.Prelude.{ℕ, ◌+◌, List, [], ◌∷◌, ◌++◌, Bool, ◌==◌, map, nat_le, if◌then◌else◌, Option, Some, None, find}
use Rattle.std.specs.List.{list_any, list_all}
use Rattle.spec_formats.specs.Request.{DeleteDeviceNotification}
use Rattle.spec_formats.specs.SymbolEntry.{SymbolEntry}
use Rattle.spec_samples.specs.Row.{Row}
use Rattle.spec_client.specs.Calls.{Watching, entry_request, addition_request}
use Rattle.spec_client.specs.Stages.{Done, Output, ToSend, ToKeep, Recorded, Recording, RecordWait, ForEntry}
use Rattle.spec_client.specs.Stages.{ForNotification, ForSamples, ForDeletion, Records, Progress, progress}
use Rattle.spec_client.specs.Stages.{recording_ended, bad_text}

-- the notification of a handle has ended
abbrev pub has_ended : Recording → ℕ → Bool
has_ended r handle = list_any (λ h. h == handle) r.ended

abbrev pub handles_of : Recording → List ℕ
handles_of r = map (λ (n : Recorded). n.handle) r.notifications

-- an answer gave the handle
abbrev pub is_recorded : Recording → ℕ → Bool
is_recorded r handle = list_any (λ (n : Recorded). n.handle == handle) r.notifications

-- its notification of a handle
abbrev pub recorded_at : Recording → ℕ → Option Recorded
recorded_at r handle = find (λ (n : Recorded). n.handle == handle) r.notifications

-- enough samples are kept
abbrev pub has_enough : Recording → Bool
has_enough r = nat_le r.watching.count r.kept

abbrev pub recording_done : Recording → Progress
recording_done r = recording_ended Done r

-- the first of these that has not ended is deleted
unfoldable pub after_deletion : List ℕ → Recording → Progress
after_deletion [] r = recording_done r
after_deletion (handle ∷ left) r =
    let later = after_deletion left r in
    if has_ended r handle then later
    else progress (Records (ForDeletion left) r) (ToSend (DeleteDeviceNotification handle) ∷ [])

-- while samples are waited for: with enough of them the notifications are deleted, and where all have ended it is done
abbrev pub after_samples : Recording → Progress
after_samples r =
    if has_enough r then after_deletion (handles_of r) r
    else if list_all (has_ended r) (handles_of r) then recording_done r
    else progress (Records ForSamples r) []

-- the next name's entry is asked for; behind the last name samples are waited for
abbrev pub with_next_name : Recording → List (List ℕ) → Progress
with_next_name r [] = after_samples r
with_next_name r (name ∷ names) =
    progress (Records ForEntry (record r { names = names })) (ToSend (entry_request name) ∷ [])

-- a recording before its first request
abbrev pub recording_begun : List (List ℕ) → Watching → ℕ → Progress
recording_begun names watching first = with_next_name (record {
  watching = watching;
  first = first;
  names = names;
  entries = [];
  notifications = [];
  ended = [];
  kept = 0;
}) names

abbrev pub after_record_entry : Recording → Option SymbolEntry → List ℕ → Progress
after_record_entry r None payload = recording_ended (bad_text payload) r
after_record_entry r (Some e) payload =
    progress (Records (ForNotification e.name) (record r { entries = r.entries ++ e ∷ [] })) (ToSend (addition_request e r.watching) ∷ [])

-- a handle that an earlier answer gave is that notification
abbrev pub with_notification : Recording → ℕ → List ℕ → Recording
with_notification r handle name =
    if is_recorded r handle then r
    else record r { notifications = r.notifications ++ record { handle = handle; name = name } ∷ [] }

abbrev pub after_notification : Recording → ℕ → List ℕ → Progress
after_notification r handle name = with_next_name (with_notification r handle name) r.names

-- the row of a sample
abbrev pub row_of : Recording → Recorded → ℕ → List ℕ → Row
row_of r n time bytes = record { number = r.first + r.kept; name = n.name; time = time; bytes = bytes }

abbrev pub with_outputs : List Output → Progress → Progress
with_outputs outputs p = record p { outputs = outputs ++ p.outputs }

-- what it goes on with
abbrev pub gone_on : RecordWait → Recording → Progress
gone_on ForSamples r = after_samples r
gone_on wait r = progress (Records wait r) []

abbrev pub with_sample : RecordWait → Recording → ℕ → List ℕ → Recorded → Progress
with_sample wait r time bytes n =
    with_outputs (ToKeep (row_of r n time bytes) ∷ []) (gone_on wait (record r { kept = r.kept + 1 }))

-- a sample of one of its notifications is kept, while there are not enough
abbrev pub after_record_sample : RecordWait → Recording → ℕ → List ℕ → Option Recorded → Progress
after_record_sample wait r time bytes None = progress (Records wait r) []
after_record_sample wait r time bytes (Some n) =
    if has_enough r then progress (Records wait r) [] else with_sample wait r time bytes n

-- the notification of a handle has ended
abbrev pub with_end : Recording → ℕ → Recording
with_end r handle = if has_ended r handle then r else record r { ended = r.ended ++ handle ∷ [] }

abbrev pub after_record_end : RecordWait → Recording → ℕ → Progress
after_record_end wait r handle =
    if is_recorded r handle then gone_on wait (with_end r handle) else progress (Records wait r) []
