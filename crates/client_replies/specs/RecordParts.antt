-- The parts of what a recording does, as the code has them. No public clause cites this file.
use Rattle.std.specs.Prelude.{◌≡◌, ℕ, ◌+◌, List, [], ◌∷◌, ◌++◌, ◌==◌, if◌then◌else◌, Option, Some, None, option_map, Result, Ok, Err}
use Rattle.spec_formats.specs.Request.{DeleteDeviceNotification}
use Rattle.spec_formats.specs.SymbolEntry.{SymbolEntry}
use Rattle.spec_samples.specs.Row.{Row}
use Rattle.spec_client.specs.Recordings.{has_enough, recording_done, after_deletion, with_outputs, gone_on}
use Rattle.spec_client.specs.Stages as stages
use Rattle.spec_client.specs.Stages.{ToSend, ToKeep, Recorded, Recording, RecordWait, ForDeletion, Records, Progress, progress}
use Rattle.client_replies.specs.Stages.{progress_kept, recording_kept}
use Rattle.client_replies.specs.declared.recording.Recording as declared
use Rattle.client_replies.specs.declared.stage.Progress as kept

-- the first of these handles that has not ended, and those behind it
abbrev pub IsNextLeft : Recording → List ℕ → Option ℕ → List ℕ → Type 0
IsNextLeft r left None behind = after_deletion left r ≡ recording_done r
IsNextLeft r left (Some handle) behind =
    after_deletion left r ≡ progress (Records (ForDeletion behind) r) (ToSend (DeleteDeviceNotification handle) ∷ [])

-- the name of the notification of a handle
abbrev pub name_of_handle : ℕ → List Recorded → Option (List ℕ)
name_of_handle handle [] = None
name_of_handle handle (n ∷ ns) = if n.handle == handle then Some n.name else name_of_handle handle ns

abbrev pub with_one_kept : Recording → Recording
with_one_kept r = record r { kept = r.kept + 1 }

abbrev pub with_entry : Recording → SymbolEntry → Recording
with_entry r e = record r { entries = r.entries ++ e ∷ [] }

-- the row that a sample is kept as, under the name of its notification
abbrev pub row_named : Recording → ℕ → List ℕ → List ℕ → Row
row_named r time bytes name = record { number = r.first + r.kept; name = name; time = time; bytes = bytes }

abbrev pub row_due : Recording → ℕ → ℕ → List ℕ → Option Row
row_due r handle time bytes =
    if has_enough r then None else option_map (row_named r time bytes) (name_of_handle handle r.notifications)

-- what a sample leads to, by its row
abbrev pub behind_row : RecordWait → Recording → Option Row → Progress
behind_row wait r None = progress (Records wait r) []
behind_row wait r (Some row) = with_outputs (ToKeep row ∷ []) (gone_on wait (with_one_kept r))

-- what an answer leads to, where the recording comes back behind one that is not what was asked for
abbrev pub told_in : Result kept.Progress declared.Recording → List ℕ → stages.Progress
told_in (Ok p) payload = progress_kept p
told_in (Err r) payload = stages.recording_ended (stages.bad_text payload) (recording_kept r)
