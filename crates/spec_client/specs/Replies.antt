-- What the answer to a call's request leads to. Beckhoff Information System, "ADS Commands".
use Rattle.std.specs.Prelude.{ℕ, List, [], ◌∷◌, map, length, ◌==◌, if◌then◌else◌, Option, Some, None}
use Rattle.spec_formats.specs.Numbers.{number32}
use Rattle.spec_formats.specs.Reply.{Reply, ReadDeviceInfo, Read, ReadState, AddDeviceNotification, ReadWrite, result_of}
use Rattle.spec_formats.specs.SymbolEntry.{SymbolEntry}
use Rattle.spec_formats.specs.TypeEntry.{TypeEntry}
use Rattle.spec_plant.specs.TypeTexts.{type_text_of}
use Rattle.spec_formats.specs.ValueText.{value_text}
use Rattle.spec_client.specs.Calls.{value_request, handle_request, write_request, release_request}
use Rattle.spec_client.specs.Calls.{upload_request, type_info_request, type_upload_request, addition_request}
use Rattle.spec_client.specs.Entries.{one_entry_in, entries_in, types_in}
use Rattle.spec_client.specs.Leaves.{Leaf, leaves_of, leaf_line}
use Rattle.spec_client.specs.LeafTypes.{is_sound_text}
use Rattle.spec_client.specs.Printed.{line, ok_line, facts_line, state_line, entry_line}
use Rattle.spec_client.specs.Stages.{Refused, BadValue, ToSend, ToPrint, Purpose, ToGet, ToSet, ToWatch}
use Rattle.spec_client.specs.Stages.{ToShow, RecordWait, ForEntry, ForNotification, ForDeletion, Recording}
use Rattle.spec_client.specs.Stages.{Stage, AwaitsFacts, AwaitsState, AwaitsLast, AwaitsEntry, AwaitsValue}
use Rattle.spec_client.specs.Stages.{AwaitsHandle, AwaitsWrite, AwaitsUploadInfo, AwaitsUpload}
use Rattle.spec_client.specs.Stages.{AwaitsNotification, Watches, AwaitsTypeInfo, AwaitsTypes, AwaitsLeaves}
use Rattle.spec_client.specs.Stages.{Records, Progress, progress, stay, ended, ended_at, done_with, bad_text}
use Rattle.spec_client.specs.Recordings.{after_record_entry, after_notification, after_deletion}
use Rattle.spec_client.specs.ValueReading.{value_of_text}

-- the bytes that a reply gives, where it gives bytes
abbrev pub bytes_given : Reply → List ℕ
bytes_given (Read result bytes) = bytes
bytes_given (ReadWrite result bytes) = bytes
bytes_given reply = []

abbrev pub handle_given : Reply → ℕ
handle_given (AddDeviceNotification result handle) = handle
handle_given reply = 0

abbrev pub facts_given : Reply → List ℕ
facts_given (ReadDeviceInfo result facts) = facts_line facts
facts_given reply = []

abbrev pub state_given : Reply → List ℕ
state_given (ReadState result ads device) = state_line ads device
state_given reply = []

-- the value that the text is read as is written by a handle
abbrev pub after_value_read : List ℕ → Option (List ℕ) → Progress
after_value_read name None = ended BadValue
after_value_read name (Some value) = progress (AwaitsHandle value) (ToSend (handle_request name) ∷ [])

abbrev pub after_entry : Purpose → List ℕ → SymbolEntry → Progress
after_entry ToGet name e = progress (AwaitsValue e) (ToSend (value_request name e.size) ∷ [])
after_entry (ToSet text) name e = after_value_read name (value_of_text e.type_id e.size text)
after_entry (ToWatch watching) name e = progress (AwaitsNotification e watching) (ToSend (addition_request e watching) ∷ [])
after_entry ToShow name e = progress (AwaitsTypeInfo name e) (ToSend type_info_request ∷ [])

abbrev pub after_entry_read : Purpose → List ℕ → Option SymbolEntry → List ℕ → Progress
after_entry_read purpose name None payload = ended (bad_text payload)
after_entry_read purpose name (Some e) payload = after_entry purpose name e

abbrev pub after_value : SymbolEntry → List ℕ → List ℕ → Progress
after_value e bytes payload =
    if length bytes == e.size then done_with (ToPrint (line (value_text e.type_id bytes)) ∷ [])
    else ended (bad_text payload)

abbrev pub after_handle : List ℕ → List ℕ → List ℕ → Progress
after_handle value bytes payload =
    if length bytes == 4 then progress (AwaitsWrite (number32 0 bytes)) (ToSend (write_request (number32 0 bytes) value) ∷ [])
    else ended (bad_text payload)

-- the number of symbols 4, the size of the upload 4
abbrev pub after_upload_info : List ℕ → List ℕ → Progress
after_upload_info bytes payload =
    if length bytes == 8 then progress (AwaitsUpload (number32 0 bytes)) (ToSend (upload_request (number32 4 bytes)) ∷ [])
    else ended (bad_text payload)

abbrev pub after_upload : Option (List SymbolEntry) → List ℕ → Progress
after_upload None payload = ended (bad_text payload)
after_upload (Some entries) payload = done_with (map (λ e. ToPrint (entry_line e)) entries)

-- symbols 4, size of their upload 4, types 4, size of their upload 4, and 8 bytes that are not looked at
abbrev pub after_type_info : List ℕ → SymbolEntry → List ℕ → List ℕ → Progress
after_type_info name e bytes payload =
    if length bytes == 24
    then progress (AwaitsTypes name e (number32 8 bytes)) (ToSend (type_upload_request (number32 12 bytes)) ∷ [])
    else ended (bad_text payload)

abbrev pub after_types : List ℕ → SymbolEntry → Option (List TypeEntry) → List ℕ → Progress
after_types name e None payload = ended (bad_text payload)
after_types name e (Some types) payload =
    if is_sound_text types e.size (type_text_of e.type_name)
    then progress (AwaitsLeaves e.size (leaves_of types e.name e.type_name)) (ToSend (value_request name e.size) ∷ [])
    else ended (bad_text payload)

abbrev pub after_leaves : ℕ → List Leaf → List ℕ → List ℕ → Progress
after_leaves size leaves bytes payload =
    if length bytes == size then done_with (map (λ l. ToPrint (leaf_line bytes l)) leaves)
    else ended (bad_text payload)

-- what a reply with the result 0 leads to in a recording
abbrev pub after_record_reply : RecordWait → Recording → Reply → List ℕ → Progress
after_record_reply ForEntry r reply payload = after_record_entry r (one_entry_in (bytes_given reply)) payload
after_record_reply (ForNotification name) r reply payload = after_notification r (handle_given reply) name
after_record_reply (ForDeletion left) r reply payload = after_deletion left r
after_record_reply wait r reply payload = stay (Records wait r)

-- what a reply with the result 0 leads to
unfoldable pub after_reply : Stage → Reply → List ℕ → Progress
after_reply AwaitsFacts reply payload = done_with (ToPrint (facts_given reply) ∷ [])
after_reply AwaitsState reply payload = done_with (ToPrint (state_given reply) ∷ [])
after_reply (AwaitsLast []) reply payload = done_with []
after_reply (AwaitsLast text) reply payload = done_with (ToPrint text ∷ [])
after_reply (AwaitsEntry purpose name) reply payload =
    after_entry_read purpose name (one_entry_in (bytes_given reply)) payload
after_reply (AwaitsValue e) reply payload = after_value e (bytes_given reply) payload
after_reply (AwaitsHandle value) reply payload = after_handle value (bytes_given reply) payload
after_reply (AwaitsWrite handle) reply payload = progress (AwaitsLast ok_line) (ToSend (release_request handle) ∷ [])
after_reply AwaitsUploadInfo reply payload = after_upload_info (bytes_given reply) payload
after_reply (AwaitsUpload count) reply payload = after_upload (entries_in count (bytes_given reply)) payload
after_reply (AwaitsNotification e watching) reply payload = stay (Watches e (handle_given reply) watching.count)
after_reply (AwaitsTypeInfo name e) reply payload = after_type_info name e (bytes_given reply) payload
after_reply (AwaitsTypes name e count) reply payload = after_types name e (types_in count (bytes_given reply)) payload
after_reply (AwaitsLeaves size leaves) reply payload = after_leaves size leaves (bytes_given reply) payload
after_reply (Records wait r) reply payload = after_record_reply wait r reply payload
after_reply stage reply payload = stay stage

abbrev pub after_reply_read : Stage → Option Reply → List ℕ → Progress
after_reply_read stage None payload = ended_at stage (bad_text payload)
after_reply_read stage (Some reply) payload =
    if result_of reply == 0 then after_reply stage reply payload else ended_at stage (Refused (result_of reply))

-- an answer with an AMS error or a result refuses
unfoldable pub after_answer : Stage → ℕ → Option Reply → List ℕ → Progress
after_answer stage error reply payload =
    if error == 0 then after_reply_read stage reply payload else ended_at stage (Refused error)
