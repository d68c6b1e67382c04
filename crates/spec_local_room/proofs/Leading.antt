-- What an answer or a sample leads a bounded call to: it is over, or one request is sent, or it listens to one notification. At each
-- it has less before it.
use Rattle.std.proofs.Common.{◌≡◌, ◌⊎◌, ℕ, zero, suc, ◌+◌, ◌-◌, ◌*◌, ◌<◌, ◌≤◌, ◌^◌, List, [], ◌∷◌, ◌++◌, length, Bool, true, false, cond, refl, sym, ap, ◌∙◌}
use Rattle.std.proofs.Common.{subst, inl, inr, arith}
use Rattle.std.specs.Prelude.{Option, Some, None, option_map, ◌==◌, ◌&&◌, ◌||◌, if◌then◌else◌}
use Rattle.std.specs.List.{AllByRecursion, list_any}
use Rattle.std.specs.Int.{w32, to_le_bytes}
use Rattle.std.specs.Option.{option_and_then}
use Rattle.std.proofs.lemmas.Bool.{cond-true, eqb-true, leb-true, and_parts}
use Rattle.std.proofs.lemmas.List.{length-append}
use Rattle.spec_formats.specs.Header.{AmsAddress}
use Rattle.spec_formats.specs.Commands.{ADD_DEVICE_NOTIFICATION, DEVICE_NOTIFICATION}
use Rattle.spec_formats.specs.Numbers.{number32}
use Rattle.spec_formats.specs.Reply.{Reply, result_of}
use Rattle.spec_formats.specs.Request as request
use Rattle.spec_formats.specs.Request.{Request, access_bytes, command_of, request_fields, request_bytes}
use Rattle.spec_formats.specs.SymbolEntry.{SymbolEntry, entry_of}
use Rattle.spec_formats.specs.TypeEntry.{TypeEntry}
use Rattle.spec_formats.specs.ValueText.{value_text}
use Rattle.spec_plant.specs.TypeTexts.{type_text_of}
use Rattle.spec_machine.proofs.Find.{test_same}
use Rattle.spec_client.specs.Calls.{Call, Info, State, Control, Get, Set, Symbols, Watch, Show, Record, Watching, MAX_SIZE, entry_request, value_request}
use Rattle.spec_client.specs.Calls.{handle_request, write_request, release_request, upload_info_request, upload_request, type_info_request}
use Rattle.spec_client.specs.Calls.{type_upload_request, addition_request}
use Rattle.spec_client.specs.Conversation.{LoopEnd, CallEnded, end_of_stage}
use Rattle.spec_client.specs.Entries.{is_taken, entries_in, types_in, first_of, one_entry_in, with_value_id}
use Rattle.spec_client.specs.Heard.{Heard, heard_of_sample, Sampled, Ended}
use Rattle.spec_client.specs.LeafTypes.{is_sound_text}
use Rattle.spec_client.specs.Printed.{sample_line}
use Rattle.spec_client.specs.Recordings.{is_recorded, has_enough, after_deletion, with_next_name, after_record_entry, with_notification, after_notification}
use Rattle.spec_client.specs.Replies.{bytes_given, handle_given, after_value_read, after_entry, after_entry_read, after_upload, after_types, after_reply}
use Rattle.spec_client.specs.Replies.{after_answer}
use Rattle.spec_client.specs.Runner.{is_over}
use Rattle.spec_client.specs.Stages.{Done, Recorded, Recording, ForEntry, ForNotification, ForSamples, ForDeletion, CallEnd, Refused, BadValue, Output}
use Rattle.spec_client.specs.Stages.{ToSend, ToPrint, Purpose, ToGet, ToSet, ToWatch, ToShow, Stage, AwaitsFacts, AwaitsState, AwaitsLast, AwaitsEntry}
use Rattle.spec_client.specs.Stages.{AwaitsValue, AwaitsHandle, AwaitsWrite, AwaitsUploadInfo, AwaitsUpload, AwaitsNotification, Watches, AwaitsTypeInfo}
use Rattle.spec_client.specs.Stages.{AwaitsTypes, AwaitsLeaves, Records, Finished, FinishedRecording, Progress, progress, stay, ended_at, bad_text}
use Rattle.spec_client.specs.Steps.{after_heard, after_sample, after_end, with_samples_left, begun}
use Rattle.spec_client.specs.ValueReading.{made_value, is_value, are_bytes, is_text_of, value_of_text}
use Rattle.spec_machine.specs.Access.{Addressed}
use Rattle.spec_machine.specs.Watches as served
use Rattle.spec_local_room.proofs.Recording.{IsEnd, Deletes, deletion_leads, samples_lead}
use Rattle.spec_local_room.specs.Laws.{MAX_NAME, MAX_SAMPLES, HasShortNames, IsBounded, is_setting, IsAnswered}
use Rattle.spec_local_room.proofs.TickingAll.{IsWatched, KeepsAll}

-- so many samples, at least one
abbrev pub HasCount : Watching → Type 0
HasCount w = (1 ≤ w.count) × (w.count ≤ MAX_SAMPLES)

-- a stage of a bounded call that waits for an answer; only one that sets has a text to set
abbrev pub Awaits : Bool → Stage → Type 0
Awaits sets AwaitsFacts = Unit {0}
Awaits sets AwaitsState = Unit {0}
Awaits sets (AwaitsLast text) = Unit {0}
Awaits sets (AwaitsEntry ToGet name) = length name ≤ MAX_NAME
Awaits sets (AwaitsEntry (ToSet text) name) = (sets ≡ true) × (length name ≤ MAX_NAME)
Awaits sets (AwaitsEntry (ToWatch w) name) = HasCount w × (length name ≤ MAX_NAME)
Awaits sets (AwaitsEntry ToShow name) = length name ≤ MAX_NAME
Awaits sets (AwaitsValue e) = Unit {0}
Awaits sets (AwaitsHandle value) = length value ≤ MAX_SIZE
Awaits sets (AwaitsWrite handle) = Unit {0}
Awaits sets AwaitsUploadInfo = Unit {0}
Awaits sets (AwaitsUpload count) = Unit {0}
Awaits sets (AwaitsNotification e w) = HasCount w
Awaits sets (AwaitsTypeInfo name e) = length name ≤ MAX_NAME
Awaits sets (AwaitsTypes name e count) = length name ≤ MAX_NAME
Awaits sets (AwaitsLeaves size leaves) = Unit {0}
Awaits sets (Records ForEntry r) = HasShortNames r.names
Awaits sets (Records (ForNotification name) r) = HasShortNames r.names
Awaits sets (Records (ForDeletion left) r) = Unit {0}
Awaits sets stage = ⊥

-- how many samples a recording still keeps, and how many notifications it has
abbrev pub kept_left : Recording → ℕ
kept_left r = r.watching.count - r.kept

abbrev pub notes_of : Recording → ℕ
notes_of r = length r.notifications

-- how many frames a call still takes, at most
abbrev pub frames_left : Stage → ℕ
frames_left AwaitsFacts = 1
frames_left AwaitsState = 1
frames_left (AwaitsLast text) = 1
frames_left (AwaitsEntry ToGet name) = 2
frames_left (AwaitsEntry (ToSet text) name) = 4
frames_left (AwaitsEntry (ToWatch w) name) = w.count + 4
frames_left (AwaitsEntry ToShow name) = 4
frames_left (AwaitsValue e) = 1
frames_left (AwaitsHandle value) = 3
frames_left (AwaitsWrite handle) = 2
frames_left AwaitsUploadInfo = 2
frames_left (AwaitsUpload count) = 1
frames_left (AwaitsNotification e w) = w.count + 3
frames_left (Watches e handle left) = left + 2
frames_left (AwaitsTypeInfo name e) = 3
frames_left (AwaitsTypes name e count) = 2
frames_left (AwaitsLeaves size leaves) = 1
frames_left (Records ForEntry r) = kept_left r + notes_of r + 3 * length r.names + 6
frames_left (Records (ForNotification name) r) = kept_left r + notes_of r + 3 * length r.names + 5
frames_left (Records ForSamples r) = kept_left r + notes_of r + 2
frames_left (Records (ForDeletion left) r) = length left + 1
frames_left stage = 0

pub awaits_on : (sets : Bool) (stage : Stage) → Awaits sets stage → is_over stage ≡ false
awaits_on sets (Finished end) awaits = absurd awaits
awaits_on sets (FinishedRecording end entries) awaits = absurd awaits
awaits_on sets stage awaits = refl

-- a request that is sent
pub record IsShort (r : Request) : Type 0 where
  pub len : length (request_bytes r) < 2 ^ 31
  pub command : command_of r < 2 ^ 16
  pub other : (command_of r == DEVICE_NOTIFICATION) ≡ false

-- the request by which a call comes to wait so
abbrev pub Asks : Stage → Request → Type 0
Asks (AwaitsEntry (ToWatch w) name) r = r ≡ entry_request name
Asks (AwaitsNotification e w) r = command_of r ≡ ADD_DEVICE_NOTIFICATION
Asks (Records ForEntry x) r = (name : List ℕ) × (r ≡ entry_request name)
Asks (Records (ForNotification name) x) r = command_of r ≡ ADD_DEVICE_NOTIFICATION
Asks stage r = Unit {0}

-- a handle is that of one of its notifications, or the one that a reply gives
abbrev pub is_recorded_or : Recording → Reply → ℕ → Bool
is_recorded_or r reply handle = is_recorded r handle || (handle_given reply == handle)

-- the notifications behind the answer to a call that waited so: none, or those of the recording
abbrev pub HasWatches : AmsAddress → AmsAddress → List ℕ → Stage → Option Reply → List (served.Watch (List Addressed)) → Type 0
HasWatches me peer net (AwaitsEntry (ToWatch w) name) o ws = ws ≡ []
HasWatches me peer net (Records ForEntry r) o ws = KeepsAll me peer net (is_recorded r) ws
HasWatches me peer net (Records (ForNotification name) r) (Some reply) ws = KeepsAll me peer net (is_recorded_or r reply) ws
HasWatches me peer net stage o ws = Unit {0}

-- those before a request is sent by which it comes to wait so
abbrev pub HadWatches : AmsAddress → AmsAddress → List ℕ → Stage → List (served.Watch (List Addressed)) → Type 0
HadWatches me peer net (AwaitsEntry (ToWatch w) name) ws = ws ≡ []
HadWatches me peer net (AwaitsNotification e w) ws = ws ≡ []
HadWatches me peer net (Records ForEntry r) ws = KeepsAll me peer net (is_recorded r) ws
HadWatches me peer net (Records (ForNotification name) r) ws = KeepsAll me peer net (is_recorded r) ws
HadWatches me peer net stage ws = Unit {0}

-- the call is over, and so
pub record IsOver (sets : Bool) (p : Progress) : Type 0 where
  pub end : LoopEnd
  pub is : end_of_stage p.stage ≡ Some end
  pub over : is_over p.stage ≡ true
  pub answered : IsAnswered sets end

pub record Sends (sets : Bool) (stage : Stage) (o : Option Reply) (p : Progress) : Type 0 where
  pub request : Request
  pub outputs : p.outputs ≡ ToSend request ∷ []
  pub awaits : Awaits sets p.stage
  pub short : IsShort request
  pub asks : Asks p.stage request
  pub less : frames_left p.stage < frames_left stage
  pub had : (me peer : AmsAddress) (net : List ℕ) (ws : List (served.Watch (List Addressed)))
      → HasWatches me peer net stage o ws → HadWatches me peer net p.stage ws

-- an addition is answered: it listens from now on
pub record ListensTo (stage : Stage) (o : Option Reply) (p : Progress) : Type 0 where
  pub entry : SymbolEntry
  pub watching : Watching
  pub stage_is : stage ≡ AwaitsNotification entry watching
  pub reply : Reply
  pub reply_is : o ≡ Some reply
  pub is : p ≡ stay (Watches entry (handle_given reply) watching.count)
  pub count : HasCount watching

-- a recording waits for samples from now on
pub record ListensToAll (stage : Stage) (o : Option Reply) (p : Progress) : Type 0 where
  pub recording : Recording
  pub is : p ≡ stay (Records ForSamples recording)
  pub enough : has_enough recording ≡ false
  pub less : frames_left (Records ForSamples recording) < frames_left stage
  pub keeps : (me peer : AmsAddress) (net : List ℕ) (ws : List (served.Watch (List Addressed)))
      → HasWatches me peer net stage o ws → KeepsAll me peer net (is_recorded recording) ws

abbrev pub Leads : Bool → Stage → Option Reply → Progress → Type 0
Leads sets stage o p = IsOver sets p ⊎ (Sends sets stage o p ⊎ (ListensTo stage o p ⊎ ListensToAll stage o p))

if_both : {A : Type 0} (P : A → Type 0) (b : Bool) (x y : A) → (b ≡ true → P x) → (b ≡ false → P y) → P (cond b x y)
if_both P true x y first second = first refl
if_both P false x y first second = second refl

over_now : (sets : Bool) (end : CallEnd) (outputs : List Output) → IsAnswered sets (CallEnded end) → IsOver sets (progress (Finished end) outputs)
over_now sets end outputs answered = record { end = CallEnded end; is = refl; over = refl; answered = answered }

pub at_end : (stage : Stage) (end : CallEnd) → IsEnd end (ended_at stage end)
at_end (Records wait r) end = record { is = refl; over = refl; silent = refl }
at_end stage end = record { is = refl; over = refl; silent = refl }

over_at : (sets : Bool) (stage : Stage) (end : CallEnd) → IsAnswered sets (CallEnded end) → IsOver sets (ended_at stage end)
over_at sets stage end answered =
    let so = at_end stage end in record { end = CallEnded end; is = so.is; over = so.over; answered = answered }

-- the lengths of requests

length-name : (name : List ℕ) (r : Request) → request_bytes r ≡ request_fields r ++ []
    → length (request_fields r) ≡ 16 + length name → length name ≤ 1048576 → length (request_bytes r) < 2 ^ 31
length-name name r is sum few =
    let e = ap (λ l. length l) is in
    let f = length-append (request_fields r) [] in
    omega (arith, e, f, sum, few)

short_read_write : (g o n : ℕ) (name : List ℕ) → length name ≤ 1048576 → IsShort (request.ReadWrite g o n name)
short_read_write g o n name few = record {
  len = length-name name (request.ReadWrite g o n name) refl (length-append (access_bytes g o n ++ to_le_bytes w32 (length name)) name) few;
  command = omega arith;
  other = refl;
}

short_write : (g o : ℕ) (bytes : List ℕ) → length bytes ≤ 1048576 → IsShort (request.Write g o bytes)
short_write g o bytes few =
    let r = request.Write g o bytes in
    let e : length (request_bytes r) ≡ length (request_fields r) + 0 = length-append (request_fields r) [] in
    let f : length (request_fields r) ≡ 12 + length bytes = length-append (access_bytes g o (length bytes)) bytes in
    record { len = omega (arith, e, f, few); command = omega arith; other = refl }

short_read : (g o n : ℕ) → IsShort (request.Read g o n)
short_read g o n =
    let e : length (request_bytes (request.Read g o n)) ≡ 12 = refl in record { len = omega (arith, e); command = omega arith; other = refl }

short_addition : (e : SymbolEntry) (w : Watching) → IsShort (addition_request e w)
short_addition e w =
    let l : length (request_bytes (addition_request e w)) ≡ 40 = refl in record { len = omega (arith, l); command = omega arith; other = refl }

pub short_deletion : (handle : ℕ) → IsShort (request.DeleteDeviceNotification handle)
short_deletion handle =
    let l : length (request_bytes (request.DeleteDeviceNotification handle)) ≡ 4 = refl in
    record { len = omega (arith, l); command = omega arith; other = refl }

short_info : IsShort request.ReadDeviceInfo
short_info = let l : length (request_bytes request.ReadDeviceInfo) ≡ 0 = refl in record { len = omega (arith, l); command = omega arith; other = refl }

short_state : IsShort request.ReadState
short_state = let l : length (request_bytes request.ReadState) ≡ 0 = refl in record { len = omega (arith, l); command = omega arith; other = refl }

short_control : (ads device : ℕ) → IsShort (request.WriteControl ads device [])
short_control ads device =
    let l : length (request_bytes (request.WriteControl ads device [])) ≡ 8 = refl in record { len = omega (arith, l); command = omega arith; other = refl }

-- a value has the size of its symbol, which is not too big

value_size : (id size : ℕ) (text value : List ℕ) → value_of_text id size text ≡ Some value → length value ≡ size
unfolding value_of_text
value_size id size text value e = go (is_value id size text (made_value id size text)) refl e
  where
    sized : (made : List ℕ) (t : Bool) → (are_bytes made && (length made == size) && t) ≡ true → length made ≡ size
    sized made t is =
        let parts = and_parts (are_bytes made && (length made == size)) t is in
        eqb-true (length made) size (and_parts (are_bytes made) (length made == size) parts.0).1

    go : (b : Bool) → is_value id size text (made_value id size text) ≡ b
        → (if b then Some (made_value id size text) else None) ≡ Some value → length value ≡ size
    go true is e =
        let same : made_value id size text ≡ value = cc in
        ap (λ l. length l) (sym same) ∙ sized (made_value id size text) (is_text_of id size text (made_value id size text)) is
    go false is e = absurd cc

one_taken : (b : Bool) (e f : SymbolEntry) (o : Option (List SymbolEntry)) → option_and_then first_of (if b then option_map (λ es. e ∷ es) o else None) ≡ Some f
    → (b ≡ true) × (with_value_id e ≡ f)
one_taken true e f None is = absurd cc
one_taken true e f (Some es) is = (refl, cc)
one_taken false e f o is = absurd cc

entry_small : (bytes : List ℕ) (e : SymbolEntry) → one_entry_in bytes ≡ Some e → e.size ≤ MAX_SIZE
unfolding entries_in
entry_small bytes e is = go (entry_of bytes) is
  where
    go : (o : Option (SymbolEntry × List ℕ)) → option_and_then first_of (option_and_then
        (λ (first : SymbolEntry × List ℕ). if is_taken first.0 then option_map
        (λ (es : List SymbolEntry). first.0 ∷ es) (entries_in 0 first.1) else None) o) ≡ Some e
        → e.size ≤ MAX_SIZE
    go None is = absurd cc
    go (Some (f, rest)) is =
        let both = one_taken (is_taken f) f e (entries_in 0 rest) is in
        subst (λ (x : SymbolEntry). x.size ≤ MAX_SIZE) both.1 (leb-true f.size MAX_SIZE both.0)

-- the stages, one by one

leads_value : (sets : Bool) (stage : Stage) (o : Option Reply) (name : List ℕ) (v : Option (List ℕ))
    → sets ≡ true → length name ≤ MAX_NAME → 4 ≤ frames_left stage
    → ((value : List ℕ) → v ≡ Some value → length value ≤ MAX_SIZE) → Leads sets stage o (after_value_read name v)
leads_value sets stage o name None is few left size = inl (over_now sets BadValue [] is)
leads_value sets stage o name (Some value) is few left size = inr (inl (record {
  request = handle_request name;
  outputs = refl;
  awaits = size value refl;
  short = short_read_write _ _ _ name (omega (arith, few));
  asks = tt;
  less = omega (arith, left);
  had = λ me peer net ws has. tt;
}))

leads_entry : (sets : Bool) (purpose : Purpose) (name : List ℕ) (o : Option Reply) (e : SymbolEntry)
    → Awaits sets (AwaitsEntry purpose name) → e.size ≤ MAX_SIZE
    → Leads sets (AwaitsEntry purpose name) o (after_entry purpose name e)
leads_entry sets ToGet name o e few size = inr (inl (record {
  request = value_request name e.size;
  outputs = refl;
  awaits = tt;
  short = short_read_write _ _ _ name (omega (arith, few));
  asks = tt;
  less = omega arith;
  had = λ me peer net ws has. tt;
}))
leads_entry sets (ToSet text) name o e few size =
    let is = few.0 in
    let short = few.1 in
    leads_value sets (AwaitsEntry (ToSet text) name) o name (value_of_text e.type_id e.size text) is short (omega arith)
    (λ value v. let same = value_size e.type_id e.size text value v in omega (arith, same, size))
leads_entry sets (ToWatch w) name o e few size = inr (inl (record {
  request = addition_request e w;
  outputs = refl;
  awaits = few.0;
  short = short_addition e w;
  asks = refl;
  less = omega arith;
  had = λ me peer net ws has. has;
}))
leads_entry sets ToShow name o e few size = inr (inl (record {
  request = type_info_request;
  outputs = refl;
  awaits = few;
  short = short_read _ _ _;
  asks = tt;
  less = omega arith;
  had = λ me peer net ws has. tt;
}))

leads_entry_read : (sets : Bool) (purpose : Purpose) (name : List ℕ) (o : Option Reply) (bytes payload : List ℕ) (e : Option SymbolEntry)
    → one_entry_in bytes ≡ e
    → Awaits sets (AwaitsEntry purpose name) → Leads sets (AwaitsEntry purpose name) o (after_entry_read purpose name e payload)
leads_entry_read sets purpose name o bytes payload None is awaits = inl (over_now sets _ [] tt)
leads_entry_read sets purpose name o bytes payload (Some e) is awaits = leads_entry sets purpose name o e awaits (entry_small bytes e is)

leads_upload : (sets : Bool) (stage : Stage) (o : Option Reply) (es : Option (List SymbolEntry)) (payload : List ℕ)
    → Leads sets stage o (after_upload es payload)
leads_upload sets stage o None payload = inl (over_now sets _ [] tt)
leads_upload sets stage o (Some es) payload = inl (over_now sets _ _ tt)

leads_types : (sets : Bool) (name : List ℕ) (e : SymbolEntry) (count : ℕ) (o : Option Reply) (ts : Option (List TypeEntry)) (payload : List ℕ)
    → length name ≤ MAX_NAME
    → Leads sets (AwaitsTypes name e count) o (after_types name e ts payload)
leads_types sets name e count o None payload few = inl (over_now sets _ [] tt)
leads_types sets name e count o (Some ts) payload few =
    if_both (Leads sets (AwaitsTypes name e count) o) (is_sound_text ts e.size (type_text_of e.type_name)) _ _
    (λ sound. inr (inl (record {
      request = value_request name e.size;
      outputs = refl;
      awaits = tt;
      short = short_read_write _ _ _ name (omega (arith, few));
      asks = tt;
      less = omega arith;
      had = λ me peer net ws has. tt;
    })))
    (λ unsound. inl (over_now sets _ [] tt))

leads_last : (sets : Bool) (text : List ℕ) (o : Option Reply) (reply : Reply) (payload : List ℕ)
    → Leads sets (AwaitsLast text) o (after_reply (AwaitsLast text) reply payload)
unfolding after_reply
leads_last sets [] o reply payload = inl (over_now sets _ [] tt)
leads_last sets (c ∷ cs) o reply payload = inl (over_now sets _ _ tt)

-- a recording

leads_record_entry : (sets : Bool) (r : Recording) (o : Option Reply) (e : Option SymbolEntry) (payload : List ℕ)
    → HasShortNames r.names → Leads sets (Records ForEntry r) o (after_record_entry r e payload)
leads_record_entry sets r o None payload short = inl (record { end = CallEnded (bad_text payload); is = refl; over = refl; answered = tt })
leads_record_entry sets r o (Some e) payload short = inr (inl (record {
  request = addition_request e r.watching;
  outputs = refl;
  awaits = short;
  short = short_addition e r.watching;
  asks = refl;
  less = omega arith;
  had = λ me peer net ws has. has;
}))

over_so : (sets : Bool) (p : Progress) → IsEnd Done p → IsOver sets p
over_so sets p end = record { end = CallEnded Done; is = end.is; over = end.over; answered = tt }

-- a notification is deleted, which leaves less before it
deletes_so : (sets : Bool) (stage : Stage) (o : Option Reply) (most : ℕ) (r : Recording) (p : Progress) → Deletes most r p → most + 1 ≤ frames_left stage
    → Sends sets stage o p
deletes_so sets stage o most r p d less =
    let few = d.few in
    subst (Sends sets stage o) (sym d.is) (record {
      request = request.DeleteDeviceNotification d.handle;
      outputs = refl;
      awaits = tt;
      short = short_deletion d.handle;
      asks = tt;
      less = omega (arith, few, less);
      had = λ me peer net ws has. tt;
    })

leads_deletion : (sets : Bool) (r : Recording) (left : List ℕ) (o : Option Reply) → Leads sets (Records (ForDeletion left) r) o (after_deletion left r)
leads_deletion sets r left o = elim (deletion_leads left r) [
  | inl end ↦ inl (over_so sets _ end)
  | inr d ↦ inr (inl (deletes_so sets (Records (ForDeletion left) r) o (length left) r _ d (omega arith)))
]

-- a recording with one notification more, at most
record TakesNote (stage : Stage) (o : Option Reply) (r next : Recording) : Type 0 where
  watching : next.watching ≡ r.watching
  kept : next.kept ≡ r.kept
  few : notes_of next ≤ notes_of r + 1
  keeps : (me peer : AmsAddress) (net : List ℕ) (ws : List (served.Watch (List Addressed)))
      → HasWatches me peer net stage o ws → KeepsAll me peer net (is_recorded next) ws

same_left : (r next : Recording) → next.watching ≡ r.watching → next.kept ≡ r.kept → kept_left next ≡ kept_left r
same_left r next watching kept = rw (watching, kept) refl

leads_next : (sets : Bool) (r next : Recording) (name : List ℕ) (o : Option Reply) (names : List (List ℕ)) → r.names ≡ names → HasShortNames names
    → TakesNote (Records (ForNotification name) r) o r next → Leads sets (Records (ForNotification name) r) o (with_next_name next names)
leads_next sets r next name o [] is short t =
    let few = t.few in
    let left = same_left r next t.watching t.kept in
    elim (samples_lead next) [
      | inl end ↦ inl (over_so sets _ end)
      | inr (inl (enough, d)) ↦ inr (inl (deletes_so sets _ o (notes_of next) next _ d (omega (arith, few))))
      | inr (inr w) ↦ inr (inr (inr (record {
        recording = next;
        is = w.is;
        enough = w.enough;
        less = omega (arith, few, left);
        keeps = t.keeps;
      })))
    ]
leads_next sets r next name o (other ∷ names) is short t =
    let few = t.few in
    let left = same_left r next t.watching t.kept in
    let count : length r.names ≡ suc (length names) = ap (λ l. length l) is in
    let size = short.0 in
    inr (inl (record {
      request = entry_request other;
      outputs = refl;
      awaits = short.1;
      short = short_read_write _ _ _ other (omega (arith, size));
      asks = (other, refl);
      less = omega (arith, few, left, count);
      had = t.keeps;
    }))

either_note : (a b c : Bool) → (a ≡ true → c ≡ true) → (b ≡ true → c ≡ true) → (a || b) ≡ true → c ≡ true
either_note true b c first second is = first refl
either_note false b c first second is = second is

-- what holds of each element
all_map : {A : Type 0} (P Q : A → Type 0) (xs : List A) → ((x : A) → P x → Q x) → AllByRecursion P xs → AllByRecursion Q xs
all_map P Q [] f all = tt
all_map P Q (x ∷ xs) f all = (f x all.0, all_map P Q xs f all.1)

pub kept_as : (me peer : AmsAddress) (net : List ℕ) (test other : ℕ → Bool) (ws : List (served.Watch (List Addressed)))
    → ((n : ℕ) → test n ≡ true → other n ≡ true) → KeepsAll me peer net test ws → KeepsAll me peer net other ws
kept_as me peer net test other ws more all = all_map (IsWatched me peer net test) (IsWatched me peer net other) ws (λ w kept. record {
  handle = more w.handle kept.handle;
  small = kept.small;
  port = kept.port;
  address = kept.address;
  net_is = kept.net_is;
  some = kept.some;
}) all

any-append : (test : Recorded → Bool) (ns ms : List Recorded) → list_any test (ns ++ ms) ≡ (list_any test ns || list_any test ms)
any-append test [] ms = refl
any-append test (n ∷ ns) ms = ap (λ b. test n || b) (any-append test ns ms) ∙ or_assoc (test n) (list_any test ns) (list_any test ms)
  where
    or_assoc : (a b c : Bool) → (a || (b || c)) ≡ ((a || b) || c)
    or_assoc true b c = refl
    or_assoc false b c = refl

pub first_true : (a b c : Bool) → a ≡ true → (a || b) ≡ true
first_true true b c is = refl
first_true false b c is = absurd (let e : false ≡ true = is in cc)

pub second_true : (a b : Bool) → b ≡ true → (a || b) ≡ true
second_true true b is = refl
second_true false b is = is

any_true : (a b : Bool) → b ≡ true → (a || (b || false)) ≡ true
any_true true b is = refl
any_true false true is = refl
any_true false false is = absurd (let e : false ≡ true = is in cc)

abbrev with_note : Recording → ℕ → List ℕ → Recording
with_note r handle name = record r { notifications = r.notifications ++ record { handle = handle; name = name } ∷ [] }

takes_note : (r : Recording) (name : List ℕ) (reply : Reply) (b : Bool) → is_recorded r (handle_given reply) ≡ b
    → TakesNote (Records (ForNotification name) r) (Some reply) r (if b then r else with_note r (handle_given reply) name)
takes_note r name reply true is = record {
  watching = refl;
  kept = refl;
  few = omega arith;
  keeps = λ me peer net ws has. kept_as me peer net (is_recorded_or r reply) (is_recorded r) ws (λ n passes.
      either_note (is_recorded r n) (handle_given reply == n) (is_recorded r n) (λ e. e)
      (λ e. subst (λ m. is_recorded r m ≡ true) (eqb-true (handle_given reply) n e) is) passes) has;
}
takes_note r name reply false is =
    let handle = handle_given reply in
    let note : Recorded = record { handle = handle; name = name } in
    let next = with_note r handle name in
    let more = length-append r.notifications (note ∷ []) in
    let passes_in : (n : ℕ) → is_recorded_or r reply n ≡ true → is_recorded next n ≡ true = λ n passes.
    any-append (λ (m : Recorded). m.handle == n) r.notifications (note ∷ [])
    ∙ either_note (is_recorded r n) (handle == n) (is_recorded r n || ((handle == n) || false))
    (λ e. first_true (is_recorded r n) ((handle == n) || false) false e) (λ e. any_true (is_recorded r n) (handle == n) e) passes in
    record {
      watching = refl;
      kept = refl;
      few = omega (arith, more);
      keeps = λ me peer net ws has. kept_as me peer net (is_recorded_or r reply) (is_recorded next) ws passes_in has;
    }

leads_notification : (sets : Bool) (r : Recording) (reply : Reply) (name : List ℕ) → HasShortNames r.names
    → Leads sets (Records (ForNotification name) r) (Some reply) (after_notification r (handle_given reply) name)
leads_notification sets r reply name short =
    leads_next sets r (with_notification r (handle_given reply) name) name (Some reply) r.names refl short
    (takes_note r name reply (is_recorded r (handle_given reply)) refl)

leads_reply : (sets : Bool) (stage : Stage) (reply : Reply) (payload : List ℕ)
    → Awaits sets stage → Leads sets stage (Some reply) (after_reply stage reply payload)
unfolding after_reply
leads_reply sets AwaitsFacts reply payload awaits = inl (over_now sets _ _ tt)
leads_reply sets AwaitsState reply payload awaits = inl (over_now sets _ _ tt)
leads_reply sets (AwaitsLast text) reply payload awaits = leads_last sets text (Some reply) reply payload
leads_reply sets (AwaitsEntry purpose name) reply payload awaits =
    leads_entry_read sets purpose name (Some reply) (bytes_given reply) payload (one_entry_in (bytes_given reply)) refl awaits
leads_reply sets (AwaitsValue e) reply payload awaits =
    if_both (Leads sets (AwaitsValue e) (Some reply)) (length (bytes_given reply) == e.size) _ _
    (λ t. inl (over_now sets _ _ tt)) (λ t. inl (over_now sets _ [] tt))
leads_reply sets (AwaitsHandle value) reply payload awaits =
    if_both (Leads sets (AwaitsHandle value) (Some reply)) (length (bytes_given reply) == 4) _ _
    (λ t. inr (inl (record {
      request = write_request (number32 0 (bytes_given reply)) value;
      outputs = refl;
      awaits = tt;
      short = short_write _ _ value awaits;
      asks = tt;
      less = omega arith;
      had = λ me peer net ws has. tt;
    })))
    (λ t. inl (over_now sets _ [] tt))
leads_reply sets (AwaitsWrite handle) reply payload awaits = inr (inl (record {
  request = release_request handle;
  outputs = refl;
  awaits = tt;
  short = short_write _ _ (to_le_bytes w32 handle) (omega arith);
  asks = tt;
  less = omega arith;
  had = λ me peer net ws has. tt;
}))
leads_reply sets AwaitsUploadInfo reply payload awaits =
    if_both (Leads sets AwaitsUploadInfo (Some reply)) (length (bytes_given reply) == 8) _ _
    (λ t. inr (inl (record {
      request = upload_request (number32 4 (bytes_given reply));
      outputs = refl;
      awaits = tt;
      short = short_read _ _ _;
      asks = tt;
      less = omega arith;
      had = λ me peer net ws has. tt;
    })))
    (λ t. inl (over_now sets _ [] tt))
leads_reply sets (AwaitsUpload count) reply payload awaits = leads_upload sets (AwaitsUpload count) (Some reply) (entries_in count (bytes_given reply)) payload
leads_reply sets (AwaitsNotification e w) reply payload awaits = inr (inr (inl (record {
  entry = e;
  watching = w;
  stage_is = refl;
  reply = reply;
  reply_is = refl;
  is = refl;
  count = awaits;
})))
leads_reply sets (AwaitsTypeInfo name e) reply payload awaits =
    if_both (Leads sets (AwaitsTypeInfo name e) (Some reply)) (length (bytes_given reply) == 24) _ _
    (λ t. inr (inl (record {
      request = type_upload_request (number32 12 (bytes_given reply));
      outputs = refl;
      awaits = awaits;
      short = short_read _ _ _;
      asks = tt;
      less = omega arith;
      had = λ me peer net ws has. tt;
    })))
    (λ t. inl (over_now sets _ [] tt))
leads_reply sets (AwaitsTypes name e count) reply payload awaits =
    leads_types sets name e count (Some reply) (types_in count (bytes_given reply)) payload awaits
leads_reply sets (AwaitsLeaves size leaves) reply payload awaits =
    if_both (Leads sets (AwaitsLeaves size leaves) (Some reply)) (length (bytes_given reply) == size) _ _
    (λ t. inl (over_now sets _ _ tt)) (λ t. inl (over_now sets _ [] tt))
leads_reply sets (Records ForEntry r) reply payload awaits =
    leads_record_entry sets r (Some reply) (one_entry_in (bytes_given reply)) payload awaits
leads_reply sets (Records (ForNotification name) r) reply payload awaits = leads_notification sets r reply name awaits
leads_reply sets (Records (ForDeletion left) r) reply payload awaits = leads_deletion sets r left (Some reply)
leads_reply sets stage reply payload awaits = absurd awaits

pub leads : (sets : Bool) (stage : Stage) (error : ℕ) (o : Option Reply) (payload : List ℕ)
    → Awaits sets stage → Leads sets stage o (after_answer stage error o payload)
unfolding after_answer
leads sets stage error None payload awaits =
    if_both (Leads sets stage None) (error == 0) _ _ (λ t. inl (over_at sets stage (bad_text payload) tt)) (λ t. inl (over_at sets stage (Refused error) tt))
leads sets stage error (Some reply) payload awaits =
    if_both (Leads sets stage (Some reply)) (error == 0) _ _
    (λ t. if_both (Leads sets stage (Some reply)) (result_of reply == 0) _ _ (λ u. leads_reply sets stage reply payload awaits)
    (λ u. inl (over_at sets stage (Refused (result_of reply)) tt)))
    (λ t. inl (over_at sets stage (Refused error) tt))

-- a sample of the notification that is watched

pub record IsLast (p : Progress) : Type 0 where
  pub text : List ℕ
  pub handle : ℕ
  pub is : p ≡ progress (AwaitsLast []) (ToPrint text ∷ ToSend (request.DeleteDeviceNotification handle) ∷ [])

pub record GoesOn (e : SymbolEntry) (handle left : ℕ) (p : Progress) : Type 0 where
  pub text : List ℕ
  pub less : ℕ
  pub left_is : left ≡ suc less
  pub is : p ≡ progress (Watches e handle (suc less)) (ToPrint text ∷ [])

abbrev pub SampleLeads : Bool → SymbolEntry → ℕ → ℕ → Progress → Type 0
SampleLeads sets e handle left p = IsOver sets p ⊎ (IsLast p ⊎ GoesOn e handle left p)

with_left : (sets : Bool) (e : SymbolEntry) (handle left : ℕ) (text : List ℕ) → SampleLeads sets e handle left (with_samples_left e handle left text)
with_left sets e handle zero text = inr (inl (record { text = text; handle = handle; is = refl }))
with_left sets e handle (suc less) text = inr (inr (record { text = text; less = less; left_is = refl; is = refl }))

pub sample_leads : (sets : Bool) (e : SymbolEntry) (handle left time : ℕ) (bytes : List ℕ)
    → SampleLeads sets e handle left
    (after_heard (Watches e handle (suc left)) (heard_of_sample (record { time = time; sample = record { handle = handle; bytes = bytes } })))
unfolding after_heard after_sample after_end
sample_leads sets e handle left time bytes =
    let same = test_same handle handle refl in
    let P : Heard → Type 0 = λ h. SampleLeads sets e handle left (after_heard (Watches e handle (suc left)) h) in
    if_both P (length bytes == 0) (Ended handle) (Sampled handle time bytes)
    (λ none. subst (SampleLeads sets e handle left) (sym (cond-true (handle == handle) _ _ same)) (inl (over_now sets _ _ tt)))
    (λ some. subst (SampleLeads sets e handle left) (sym (cond-true (handle == handle) _ _ same))
    (with_left sets e handle left (sample_line time (value_text e.type_id bytes))))

-- how a bounded call begins

pub record Begins (sets : Bool) (p : Progress) : Type 0 where
  pub request : Request
  pub outputs : p.outputs ≡ ToSend request ∷ []
  pub awaits : Awaits sets p.stage
  pub short : IsShort request
  pub asks : Asks p.stage request
  pub few : frames_left p.stage ≤ 1000060
  pub had : (me peer : AmsAddress) (net : List ℕ) → HadWatches me peer net p.stage []

pub begins : (call : Call) → IsBounded call → Begins (is_setting call) (begun call)
unfolding begun
begins Info bounded = record {
  request = request.ReadDeviceInfo;
  outputs = refl;
  awaits = tt;
  short = short_info;
  asks = tt;
  few = omega arith;
  had = λ me peer net. tt;
}
begins State bounded = record {
  request = request.ReadState;
  outputs = refl;
  awaits = tt;
  short = short_state;
  asks = tt;
  few = omega arith;
  had = λ me peer net. tt;
}
begins (Control ads device) bounded = record {
  request = request.WriteControl ads device [];
  outputs = refl;
  awaits = tt;
  short = short_control ads device;
  asks = tt;
  few = omega arith;
  had = λ me peer net. tt;
}
begins (Get name) bounded = record {
  request = entry_request name;
  outputs = refl;
  awaits = bounded;
  short = short_read_write _ _ _ name (omega (arith, bounded));
  asks = tt;
  few = omega arith;
  had = λ me peer net. tt;
}
begins (Set name text) bounded = record {
  request = entry_request name;
  outputs = refl;
  awaits = (refl, bounded);
  short = short_read_write _ _ _ name (omega (arith, bounded));
  asks = tt;
  few = omega arith;
  had = λ me peer net. tt;
}
begins Symbols bounded = record {
  request = upload_info_request;
  outputs = refl;
  awaits = tt;
  short = short_read _ _ _;
  asks = tt;
  few = omega arith;
  had = λ me peer net. tt;
}
begins (Watch name w) bounded =
    let few = bounded.0 in
    let most = bounded.2 in
    record {
      request = entry_request name;
      outputs = refl;
      awaits = ((bounded.1, bounded.2), bounded.0);
      short = short_read_write _ _ _ name (omega (arith, few));
      asks = refl;
      few = omega (arith, most);
      had = λ me peer net. refl;
    }
begins (Show name) bounded = record {
  request = entry_request name;
  outputs = refl;
  awaits = bounded;
  short = short_read_write _ _ _ name (omega (arith, bounded));
  asks = tt;
  few = omega arith;
  had = λ me peer net. tt;
}
begins (Record [] watching first) bounded = let some = bounded.1 in absurd (omega (arith, some))
begins (Record (name ∷ names) watching first) bounded =
    let short = bounded.0.0 in
    let few = bounded.2 in
    let most = bounded.3 in
    record {
      request = entry_request name;
      outputs = refl;
      awaits = bounded.0.1;
      short = short_read_write _ _ _ name (omega (arith, short));
      asks = (name, refl);
      few = omega (arith, few, most);
      had = λ me peer net. tt;
    }
