-- What is heard keeps a call sound: its requests stay short, and it asks for one at most.
use Rattle.std.proofs.Common.{◌≡◌, ℕ, zero, suc, ◌+◌, ◌≤◌, List, [], ◌∷◌, map, length, Bool, true, false, refl, ap, arith, lit≤}
use Rattle.std.specs.Prelude.{Option, Some, None, ◌==◌, if◌then◌else◌, option_and_then, option_map}
use Rattle.std.proofs.lemmas.Bool.{leb-true}
use Rattle.spec_formats.specs.SymbolEntry.{SymbolEntry, entry_of}
use Rattle.spec_formats.specs.TypeEntry.{TypeEntry}
use Rattle.spec_formats.specs.Reply.{Reply, reply_of, result_of}
use Rattle.spec_formats.specs.Numbers.{number32}
use Rattle.spec_formats.specs.Request.{Request}
use Rattle.spec_formats.specs.ValueText.{value_text}
use Rattle.spec_client.specs.Heard.{Heard, Answered, Sampled, Ended, Stray, TimedOut, NotYet, Broken}
use Rattle.spec_client.specs.Calls.{MAX_SIZE, value_request, write_request, upload_request, type_upload_request}
use Rattle.spec_client.specs.Entries.{one_entry_in, entries_in, first_of, is_taken, types_in, with_value_id}
use Rattle.spec_client.specs.Leaves.{leaves_of, leaf_line}
use Rattle.spec_client.specs.Printed.{line, entry_line, sample_line, ended_line}
use Rattle.spec_client.specs.Stages.{ToSend, ToPrint, Purpose, ToGet, ToSet, ToWatch, ToShow, Stage}
use Rattle.spec_client.specs.Stages.{AwaitsFacts, AwaitsState, AwaitsLast, AwaitsEntry, AwaitsValue}
use Rattle.spec_client.specs.Stages.{AwaitsHandle, AwaitsWrite, AwaitsUploadInfo, AwaitsUpload}
use Rattle.spec_client.specs.Stages.{AwaitsNotification, Watches, AwaitsTypeInfo, AwaitsTypes, AwaitsLeaves}
use Rattle.spec_client.specs.Stages.{ForSamples, Records, Finished, FinishedRecording, CallEnd, BadPeer}
use Rattle.spec_client.specs.Stages.{Refused, Progress, progress, stay, ended, ended_at, done_with, bad_text}
use Rattle.spec_client.specs.Stages as stages
use Rattle.spec_client.specs.Recordings.{recorded_at}
use Rattle.spec_client.specs.Replies.{bytes_given, after_entry, after_entry_read, after_value_read}
use Rattle.spec_client.specs.Replies.{after_upload, after_types, after_reply, after_reply_read, after_answer}
use Rattle.spec_client.specs.Steps.{with_samples_left, after_watched_sample, after_sample, after_end, after_heard}
use Rattle.spec_client.specs.ValueReading.{value_of_text}
use Rattle.value_text.proofs.ValuesFound.{values_found}
use Rattle.client_replies.specs.Sound.{AreSendable, HasShortData, HasShortNames, asked_count, most_asked}
use Rattle.client_replies.proofs.Answering.{answers, either}
use Rattle.client_replies.proofs.RecordingKeeps.{Keeps, keeps_recording_end, keeps_record_reply, keeps_record_sample, keeps_record_end}

abbrev Ends : Progress → Type 0
Ends p = Keeps 0 p

-- printed lines ask for nothing
printed_asks : {X : Type 0} (f : X → List ℕ) (xs : List X) → asked_count (map (λ x. ToPrint (f x)) xs) ≡ 0
printed_asks f [] = refl
printed_asks f (x ∷ xs) = printed_asks f xs

printed_sends : {X : Type 0} (f : X → List ℕ) (xs : List X) → AreSendable (map (λ x. ToPrint (f x)) xs)
printed_sends f [] = tt
printed_sends f (x ∷ xs) = (tt, printed_sends f xs)

keeps_end_at : (stage : Stage) (end : CallEnd) (n : ℕ) → n ≤ 1 → Keeps n (ended_at stage end)
keeps_end_at (Records wait r) end n few = keeps_recording_end end r n few
keeps_end_at stage end n few = record { names = tt; sendable = tt; one_by_one = omega (arith, few) }

ends_bad : (payload : List ℕ) → Ends (ended (bad_text payload))
ends_bad payload = record { names = tt; sendable = tt; one_by_one = lit≤ tt }

prints : (text : List ℕ) → Ends (done_with (ToPrint text ∷ []))
prints text = record { names = tt; sendable = (tt, tt); one_by_one = lit≤ tt }

prints_all : {X : Type 0} (f : X → List ℕ) (xs : List X) → Ends (done_with (map (λ x. ToPrint (f x)) xs))
prints_all f xs = record { names = tt; sendable = printed_sends f xs; one_by_one = omega (arith, printed_asks f xs) }

sends : (stage : Stage) (request : Request) → HasShortNames stage → HasShortData request → 1 ≤ most_asked stage → Ends (progress stage (ToSend request ∷ []))
sends stage request names short one = record { names = names; sendable = (short, tt); one_by_one = one }

-- an entry that is taken is not too big
taken_small : (o : Option (List SymbolEntry)) (first : SymbolEntry × List ℕ) (e : SymbolEntry) (b : Bool) → is_taken first.0 ≡ b
    → option_and_then first_of (if b then option_map (λ es. first.0 ∷ es) o else None) ≡ Some e → e.size ≤ MAX_SIZE
taken_small None first e true t is = absurd cc
taken_small (Some es) first e true t is =
    let same : with_value_id first.0 ≡ e = cc in
    let small = leb-true first.0.size MAX_SIZE t in
    let sizes : first.0.size ≡ e.size = ap (λ (x : SymbolEntry). x.size) same in
    omega arith
taken_small o first e false t is = absurd cc

entry_small : (bytes : List ℕ) (e : SymbolEntry) → one_entry_in bytes ≡ Some e → e.size ≤ MAX_SIZE
unfolding entries_in
entry_small bytes e is = by_first (entry_of bytes) e is
  where
    by_first : (o : Option (SymbolEntry × List ℕ)) (e : SymbolEntry)
        → option_and_then first_of
        (option_and_then (λ first. if is_taken first.0 then option_map (λ es. first.0 ∷ es) (entries_in 0 first.1) else None) o) ≡ Some e
        → e.size ≤ MAX_SIZE
    by_first None e is = absurd cc
    by_first (Some first) e is = taken_small (entries_in 0 first.1) first e (is_taken first.0) refl is

keeps_set : (name : List ℕ) (size : ℕ) (o : Option (List ℕ)) → length name ≤ 65536 → ((value : List ℕ) → o ≡ Some value → length value ≤ MAX_SIZE)
    → Ends (after_value_read name o)
keeps_set name size None short small = record { names = tt; sendable = tt; one_by_one = lit≤ tt }
keeps_set name size (Some value) short small = record { names = small value refl; sendable = (omega arith, tt); one_by_one = lit≤ tt }

keeps_entry : (purpose : Purpose) (name : List ℕ) (e : SymbolEntry) → length name ≤ 65536 → e.size ≤ MAX_SIZE → Ends (after_entry purpose name e)
keeps_entry ToGet name e short small = record { names = tt; sendable = (omega arith, tt); one_by_one = lit≤ tt }
keeps_entry (ToSet text) name e short small =
    keeps_set name e.size (value_of_text e.type_id e.size text) short
    (λ value is. let sized = ((values_found e.type_id e.size text value).0 is).1.sized in omega arith)
keeps_entry (ToWatch watching) name e short small = record { names = tt; sendable = (tt, tt); one_by_one = lit≤ tt }
keeps_entry ToShow name e short small = record { names = short; sendable = (tt, tt); one_by_one = lit≤ tt }

keeps_entry_read : (purpose : Purpose) (name : List ℕ) (o : Option SymbolEntry) (payload : List ℕ) → length name ≤ 65536
    → ((e : SymbolEntry) → o ≡ Some e → e.size ≤ MAX_SIZE) → Ends (after_entry_read purpose name o payload)
keeps_entry_read purpose name None payload short small = record { names = tt; sendable = tt; one_by_one = lit≤ tt }
keeps_entry_read purpose name (Some e) payload short small = keeps_entry purpose name e short (small e refl)

keeps_upload : (o : Option (List SymbolEntry)) (payload : List ℕ) → Ends (after_upload o payload)
keeps_upload None payload = record { names = tt; sendable = tt; one_by_one = lit≤ tt }
keeps_upload (Some entries) payload = prints_all entry_line entries

keeps_types : (name : List ℕ) (e : SymbolEntry) (o : Option (List TypeEntry)) (payload : List ℕ) → length name ≤ 65536 → Ends (after_types name e o payload)
keeps_types name e None payload short = record { names = tt; sendable = tt; one_by_one = lit≤ tt }
keeps_types name e (Some types) payload short =
    either Ends _ _ _ (sends (AwaitsLeaves e.size (leaves_of types e.name e.type_name)) (value_request name e.size) tt (omega arith) (lit≤ tt))
    (ends_bad payload)

keeps_reply : (stage : Stage) (reply : Reply) (payload : List ℕ) → HasShortNames stage → Ends (after_reply stage reply payload)
unfolding after_reply
keeps_reply AwaitsFacts reply payload short = record { names = tt; sendable = (tt, tt); one_by_one = lit≤ tt }
keeps_reply AwaitsState reply payload short = record { names = tt; sendable = (tt, tt); one_by_one = lit≤ tt }
keeps_reply (AwaitsLast []) reply payload short = record { names = tt; sendable = tt; one_by_one = lit≤ tt }
keeps_reply (AwaitsLast (c ∷ cs)) reply payload short = record { names = tt; sendable = (tt, tt); one_by_one = lit≤ tt }
keeps_reply (AwaitsEntry purpose name) reply payload short =
    keeps_entry_read purpose name (one_entry_in (bytes_given reply)) payload short (λ e is. entry_small (bytes_given reply) e is)
keeps_reply (AwaitsValue e) reply payload short =
    either Ends _ _ _ (prints (line (value_text e.type_id (bytes_given reply)))) (ends_bad payload)
keeps_reply (AwaitsHandle value) reply payload short =
    let handle = number32 0 (bytes_given reply) in
    either Ends _ _ _ (sends (AwaitsWrite handle) (write_request handle value) tt (omega arith) (lit≤ tt)) (ends_bad payload)
keeps_reply (AwaitsWrite handle) reply payload short = record { names = tt; sendable = (lit≤ tt, tt); one_by_one = lit≤ tt }
keeps_reply AwaitsUploadInfo reply payload short =
    let bytes = bytes_given reply in
    either Ends _ _ _ (sends (AwaitsUpload (number32 0 bytes)) (upload_request (number32 4 bytes)) tt tt (lit≤ tt)) (ends_bad payload)
keeps_reply (AwaitsUpload count) reply payload short = keeps_upload (entries_in count (bytes_given reply)) payload
keeps_reply (AwaitsNotification e watching) reply payload short = record { names = tt; sendable = tt; one_by_one = lit≤ tt }
keeps_reply (Watches e handle left) reply payload short = record { names = tt; sendable = tt; one_by_one = lit≤ tt }
keeps_reply (AwaitsTypeInfo name e) reply payload short =
    let bytes = bytes_given reply in
    either Ends _ _ _ (sends (AwaitsTypes name e (number32 8 bytes)) (type_upload_request (number32 12 bytes)) short tt (lit≤ tt)) (ends_bad payload)
keeps_reply (AwaitsTypes name e count) reply payload short = keeps_types name e (types_in count (bytes_given reply)) payload short
keeps_reply (AwaitsLeaves size leaves) reply payload short =
    either Ends _ _ _ (prints_all (leaf_line (bytes_given reply)) leaves) (ends_bad payload)
keeps_reply (Records wait r) reply payload short = keeps_record_reply wait r reply payload short
keeps_reply (FinishedRecording end entries) reply payload short = record { names = tt; sendable = tt; one_by_one = lit≤ tt }
keeps_reply (Finished end) reply payload short = record { names = tt; sendable = tt; one_by_one = lit≤ tt }

keeps_reply_read : (stage : Stage) (o : Option Reply) (payload : List ℕ) → HasShortNames stage → Ends (after_reply_read stage o payload)
keeps_reply_read stage None payload short = keeps_end_at stage _ 0 (lit≤ tt)
keeps_reply_read stage (Some reply) payload short =
    either Ends (result_of reply == 0) _ _ (keeps_reply stage reply payload short) (keeps_end_at stage (Refused (result_of reply)) 0 (lit≤ tt))

keeps_answer : (stage : Stage) (error : ℕ) (o : Option Reply) (payload : List ℕ) → HasShortNames stage → Ends (after_answer stage error o payload)
unfolding after_answer
keeps_answer stage error o payload short =
    either Ends (error == 0) _ _ (keeps_reply_read stage o payload short) (keeps_end_at stage (Refused error) 0 (lit≤ tt))

keeps_stay : (stage : Stage) (n : ℕ) → HasShortNames stage → n ≤ most_asked stage → Keeps n (stay stage)
keeps_stay stage n short one = record { names = short; sendable = tt; one_by_one = omega arith }

keeps_watched : (e : SymbolEntry) (handle left n time : ℕ) (bytes : List ℕ) → n ≤ 0 → Keeps n (after_watched_sample e handle left time bytes)
keeps_watched e handle zero n time bytes one = record { names = tt; sendable = tt; one_by_one = omega arith }
keeps_watched e handle (suc left) n time bytes one = by_left left (sample_line time (value_text e.type_id bytes))
  where
    by_left : (left : ℕ) (text : List ℕ) → Keeps n (with_samples_left e handle left text)
    by_left zero text = record { names = tt; sendable = (tt, (tt, tt)); one_by_one = omega arith }
    by_left (suc more) text = record { names = tt; sendable = (tt, tt); one_by_one = omega arith }

keeps_sample : (stage : Stage) (n handle time : ℕ) (bytes : List ℕ) → HasShortNames stage
    → n ≤ most_asked stage → Keeps n (after_sample stage handle time bytes)
unfolding after_sample
keeps_sample (Watches e watched left) n handle time bytes short one =
    either (Keeps n) (handle == watched) _ _ (keeps_watched e watched left n time bytes one) (keeps_stay (Watches e watched left) n tt one)
keeps_sample (Records wait r) n handle time bytes short one = keeps_record_sample wait r time bytes (recorded_at r handle) n short one
keeps_sample stage n handle time bytes short one = keeps_stay stage n short one

keeps_end : (stage : Stage) (n handle : ℕ) → HasShortNames stage → n ≤ most_asked stage → Keeps n (after_end stage handle)
unfolding after_end
keeps_end (Watches e watched left) n handle short one =
    either (Keeps n) (handle == watched) _ _ (ends_line n one) (keeps_stay (Watches e watched left) n tt one)
  where
    ends_line : (n : ℕ) → n ≤ 0 → Keeps n (done_with (ToPrint ended_line ∷ []))
    ends_line n none = record { names = tt; sendable = (tt, tt); one_by_one = omega arith }
keeps_end (Records wait r) n handle short one = keeps_record_end wait r handle n short one
keeps_end stage n handle short one = keeps_stay stage n short one

pub at_most_one : (stage : Stage) → most_asked stage ≤ 1
at_most_one (Watches e handle left) = lit≤ tt
at_most_one (Records ForSamples r) = lit≤ tt
at_most_one stage = lit≤ tt

-- with so many outstanding requests behind what is heard
pub keeps_heard : (stage : Stage) (h : Heard) (n : ℕ) → HasShortNames stage → n + answers h ≤ most_asked stage → Keeps n (after_heard stage h)
unfolding after_heard
keeps_heard stage (Answered id error command payload) n short one =
    let most = at_most_one stage in
    let none : n ≡ 0 = omega arith in
    rw none (keeps_answer stage error (reply_of command payload) payload short)
keeps_heard stage (Sampled handle time bytes) n short one = keeps_sample stage n handle time bytes short (omega arith)
keeps_heard stage (Ended handle) n short one = keeps_end stage n handle short (omega arith)
keeps_heard stage (Stray id) n short one = keeps_stay stage n short (omega arith)
keeps_heard stage (TimedOut id sent now) n short one = keeps_end_at stage (stages.TimedOut sent now) n (omega (arith, one, at_most_one stage))
keeps_heard stage NotYet n short one = keeps_stay stage n short (omega arith)
keeps_heard stage (Broken peer) n short one = keeps_end_at stage (BadPeer peer) n (omega (arith, one, at_most_one stage))
