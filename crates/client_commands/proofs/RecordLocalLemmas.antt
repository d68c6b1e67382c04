-- A recording over the link to a server in the same process is the local one.
use Rattle.std.proofs.Common.{◌≡◌, ℕ, List, [], ◌++◌, take, Option, Some, inl, inr, subst, ap, sym, ◌∙◌}
use Rattle.std.specs.Prelude.{Result, Ok, Err}
use Rattle.ads_base.specs.declared.no_memory.NoMemory.{NoMemory}
use Rattle.ads_outside.specs.Puts.{Appends, AppendsPart}
use Rattle.ads_outside.specs.SinkState.{SinkState}
use Rattle.spec_samples.specs.Row.{Row}
use Rattle.spec_client.specs.Conversation.{LoopEnd, CallEnded, Budget}
use Rattle.spec_client.specs.Runner.{CallStep}
use Rattle.spec_client.specs.Stages.{Done, Refused, BadPeer, BadValue, TimedOut}
use Rattle.spec_client.specs.TotalLines.{total_lines}
use Rattle.client_loop.specs.Called.{Calling}
use Rattle.client_loop.specs.Due.{AtPrint, Anywhere}
use Rattle.client_loop.specs.Outlets.{Outlets, outlets, Adds, AddsPart}
use Rattle.client_loop.specs.Recorded.{AfterRecord, RecordsAll, RecordsSome, RecordsDone}
use Rattle.client_replies.specs.declared.stage.CallEnd.TheVariants as call_end
use Rattle.client_loop.specs.declared.loop_end.LoopEnd.TheVariants as end
use Rattle.client_loop.specs.declared.record_end.RecordEnd.{RecordEnd}
use Rattle.client_loop.specs.declared.record_end.RecordEnd.TheVariants as recorded
use Rattle.local_link.specs.Link.{LocalView, IsTold, state_of}
use Rattle.run_tasks.specs.declared.status.Status.{Status}
use Rattle.run_tasks.specs.Asking.{LocalCalling}
use Rattle.client_commands.specs.Between.{RecordsOver}
use Rattle.client_commands.specs.Recording.{EndsRecording, LeavesLink, LocalRecordsAll, LocalRecordsSome, LocalRecordsDone}
use Rattle.client_commands.specs.Recording.{AfterLocalRecord, EndsLocalRecording}
use Rattle.client_commands.specs.CallUses.{KeeperUse, used}
use Rattle.client_commands.proofs.FitLemmas.{FitsCalling}
use Rattle.client_commands.proofs.LocalLemmas.{call_of_local, start, same_talk, begins_talk, talks_locally, breaks_off_locally, up_to_end, take_begun, no_fault}
use Rattle.client_commands.proofs.RecordLemmas.{recording_as}

same_outlets : (out out_new : Outlets) → out_new.sink ≡ out.sink → out_new.keeper ≡ out.keeper → out_new ≡ out
same_outlets out out_new sink keeper = ap (λ s. outlets s out_new.keeper) sink ∙ ap (λ k. outlets out.sink k) keeper

records_locally : (x : LocalCalling) → FitsCalling x → (to : List ℕ) (e : LoopEnd) (old new : LocalView) (out out_new : Outlets) → IsTold old (start x) []
    → RecordsAll (call_of_local x to) (Some e) (λ o log. IsTold old o log) (λ o log. IsTold new o log) (state_of new) out out_new
    → LocalRecordsAll x e out out_new
records_locally x fits to e old new out out_new told h =
    let same = same_talk x fits to e old new out.sink out_new.sink told h.talks in
    record {
      talks = talks_locally x fits to e old new out.sink out_new.sink told h.talks;
      rows = λ cutting. subst (Adds out.keeper.rows out_new.keeper.rows) (same cutting).kept h.rows;
    }

some_of_all : (old new : Option (List Row)) (part whole left : List Row) → whole ≡ part ++ left → AddsPart old new part → AddsPart old new whole
some_of_all old new part whole left is puts =
    let n = puts.0 in
    (up_to_end n part, subst (Adds old new) (sym (ap (take (up_to_end n part)) is ∙ take_begun n part left)) puts.1)

records_some_locally : (IsStop : List CallStep → Type 0) (x : LocalCalling) → FitsCalling x → (to : List ℕ) (old new : LocalView)
    (out out_new : Outlets) → IsTold old (start x) []
    → RecordsSome IsStop (call_of_local x to) (λ o log. IsTold old o log) (λ o log. IsTold new o log) (state_of new) out out_new
    → LocalRecordsSome x out out_new
records_some_locally IsStop x fits to old new out out_new told h =
    let begins = begins_talk IsStop x fits to old new out.sink out_new.sink told h.breaks in
    record {
      breaks = breaks_off_locally IsStop x fits to old new out.sink out_new.sink told h.breaks;
      rows = λ cutting. some_of_all out.keeper.rows out_new.keeper.rows _ _ (begins cutting).kept_left (begins cutting).kept h.rows;
    }

done_locally : (IsPut : Option (List ℕ) → Option (List ℕ) → List ℕ → Type 0) (x : LocalCalling) → FitsCalling x → (to : List ℕ) (old new : LocalView)
    (out out_new : Outlets) → IsTold old (start x) []
    → RecordsDone IsPut (call_of_local x to) (λ o log. IsTold old o log) (λ o log. IsTold new o log) (state_of new) out out_new
    → LocalRecordsDone IsPut x out out_new
done_locally IsPut x fits to old new out out_new told h =
    let same = same_talk x fits to (CallEnded Done) old new out.sink h.before told h.all.talks in
    record {
      before = h.before;
      all = records_locally x fits to (CallEnded Done) old new out (outlets h.before out_new.keeper) told h.all;
      lines = h.lines;
      are_lines = λ cutting rows told_are. h.are_lines rows told_are ∙ ap (total_lines rows) (same cutting).entries;
      put = h.put;
    }

local_of_record : (x : LocalCalling) → FitsCalling x → (to : List ℕ) (answer : Result RecordEnd NoMemory) (old new : LocalView) (out out_new : Outlets)
    → IsTold old (start x) []
    → AfterRecord answer (call_of_local x to) (λ o log. IsTold old o log) (λ o log. IsTold new o log) (state_of old) (state_of new) out out_new
    → AfterLocalRecord answer x out out_new
local_of_record x fits to (Ok (recorded.Loop (end.Call call_end.Done))) old new out out_new told h = done_locally Appends x fits to old new out out_new told h
local_of_record x fits to (Ok (recorded.Loop (end.Call (call_end.Refused code)))) old new out out_new told h =
    records_locally x fits to (CallEnded (Refused code)) old new out out_new told h
local_of_record x fits to (Ok (recorded.Loop (end.Call (call_end.BadPeer peer)))) old new out out_new told h =
    records_locally x fits to (CallEnded (BadPeer peer)) old new out out_new told h
local_of_record x fits to (Ok (recorded.Loop (end.Call call_end.BadValue))) old new out out_new told h =
    records_locally x fits to (CallEnded BadValue) old new out out_new told h
local_of_record x fits to (Ok (recorded.Loop (end.Call (call_end.TimedOut sent now)))) old new out out_new told h =
    records_locally x fits to (CallEnded (TimedOut sent now)) old new out out_new told h
local_of_record x fits to (Ok (recorded.Loop end.Budget)) old new out out_new told h = records_locally x fits to Budget old new out out_new told h
local_of_record x fits to (Ok (recorded.Loop end.LinkFault)) old new out out_new told h = no_fault h.0
local_of_record x fits to (Ok (recorded.Loop end.WriteFault)) old new out out_new told (rose, inl h) =
    (rose, inl (records_some_locally AtPrint x fits to old new out out_new told h))
local_of_record x fits to (Ok (recorded.Loop end.WriteFault)) old new out out_new told (rose, inr h) =
    (rose, inr (done_locally AppendsPart x fits to old new out out_new told h))
local_of_record x fits to (Ok recorded.KeeperFault) old new out out_new told (rose, inl h) =
    (rose, inl (records_some_locally Anywhere x fits to old new out out_new told h))
local_of_record x fits to (Ok recorded.KeeperFault) old new out out_new told (rose, inr h) =
    (rose, inr (records_locally x fits to (CallEnded Done) old new out out_new told h))
local_of_record x fits to (Err e) old new out out_new told (inl h) = inl (same_outlets out out_new h.begins.silent h.untouched)
local_of_record x fits to (Err e) old new out out_new told (inr (inl h)) = inr (inl (records_some_locally Anywhere x fits to old new out out_new told h))
local_of_record x fits to (Err e) old new out out_new told (inr (inr h)) = inr (inr (done_locally AppendsPart x fits to old new out out_new told h))

-- the recording of a server in the same process
pub local_recording_ends : (x : ℕ → LocalCalling) → ((n : ℕ) → FitsCalling (x n)) → (to : List ℕ) (y : ℕ → Calling) (s : Status)
    (old new : LocalView) (out out_new : SinkState) (keeper : KeeperUse) → ((n : ℕ) → y n ≡ call_of_local (x n) to) → ((n : ℕ) → IsTold old (start (x n)) [])
    → EndsRecording y s out out_new (used (λ o log. IsTold old o log) (λ o log. IsTold new o log) (state_of old) (state_of new)) keeper
    → EndsLocalRecording x s out out_new keeper
local_recording_ends x fits to y s old new out out_new keeper same told h =
    let link = used (λ o log. IsTold old o log) (λ o log. IsTold new o log) (state_of old) (state_of new) in
    recording_as (λ n. RecordsOver link (y n)) (λ n answer. AfterLocalRecord answer (x n)) (LeavesLink link) (Unit {0}) s out out_new keeper
    (λ n answer o p called. local_of_record (x n) (fits n) to answer old new o p (told n)
    (subst (λ (z : Calling). RecordsOver link z answer o p) (same n) called)) (λ still. tt) h
