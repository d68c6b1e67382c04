-- What the end of a recording says of its cause.
use Rattle.std.proofs.Common.{◌≡◌, ◌≤◌, ℕ, List, Option, Some, inl, inr, subst, sym, refl, rules}
use Rattle.std.specs.Prelude.{◌⊎◌, Result, Ok, Err}
use Rattle.ads_base.specs.declared.no_memory.NoMemory.{NoMemory}
use Rattle.ads_outside.specs.declared.link_move.LinkMove.{LinkMove}
use Rattle.ads_outside.specs.LinkState.{LinkState}
use Rattle.ads_outside.specs.Rose.{Rose}
use Rattle.ads_outside.specs.SinkState.{SinkState}
use Rattle.spec_client.specs.Conversation.{LoopEnd, CallEnded, Budget}
use Rattle.spec_client.specs.Stages.{CallEnd, Done, Refused, BadPeer, BadValue, TimedOut}
use Rattle.spec_samples.specs.Row.{Row}
use Rattle.client_loop.specs.Called.{Calling}
use Rattle.client_loop.specs.Outlets.{outlets}
use Rattle.client_loop.specs.Recorded.{AfterRecord, RecordsAll}
use Rattle.client_replies.specs.declared.stage.CallEnd as call_end_type
use Rattle.client_replies.specs.declared.stage.CallEnd.TheVariants as call_end
use Rattle.client_loop.specs.declared.loop_end.LoopEnd.TheVariants as end
use Rattle.client_loop.specs.declared.record_end.RecordEnd.{RecordEnd}
use Rattle.client_loop.specs.declared.record_end.RecordEnd.TheVariants as recorded
use Rattle.client_replies.specs.Stages.{end_meant}
use Rattle.sample_store.specs.declared.keeper_open.KeeperOpen.{KeeperOpen}
use Rattle.sample_store.specs.declared.keeper_open.KeeperOpen.TheVariants as open_
use Rattle.sample_store.specs.Keeper.{KeeperState, Counts}
use Rattle.run_tasks.specs.declared.status.Status.{Status}
use Rattle.run_tasks.specs.declared.status.Status.TheVariants as status
use Rattle.client_commands.specs.Calling.{status_of_call, status_of_loop}
use Rattle.run_tasks.specs.Ending.{line_alone}
use Rattle.run_tasks.specs.Prints.{PrintsEnding}
use Rattle.client_commands.specs.Between.{RecordsOver}
use Rattle.client_commands.specs.Recording.{MOST_ROWS, PrintsRecorded, EndsRecorded, EndsRecording, LeavesLink, BehindOpening}
use Rattle.ads_run.proofs.RecordCauses.{CauseOfRecording, IsEndOfRecording, IsFull}
use Rattle.client_commands.specs.CallUses.{LinkUse, KeeperUse}
use Rattle.ads_run.proofs.CallCauseLemmas.{CallFacts, told_facts, wanting_facts, unwritten_facts, no_writing, no_usage, told_own, not_unwritten}
use Rattle.run_tasks.proofs.ReadingLemmas.{rose_from}

-- a recording that ended so, behind so many rows
pub record HasEnded {O : Type 0} (x : Calling) (ended : LoopEnd) (old_tells new_tells : O → List LinkMove → Type 0) (new : LinkState)
    (out : SinkState) (keeper keeper_new : KeeperState) : Type 0 where
  pub mid : SinkState
  pub all : RecordsAll x (Some ended) old_tells new_tells new (outlets out keeper) (outlets mid keeper_new)

has_ended : {O : Type 0} (x : Calling) (e : call_end_type.CallEnd) (told tells : O → List LinkMove → Type 0) (old new : LinkState)
    (out between : SinkState) (keeper keeper_new : KeeperState)
    → AfterRecord (Ok (recorded.Loop (end.Call e))) x told tells old new (outlets out keeper) (outlets between keeper_new)
    → HasEnded x (CallEnded (end_meant e)) told tells new out keeper keeper_new
has_ended x call_end.Done told tells old new out between keeper keeper_new h = record { mid = h.before; all = h.all }
has_ended x (call_end.Refused code) told tells old new out between keeper keeper_new h = record { mid = between; all = h }
has_ended x (call_end.BadPeer peer) told tells old new out between keeper keeper_new h = record { mid = between; all = h }
has_ended x call_end.BadValue told tells old new out between keeper keeper_new h = record { mid = between; all = h }
has_ended x (call_end.TimedOut sent now) told tells old new out between keeper keeper_new h = record { mid = between; all = h }

-- the causes
end_of : {O : Type 0} (x : ℕ → Calling) (n : ℕ) (e : LoopEnd) (s : Status) (link : LinkUse O) (out : SinkState) (keeper opened keeper_new : KeeperState)
    → Counts (open_.Ready n) keeper.rows → n ≤ MOST_ROWS → HasEnded (x n) e link.told link.tells link.new out opened keeper_new → s ≡ status_of_loop e
    → IsEndOfRecording x s link.new keeper.rows
end_of x n e s link out keeper opened keeper_new counts room h is = record {
  count = n;
  counts = counts;
  room = room;
  moment = h.all.talks.moment;
  answers = h.all.talks.answers;
  history = h.all.talks.history;
  ended = e;
  end_is = h.all.talks.end_is;
  status = is;
}

cause_of_end : (x : ℕ → Calling) (e : CallEnd) (lo ln : LinkState) (ko kn : KeeperState) → IsEndOfRecording x (status_of_call e) ln ko.rows
    → CauseOfRecording x (status_of_call e) lo ln ko kn
cause_of_end x Done lo ln ko kn h = h
cause_of_end x (Refused code) lo ln ko kn h = h
cause_of_end x (BadPeer peer) lo ln ko kn h = h
cause_of_end x BadValue lo ln ko kn h = h
cause_of_end x (TimedOut sent now) lo ln ko kn h = h

-- why a recording over the link ends with a status
abbrev Cause : {O : Type 0} → (ℕ → Calling) → LinkUse O → KeeperUse → Status → Type 0
Cause x link keeper s = CauseOfRecording x s link.old link.new keeper.old keeper.new

recorded_facts : {O : Type 0} (x : ℕ → Calling) (n : ℕ) (answer : Result RecordEnd NoMemory) (s : Status) (out between out_new : SinkState) (link : LinkUse O)
    (keeper : KeeperUse) (opened : KeeperState) → Counts (open_.Ready n) keeper.old.rows → n ≤ MOST_ROWS → keeper.old.faults ≤ opened.faults
    → AfterRecord answer (x n) link.told link.tells link.old link.new (outlets out opened) (outlets between keeper.new) → out.faults ≤ between.faults
    → PrintsRecorded answer s between out_new → CallFacts (Cause x link keeper) s out out_new
recorded_facts x n (Ok (recorded.Loop (end.Call e))) s out between out_new link keeper opened counts room before called later printed =
    told_facts (Cause x link keeper) (status_of_call (end_meant e)) s out between out_new
    (cause_of_end x (end_meant e) link.old link.new keeper.old keeper.new
    (end_of x n (CallEnded (end_meant e)) (status_of_call (end_meant e)) link out keeper.old opened keeper.new counts room
    (has_ended (x n) e link.told link.tells link.old link.new out between opened keeper.new called) refl))
    tt tt (no_writing (end_meant e)) (no_usage (end_meant e)) later printed
recorded_facts x n (Ok (recorded.Loop end.Budget)) s out between out_new link keeper opened counts room before called later printed =
    told_facts (Cause x link keeper) status.Budget s out between out_new (end_of x n Budget status.Budget link out keeper.old opened keeper.new counts room
    (record { mid = between; all = called }) refl)
    tt tt (λ e. (cc)) (λ e. (cc)) later printed
recorded_facts x n (Ok (recorded.Loop end.LinkFault)) s out between out_new link keeper opened counts room before called later printed =
    told_facts (Cause x link keeper) status.LinkFault s out between out_new called.0 tt tt (λ e. (cc)) (λ e. (cc)) later printed
recorded_facts x n (Ok (recorded.Loop end.WriteFault)) s out between out_new link keeper opened counts room before called later printed =
    unwritten_facts (Cause x link keeper) s out between out_new tt printed.0 printed.1 called.0
recorded_facts x n (Ok recorded.KeeperFault) s out between out_new link keeper opened counts room before called later printed =
    told_facts (Cause x link keeper) status.KeeperFault s out between out_new
    (rose_from keeper.old.faults opened.faults keeper.new.faults before called.0) tt tt (λ e. (cc)) (λ e. (cc)) later printed
recorded_facts x n (Err e) s out between out_new link keeper opened counts room before called later printed =
    wanting_facts (Cause x link keeper) s out out_new tt printed.0

pub same_faults : (out : SinkState) → out.faults ≤ out.faults
same_faults out = search rules

-- a keeper that was not called again failed at the opening
pub failed_at_opening : (old opened new : KeeperState) → new ≡ opened → Rose old.faults opened.faults → Rose old.faults new.faults
failed_at_opening old opened new same rose = subst (λ k. Rose old.faults k.faults) (sym same) rose

opened_facts : {O : Type 0} (x : ℕ → Calling) (answer : KeeperOpen) (s : Status) (out out_new : SinkState) (link : LinkUse O) (keeper : KeeperUse)
    (opened : KeeperState) → Counts answer keeper.old.rows → keeper.old.faults ≤ opened.faults
    → (answer ≡ open_.Failed → Rose keeper.old.faults opened.faults)
    → BehindOpening answer (λ n. EndsRecorded (RecordsOver link (x n)) s out out_new opened keeper.new) (LeavesLink link × (keeper.new ≡ opened)) s out out_new
    → CallFacts (Cause x link keeper) s out out_new
opened_facts x (open_.Ready n) s out out_new link keeper opened counts before failed (inl (room, e)) =
    recorded_facts x n e.answer s out e.between out_new link keeper opened counts room before e.called e.later.sink.faults e.prints
opened_facts x (open_.Ready n) s out out_new link keeper opened counts before failed (inr (full, still, printed)) =
    told_facts (Cause x link keeper) status.StoreLimit s out out out_new (record { count = n; counts = counts; full = full }) tt tt
    (λ e. (cc)) (λ e. (cc)) (same_faults out) printed
opened_facts x open_.Failed s out out_new link keeper opened counts before failed (still, printed) =
    told_facts (Cause x link keeper) status.KeeperFault s out out out_new
    (failed_at_opening keeper.old opened keeper.new still.1 (failed refl)) tt tt (λ e. (cc)) (λ e. (cc)) (same_faults out) printed
opened_facts x open_.Memory s out out_new link keeper opened counts before failed (still, is, line) =
    wanting_facts (Cause x link keeper) s out out_new tt is

pub recording_facts : {O : Type 0} (x : ℕ → Calling) (s : Status) (out out_new : SinkState) (link : LinkUse O) (keeper : KeeperUse)
    → EndsRecording x s out out_new link keeper
    → CallFacts (λ t. CauseOfRecording x t link.old link.new keeper.old keeper.new) s out out_new
recording_facts x s out out_new link keeper (inl h) = wanting_facts (Cause x link keeper) s out out_new tt h.2.0
recording_facts x s out out_new link keeper (inr h) =
    opened_facts x h.answer s out out_new link keeper h.opened h.counts h.later h.failed h.ended

-- where nothing failed, a recording ends as its conversation, or the table is full, or memory was wanting
abbrev pub OwnEnd : Type 0 → Option (List Row) → Status → Type 0
OwnEnd Q rows s = Q ⊎ ((s ≡ status.StoreLimit) × IsFull rows) ⊎ (s ≡ status.Memory)

pub own_or_memory : (Q : Type 0) (rows : Option (List Row)) (s : Status) → Q ⊎ (s ≡ status.Memory) → OwnEnd Q rows s
own_or_memory Q rows s (inl q) = inl q
own_or_memory Q rows s (inr is) = inr (inr is)

pub full_own : (Q : Type 0) (rows : Option (List Row)) (s : Status) → (s ≡ status.StoreLimit) ⊎ (s ≡ status.Memory) → IsFull rows → OwnEnd Q rows s
full_own Q rows s (inl is) full = inr (inl (is, full))
full_own Q rows s (inr is) full = inr (inr is)

own_recorded : {O : Type 0} (x : ℕ → Calling) (n : ℕ) (answer : Result RecordEnd NoMemory) (s : Status) (out between out_new : SinkState) (link : LinkUse O)
    (keeper : KeeperUse) (opened : KeeperState) → (Rose out.faults out_new.faults → ⊥) → (Rose link.old.faults link.new.faults → ⊥)
    → (Rose keeper.old.faults keeper.new.faults → ⊥) → Counts (open_.Ready n) keeper.old.rows → n ≤ MOST_ROWS → keeper.old.faults ≤ opened.faults
    → AfterRecord answer (x n) link.told link.tells link.old link.new (outlets out opened) (outlets between keeper.new) → out.faults ≤ between.faults
    → PrintsRecorded answer s between out_new → IsEndOfRecording x s link.new keeper.old.rows ⊎ (s ≡ status.Memory)
own_recorded x n (Ok (recorded.Loop (end.Call e))) s out between out_new link keeper opened no_fault no_loss kept counts room before called later printed =
    told_own (IsEndOfRecording x s link.new keeper.old.rows) (status_of_call (end_meant e)) s out between out_new
    (λ is. end_of x n (CallEnded (end_meant e)) s link out keeper.old opened keeper.new counts room
    (has_ended (x n) e link.told link.tells link.old link.new out between opened keeper.new called) is) later no_fault printed
own_recorded x n (Ok (recorded.Loop end.Budget)) s out between out_new link keeper opened no_fault no_loss kept counts room before called later printed =
    told_own (IsEndOfRecording x s link.new keeper.old.rows) status.Budget s out between out_new
    (λ is. end_of x n Budget s link out keeper.old opened keeper.new counts room (record { mid = between; all = called }) is) later no_fault printed
own_recorded x n (Ok (recorded.Loop end.LinkFault)) s out between out_new link keeper opened no_fault no_loss kept counts room before called later printed =
    absurd (no_loss called.0)
own_recorded x n (Ok (recorded.Loop end.WriteFault)) s out between out_new link keeper opened no_fault no_loss kept counts room before called later printed =
    not_unwritten _ out between out_new no_fault printed.1 called.0
own_recorded x n (Ok recorded.KeeperFault) s out between out_new link keeper opened no_fault no_loss kept counts room before called later printed =
    absurd (kept (rose_from keeper.old.faults opened.faults keeper.new.faults before called.0))
own_recorded x n (Err e) s out between out_new link keeper opened no_fault no_loss kept counts room before called later printed = inr printed.0

pub own_full : (s : Status) (out out_new : SinkState) → (Rose out.faults out_new.faults → ⊥) → PrintsEnding (line_alone status.StoreLimit) s out out_new
    → (s ≡ status.StoreLimit) ⊎ (s ≡ status.Memory)
own_full s out out_new no_fault printed = told_own (s ≡ status.StoreLimit) status.StoreLimit s out out out_new (λ is. is) (same_faults out) no_fault printed

own_opened : {O : Type 0} (x : ℕ → Calling) (answer : KeeperOpen) (s : Status) (out out_new : SinkState) (link : LinkUse O) (keeper : KeeperUse)
    (opened : KeeperState) → (Rose out.faults out_new.faults → ⊥) → (Rose link.old.faults link.new.faults → ⊥)
    → (Rose keeper.old.faults keeper.new.faults → ⊥) → Counts answer keeper.old.rows → keeper.old.faults ≤ opened.faults
    → (answer ≡ open_.Failed → Rose keeper.old.faults opened.faults)
    → BehindOpening answer (λ n. EndsRecorded (RecordsOver link (x n)) s out out_new opened keeper.new) (LeavesLink link × (keeper.new ≡ opened)) s out out_new
    → OwnEnd (IsEndOfRecording x s link.new keeper.old.rows) keeper.old.rows s
own_opened x (open_.Ready n) s out out_new link keeper opened no_fault no_loss kept counts before failed (inl (room, e)) =
    own_or_memory _ keeper.old.rows s
    (own_recorded x n e.answer s out e.between out_new link keeper opened no_fault no_loss kept counts room before e.called e.later.sink.faults e.prints)
own_opened x (open_.Ready n) s out out_new link keeper opened no_fault no_loss kept counts before failed (inr (full, still, printed)) =
    full_own _ keeper.old.rows s (own_full s out out_new no_fault printed) (record { count = n; counts = counts; full = full })
own_opened x open_.Failed s out out_new link keeper opened no_fault no_loss kept counts before failed (still, printed) =
    absurd (kept (failed_at_opening keeper.old opened keeper.new still.1 (failed refl)))
own_opened x open_.Memory s out out_new link keeper opened no_fault no_loss kept counts before failed (still, is, line) = inr (inr is)

pub own_recording : {O : Type 0} (x : ℕ → Calling) (s : Status) (out out_new : SinkState) (link : LinkUse O) (keeper : KeeperUse)
    → (Rose out.faults out_new.faults → ⊥) → (Rose link.old.faults link.new.faults → ⊥) → (Rose keeper.old.faults keeper.new.faults → ⊥)
    → EndsRecording x s out out_new link keeper
    → IsEndOfRecording x s link.new keeper.old.rows ⊎ ((s ≡ status.StoreLimit) × IsFull keeper.old.rows) ⊎ (s ≡ status.Memory)
own_recording x s out out_new link keeper no_fault no_loss kept (inl h) = inr (inr h.2.0)
own_recording x s out out_new link keeper no_fault no_loss kept (inr h) =
    own_opened x h.answer s out out_new link keeper h.opened no_fault no_loss kept h.counts h.later h.failed h.ended
