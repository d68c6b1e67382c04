-- What the end of a recording in the same process says of its cause.
use Rattle.std.proofs.Common.{◌≡◌, ◌≤◌, ℕ, List, Option, Some, inl, inr, refl, sym, ◌∙◌}
use Rattle.std.specs.Prelude.{◌⊎◌, Bool, false, true, Result, Ok, Err}
use Rattle.ads_base.specs.declared.no_memory.NoMemory.{NoMemory}
use Rattle.ads_outside.specs.Rose.{Rose}
use Rattle.ads_outside.specs.SinkState.{SinkState}
use Rattle.spec_samples.specs.Row.{Row}
use Rattle.spec_client.specs.Conversation.{LoopEnd, CallEnded, Budget}
use Rattle.spec_client.specs.Stages.{CallEnd, Done, Refused, BadPeer, BadValue, TimedOut}
use Rattle.spec_local.specs.LocalCall.{Cutting}
use Rattle.spec_local_room.specs.Laws.{is_setting, IsAnswered}
use Rattle.client_loop.specs.Outlets.{Outlets, outlets}
use Rattle.client_replies.specs.declared.stage.CallEnd as call_end_type
use Rattle.client_replies.specs.declared.stage.CallEnd.TheVariants as call_end
use Rattle.client_loop.specs.declared.loop_end.LoopEnd.TheVariants as end
use Rattle.client_loop.specs.declared.record_end.RecordEnd.{RecordEnd}
use Rattle.client_loop.specs.declared.record_end.RecordEnd.TheVariants as recorded
use Rattle.client_replies.specs.Stages.{end_meant}
use Rattle.sample_store.specs.declared.keeper_open.KeeperOpen.{KeeperOpen}
use Rattle.sample_store.specs.declared.keeper_open.KeeperOpen.TheVariants as open_
use Rattle.sample_store.specs.Keeper.{KeeperState, Counts}
use Rattle.run_tasks.specs.declared.status.Status.{Status}
use Rattle.run_tasks.specs.declared.status.Status.TheVariants as status
use Rattle.run_tasks.specs.Asking.{LocalCalling}
use Rattle.client_commands.specs.Calling.{status_of_call, status_of_loop, local_conversation}
use Rattle.client_commands.specs.Recording.{MOST_ROWS, PrintsRecorded, BehindOpening}
use Rattle.client_commands.specs.Recording.{AfterLocalRecord, EndsRecorded, EndsLocalRecording}
use Rattle.ads_run.proofs.RecordCauses.{CauseOfLocalRecording, IsEndOfLocalRecording, IsFull}
use Rattle.client_commands.specs.CallUses.{KeeperUse}
use Rattle.ads_run.proofs.CallCauseLemmas.{CallFacts, told_facts, wanting_facts, unwritten_facts, no_writing, no_usage, told_own, not_unwritten}
use Rattle.run_tasks.proofs.ReadingLemmas.{rose_from}
use Rattle.ads_run.proofs.RecordCauseLemmas.{same_faults, failed_at_opening, OwnEnd, own_or_memory, full_own, own_full}

-- why a local recording ends with a status
abbrev Cause : KeeperUse → Status → Type 0
Cause keeper s = CauseOfLocalRecording s keeper.old keeper.new

-- which sets no value
cause_of_end : (sets : Bool) → sets ≡ false → (e : CallEnd) (keeper : KeeperUse) → IsAnswered sets (CallEnded e) → Cause keeper (status_of_call e)
cause_of_end sets none Done keeper h = tt
cause_of_end sets none (Refused code) keeper h = tt
cause_of_end sets none (BadPeer peer) keeper h = tt
cause_of_end sets none BadValue keeper h = let is : sets ≡ true = h in let same : true ≡ false = sym is ∙ none in cc
cause_of_end sets none (TimedOut sent now) keeper h = h

-- a recording that ended so, however its answers are cut
record LocalEnded (x : LocalCalling) (e : LoopEnd) : Type 0 where
  is : (cutting : Cutting) → (local_conversation x cutting).end ≡ Some e
  answered : IsAnswered (is_setting x.call) e

local_ended : (x : LocalCalling) (e : call_end_type.CallEnd) (out out_new : Outlets) → AfterLocalRecord (Ok (recorded.Loop (end.Call e))) x out out_new
    → LocalEnded x (CallEnded (end_meant e))
local_ended x call_end.Done out out_new h = record { is = h.all.talks.end_is; answered = h.all.talks.answered }
local_ended x (call_end.Refused code) out out_new h = record { is = h.talks.end_is; answered = h.talks.answered }
local_ended x (call_end.BadPeer peer) out out_new h = record { is = h.talks.end_is; answered = h.talks.answered }
local_ended x call_end.BadValue out out_new h = record { is = h.talks.end_is; answered = h.talks.answered }
local_ended x (call_end.TimedOut sent now) out out_new h = record { is = h.talks.end_is; answered = h.talks.answered }

recorded_facts : (x : LocalCalling) → is_setting x.call ≡ false → (answer : Result RecordEnd NoMemory) (s : Status) (out between out_new : SinkState)
    (keeper : KeeperUse) (opened : KeeperState) → keeper.old.faults ≤ opened.faults
    → AfterLocalRecord answer x (outlets out opened) (outlets between keeper.new) → out.faults ≤ between.faults
    → PrintsRecorded answer s between out_new → CallFacts (Cause keeper) s out out_new
recorded_facts x none (Ok (recorded.Loop (end.Call e))) s out between out_new keeper opened before called later printed =
    told_facts (Cause keeper) (status_of_call (end_meant e)) s out between out_new
    (cause_of_end (is_setting x.call) none (end_meant e) keeper (local_ended x e (outlets out opened) (outlets between keeper.new) called).answered)
    tt tt (no_writing (end_meant e)) (no_usage (end_meant e)) later printed
recorded_facts x none (Ok (recorded.Loop end.Budget)) s out between out_new keeper opened before called later printed =
    told_facts (Cause keeper) status.Budget s out between out_new tt tt tt (λ e. (cc)) (λ e. (cc)) later printed
recorded_facts x none (Ok (recorded.Loop end.LinkFault)) s out between out_new keeper opened before called later printed = absurd called
recorded_facts x none (Ok (recorded.Loop end.WriteFault)) s out between out_new keeper opened before called later printed =
    unwritten_facts (Cause keeper) s out between out_new tt printed.0 printed.1 called.0
recorded_facts x none (Ok recorded.KeeperFault) s out between out_new keeper opened before called later printed =
    told_facts (Cause keeper) status.KeeperFault s out between out_new
    (rose_from keeper.old.faults opened.faults keeper.new.faults before called.0) tt tt (λ e. (cc)) (λ e. (cc)) later printed
recorded_facts x none (Err e) s out between out_new keeper opened before called later printed = wanting_facts (Cause keeper) s out out_new tt printed.0

opened_facts : (x : ℕ → LocalCalling) → ((n : ℕ) → is_setting (x n).call ≡ false) → (answer : KeeperOpen) (s : Status) (out out_new : SinkState)
    (keeper : KeeperUse) (opened : KeeperState) → Counts answer keeper.old.rows → keeper.old.faults ≤ opened.faults
    → (answer ≡ open_.Failed → Rose keeper.old.faults opened.faults)
    → BehindOpening answer (λ n. EndsRecorded (λ a. AfterLocalRecord a (x n)) s out out_new opened keeper.new) (Unit {0} × (keeper.new ≡ opened)) s out out_new
    → CallFacts (Cause keeper) s out out_new
opened_facts x none (open_.Ready n) s out out_new keeper opened counts before failed (inl (room, e)) =
    recorded_facts (x n) (none n) e.answer s out e.between out_new keeper opened before e.called e.later.sink.faults e.prints
opened_facts x none (open_.Ready n) s out out_new keeper opened counts before failed (inr (full, still, printed)) =
    told_facts (Cause keeper) status.StoreLimit s out out out_new (record { count = n; counts = counts; full = full }) tt tt
    (λ e. (cc)) (λ e. (cc)) (same_faults out) printed
opened_facts x none open_.Failed s out out_new keeper opened counts before failed (still, printed) =
    told_facts (Cause keeper) status.KeeperFault s out out out_new
    (failed_at_opening keeper.old opened keeper.new still.1 (failed refl)) tt tt (λ e. (cc)) (λ e. (cc)) (same_faults out) printed
opened_facts x none open_.Memory s out out_new keeper opened counts before failed (still, is, line) = wanting_facts (Cause keeper) s out out_new tt is

pub local_recording_facts : (x : ℕ → LocalCalling) → ((n : ℕ) → is_setting (x n).call ≡ false) → (s : Status) (out out_new : SinkState)
    (keeper : KeeperUse) → EndsLocalRecording x s out out_new keeper
    → CallFacts (λ t. CauseOfLocalRecording t keeper.old keeper.new) s out out_new
local_recording_facts x none s out out_new keeper (inl h) = wanting_facts (Cause keeper) s out out_new tt h.2.0
local_recording_facts x none s out out_new keeper (inr h) = opened_facts x none h.answer s out out_new keeper h.opened h.counts h.later h.failed h.ended

-- where nothing failed
local_end : (x : ℕ → LocalCalling) (n : ℕ) (e : LoopEnd) (s : Status) (rows : Option (List Row)) → Counts (open_.Ready n) rows → n ≤ MOST_ROWS
    → LocalEnded (x n) e → s ≡ status_of_loop e → IsEndOfLocalRecording x s rows
local_end x n e s rows counts room h is = record {
  count = n;
  counts = counts;
  room = room;
  ended = e;
  end_is = h.is;
  answered = h.answered;
  status = is;
}

own_recorded : (x : ℕ → LocalCalling) (n : ℕ) (answer : Result RecordEnd NoMemory) (s : Status) (out between out_new : SinkState) (keeper : KeeperUse)
    (opened : KeeperState) → (Rose out.faults out_new.faults → ⊥) → (Rose keeper.old.faults keeper.new.faults → ⊥)
    → Counts (open_.Ready n) keeper.old.rows → n ≤ MOST_ROWS → keeper.old.faults ≤ opened.faults
    → AfterLocalRecord answer (x n) (outlets out opened) (outlets between keeper.new) → out.faults ≤ between.faults → PrintsRecorded answer s between out_new
    → IsEndOfLocalRecording x s keeper.old.rows ⊎ (s ≡ status.Memory)
own_recorded x n (Ok (recorded.Loop (end.Call e))) s out between out_new keeper opened no_fault kept counts room before called later printed =
    told_own (IsEndOfLocalRecording x s keeper.old.rows) (status_of_call (end_meant e)) s out between out_new
    (λ is. local_end x n (CallEnded (end_meant e)) s keeper.old.rows counts room
    (local_ended (x n) e (outlets out opened) (outlets between keeper.new) called) is) later no_fault printed
own_recorded x n (Ok (recorded.Loop end.Budget)) s out between out_new keeper opened no_fault kept counts room before called later printed =
    told_own (IsEndOfLocalRecording x s keeper.old.rows) status.Budget s out between out_new
    (λ is. local_end x n Budget s keeper.old.rows counts room (record { is = called.talks.end_is; answered = called.talks.answered }) is) later no_fault printed
own_recorded x n (Ok (recorded.Loop end.LinkFault)) s out between out_new keeper opened no_fault kept counts room before called later printed =
    absurd called
own_recorded x n (Ok (recorded.Loop end.WriteFault)) s out between out_new keeper opened no_fault kept counts room before called later printed =
    not_unwritten _ out between out_new no_fault printed.1 called.0
own_recorded x n (Ok recorded.KeeperFault) s out between out_new keeper opened no_fault kept counts room before called later printed =
    absurd (kept (rose_from keeper.old.faults opened.faults keeper.new.faults before called.0))
own_recorded x n (Err e) s out between out_new keeper opened no_fault kept counts room before called later printed = inr printed.0

own_opened : (x : ℕ → LocalCalling) (answer : KeeperOpen) (s : Status) (out out_new : SinkState) (keeper : KeeperUse) (opened : KeeperState)
    → (Rose out.faults out_new.faults → ⊥) → (Rose keeper.old.faults keeper.new.faults → ⊥) → Counts answer keeper.old.rows
    → keeper.old.faults ≤ opened.faults → (answer ≡ open_.Failed → Rose keeper.old.faults opened.faults)
    → BehindOpening answer (λ n. EndsRecorded (λ a. AfterLocalRecord a (x n)) s out out_new opened keeper.new) (Unit {0} × (keeper.new ≡ opened)) s out out_new
    → OwnEnd (IsEndOfLocalRecording x s keeper.old.rows) keeper.old.rows s
own_opened x (open_.Ready n) s out out_new keeper opened no_fault kept counts before failed (inl (room, e)) =
    own_or_memory _ keeper.old.rows s
    (own_recorded x n e.answer s out e.between out_new keeper opened no_fault kept counts room before e.called e.later.sink.faults e.prints)
own_opened x (open_.Ready n) s out out_new keeper opened no_fault kept counts before failed (inr (full, still, printed)) =
    full_own _ keeper.old.rows s (own_full s out out_new no_fault printed) (record { count = n; counts = counts; full = full })
own_opened x open_.Failed s out out_new keeper opened no_fault kept counts before failed (still, printed) =
    absurd (kept (failed_at_opening keeper.old opened keeper.new still.1 (failed refl)))
own_opened x open_.Memory s out out_new keeper opened no_fault kept counts before failed (still, is, line) = inr (inr is)

pub own_local_recording : (x : ℕ → LocalCalling) (s : Status) (out out_new : SinkState) (keeper : KeeperUse) → (Rose out.faults out_new.faults → ⊥)
    → (Rose keeper.old.faults keeper.new.faults → ⊥) → EndsLocalRecording x s out out_new keeper
    → IsEndOfLocalRecording x s keeper.old.rows ⊎ ((s ≡ status.StoreLimit) × IsFull keeper.old.rows) ⊎ (s ≡ status.Memory)
own_local_recording x s out out_new keeper no_fault kept (inl h) = inr (inr h.2.0)
own_local_recording x s out out_new keeper no_fault kept (inr h) =
    own_opened x h.answer s out out_new keeper h.opened no_fault kept h.counts h.later h.failed h.ended
