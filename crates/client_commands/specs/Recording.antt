-- What a recording leaves in the keeper, in the link and in the sink, and with which status it ends.
use Rattle.std.specs.Prelude.{◌≡◌, ◌⊎◌, ◌≤◌, ◌<◌, ℕ, List, Option, Some, Result, Ok, Err}
use Rattle.ads_base.specs.declared.no_memory.NoMemory.{NoMemory}
use Rattle.ads_outside.specs.declared.link_move.LinkMove.{LinkMove}
use Rattle.ads_outside.specs.Rose.{Rose}
use Rattle.ads_outside.specs.Puts.{Appends, AppendsPart}
use Rattle.ads_outside.specs.SinkState.{SinkState}
use Rattle.spec_samples.specs.Row.{Row}
use Rattle.spec_client.specs.Conversation.{LoopEnd, CallEnded, Budget}
use Rattle.spec_client.specs.Stages.{Done, entries_taken}
use Rattle.spec_client.specs.TotalLines.{total_lines}
use Rattle.spec_local.specs.LocalCall.{Cutting}
use Rattle.client_replies.specs.Stages.{end_meant}
use Rattle.client_replies.specs.declared.stage.CallEnd.TheVariants as call_end
use Rattle.client_loop.specs.Called.{Calling}
use Rattle.client_loop.specs.Outlets.{Outlets, outlets, IsLater, Adds, AddsPart}
use Rattle.client_loop.specs.Recorded.{AfterRecord}
use Rattle.client_loop.specs.declared.loop_end.LoopEnd.TheVariants as end
use Rattle.client_loop.specs.declared.record_end.RecordEnd.{RecordEnd}
use Rattle.client_loop.specs.declared.record_end.RecordEnd.TheVariants as recorded
use Rattle.sample_store.specs.declared.keeper_open.KeeperOpen.{KeeperOpen}
use Rattle.sample_store.specs.declared.keeper_open.KeeperOpen.TheVariants as open_
use Rattle.sample_store.specs.Keeper.{KeeperState, Counts}
use Rattle.run_tasks.specs.declared.status.Status.{Status}
use Rattle.run_tasks.specs.declared.status.Status.TheVariants as status
use Rattle.run_tasks.specs.Asking.{LocalCalling}
use Rattle.client_commands.specs.Calling.{PrintsAnswer, LocalTalks, LocalBreaksOff, local_conversation}
use Rattle.run_tasks.specs.Ending.{line_alone}
use Rattle.run_tasks.specs.EndsOr.{WantsMemory}
use Rattle.run_tasks.specs.Prints.{PutsMemoryLine, PrintsEnding}
use Rattle.client_commands.specs.CallUses.{LinkUse, KeeperUse}

-- This project's own choice: how many rows a table may have that more are put into. A recording puts at most 1,000,000, and no
-- number of a row is above 63 bits.
abbrev pub MOST_ROWS : ℕ
MOST_ROWS = 9223372036853775807

-- what is printed behind a recording, by how it ended: the last line of the status
abbrev pub PrintsRecorded : Result RecordEnd NoMemory → Status → SinkState → SinkState → Type 0
PrintsRecorded (Ok (recorded.Loop e)) s old new = PrintsAnswer (Ok e) s old new
PrintsRecorded (Ok recorded.KeeperFault) s old new = PrintsEnding (line_alone status.KeeperFault) s old new
PrintsRecorded (Err e) s old new = PrintsAnswer (Err e) s old new

-- a local call that talks, all of whose rows were put, however its answers are cut
pub record LocalRecordsAll (x : LocalCalling) (ended : LoopEnd) (out out_new : Outlets) : Type 0 where
  pub talks : LocalTalks x ended out.sink out_new.sink
  pub rows : (cutting : Cutting) → Adds out.keeper.rows out_new.keeper.rows (local_conversation x cutting).kept

-- one that broke off, some first ones of whose rows were put
pub record LocalRecordsSome (x : LocalCalling) (out out_new : Outlets) : Type 0 where
  pub breaks : LocalBreaksOff x out.sink out_new.sink
  pub rows : (cutting : Cutting) → AddsPart out.keeper.rows out_new.keeper.rows (local_conversation x cutting).kept

-- it is done, and the lines of its entries were put, whole or in part; they are of all rows, where rows are told
pub record LocalRecordsDone (IsPut : Option (List ℕ) → Option (List ℕ) → List ℕ → Type 0) (x : LocalCalling) (out out_new : Outlets)
    : Type 0 where
  pub before : SinkState
  pub all : LocalRecordsAll x (CallEnded Done) out (outlets before out_new.keeper)
  pub lines : List ℕ
  pub are_lines : (cutting : Cutting) (rows : List Row) → out_new.keeper.rows ≡ Some rows
      → lines ≡ total_lines rows (entries_taken (local_conversation x cutting).runner.stage)
  pub put : IsPut before.held out_new.sink.held lines

-- what a recording in the same process leaves, by how it ended; no link fails
abbrev pub AfterLocalRecord : Result RecordEnd NoMemory → LocalCalling → Outlets → Outlets → Type 0
AfterLocalRecord (Ok (recorded.Loop (end.Call call_end.Done))) x out out_new = LocalRecordsDone Appends x out out_new
AfterLocalRecord (Ok (recorded.Loop (end.Call e))) x out out_new = LocalRecordsAll x (CallEnded (end_meant e)) out out_new
AfterLocalRecord (Ok (recorded.Loop end.Budget)) x out out_new = LocalRecordsAll x Budget out out_new
AfterLocalRecord (Ok (recorded.Loop end.LinkFault)) x out out_new = ⊥
AfterLocalRecord (Ok (recorded.Loop end.WriteFault)) x out out_new =
    Rose out.sink.faults out_new.sink.faults × (LocalRecordsSome x out out_new ⊎ LocalRecordsDone AppendsPart x out out_new)
AfterLocalRecord (Ok recorded.KeeperFault) x out out_new =
    Rose out.keeper.faults out_new.keeper.faults × (LocalRecordsSome x out out_new ⊎ LocalRecordsAll x (CallEnded Done) out out_new)
AfterLocalRecord (Err e) x out out_new = (out_new ≡ out) ⊎ LocalRecordsSome x out out_new ⊎ LocalRecordsDone AppendsPart x out out_new

-- a recording into a table that is open, which left this by how it ended, and its last line
pub record EndsRecorded (Left : Result RecordEnd NoMemory → Outlets → Outlets → Type 0) (s : Status) (out out_new : SinkState)
    (keeper keeper_new : KeeperState) : Type 0 where
  pub answer : Result RecordEnd NoMemory
  pub between : SinkState
  pub called : Left answer (outlets out keeper) (outlets between keeper_new)
  pub later : IsLater (outlets out keeper) (outlets between keeper_new)
  pub prints : PrintsRecorded answer s between out_new
  -- where the keeper failed, that line stands alone
  pub alone : answer ≡ Ok recorded.KeeperFault → PrintsEnding (line_alone status.KeeperFault) s out out_new

-- the link was not called
pub record LeavesLink {O : Type 0} (link : LinkUse O) : Type 0 where
  pub same : link.new ≡ link.old
  pub told : (o : O) (log : List LinkMove) → link.told o log → link.tells o log

-- how a run ends, by what the opening of the table answered. It goes on only behind a number of rows that leaves room; where it
-- does not, nothing else is called.
abbrev pub BehindOpening : KeeperOpen → (ℕ → Type 0) → (still : Type 0) → Status → SinkState → SinkState → Type 0
BehindOpening (open_.Ready n) GoesOn still s out out_new =
    ((n ≤ MOST_ROWS) × GoesOn n)
    ⊎ ((MOST_ROWS < n) × still × PrintsEnding (line_alone status.StoreLimit) s out out_new)
BehindOpening open_.Failed GoesOn still s out out_new = still × PrintsEnding (line_alone status.KeeperFault) s out out_new
BehindOpening open_.Memory GoesOn still s out out_new = still × (s ≡ status.Memory) × PutsMemoryLine out out_new

-- The table was opened, which changes no row and tells how many there are, and the run ended by that. A recording behind so many rows left this.
pub record EndsByTable (Left : ℕ → Result RecordEnd NoMemory → Outlets → Outlets → Type 0) (still : Type 0) (s : Status) (out out_new : SinkState)
    (keeper : KeeperUse) : Type 0 where
  pub answer : KeeperOpen
  pub opened : KeeperState
  pub counts : Counts answer keeper.old.rows
  pub rows : opened.rows ≡ keeper.old.rows
  pub later : keeper.old.faults ≤ opened.faults
  pub failed : answer ≡ open_.Failed → Rose keeper.old.faults opened.faults
  pub ended : BehindOpening answer (λ n. EndsRecorded (Left n) s out out_new opened keeper.new) (still × (keeper.new ≡ opened)) s out out_new

-- any recording: memory was wanting before its table was opened, or it ended by that
abbrev pub EndsAnyRecording : (ℕ → Result RecordEnd NoMemory → Outlets → Outlets → Type 0) → (still : Type 0) → Status → SinkState → SinkState
    → KeeperUse → Type 0
EndsAnyRecording Left still s out out_new keeper =
    (still × (keeper.new ≡ keeper.old) × WantsMemory s out out_new) ⊎ EndsByTable Left still s out out_new keeper

-- a recording over the link, whose call is this behind so many rows
abbrev pub EndsRecording : {O : Type 0} → (ℕ → Calling) → Status → SinkState → SinkState → LinkUse O → KeeperUse → Type 0
EndsRecording x s out out_new link keeper =
    EndsAnyRecording (λ n answer. AfterRecord answer (x n) link.told link.tells link.old link.new) (LeavesLink link) s out out_new keeper

-- one in the same process
abbrev pub EndsLocalRecording : (ℕ → LocalCalling) → Status → SinkState → SinkState → KeeperUse → Type 0
EndsLocalRecording x s out out_new keeper = EndsAnyRecording (λ n answer. AfterLocalRecord answer (x n)) (Unit {0}) s out out_new keeper
