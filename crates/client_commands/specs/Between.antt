-- A call and a recording between two addresses over a link. No public clause cites this.
use Rattle.std.specs.Prelude.{◌≡◌, ℕ, List, Result}
use Rattle.ads_base.specs.declared.no_memory.NoMemory.{NoMemory}
use Rattle.ads_outside.specs.SinkState.{SinkState}
use Rattle.ams_header.specs.Header.{address_of}
use Rattle.sample_store.specs.declared.keeper_open.KeeperOpen.TheVariants as open_
use Rattle.sample_store.specs.Keeper.{KeeperState}
use Rattle.client_loop.specs.Called.{Calling, calling}
use Rattle.client_loop.specs.Outlets.{Outlets}
use Rattle.client_loop.specs.Recorded.{AfterRecord}
use Rattle.client_loop.specs.declared.record_end.RecordEnd.{RecordEnd}
use Rattle.run_tasks.specs.declared.client_task.ClientTask.{ClientTask}
use Rattle.run_tasks.specs.declared.record_task.RecordTask.{RecordTask}
use Rattle.run_tasks.specs.declared.status.Status.{Status}
use Rattle.run_tasks.specs.Asking.{call_asked}
use Rattle.run_tasks.specs.RecordAsked.{call_recorded}
use Rattle.client_commands.specs.declared.address.CallAddrs.{CallAddrs}
use Rattle.client_commands.specs.CallUses.{LinkUse}
use Rattle.client_commands.specs.Recording.{BehindOpening, EndsRecorded, LeavesLink}

-- the call over a link that is connected to this text
abbrev pub asking_between : ClientTask → CallAddrs → List ℕ → Calling
asking_between what addrs to = calling (address_of addrs.own) (address_of addrs.asked) (call_asked what) to

-- that of a recording behind so many rows
abbrev pub recording_between : RecordTask → CallAddrs → List ℕ → ℕ → Calling
recording_between what addrs to rows = calling (address_of addrs.own) (address_of addrs.asked) (call_recorded what rows) to

-- what a recording leaves over a link that is used so
abbrev pub RecordsOver : {O : Type 0} → LinkUse O → Calling → Result RecordEnd NoMemory → Outlets → Outlets → Type 0
RecordsOver link x answer = AfterRecord answer x link.told link.tells link.old link.new

-- a recording over a link, into a table that is open and has so many rows
abbrev pub EndsBehind : {O : Type 0} → ℕ → (ℕ → Calling) → Status → SinkState → SinkState → LinkUse O → KeeperState → KeeperState → Type 0
EndsBehind n x s out out_new link keeper keeper_new =
    BehindOpening (open_.Ready n) (λ m. EndsRecorded (RecordsOver link (x m)) s out out_new keeper keeper_new)
    (LeavesLink link × (keeper_new ≡ keeper)) s out out_new
