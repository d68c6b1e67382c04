-- Why a run ended so, by the counts of what it is handed in; and how a run ends where nothing fails.
use Rattle.std.specs.Prelude.{◌≡◌, ◌⊎◌, ◌<◌, ℕ, Bool, true, List, Option, Some, None}
use Rattle.ads_outside.specs.FilesState.{FilesState}
use Rattle.ads_outside.specs.LinkState.{LinkState}
use Rattle.ads_outside.specs.Rose.{Rose, raised}
use Rattle.ads_outside.specs.WireState.{WireHistory}
use Rattle.serve_loop.specs.TurnTaken.{raised_by}
use Rattle.spec_client.specs.Conversation.{LinkAnswer, LoopEnd}
use Rattle.spec_local.specs.LocalCall.{Cutting}
use Rattle.spec_local_room.specs.Laws.{is_setting, IsAnswered}
use Rattle.cli_words.specs.declared.client_words.ClientWords.{ClientWords}
use Rattle.cli_words.specs.declared.client_words.PeerWords.{PeerWords}
use Rattle.cli_words.specs.declared.client_words.PeerWords.TheVariants as peer
use Rattle.client_loop.specs.Called.{Calling, calling, over}
use Rattle.client_loop.specs.LinkAfter.{history_over}
use Rattle.run_tasks.specs.declared.client_task.ClientTask.{ClientTask}
use Rattle.run_tasks.specs.declared.record_task.RecordTask.{RecordTask}
use Rattle.run_tasks.specs.declared.status.Status.{Status}
use Rattle.run_tasks.specs.declared.status.Status.TheVariants as status
use Rattle.run_tasks.specs.declared.task.Task.{Task}
use Rattle.run_tasks.specs.declared.task.Task.TheVariants as task
use Rattle.run_tasks.specs.Asking.{LocalCalling, call_asked, own_address, asked_address}
use Rattle.client_commands.specs.Calling.{status_of_loop, local_conversation}
use Rattle.run_tasks.specs.RecordAsked.{recording_to}
use Rattle.ads_run.proofs.RecordCauses.{CauseOfRecording, CauseOfLocalRecording, IsEndOfRecording, IsEndOfLocalRecording, IsFull}
use Rattle.client_commands.specs.CallUses.{KeeperUse}
use Rattle.ads_run.specs.Uses.{Uses}
use Rattle.run_tasks.specs.Verdict.{Verdict, Ends, Serves, Calls, CallsLocally, Keeps, Records, RecordsLocally}

-- the wire gave fewer events than that, and then answered End
pub record EndsOfWire (limit : ℕ) (old new : WireHistory) : Type 0 where
  pub count : ℕ
  pub fewer : count < limit
  pub events : new.events ≡ raised_by count old.events
  pub ended : new.ends ≡ raised old.ends
  pub no_stop : new.stops ≡ old.stops

-- the wire gave so many events, and was not asked again
pub record TakesAll (limit : ℕ) (old new : WireHistory) : Type 0 where
  pub events : new.events ≡ raised_by limit old.events
  pub no_end : new.ends ≡ old.ends
  pub no_stop : new.stops ≡ old.stops

-- the wire failed to start, or gave fewer events than that and then failed to give the next
pub record FailsOfWire (limit : ℕ) (old new : WireHistory) : Type 0 where
  pub stopped : Rose old.stops new.stops
  pub no_end : new.ends ≡ old.ends
  pub count : ℕ
  pub fewer : (count ≡ 0) ⊎ (count < limit)
  pub events : new.events ≡ raised_by count old.events

-- only a command that keeps values on a disk or samples in a keeper ends so
abbrev pub IsNoStoreEnd : Status → Type 0
IsNoStoreEnd status.StoreFault = ⊥
IsNoStoreEnd status.StoreLimit = ⊥
IsNoStoreEnd status.KeeperFault = ⊥
IsNoStoreEnd s = Unit {0}

-- only a client's call ends so
abbrev pub IsNoCallEnd : Status → Type 0
IsNoCallEnd (status.Refused code) = ⊥
IsNoCallEnd (status.BadPeer broke) = ⊥
IsNoCallEnd (status.TimedOut sent now) = ⊥
IsNoCallEnd status.BadValue = ⊥
IsNoCallEnd s = IsNoStoreEnd s

-- why a service of so many events ended so
abbrev pub CauseOfService : ℕ → Status → WireHistory → WireHistory → Type 0
CauseOfService limit status.Done old new = EndsOfWire limit old new
CauseOfService limit status.Budget old new = TakesAll limit old new
CauseOfService limit status.LinkFault old new = FailsOfWire limit old new
CauseOfService limit s old new = IsNoCallEnd s

-- no other task ends by the wire or by a link
abbrev pub IsNoServiceEnd : Status → Type 0
IsNoServiceEnd status.LinkFault = ⊥
IsNoServiceEnd status.Budget = ⊥
IsNoServiceEnd s = IsNoCallEnd s

-- the status is that of the call over the answers that the link gave
pub record IsEndOfCall (x : Calling) (s : Status) (new : LinkState) : Type 0 where
  pub moment : ℕ
  pub answers : List LinkAnswer
  pub history : new.history ≡ history_over moment answers
  pub ended : LoopEnd
  pub end_is : (over x moment answers).end ≡ Some ended
  pub status : s ≡ status_of_loop ended

-- why a call over the link ended so
abbrev pub CauseOfCall : Calling → Status → LinkState → LinkState → Type 0
CauseOfCall x status.LinkFault old new = Rose old.faults new.faults
CauseOfCall x status.ReadFault old new = Unit {0}
CauseOfCall x status.WriteFault old new = Unit {0}
CauseOfCall x status.Memory old new = Unit {0}
CauseOfCall x s old new = IsEndOfCall x s new

-- in the same process no link fails and no request times out; and a text is no value only where one is set
abbrev pub IsLocalEnd : Bool → Status → Type 0
IsLocalEnd sets status.LinkFault = ⊥
IsLocalEnd sets (status.TimedOut sent now) = ⊥
IsLocalEnd sets status.BadValue = sets ≡ true
IsLocalEnd sets s = IsNoStoreEnd s

abbrev pub CauseOfAsking : ClientTask → ClientWords → PeerWords → Status → LinkState → LinkState → Type 0
CauseOfAsking what client (peer.To to net) s old new =
    CauseOfCall (calling (own_address client) (asked_address net client) (call_asked what) to) s old new
CauseOfAsking what client (peer.Local description) s old new = IsLocalEnd (is_setting (call_asked what)) s

-- why a play over a store ended so
abbrev pub CauseOfKeeping : Status → ℕ → ℕ → Type 0
CauseOfKeeping status.StoreFault faults faults_new = Rose faults faults_new
CauseOfKeeping status.StoreLimit faults faults_new = Unit {0}
CauseOfKeeping s faults faults_new = IsNoServiceEnd s

abbrev pub CauseOfRecord : RecordTask → PeerWords → Status → LinkState → LinkState → KeeperUse → Type 0
CauseOfRecord what (peer.To to net) s old new keeper = CauseOfRecording (recording_to what net to) s old new keeper.old keeper.new
CauseOfRecord what (peer.Local description) s old new keeper = CauseOfLocalRecording s keeper.old keeper.new

-- why a run of a task ended so
abbrev pub HasCause : {O : Type 0} → Option Task → Status → Uses O → Type 0
HasCause None s u = IsNoServiceEnd s
HasCause (Some (task.OfFiles t)) s u = IsNoServiceEnd s
HasCause (Some (task.Serve description listen events)) s u = CauseOfService events s u.wire u.wire_new
HasCause (Some (task.RelayServe description listen events)) s u = CauseOfService events s u.wire u.wire_new
HasCause (Some (task.Keep description script store)) s u = CauseOfKeeping s u.disk.faults u.disk.faults_new
HasCause (Some (task.Ask what client)) s u = CauseOfAsking what client client.peer s u.link.old u.link.new
HasCause (Some (task.Record what)) s u = CauseOfRecord what what.client.peer s u.link.old u.link.new u.keeper

-- no reading, no piece of output, no start of the wire, no event and no call of the link, the disk or the keeper failed
pub record NothingFailed {O : Type 0} (files files_new : FilesState) (u : Uses O) : Type 0 where
  pub reading : Rose files.faults files_new.faults → ⊥
  pub writing : Rose u.out.faults u.out_new.faults → ⊥
  pub serving : Rose u.wire.stops u.wire_new.stops → ⊥
  pub talking : Rose u.link.old.faults u.link.new.faults → ⊥
  pub storing : Rose u.disk.faults u.disk.faults_new → ⊥
  pub keeping : Rose u.keeper.old.faults u.keeper.new.faults → ⊥

-- the status is that of the call over the server in the same process, however its answers are cut
pub record IsEndOfLocal (x : LocalCalling) (s : Status) : Type 0 where
  pub ended : LoopEnd
  pub end_is : (cutting : Cutting) → (local_conversation x cutting).end ≡ Some ended
  pub answered : IsAnswered (is_setting x.call) ended
  pub status : s ≡ status_of_loop ended

-- how a run ends where nothing failed: as its verdict says, or a service is done or took all its events, a call is
-- over as its conversation is, a play over a store is saved whole or stopped by the limit; or memory was wanting
abbrev pub IsOwnEnd : {O : Type 0} → Verdict → Status → Uses O → Type 0
IsOwnEnd (Ends ending) s u = (s ≡ ending.status) ⊎ (s ≡ status.Memory)
IsOwnEnd (Serves service) s u = (s ≡ status.Done) ⊎ (s ≡ status.Budget) ⊎ (s ≡ status.Memory)
IsOwnEnd (Calls x) s u = IsEndOfCall x s u.link.new ⊎ (s ≡ status.Memory)
IsOwnEnd (CallsLocally x) s u = IsEndOfLocal x s ⊎ (s ≡ status.Memory)
IsOwnEnd (Keeps x) s u = (s ≡ status.Done) ⊎ (s ≡ status.StoreLimit) ⊎ (s ≡ status.Memory)
IsOwnEnd (Records x) s u =
    IsEndOfRecording x s u.link.new u.keeper.old.rows ⊎ ((s ≡ status.StoreLimit) × IsFull u.keeper.old.rows) ⊎ (s ≡ status.Memory)
IsOwnEnd (RecordsLocally x) s u =
    IsEndOfLocalRecording x s u.keeper.old.rows ⊎ ((s ≡ status.StoreLimit) × IsFull u.keeper.old.rows) ⊎ (s ≡ status.Memory)
