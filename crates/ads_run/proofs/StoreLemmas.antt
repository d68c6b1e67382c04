-- Which runs end by a disk or a keeper.
use Rattle.std.proofs.Common.{◌≡◌, Option, Some, None, subst, sym}
use Rattle.ads_outside.specs.LinkState.{LinkState}
use Rattle.ads_outside.specs.Rose.{Rose}
use Rattle.spec_client.specs.Conversation.{LoopEnd, CallEnded, Budget}
use Rattle.spec_client.specs.Stages.{Done, Refused, BadPeer, BadValue, TimedOut}
use Rattle.cli_words.specs.declared.client_words.ClientWords.{ClientWords}
use Rattle.cli_words.specs.declared.client_words.PeerWords.{PeerWords}
use Rattle.cli_words.specs.declared.client_words.PeerWords.TheVariants as peer
use Rattle.run_tasks.specs.declared.client_task.ClientTask.{ClientTask}
use Rattle.run_tasks.specs.declared.status.Status.{Status}
use Rattle.run_tasks.specs.declared.status.Status.TheVariants as status
use Rattle.run_tasks.specs.declared.task.Task.{Task}
use Rattle.run_tasks.specs.declared.task.Task.TheVariants as task
use Rattle.client_commands.specs.Calling.{status_of_loop}
use Rattle.run_tasks.specs.declared.record_task.RecordTask.{RecordTask}
use Rattle.ads_run.proofs.Causes.{CauseOfAsking, CauseOfRecord, HasCause, IsNoStoreEnd}
use Rattle.client_commands.specs.CallUses.{KeeperUse}
use Rattle.ads_run.specs.Uses.{Uses}

-- no call of a client ends by a disk or a keeper
no_store_end : (e : LoopEnd) (s : Status) → s ≡ status_of_loop e → IsNoStoreEnd s
no_store_end e s is = subst IsNoStoreEnd (sym is) (of_loop e)
  where
    of_loop : (e : LoopEnd) → IsNoStoreEnd (status_of_loop e)
    of_loop Budget = tt
    of_loop (CallEnded Done) = tt
    of_loop (CallEnded (Refused code)) = tt
    of_loop (CallEnded (BadPeer broke)) = tt
    of_loop (CallEnded BadValue) = tt
    of_loop (CallEnded (TimedOut sent now)) = tt

asking_stores_nothing : (what : ClientTask) (client : ClientWords) (p : PeerWords) (lo ln : LinkState) → CauseOfAsking what client p status.StoreFault lo ln
    → ⊥
asking_stores_nothing what client (peer.To to net) lo ln h = no_store_end h.ended status.StoreFault h.status
asking_stores_nothing what client (peer.Local description) lo ln h = h

asking_keeps_nothing : (what : ClientTask) (client : ClientWords) (p : PeerWords) (lo ln : LinkState) → CauseOfAsking what client p status.KeeperFault lo ln
    → ⊥
asking_keeps_nothing what client (peer.To to net) lo ln h = no_store_end h.ended status.KeeperFault h.status
asking_keeps_nothing what client (peer.Local description) lo ln h = h

recording_stores_nothing : (what : RecordTask) (p : PeerWords) (lo ln : LinkState) (keeper : KeeperUse)
    → CauseOfRecord what p status.StoreFault lo ln keeper → ⊥
recording_stores_nothing what (peer.To to net) lo ln keeper h = no_store_end h.ended status.StoreFault h.status
recording_stores_nothing what (peer.Local description) lo ln keeper h = h

recording_by_keeper : (what : RecordTask) (p : PeerWords) (lo ln : LinkState) (keeper : KeeperUse) → CauseOfRecord what p status.KeeperFault lo ln keeper
    → Rose keeper.old.faults keeper.new.faults
recording_by_keeper what (peer.To to net) lo ln keeper h = h
recording_by_keeper what (peer.Local description) lo ln keeper h = h

-- a run ends by its disk only where a call of the disk failed
store_cause : {O : Type 0} (asked : Option Task) (u : Uses O) → HasCause asked status.StoreFault u → Rose u.disk.faults u.disk.faults_new
store_cause None u h = absurd h
store_cause (Some (task.OfFiles t)) u h = absurd h
store_cause (Some (task.Serve d l n)) u h = absurd h
store_cause (Some (task.RelayServe d l n)) u h = absurd h
store_cause (Some (task.Keep d script store)) u h = h
store_cause (Some (task.Ask what client)) u h = absurd (asking_stores_nothing what client client.peer u.link.old u.link.new h)
store_cause (Some (task.Record what)) u h = absurd (recording_stores_nothing what what.client.peer u.link.old u.link.new u.keeper h)

pub store_fault : {O : Type 0} (asked : Option Task) (s : Status) (u : Uses O) → HasCause asked s u → s ≡ status.StoreFault
    → Rose u.disk.faults u.disk.faults_new
store_fault asked s u h is = store_cause asked u (subst (λ t. HasCause asked t u) is h)

-- and by its keeper only where a call of the keeper failed
keeper_cause : {O : Type 0} (asked : Option Task) (u : Uses O) → HasCause asked status.KeeperFault u → Rose u.keeper.old.faults u.keeper.new.faults
keeper_cause None u h = absurd h
keeper_cause (Some (task.OfFiles t)) u h = absurd h
keeper_cause (Some (task.Serve d l n)) u h = absurd h
keeper_cause (Some (task.RelayServe d l n)) u h = absurd h
keeper_cause (Some (task.Keep d script store)) u h = absurd h
keeper_cause (Some (task.Ask what client)) u h = absurd (asking_keeps_nothing what client client.peer u.link.old u.link.new h)
keeper_cause (Some (task.Record what)) u h = recording_by_keeper what what.client.peer u.link.old u.link.new u.keeper h

pub keeper_fault : {O : Type 0} (asked : Option Task) (s : Status) (u : Uses O) → HasCause asked s u → s ≡ status.KeeperFault
    → Rose u.keeper.old.faults u.keeper.new.faults
keeper_fault asked s u h is = keeper_cause asked u (subst (λ t. HasCause asked t u) is h)
