-- Why a recording ended so.
use Rattle.std.specs.Prelude.{◌≡◌, ◌≤◌, ◌<◌, ℕ, List, Option, Some}
use Rattle.ads_outside.specs.LinkState.{LinkState}
use Rattle.ads_outside.specs.Rose.{Rose}
use Rattle.spec_client.specs.Conversation.{LinkAnswer, LoopEnd}
use Rattle.spec_local.specs.LocalCall.{Cutting}
use Rattle.spec_local_room.specs.Laws.{is_setting, IsAnswered}
use Rattle.spec_samples.specs.Row.{Row}
use Rattle.client_loop.specs.Called.{Calling, over}
use Rattle.client_loop.specs.LinkAfter.{history_over}
use Rattle.sample_store.specs.declared.keeper_open.KeeperOpen.TheVariants as open_
use Rattle.sample_store.specs.Keeper.{KeeperState, Counts}
use Rattle.run_tasks.specs.declared.status.Status.{Status}
use Rattle.run_tasks.specs.declared.status.Status.TheVariants as status
use Rattle.run_tasks.specs.Asking.{LocalCalling}
use Rattle.client_commands.specs.Calling.{status_of_loop, local_conversation}
use Rattle.client_commands.specs.Recording.{MOST_ROWS}

-- the table has so many rows that none is put
pub record IsFull (rows : Option (List Row)) : Type 0 where
  pub count : ℕ
  pub counts : Counts (open_.Ready count) rows
  pub full : MOST_ROWS < count

-- the status is that of the call over the answers that the link gave, behind as many rows as the table has
pub record IsEndOfRecording (x : ℕ → Calling) (s : Status) (new : LinkState) (rows : Option (List Row)) : Type 0 where
  pub count : ℕ
  pub counts : Counts (open_.Ready count) rows
  pub room : count ≤ MOST_ROWS
  pub moment : ℕ
  pub answers : List LinkAnswer
  pub history : new.history ≡ history_over moment answers
  pub ended : LoopEnd
  pub end_is : (over (x count) moment answers).end ≡ Some ended
  pub status : s ≡ status_of_loop ended

-- why a recording over the link ended so
abbrev pub CauseOfRecording : (ℕ → Calling) → Status → LinkState → LinkState → KeeperState → KeeperState → Type 0
CauseOfRecording x status.StoreLimit old new keeper keeper_new = IsFull keeper.rows
CauseOfRecording x status.KeeperFault old new keeper keeper_new = Rose keeper.faults keeper_new.faults
CauseOfRecording x status.LinkFault old new keeper keeper_new = Rose old.faults new.faults
CauseOfRecording x status.ReadFault old new keeper keeper_new = Unit {0}
CauseOfRecording x status.WriteFault old new keeper keeper_new = Unit {0}
CauseOfRecording x status.Memory old new keeper keeper_new = Unit {0}
CauseOfRecording x s old new keeper keeper_new = IsEndOfRecording x s new keeper.rows

-- and in the same process, where no link fails, no request times out and no value is set
abbrev pub CauseOfLocalRecording : Status → KeeperState → KeeperState → Type 0
CauseOfLocalRecording status.StoreLimit keeper keeper_new = IsFull keeper.rows
CauseOfLocalRecording status.KeeperFault keeper keeper_new = Rose keeper.faults keeper_new.faults
CauseOfLocalRecording status.StoreFault keeper keeper_new = ⊥
CauseOfLocalRecording status.LinkFault keeper keeper_new = ⊥
CauseOfLocalRecording (status.TimedOut sent now) keeper keeper_new = ⊥
CauseOfLocalRecording status.BadValue keeper keeper_new = ⊥
CauseOfLocalRecording s keeper keeper_new = Unit {0}

-- the status is that of the call over the server in the same process, however its answers are cut, behind as many rows as the table
-- has
pub record IsEndOfLocalRecording (x : ℕ → LocalCalling) (s : Status) (rows : Option (List Row)) : Type 0 where
  pub count : ℕ
  pub counts : Counts (open_.Ready count) rows
  pub room : count ≤ MOST_ROWS
  pub ended : LoopEnd
  pub end_is : (cutting : Cutting) → (local_conversation (x count) cutting).end ≡ Some ended
  pub answered : IsAnswered (is_setting (x count).call) ended
  pub status : s ≡ status_of_loop ended
