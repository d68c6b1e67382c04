-- What a recording over a link leaves in the link, in the sink and in the keeper.
use Rattle.std.specs.Prelude.{◌≡◌, ◌⊎◌, ℕ, ◌+◌, List, length, Option, Some, None, Result, Ok, Err}
use Rattle.ads_base.specs.declared.no_memory.NoMemory.{NoMemory}
use Rattle.ads_outside.specs.declared.connected.Connected.{Connected}
use Rattle.ads_outside.specs.declared.connected.Connected.TheVariants as connected
use Rattle.ads_outside.specs.declared.link_move.LinkMove.{LinkMove}
use Rattle.ads_outside.specs.LinkState.{LinkState}
use Rattle.ads_outside.specs.Puts.{Appends, AppendsPart}
use Rattle.ads_outside.specs.Rose.{Rose}
use Rattle.ads_outside.specs.SinkState.{SinkState}
use Rattle.spec_samples.specs.Row.{Row}
use Rattle.spec_client.specs.Conversation as conversation
use Rattle.spec_client.specs.Runner.{CallStep}
use Rattle.spec_client.specs.Stages.{Done, entries_taken}
use Rattle.spec_client.specs.TotalLines.{total_lines}
use Rattle.client_replies.specs.Stages.{end_meant}
use Rattle.client_replies.specs.declared.stage.CallEnd.TheVariants as call_end
use Rattle.client_loop.specs.declared.loop_end.LoopEnd.TheVariants as end
use Rattle.client_loop.specs.declared.record_end.RecordEnd.{RecordEnd}
use Rattle.client_loop.specs.declared.record_end.RecordEnd.TheVariants as record_end
use Rattle.client_loop.specs.Called.{Calling, over, Talks, BreaksOff, NeverBegins, IfBroken}
use Rattle.client_loop.specs.Due.{AtSend, AtPrint, Anywhere}
use Rattle.client_loop.specs.Outlets.{Outlets, outlets, Adds, AddsPart}

-- the first number of a recording is one more than the number of the rows, where they are told
abbrev pub IsFirst : Option (List Row) → ℕ → Type 0
IsFirst None first = Unit {0}
IsFirst (Some rows) first = first ≡ length rows + 1

-- a recording that talks, all of whose rows were put
pub record RecordsAll {O : Type 0} (x : Calling) (ended : Option conversation.LoopEnd)
    (old_tells new_tells : O → List LinkMove → Type 0) (new : LinkState) (out out_new : Outlets) : Type 0 where
  pub talks : Talks x ended old_tells new_tells new out.sink out_new.sink
  pub rows : Adds out.keeper.rows out_new.keeper.rows (over x talks.moment talks.answers).kept

-- one that broke off, some first ones of whose rows were put
pub record RecordsSome {O : Type 0} (IsStop : List CallStep → Type 0) (x : Calling)
    (old_tells new_tells : O → List LinkMove → Type 0) (new : LinkState) (out out_new : Outlets) : Type 0 where
  pub breaks : BreaksOff IsStop x old_tells new_tells new out.sink out_new.sink
  pub rows : AddsPart out.keeper.rows out_new.keeper.rows (over x breaks.moment breaks.answers).kept

-- One that is done: behind all of it, and behind all totals, the lines of its entries were put as one text, whole or in part. They are
-- of all rows, where rows are told.
pub record RecordsDone {O : Type 0} (IsPut : Option (List ℕ) → Option (List ℕ) → List ℕ → Type 0) (x : Calling)
    (old_tells new_tells : O → List LinkMove → Type 0) (new : LinkState) (out out_new : Outlets) : Type 0 where
  -- the sink before the lines
  pub before : SinkState
  pub all : RecordsAll x (Some (conversation.CallEnded Done)) old_tells new_tells new out (outlets before out_new.keeper)
  pub lines : List ℕ
  pub are_lines : (rows : List Row) → out_new.keeper.rows ≡ Some rows
      → lines ≡ total_lines rows (entries_taken (over x all.talks.moment all.talks.answers).runner.stage)
  pub put : IsPut before.held out_new.sink.held lines

-- one that was not connected
pub record NeverRecords {O : Type 0} (x : Calling) (answer : Connected)
    (old_tells new_tells : O → List LinkMove → Type 0) (old new : LinkState) (out out_new : Outlets) : Type 0 where
  pub begins : NeverBegins x answer old_tells new_tells old new out.sink out_new.sink
  pub untouched : out_new.keeper ≡ out.keeper

-- what a recording leaves, by how it ended
abbrev pub AfterRecord : {O : Type 0} → Result RecordEnd NoMemory → Calling → (O → List LinkMove → Type 0)
    → (O → List LinkMove → Type 0) → LinkState → LinkState → Outlets → Outlets → Type 0
AfterRecord (Ok (record_end.Loop (end.Call call_end.Done))) x old_tells new_tells old new out out_new =
    RecordsDone Appends x old_tells new_tells new out out_new
AfterRecord (Ok (record_end.Loop (end.Call e))) x old_tells new_tells old new out out_new =
    RecordsAll x (Some (conversation.CallEnded (end_meant e))) old_tells new_tells new out out_new
AfterRecord (Ok (record_end.Loop end.Budget)) x old_tells new_tells old new out out_new =
    RecordsAll x (Some conversation.Budget) old_tells new_tells new out out_new
AfterRecord (Ok (record_end.Loop end.LinkFault)) x old_tells new_tells old new out out_new =
    Rose old.faults new.faults
    × (NeverRecords x connected.Failed old_tells new_tells old new out out_new
    ⊎ IfBroken new.history.broken (RecordsAll x None old_tells new_tells new out out_new) (RecordsSome AtSend x old_tells new_tells new out out_new))
AfterRecord (Ok (record_end.Loop end.WriteFault)) x old_tells new_tells old new out out_new =
    Rose out.sink.faults out_new.sink.faults
    × (RecordsSome AtPrint x old_tells new_tells new out out_new
    ⊎ RecordsDone AppendsPart x old_tells new_tells new out out_new)
AfterRecord (Ok record_end.KeeperFault) x old_tells new_tells old new out out_new =
    Rose out.keeper.faults out_new.keeper.faults
    × (RecordsSome Anywhere x old_tells new_tells new out out_new
    ⊎ RecordsAll x (Some (conversation.CallEnded Done)) old_tells new_tells new out out_new)
AfterRecord (Err e) x old_tells new_tells old new out out_new =
    NeverRecords x connected.Memory old_tells new_tells old new out out_new
    ⊎ RecordsSome Anywhere x old_tells new_tells new out out_new
    ⊎ RecordsDone AppendsPart x old_tells new_tells new out out_new
