-- What `record` asks, and of whom; the number of the first row is one more than the rows that its table has.
use Rattle.std.specs.Prelude.{ℕ, ◌+◌, List}
use Rattle.ads_base.specs.declared.net_id.NetId.{NetId}
use Rattle.signals.specs.Wave.{Wave}
use Rattle.spec_plant.specs.Description.{Description}
use Rattle.spec_client.specs.Calls.{Call, Record}
use Rattle.client_loop.specs.Called.{Calling, calling}
use Rattle.run_tasks.specs.declared.record_task.RecordTask.{RecordTask}
use Rattle.run_tasks.specs.Asking.{LocalCalling, calling_locally, own_address, asked_address, watching_of}

-- the call behind so many rows
abbrev pub call_recorded : RecordTask → ℕ → Call
call_recorded what rows = Record what.names (watching_of what.change what.cycle what.count) (rows + 1)

-- of a server over the link
abbrev pub recording_to : RecordTask → NetId → List ℕ → ℕ → Calling
recording_to what net to rows = calling (own_address what.client) (asked_address net what.client) (call_recorded what rows) to

-- of the server of a description in the same process
abbrev pub local_recording : Description → List Wave → RecordTask → ℕ → LocalCalling
local_recording d waves what rows = calling_locally d waves what.client (call_recorded what rows)
