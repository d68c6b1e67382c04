-- What a client asks, and of whom.
use Rattle.std.specs.Prelude.{ℕ, List, Bool, if◌then◌else◌}
use Rattle.ads_base.specs.declared.net_id.NetId.{NetId}
use Rattle.spec_formats.specs.Header.{AmsAddress}
use Rattle.spec_client.specs.Calls.{Call, Watching, Info, State, Control, Get, Set, Symbols, Watch, Show, SERVER_CYCLE, SERVER_ON_CHANGE}
use Rattle.cli_words.specs.declared.client_words.ClientWords.{ClientWords}
use Rattle.signals.specs.Wave.{Wave}
use Rattle.spec_plant.specs.Description.{Description}
use Rattle.run_tasks.specs.declared.client_task.ClientTask.{ClientTask}
use Rattle.run_tasks.specs.declared.client_task.ClientTask.TheVariants as ask

-- samples on a change, or at each cycle
abbrev pub watching_of : (change : Bool) → (cycle count : ℕ) → Watching
watching_of change cycle count = record { mode = if change then SERVER_ON_CHANGE else SERVER_CYCLE; cycle = cycle; count = count }

-- the call
abbrev pub call_asked : ClientTask → Call
call_asked ask.Info = Info
call_asked ask.State = State
call_asked ask.List = Symbols
call_asked (ask.Control ads device) = Control ads device
call_asked (ask.Get name) = Get name
call_asked (ask.Show name) = Show name
call_asked (ask.Set name value) = Set name value
call_asked (ask.Watch name change cycle count) = Watch name (watching_of change cycle count)

-- This project's own choice: the AMS port of the client itself.
abbrev pub CLIENT_PORT : ℕ
CLIENT_PORT = 32905

abbrev pub own_address : ClientWords → AmsAddress
own_address client = record { net = client.me.bytes; port = CLIENT_PORT }

abbrev pub asked_address : NetId → ClientWords → AmsAddress
asked_address net client = record { net = net.bytes; port = client.port }

-- a call over the server of a description in the same process, whose NetId is asked
pub record LocalCalling : Type 0 where
  pub description : Description
  -- how the signals begin
  pub waves : List Wave
  pub me : AmsAddress
  pub port : ℕ
  pub call : Call

abbrev pub calling_locally : Description → List Wave → ClientWords → Call → LocalCalling
calling_locally d waves client call = record {
  description = d;
  waves = waves;
  me = own_address client;
  port = client.port;
  call = call;
}

abbrev pub local_calling : Description → List Wave → ClientTask → ClientWords → LocalCalling
local_calling d waves what client = calling_locally d waves client (call_asked what)

abbrev pub peer_of_local : LocalCalling → AmsAddress
peer_of_local x = record { net = x.description.net; port = x.port }
