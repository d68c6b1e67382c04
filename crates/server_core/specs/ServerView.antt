-- All that a core keeps but its signals, as contracts see it.
use Rattle.std.specs.Prelude.{List, map}
use Rattle.ads_outside.specs.declared.reload_note.ReloadNote.{ReloadNote}
use Rattle.ams_tcp.specs.Held.{Held}
use Rattle.connections.specs.Outlets.{Outlets}
use Rattle.session.specs.SessionState.{SessionState}
use Rattle.server_core.specs.declared.device.Device.{Device}
use Rattle.server_core.specs.declared.server.Server.{Server}
use Rattle.server_core.specs.declared.summary.Summary.{Summary}
use Rattle.server_core.specs.declared.turned.Turned.{Turned}

-- what a tick keeps of sessions: not whether one is left out, and not the frames that it gives meanwhile
abbrev pub sessions_of : List Turned → List SessionState
sessions_of ts = map (λ (t : Turned). t.session) ts

pub record ServerView : Type 0 where
  pub device : Device
  -- what waits for each connection, by its number, and at equal places its stream and its session
  pub outlets : Outlets
  pub streams : List Held
  pub sessions : List SessionState
  pub summary : Summary
  pub notes : List ReloadNote

abbrev pub view_of : Server → ServerView
view_of s = record {
  device = s.device;
  outlets = s.clients.outlets;
  streams = s.clients.streams.items;
  sessions = sessions_of s.clients.sessions.items;
  summary = s.summary;
  notes = s.notes;
}
