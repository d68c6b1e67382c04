-- At a tick or a reload each connection gives frames of samples, which are produced connection after connection.
-- No public clause cites this file.
use Rattle.std.specs.Prelude.{◌≡◌, ℕ, ◌+◌, List, [], ◌∷◌, map, All, if◌then◌else◌}
use Rattle.spec_plant.specs.World.{Plant}
use Rattle.spec_machine.specs.Device.{ClientOutcome}
use Rattle.spec_machine.specs.Connection.{is_deaf}
use Rattle.spec_machine.specs.Events.{after_client_outcome}
use Rattle.spec_machine.specs.Summary.{count_of}
use Rattle.connections.specs.Outlets.{Outlets, given, is_fitting, change_at}
use Rattle.connections.specs.declared.outlet.Outlet.{Outlet}
use Rattle.session.specs.NoteFrames.{produced_of, IsNoteFrame}
use Rattle.session.specs.StandsFor.{StandsFor}
use Rattle.session.specs.declared.notes.NoteFrame.{NoteFrame}
use Rattle.server_core.specs.declared.summary.Summary.{Summary}
use Rattle.server_core.specs.declared.turned.Turned.{Turned}
use Rattle.server_core.specs.Served.{Client, ServedConnection}
use Rattle.server_core.specs.ServerView.{sessions_of}

-- what a session gives at a tick or a reload
pub record Gives (plant : Plant) (o : ClientOutcome Client) (t : Turned) : Type 0 where
  pub frames : map produced_of t.out ≡ o.frames
  pub fit : All IsNoteFrame t.out
  pub stands : StandsFor plant o.client t.session

abbrev pub Outcomes : Type 0
Outcomes = Client → ClientOutcome Client

-- a connection after it
abbrev pub after_given : Outcomes → ServedConnection → ServedConnection
after_given outcome k = if is_deaf k then k else after_client_outcome (outcome k.client) k

-- what waits for a connection, and the counts
abbrev pub Delivery : Type 0
Delivery = Outlet × Summary

-- so many samples more
abbrev pub more_samples : ℕ → Summary → Summary
more_samples n s = record s { samples = count_of (s.samples + n) }

-- after a frame is given to it: its samples are counted where it waits
abbrev pub delivered : NoteFrame → Delivery → Delivery
delivered f d = (given f.frame d.0, if is_fitting f.frame d.0 then more_samples f.samples d.1 else d.1)

abbrev pub delivered_all : List NoteFrame → Delivery → Delivery
delivered_all [] d = d
delivered_all (f ∷ fs) d = delivered_all fs (delivered f d)

-- the frames of each session are given to the connection in its place
abbrev pub delivered_each : List (List NoteFrame) → Outlets → Summary → Outlets × Summary
delivered_each [] es s = (es, s)
delivered_each (fs ∷ fss) [] s = ([], s)
delivered_each (fs ∷ fss) (e ∷ es) s =
    let d = delivered_all fs (e.1, s) in
    let rest = delivered_each fss es d.1 in
    ((e.0, d.0) ∷ rest.0, rest.1)

-- what waits at a place is this
pub record DeliversAt (i : ℕ) (d : Delivery) (old new : Outlets) (counts : Summary) : Type 0 where
  pub outlets : new ≡ change_at (λ _. d.0) i old
  pub counted : counts ≡ d.1

abbrev pub frames_given : List Turned → List (List NoteFrame)
frames_given ts = map (λ (t : Turned). t.out) ts

-- all frames that sessions gave are produced
pub record DeliversAll (ts us : List Turned) (old new : Outlets) (old_counts new_counts : Summary) : Type 0 where
  pub outlets : new ≡ (delivered_each (frames_given ts) old old_counts).0
  pub counted : new_counts ≡ (delivered_each (frames_given ts) old old_counts).1
  pub sessions : sessions_of us ≡ sessions_of ts
