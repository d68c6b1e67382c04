use Rattle.std.proofs.Common.{arith}
use Rattle.std.specs.Prelude.{Ok, Err}
use Rattle.spec_machine.specs.Handles.{kept_status}
use Rattle.session.proofs.ValueLemmas.{looked-by}
use Rattle.session.proofs.WatchedReach.{live_watched, live_too_long, dead_watched}
use Rattle.session.proofs.watching.watched_by_handle.Goals as goal

pub returns-then-len-place-clause-watched : goal.returns-then-len-place-clause-watched
returns-then-len-place-clause-watched c = λ a port number asks.
    live_too_long a port c.in-Ok.place c.args.len (kept_status a.client.handles c.args.handle a.asker.port.number) asks.held
    (looked-by a port c.args.handles.now c.args.ams_port c.args.handle (Ok c.in-Ok.place) asks number c.in-Ok.ensures.looks)
    (omega arith)

pub returns-else-len-place-clause-watched : goal.returns-else-len-place-clause-watched
returns-else-len-place-clause-watched c = λ a port number asks.
    live_watched a port c.in-Ok.place c.args.len (kept_status a.client.handles c.args.handle a.asker.port.number) asks.held
    (looked-by a port c.args.handles.now c.args.ams_port c.args.handle (Ok c.in-Ok.place) asks number c.in-Ok.ensures.looks)
    (omega arith)

pub returns-in-Err-clause-watched : goal.returns-in-Err-clause-watched
returns-in-Err-clause-watched c = λ a port number asks.
    dead_watched a.world.plant.ports a.asker.port.number c.args.len (kept_status a.client.handles c.args.handle a.asker.port.number) c.in-Err.code
    (looked-by a port c.args.handles.now c.args.ams_port c.args.handle (Err c.in-Err.code) asks number c.in-Err.ensures.looks)
