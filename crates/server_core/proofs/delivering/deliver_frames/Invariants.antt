use Rattle.std.proofs.Common.{◌≡◌, take}
use Rattle.std.specs.Prelude.{Some}
use Rattle.connections.specs.Outlets.{outlet_at}
use Rattle.connections.specs.declared.outlet.Outlet.{Outlet}
use Rattle.server_core.specs.Delivering.{DeliversAt, delivered_all}
use Rattle.server_core.proofs.delivering.deliver_frames.Given as goal

-- the frames before this one are given
abbrev pub invariant-loop-note : goal.invariant-loop-note
invariant-loop-note l = (o : Outlet) → outlet_at l.initial.outlets l.i ≡ Some o
    → DeliversAt l.i (delivered_all (take l.note-index l.frames) (o, l.initial.summary)) l.initial.outlets l.outlets l.summary
