-- Ports as they are built hold the world that begins with their description, and those behind a reload the world after it.
use Rattle.std.specs.Prelude.{[]}
use Rattle.type_layout.specs.Descriptions.{description_of}
use Rattle.spec_machine.specs.World.{World, world_of}
use Rattle.spec_machine.specs.Reloads.{world_after_reload}
use Rattle.cases_device.proofs.calls.ports.moves.Goals as goal

pub moves-requires-clause-old : goal.moves-requires-clause-old
moves-requires-clause-old c =
    record { world = world_of (description_of c.in_ok-before.before) []; holds = c.in_ok-old.ensures [] }

pub moves-requires-clause-new : goal.moves-requires-clause-new
moves-requires-clause-new c =
    let w : World = world_of (description_of c.in_ok-before.before) [] in
    record { world = world_after_reload w (description_of c.in_ok-after.after); holds = c.in_ok-new.ensures w (c.in_ok-old.ensures []) }
