-- The routes that are left have the rights that all have.
use Rattle.std.proofs.Common.{◌≡◌, drop}
use Rattle.spec_plant.specs.Rights.{rights_of}
use Rattle.net_routes.proofs.routes.Routes.rights_among_few.Given as goal

abbrev pub invariant-loop-i : goal.invariant-loop-i
invariant-loop-i l = rights_of l.net.bytes (drop l.i l.self) ≡ rights_of l.net.bytes l.self
