use Rattle.std.proofs.Common.{sym, subst}
use Rattle.server_core.specs.Serves.{CoreView, Serves}
use Rattle.server_core.proofs.event_core.Core.ports.Goals as goal

pub returns : goal.returns
returns g c = λ x s. (subst (λ (v : CoreView). Serves v x) (sym c.self.view_is) s).server.device.world.ports
