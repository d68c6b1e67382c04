use Rattle.std.proofs.Common.{refl}
use Rattle.spec_server.specs.Server.{server_start}
use Rattle.client_commands.proofs.record_locally.record_by.Goals as goal

pub returns-clause-ends : goal.returns-clause-ends
returns-clause-ends g c = λ d waves serves net. c.record_link.ensures.ends d waves (c.new-link.ensures.told (server_start d waves) serves refl) net
