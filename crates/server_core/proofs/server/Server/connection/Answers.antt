use Rattle.std.proofs.Common.{◌∙◌}
use Rattle.server_core.specs.ServerView.{view_of}
use Rattle.connections.proofs.ReadLemmas.{number_is}
use Rattle.server_core.proofs.server.Server.connection.Goals as goal

pub returns : goal.returns
returns c = λ waves x s. c.number_at.ensures ∙ number_is (view_of c.args.self.now).outlets x.blocked x.state c.args.n s.outlets
