use Rattle.std.proofs.Common.{◌∙◌}
use Rattle.server_core.specs.ServerView.{view_of}
use Rattle.connections.proofs.ReadLemmas.{shut_is}
use Rattle.server_core.proofs.server.Server.closing.Goals as goal

pub returns : goal.returns
returns c = λ waves x s. c.is_to_be_shut.ensures ∙ shut_is (view_of c.args.self.now).outlets x c.args.connection s.outlets
