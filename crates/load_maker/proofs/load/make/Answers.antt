use Rattle.std.proofs.Common.{ap, ◌∙◌}
use Rattle.spec_server.specs.Server.{server_script}
use Rattle.load_maker.proofs.LoadLemmas.{script_read, load_length}
use Rattle.load_maker.proofs.load.make.Goals as goal

pub returns-clause-said : goal.returns-clause-said
returns-clause-said c = ap server_script c.in_ok-script.ensures ∙ script_read c.args.n c.requires

pub returns-clause-short : goal.returns-clause-short
returns-clause-short c = let most = load_length c.args.n c.requires in rw c.in_ok-script.ensures most
