-- A load is decided whatever the files hold.
use Rattle.plant_commands.proofs.GivenLemmas.{load_decided}
use Rattle.plant_commands.proofs.commands.outcome_of_task.Goals as goal

pub returns-in-Load-clause-decided : goal.returns-in-Load-clause-decided
returns-in-Load-clause-decided g c =
    load_decided (g.F.Files.state c.args.files.now).held (g.G.Sources.waves c.args.signals) c.args.task.now c.in-Load.n _ c.load.result c.in-Load.is
    c.load.ensures.is
