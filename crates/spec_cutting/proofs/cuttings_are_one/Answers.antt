use Rattle.spec_cutting.proofs.LocalCuts.{cuttings_are_one, links_are_one}
use Rattle.spec_cutting.proofs.cuttings_are_one.Goals as goal

pub returns : goal.returns
returns g c = record { local = cuttings_are_one; link = links_are_one }
