-- A row that was put.
use Rattle.client_loop.proofs.SaidLemmas.{puts_one}
use Rattle.client_loop.proofs.turning.keep.Goals as goal

pub returns-in-Done-clause-kept : goal.returns-in-Done-clause-kept
returns-in-Done-clause-kept g c =
    puts_one (g.K.Keeper.state c.args.keeper.now).rows (g.K.Keeper.state c.put.new.self).rows _ c.in-Done.ensures.kept
