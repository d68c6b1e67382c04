use Rattle.session.proofs.LookLemmas.{looks-up, looked-placed}
use Rattle.session.proofs.looking.look.Goals as goal

pub returns-clause-looks : goal.returns-clause-looks
returns-clause-looks c = λ ports hs kept_for. looks-up ports hs _ c.args.handle c.args.ams_port _ kept_for c.look.ensures.answer

pub returns-clause-placed : goal.returns-clause-placed
returns-clause-placed c = λ port some number.
    looked-placed port c.args.handles.now c.args.handle c.args.ams_port _ some number c.look.ensures.answer
