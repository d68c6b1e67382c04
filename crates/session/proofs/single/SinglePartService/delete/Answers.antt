use Rattle.session.proofs.NoteParts.{deletes-code, deletes-leave}
use Rattle.session.proofs.single.SinglePartService.delete.Goals as goal

pub returns-clause-code : goal.returns-clause-code
returns-clause-code c = deletes-code c.args.self.now c.number.result c.args.handle _ c.delete.result c.number.ensures c.delete.ensures

pub returns-clause-leaves : goal.returns-clause-leaves
returns-clause-leaves c = deletes-leave c.args.self.now c.number.result c.args.handle _ c.delete.result c.number.ensures c.delete.ensures
