use Rattle.spec_formats.specs.Request.{AddDeviceNotification}
use Rattle.session.proofs.NoteParts.{adds-give, adds-leave, adds-want}
use Rattle.session.proofs.single.SinglePartService.add.Goals as goal

pub returns-clause-gives : goal.returns-clause-gives
returns-clause-gives c =
    adds-give c.args.self.now c.args.group c.args.offset c.args.len c.args.mode c.args._delay c.args.cycle _ c.add.result c.add.ensures.adds

pub returns-clause-leaves : goal.returns-clause-leaves
returns-clause-leaves c =
    adds-leave c.args.self.now c.args.group c.args.offset c.args.len c.args.mode c.args._delay c.args.cycle _ c.add.result c.add.ensures.adds

pub returns-clause-wants : goal.returns-clause-wants
returns-clause-wants c =
    adds-want c.args.self.now (AddDeviceNotification c.args.group c.args.offset c.args.len c.args.mode c.args._delay c.args.cycle) _ c.add.result
