use Rattle.std.proofs.Common.{refl}
use Rattle.client_core.proofs.Verdicts.{applied_passes, applied_says, applied_answers, applied_breaks, applied_holds, verdict_in}
use Rattle.client_core.proofs.client.Client.apply.Goals as goal

pub returns-in-Passes-clause-applies : goal.returns-in-Passes-clause-applies
returns-in-Passes-clause-applies c = λ client s x.
    applied_passes c.args.self.now c.args.self.now refl c.requires c.args.packet client s (verdict_in c.args.verdict _ c.args.packet client c.in-Passes.is x)

pub returns-in-Answers-clause-applies : goal.returns-in-Answers-clause-applies
returns-in-Answers-clause-applies c = λ client s x.
    applied_answers c.args.self.now _ c.self.view_is c.requires c.args.packet c.in-Answers.id c.in-Answers.heard c.answer.new.us.items c.answer.ensures client s
    (verdict_in c.args.verdict _ c.args.packet client c.in-Answers.is x)

pub returns-in-Says-clause-applies : goal.returns-in-Says-clause-applies
returns-in-Says-clause-applies c = λ client s x.
    applied_says c.args.self.now c.args.self.now refl c.requires c.args.packet c.in-Says.heard client s
    (verdict_in c.args.verdict _ c.args.packet client c.in-Says.is x)

pub returns-in-Holds-clause-applies : goal.returns-in-Holds-clause-applies
returns-in-Holds-clause-applies c = λ client s x.
    applied_holds c.args.self.now c.hold.new.self c.requires c.args.packet c.in-Holds.samples.items c.hold.result c.hold.ensures client s
    (verdict_in c.args.verdict _ c.args.packet client c.in-Holds.is x)

pub returns-in-Breaks-clause-applies : goal.returns-in-Breaks-clause-applies
returns-in-Breaks-clause-applies c = λ client s x.
    applied_breaks c.args.self.now _ c.self-in-Breaks.view_is c.requires c.args.packet c.in-Breaks.copy client s
    (verdict_in c.args.verdict _ c.args.packet client c.in-Breaks.is x)
