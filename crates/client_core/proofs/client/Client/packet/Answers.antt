use Rattle.std.proofs.Common.{◌∙◌, sym}
use Rattle.client_core.proofs.PacketsLeft.{cut_next, cut_waiting}
use Rattle.client_core.proofs.client.Client.packet.Goals as goal

pub returns-in-Some-clause-cuts : goal.returns-in-Some-clause-cuts
returns-in-Some-clause-cuts c = cut_waiting c.args.self.now _ c.take.new.self c.in-Some.packet c.self.view_is (sym c.take.ensures.value ∙ c.in-Some.is)

pub returns-in-None-clause-cuts : goal.returns-in-None-clause-cuts
returns-in-None-clause-cuts c =
    cut_next c.args.self.now _ c.take.new.self c.next.new.self c.self.view_is (sym c.take.ensures.value ∙ c.in-None.is) c.take.ensures.after
    c.next.result c.next.ensures.answer c.next.ensures.stands
