use Rattle.std.proofs.Common.{◌∙◌, ap}
use Rattle.std.specs.Prelude.{map}
use Rattle.spec_client.specs.Unanswered.{after_tick_of}
use Rattle.client_core.proofs.HistoryLemmas.{ticked_all, written}
use Rattle.client_core.proofs.client.Client.tick.Goals as goal

pub returns : goal.returns
returns c = ticked_all c.args.self.now _ c.self.view_is c.args.now _
    (written c.self.inside.unanswered.len c.pass.new.us c.self.inside.unanswered.items (c.pass.auto.us ∙ c.deref_mut.ensures.len)
    ∙ c.pass.ensures ∙ ap (map (after_tick_of c.args.now)) c.deref_mut.ensures.value)
