-- The element that was stepped is the one at the number, and its wave alone has changed.
use Rattle.std.specs.Prelude.{Some}
use Rattle.std.proofs.Common.{sym, ◌∙◌, ap}
use Rattle.signals.proofs.WaveLemmas.{slice_get-map-map, map-set-waves}
use Rattle.signals.proofs.bank.Bank.step.Goals as goal

pub returns-clause-value : goal.returns-clause-value
returns-clause-value g c = slice_get-map-map _ c.args.self.now.signals.items c.args.n c.index_mut.result.now c.requires c.index_mut.ensures.value
    ∙ ap Some (sym c.step_one.ensures.value)

pub returns-clause-moved : goal.returns-clause-moved
returns-clause-moved g c = map-set-waves _ c.args.self.now.signals.items c.args.n c.index_mut.result.now c.step_one.new.signal
    c.index_mut.ensures.value c.step_one.ensures.moved
