use Rattle.spec_formats.specs.Request.{Read}
use Rattle.session.proofs.SingleLemmas.{on-some, lent-all, read-leaves}
use Rattle.session.proofs.EffectLemmas.{notes-kept, same-notes, read-effect}
use Rattle.session.proofs.single.SinglePartService.lent.Goals as goal

pub returns-clause-gives : goal.returns-clause-gives
returns-clause-gives c =
    lent-all c.args.self.now (Read c.args.group c.args.offset c.args.len) c.data_lent.result c.data_lent.ensures.gives

pub returns-clause-leaves : goal.returns-clause-leaves
returns-clause-leaves c = on-some c.data_lent.result _ (λ s h. record {
  asks = read-leaves s.asking c.args.group c.args.offset c.args.len c.args.self.now.port.now c.args.self.now.handles.now h.asks;
  asker = h.asker;
  address = h.address;
  lent = record { handles = h.lent.handles; watches = h.lent.watches; port = h.lent.port; keeps = h.lent.keeps };
  notes = notes-kept _ s.asking.client _ _ h.notes (same-notes s.asking.client _ (read-effect s.asking c.args.group c.args.offset c.args.len));
})
