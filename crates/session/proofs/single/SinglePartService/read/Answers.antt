use Rattle.spec_formats.specs.Request.{Read}
use Rattle.session.proofs.SingleLemmas.{on-ok, gives-all, refused-asked, read-leaves, wants-all}
use Rattle.session.proofs.EffectLemmas.{notes-kept, same-notes, read-effect}
use Rattle.session.proofs.single.SinglePartService.read.Goals as goal

pub returns-clause-gives : goal.returns-clause-gives
returns-clause-gives c =
    gives-all c.args.self.now (Read c.args.group c.args.offset c.args.len) c.read.result _ _ c.read.ensures.answer

pub returns-clause-leaves : goal.returns-clause-leaves
returns-clause-leaves c = on-ok c.read.result _ (λ s h. record {
  asks = read-leaves s.asking c.args.group c.args.offset c.args.len c.args.self.now.port.now c.args.self.now.handles.now h.asks;
  asker = h.asker;
  address = h.address;
  lent = record { handles = h.lent.handles; watches = h.lent.watches; port = h.lent.port; keeps = h.lent.keeps };
  notes = notes-kept _ s.asking.client _ _ h.notes (same-notes s.asking.client _ (read-effect s.asking c.args.group c.args.offset c.args.len));
})

pub returns-clause-refused : goal.returns-clause-refused
returns-clause-refused c =
    refused-asked c.args.self.now.port.now c.args.self.now.handles.now (Read c.args.group c.args.offset c.args.len) c.read.result _ _
    (record { asking = c.requires.state.asking; asks = c.requires.stands.asks }) c.read.ensures.answer

pub returns-clause-wants : goal.returns-clause-wants
returns-clause-wants c =
    wants-all c.args.self.now c.read.result _
    (λ x h. record { handles = h.lent.handles; watches = h.lent.watches; port = h.lent.port; keeps = h.lent.keeps })
