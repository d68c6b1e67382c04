use Rattle.session.proofs.SingleLemmas.{code-ends, keeps-both}
use Rattle.session.proofs.EffectLemmas.{notes-kept, same-notes, write-effect}
use Rattle.session.proofs.single.SinglePartService.write.Goals as goal

pub returns-clause-code : goal.returns-clause-code
returns-clause-code c = λ s h. code-ends _ c.write.result (c.write.ensures.ends s.asking h.asks h.asker).code

pub returns-clause-leaves : goal.returns-clause-leaves
returns-clause-leaves c = λ s h. record {
  asks = (c.write.ensures.ends s.asking h.asks h.asker).after;
  asker = h.asker;
  address = h.address;
  lent = record {
    handles = h.lent.handles;
    watches = h.lent.watches;
    port = h.lent.port;
    keeps = keeps-both s.begun.port.now c.args.self.now.port.now c.write.new.port h.lent.keeps c.write.ensures.keeps;
  };
  notes = notes-kept _ s.asking.client _ _ h.notes (same-notes s.asking.client _ (write-effect s.asking c.args.group c.args.offset c.args.bytes.now));
}
