use Rattle.spec_formats.specs.Request.{ReadWrite}
use Rattle.session.proofs.SingleLemmas.{gives-all, refused-asked, leaves-all, wants-all}
use Rattle.session.proofs.EffectLemmas.{notes-kept, same-notes, read_write-effect}
use Rattle.session.proofs.single.SinglePartService.read_write.Goals as goal

pub returns-clause-gives : goal.returns-clause-gives
returns-clause-gives c =
    gives-all c.args.self.now (ReadWrite c.args.group c.args.offset c.args.read_len c.args.bytes.now) c.read_write.result _ _ c.read_write.ensures.answer

pub returns-clause-leaves : goal.returns-clause-leaves
returns-clause-leaves c =
    leaves-all c.args.self.now _ (ReadWrite c.args.group c.args.offset c.args.read_len c.args.bytes.now) c.read_write.result
    (λ x h after. record {
      asks = after;
      asker = h.asker;
      address = h.address;
      lent = record { handles = h.lent.handles; watches = h.lent.watches; port = h.lent.port; keeps = h.lent.keeps };
      notes =
          notes-kept _ x.asking.client _ _ h.notes
          (same-notes x.asking.client _ (read_write-effect x.asking c.args.group c.args.offset c.args.read_len c.args.bytes.now));
    }) c.read_write.ensures.leaves

pub returns-clause-wants : goal.returns-clause-wants
returns-clause-wants c =
    wants-all c.args.self.now c.read_write.result _
    (λ x h. record { handles = h.lent.handles; watches = h.lent.watches; port = h.lent.port; keeps = h.lent.keeps })

pub returns-clause-refused : goal.returns-clause-refused
returns-clause-refused c =
    refused-asked c.args.self.now.port.now c.args.self.now.handles.now
    (ReadWrite c.args.group c.args.offset c.args.read_len c.args.bytes.now) c.read_write.result _ _
    (record { asking = c.requires.state.asking; asks = c.requires.stands.asks }) c.read_write.ensures.answer
