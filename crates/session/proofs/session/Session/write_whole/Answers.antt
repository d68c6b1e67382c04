use Rattle.std.proofs.Common.{sym, refl, ◌∙◌, ap, subst}
use Rattle.spec_formats.specs.Header.{AmsAddress, AmsHeader}
use Rattle.session.specs.declared.plain.Plain.TheVariants as plain
use Rattle.session.specs.Plain.{plain_meant}
use Rattle.session.specs.Runs.{AsksSession}
use Rattle.session.specs.SessionState.{SessionState}
use Rattle.session.proofs.RunLemmas.{ok-then, asks-of}
use Rattle.session.proofs.PlainLemmas.{write-whole, same-header}
use Rattle.session.proofs.session.Session.write_whole.Goals as goal

pub returns-clause-whole : goal.returns-clause-whole
returns-clause-whole c = ok-then c.put_answer.result _ _ (λ said a h is asks address rights.
    let S : SessionState → Type 0 = λ s. AsksSession a c.args.port.now s in
    let own = subst S (sym c.self.view_is) asks in
    let x = c.write_in-asked.result in
    let same = same-header c.args.ams.now _ h c.header_in-h.ensures.header is in
    let from = address ∙ ap (λ (k : AmsHeader). k.source) (sym same) in
    let meant = c.write_in-asked.ensures ∙ ap (plain_meant plain.Write) c.payload_in.ensures in
    write-whole a h _ x.group x.offset c.number_in.result x.bytes.now c.write-answer.result c.args.port.now _ _ _ c.to_le_bytes.result c.args.out.now
    c.put_answer.new.out own meant
    (c.write-answer.ensures.ends a (asks-of a _ _ own) (record { net_is = ap (λ (k : AmsAddress). k.net) from; rights_are = rights })) refl c.number_in.ensures
    c.to_le_bytes.ensures (said h is))
    c.put_answer.ensures.frame
