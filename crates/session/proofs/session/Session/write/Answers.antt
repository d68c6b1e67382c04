use Rattle.std.proofs.Common.{◌++◌, sym, ◌∙◌, ap, subst, refl}
use Rattle.spec_formats.specs.Header.{AmsAddress}
use Rattle.session.specs.Runs.{AsksSession}
use Rattle.session.specs.SessionState.{SessionState}
use Rattle.session.proofs.RunLemmas.{ok-then, asks-of, write-runs, write-written}
use Rattle.session.proofs.session.Session.write.Goals as goal

pub returns-clause-runs : goal.returns-clause-runs
returns-clause-runs c = ok-then c.put32.result _ _ (λ put a h from.
    let S : SessionState → Type 0 = λ s. AsksSession a c.args.port.now s in
    let own = subst S (sym c.self.view_is) h in
    let x = c.args.asked.now in
    write-runs a x.group x.offset c.number_in.result x.bytes.now c.write-answer.result c.args.port.now _ _ _ _ _ own
    (c.write-answer.ensures.ends a (asks-of a _ _ own)
    (record { net_is = ap (λ (x : AmsAddress). x.net) from.address; rights_are = from.rights_are })) refl c.number_in.ensures
    (put ∙ ap (λ x. c.args.out.now ++ x) (sym (write-written c.number_in.result))))
    c.put32.ensures.ok
