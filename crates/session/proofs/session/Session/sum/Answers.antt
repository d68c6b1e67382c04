use Rattle.std.proofs.Common.{sym, subst, refl, ap, arith, rules}
use Rattle.spec_formats.specs.Header.{AmsAddress}
use Rattle.spec_machine.specs.Manner.{Manner}
use Rattle.session.specs.Runs.{AsksSession, SomeSession, IsSumOf}
use Rattle.session.specs.SessionState.{SessionState}
use Rattle.session.proofs.SumLemmas.{stands-for-some, sum-runs}
use Rattle.session.proofs.RunLemmas.{asks-of, notes-of}
use Rattle.session.proofs.session.Session.sum.Goals as goal

pub run_parts-requires-clause-some : goal.run_parts-requires-clause-some
run_parts-requires-clause-some c =
    let S : SessionState → Type 0 = λ s. SomeSession c.args.port.now s in
    let own = subst S (sym c.self.view_is) c.requires.some in
    stands-for-some _ own.asking (asks-of own.asking _ _ own.asks) (notes-of own.asking _ _ own.asks)

pub fill_front-requires-clause-there : goal.fill_front-requires-clause-there
fill_front-requires-clause-there c = omega (arith, c.len-start.ensures, c.in_ok-put_room.ensures.long, c.in_ok-answer.ensures.grows)

pub returns-clause-runs : goal.returns-clause-runs
returns-clause-runs c = λ a h from.
    let S : SessionState → Type 0 = λ s. AsksSession a c.args.port.now s in
    let own = subst S (sym c.self.view_is) h in
    let x = c.args.asked.now in
    let G : Manner → Type 0 = λ p. IsSumOf p x.group in
    sum-runs a x.group x.offset x.len x.bytes.now c.args.port.now _
    _ _ _ _ c.args.out.now c.put_room.new.out c.run_parts.new.out c.fill_front.new.out
    c.len-start.result c.number_in.result c.in_ok-answer.answer c.in_ok-answer.ensures.code c.in_ok-answer.ensures.err c.in_ok-answer.ensures.reply
    c.in_ok-answer.ensures.leaves (subst G own.held.manner c.requires.sum) own
    (record {
      asks = record { held = own.held; handles = own.stands.handles };
      address = from.address;
      asker = record { net_is = ap (λ (x : AmsAddress). x.net) from.address; rights_are = from.rights_are };
      lent = record { handles = refl; watches = refl; port = refl; keeps = refl };
      notes = notes-of a _ _ own;
    })
    refl refl (search rules) refl c.number_in.ensures c.len-start.ensures c.in_ok-put_room.ensures.long c.in_ok-put_room.ensures.begins c.fill_front.ensures
