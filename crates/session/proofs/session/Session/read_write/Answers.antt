use Rattle.std.proofs.Common.{sym, subst, refl}
use Rattle.spec_machine.specs.Manner.{Manner}
use Rattle.session.specs.Runs.{AsksSession}
use Rattle.session.specs.SessionState.{SessionState}
use Rattle.session.proofs.RunLemmas.{ok-both, asks-of, read_write-runs}
use Rattle.session.proofs.SumGroups.{parts-taken, no-parts, IsNoSum}
use Rattle.session.proofs.session.Session.read_write.Goals as goal

pub sum-requires-clause-sum : goal.sum-requires-clause-sum
sum-requires-clause-sum c = parts-taken c.args.port.now.manner c.args.asked.now.group (sym c.if-takes_parts.ensures)

pub returns-clause-runs : goal.returns-clause-runs
returns-clause-runs c = ok-both c.read_write_reply.result _ _ _ (λ said leaves a h from.
    let S : SessionState → Type 0 = λ s. AsksSession a c.args.port.now s in
    let own = subst S (sym c.self.view_is) h in
    let x = c.args.asked.now in
    let N : Manner → Type 0 = λ p. IsNoSum p x.group in
    let no_sum = subst N own.held.manner (no-parts c.args.port.now.manner x.group (sym c.if-takes_parts.ensures)) in
    read_write-runs a x.group x.offset x.len x.bytes.now c.args.port.now _ _ _ _ own no_sum refl
    (said a (asks-of a _ _ own)) (leaves a (asks-of a _ _ own)))
    c.read_write_reply.ensures.reply c.read_write_reply.ensures.leaves
