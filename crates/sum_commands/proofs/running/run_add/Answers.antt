use Rattle.std.proofs.Common.{◌≡◌}
use Rattle.std.proofs.Common.{subst}
use Rattle.spec_formats.specs.Request.{Request, AddDeviceNotification}
use Rattle.sum_commands.specs.Additions.{addition_of}
use Rattle.sum_commands.specs.Packing.{Runs}
use Rattle.sum_commands.proofs.AdditionLemmas.{addition-ends}
use Rattle.sum_commands.proofs.running.run_add.Goals as goal

pub returns-clause-ok : goal.returns-clause-ok
returns-clause-ok g c = λ form s adds stands.
    let r : Request = AddDeviceNotification c.get32-group.result c.get32-offset.result c.get32-len.result c.get32-mode.result c.get32-delay.result
    c.get32-cycle.result in
    let same : r ≡ addition_of c.args.head.now =
    cc (c.get32-group.ensures, c.get32-offset.ensures, c.get32-len.ensures, c.get32-mode.ensures, c.get32-delay.ensures, c.get32-cycle.ensures) in
    let ends = addition-ends r (g.P.PartService.given s r) c.in_ok-answer.answer c.args.at c.args.out.now _ (c.in_ok-answer.ensures.gives s stands)
    c.tell_handle.ensures.fits c.tell_handle.ensures.written form adds in
    subst (λ x. Runs g.P.PartService.stands_for g.P.PartService.given g.P.PartService.left form x s c.add.new.self c.args.at c.args.out.now
    c.tell_handle.new.out) same
    (record {
      state = c.in_ok-answer.ensures.leaves s stands;
      bytes = ends.bytes;
      asked = ends.asked;
    })
