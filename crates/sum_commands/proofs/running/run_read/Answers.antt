use Rattle.std.proofs.Common.{◌≡◌, ◌+◌, ◌-◌, length, ◌∙◌, ap, arith, length-append}
use Rattle.spec_formats.specs.Request.{Read}
use Rattle.sum_commands.proofs.ReadLemmas.{read-ends}
use Rattle.sum_commands.proofs.running.run_read.Goals as goal

pub returns-clause-ok : goal.returns-clause-ok
returns-clause-ok g c = λ s stands.
    let r = Read c.args.group c.args.offset c.args.len in
    let o = g.P.PartService.given s r in
    let gives = c.in_ok-answer.ensures.gives s stands in
    let out = c.read.new.out in
    let grown : length out ≡ length c.args.out.now + length o.bytes = ap length gives.bytes ∙ length-append c.args.out.now o.bytes in
    let given = c.len.result - c.len-before.result in
    let same : given ≡ length o.bytes = omega (arith, c.len.ensures, c.len-before.ensures, grown) in
    let ends = read-ends c.args.form c.args.group c.args.offset c.args.len _ given o c.args.at c.args.out.now out _ c.requires.reads
    gives.code gives.bytes same (omega (arith, c.in_ok-answer.ensures.asked, grown, same)) c.in_ok-finish_read.ensures.ok in
    record {
      state = c.in_ok-answer.ensures.leaves s stands;
      bytes = ends.bytes;
      asked = ends.asked;
    }
