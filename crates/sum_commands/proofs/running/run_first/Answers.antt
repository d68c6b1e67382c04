use Rattle.std.proofs.Common.{arith, sym}
use Rattle.sum_commands.specs.Packing.{Runs}
use Rattle.sum_commands.proofs.ReadLemmas.{reads-of, read_width-front}
use Rattle.sum_commands.proofs.AdditionLemmas.{additions-of, front_width-additions, part_of-addition, ok-at}
use Rattle.sum_commands.proofs.running.run_first.Goals as goal

pub run_read-requires : goal.run_read-requires
run_read-requires g c =
    let reads = reads-of c.args.rest.form c.in-Reads.is in
    record {
      some = c.requires.some;
      reads = reads;
      room = omega (arith, c.requires.room, read_width-front c.args.rest.form reads);
    }

pub run_add-requires-clause-small : goal.run_add-requires-clause-small
run_add-requires-clause-small g c =
    let adds = additions-of c.args.rest.form c.in-Additions.is in
    omega (arith, c.requires.small, front_width-additions c.args.rest.form adds)

pub returns-in-Additions-clause-ok : goal.returns-in-Additions-clause-ok
returns-in-Additions-clause-ok g c =
    let adds = additions-of c.args.rest.form c.in-Additions.is in
    let part = part_of-addition c.args.rest.form c.args.rest.heads.now c.args.rest.written.now adds in
    ok-at c.run_add.result c.args.rest.form adds (λ s. g.P.PartService.stands_for c.args.service.now s)
    (λ f p s. Runs g.P.PartService.stands_for g.P.PartService.given g.P.PartService.left f p s c.run_add.new.service c.args.at c.args.out.now c.run_add.new.out)
    _ _ (sym part) c.run_add.ensures.ok
