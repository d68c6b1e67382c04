use Rattle.std.proofs.Common.{sym, ◌∙◌, arith}
use Rattle.std.proofs.lemmas.List.{take_all}
use Rattle.std.proofs.Math.ListN.{length-set}
use Rattle.server_core.specs.Columns.{skipped, with_skip}
use Rattle.server_core.proofs.SkipLemmas.{skip_next, skipped_length}
use Rattle.server_core.proofs.clients.skip_closing.Goals as goal

pub loop-i-preserved : goal.loop-i-preserved
loop-i-preserved c =
    let us = c.loop-i.sessions.items in
    let i = c.loop-i.i in
    let inv = c.loop-i.invariant in
    let a = c.index_mut.result.now in
    let next = skip_next c.args.outlets.now c.args.sessions.now.items us i a c.is_closing.result (omega (arith, inv.many)) inv.many
    c.index_mut.ensures.value c.is_closing.ensures inv.marked inv.left in
    record {
      many = length-set us i (with_skip c.is_closing.result a) ∙ inv.many;
      marked = next.marked;
      left = next.left;
    }

pub returns : goal.returns
returns c =
    let us = c.loop-i.sessions.items in
    let i = c.loop-i.i in
    let inv = c.loop-i.invariant in
    let all = skipped c.args.outlets.now c.args.sessions.now.items in
    sym (take_all i us (omega (arith, inv.many))) ∙ inv.marked
    ∙ take_all i all (omega (arith, inv.many, skipped_length c.args.outlets.now c.args.sessions.now.items))
