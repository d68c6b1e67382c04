use Rattle.sum_commands.specs.SumCommand.{sum_of}
use Rattle.session.proofs.SumLemmas.{begun_now, begins-now, sum-lent, ok-grows}
use Rattle.session.proofs.sums.run_parts.Goals as goal

pub returns-clause-handles : goal.returns-clause-handles
returns-clause-handles c =
    let x = c.args.asked.now in
    (sum-lent c.args.single.now c.run_sum.new.service (begun_now c.args.single.now c.requires.some.state) (sum_of x.group x.offset x.bytes.now) _ _
    c.run_sum.result (begins-now c.args.single.now c.requires.some.state c.requires.some.stands)
    c.run_sum.ensures.err c.run_sum.ensures.leaves c.run_sum.ensures.wants).handles

pub returns-clause-watches : goal.returns-clause-watches
returns-clause-watches c =
    let x = c.args.asked.now in
    (sum-lent c.args.single.now c.run_sum.new.service (begun_now c.args.single.now c.requires.some.state) (sum_of x.group x.offset x.bytes.now) _ _
    c.run_sum.result (begins-now c.args.single.now c.requires.some.state c.requires.some.stands)
    c.run_sum.ensures.err c.run_sum.ensures.leaves c.run_sum.ensures.wants).watches

pub returns-clause-port : goal.returns-clause-port
returns-clause-port c =
    let x = c.args.asked.now in
    (sum-lent c.args.single.now c.run_sum.new.service (begun_now c.args.single.now c.requires.some.state) (sum_of x.group x.offset x.bytes.now) _ _
    c.run_sum.result (begins-now c.args.single.now c.requires.some.state c.requires.some.stands)
    c.run_sum.ensures.err c.run_sum.ensures.leaves c.run_sum.ensures.wants).port

pub returns-clause-keeps : goal.returns-clause-keeps
returns-clause-keeps c =
    let x = c.args.asked.now in
    (sum-lent c.args.single.now c.run_sum.new.service (begun_now c.args.single.now c.requires.some.state) (sum_of x.group x.offset x.bytes.now) _ _
    c.run_sum.result (begins-now c.args.single.now c.requires.some.state c.requires.some.stands)
    c.run_sum.ensures.err c.run_sum.ensures.leaves c.run_sum.ensures.wants).keeps

pub returns-clause-grows : goal.returns-clause-grows
returns-clause-grows c =
    let x = c.args.asked.now in
    ok-grows c.args.single.now c.run_sum.new.service (begun_now c.args.single.now c.requires.some.state) (sum_of x.group x.offset x.bytes.now) _ _
    c.run_sum.result (begins-now c.args.single.now c.requires.some.state c.requires.some.stands) c.run_sum.ensures.err c.run_sum.ensures.reply
