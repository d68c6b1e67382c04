use Rattle.std.proofs.Common.{◌<◌, ◌≤◌, ◌∙◌, arith}
use Rattle.replay_script.proofs.RoomLemmas.{takes_left, takes_all, takes_free}
use Rattle.replay_script.proofs.rooms.Rooms.most.Goals as goal

pub returns-then-left-from-clause-most : goal.returns-then-left-from-clause-most
returns-then-left-from-clause-most c = λ rs holds.
    let less : c.in-Some.left < c.args.len = omega (arith, c.if-left-from.true, c.from.ensures) in
    takes_left rs c.args.conn c.args.len c.in-Some.left (c.in-Some.ensures ∙ holds.at c.args.conn) less

pub returns-else-left-from-clause-most : goal.returns-else-left-from-clause-most
returns-else-left-from-clause-most c = λ rs holds.
    let more : c.args.len ≤ c.in-Some.left = omega (arith, c.if-left-from.false, c.from.ensures) in
    takes_all rs c.args.conn c.args.len c.in-Some.left (c.in-Some.ensures ∙ holds.at c.args.conn) more

pub returns-in-None-clause-most : goal.returns-in-None-clause-most
returns-in-None-clause-most c = λ rs holds. takes_free rs c.args.conn c.args.len (c.in-None.ensures ∙ holds.at c.args.conn)
