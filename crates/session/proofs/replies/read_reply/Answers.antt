use Rattle.std.proofs.Common.{◌++◌, arith, ap, sym, ◌∙◌}
use Rattle.spec_formats.specs.Request.{Read}
use Rattle.session.specs.Asking.{act_asked}
use Rattle.session.proofs.ReplyLemmas.{answer-grows, answer-filled, read-payload}
use Rattle.session.proofs.replies.read_reply.Goals as goal

pub fill_front-requires-clause-there : goal.fill_front-requires-clause-there
fill_front-requires-clause-there c =
    let asked = c.args.asked in
    let a = c.requires.some.asking in
    let grown = answer-grows a.world (act_asked a (Read asked.group asked.offset asked.len))
    c.in_ok-answer.answer _ _ (c.in_ok-answer.ensures.answer a c.requires.some.asks) in
    omega (arith, c.len-start.ensures, c.in_ok-put_room.ensures.long, grown)

pub returns-clause-reply : goal.returns-clause-reply
returns-clause-reply c = λ a asks.
    let asked = c.args.asked in
    let act = act_asked a (Read asked.group asked.offset asked.len) in
    answer-filled a.world act c.in_ok-answer.answer c.args.out.now c.put_room.new.out c.read.new.out c.fill_front.new.out c.len-start.result
    c.number_in.result (c.in_ok-answer.ensures.answer a asks) c.number_in.ensures
    c.len-start.ensures c.in_ok-put_room.ensures.long c.in_ok-put_room.ensures.begins
    c.fill_front.ensures ∙ ap (λ x. c.args.out.now ++ x) (sym (read-payload a.world.memory act))
