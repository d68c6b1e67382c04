use Rattle.ads_commands.specs.Reply.{reply_meant}
use Rattle.ads_commands.proofs.ReplyLemmas.{done_parts, refused_parts}
use Rattle.ads_commands.proofs.reply_writing.append_reply.Goals as goal

pub returns-in_ok-append_fields-clause-ok : goal.returns-in_ok-append_fields-clause-ok
returns-in_ok-append_fields-clause-ok c = done_parts (reply_meant c.args.r.now) c.args.out.now c.put32.new.out c.append_fields.new.out
    c.result_in-result_code.result c.result_in-result_code.ensures c.if-result_code-eq0.true c.in_ok-put32.ensures.ok c.in_ok-append_fields.ensures.ok

pub returns-in_ok-append_zeros-clause-ok : goal.returns-in_ok-append_zeros-clause-ok
returns-in_ok-append_zeros-clause-ok c = refused_parts (reply_meant c.args.r.now) c.args.out.now c.put32.new.out c.append_zeros.new.out
    c.result_in-result_code.result c.zeros_in.result c.result_in-result_code.ensures c.if-result_code-eq0.false c.zeros_in.ensures.number
    c.in_ok-put32.ensures.ok c.in_ok-append_zeros.ensures.ok
