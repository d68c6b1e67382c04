use Rattle.std.proofs.Common.{arith}
use Rattle.ads_commands.proofs.ReplyLemmas.{text_read, none_read}
use Rattle.ads_commands.proofs.reply_reading.read_reply.Goals as goal

pub returns-clause-text : goal.returns-clause-text
returns-clause-text c = text_read c.reply_in.result c.args.command c.args.bytes.now (λ i. omega (arith, c.type_inv.bytes i)) c.reply_in.ensures

pub returns-clause-none : goal.returns-clause-none
returns-clause-none c = none_read c.reply_in.result c.args.command c.args.bytes.now (λ i. omega (arith, c.type_inv.bytes i)) c.reply_in.ensures
