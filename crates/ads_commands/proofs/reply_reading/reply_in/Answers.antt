use Rattle.std.proofs.Common.{sym, arith}
use Rattle.spec_formats.proofs.ReplyLemmas.{reply_of-other}
use Rattle.ads_commands.proofs.reply_reading.reply_in.Goals as goal

pub returns-in_default : goal.returns-in_default
returns-in_default c = sym (reply_of-other c.args.command c.args.bytes.now (
  (λ e. omega arith),
  (
    (λ e. omega arith),
    (
      (λ e. omega arith),
      ((λ e. omega arith), ((λ e. omega arith), ((λ e. omega arith), ((λ e. omega arith), ((λ e. omega arith), tt))))),
    ),
  ),
))
