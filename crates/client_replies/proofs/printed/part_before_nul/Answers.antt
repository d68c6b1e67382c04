use Rattle.std.proofs.Common.{sym, ◌∙◌, arith}
use Rattle.value_text.proofs.QuoteLemmas.{before_nul-here, before_nul-more, before_nul-end}
use Rattle.client_replies.proofs.printed.part_before_nul.Goals as goal

pub returns-then-bytes-i-eq0 : goal.returns-then-bytes-i-eq0
returns-then-bytes-i-eq0 c = sym (before_nul-here c.args.bytes.now c.loop-i.i c.loop-i-test.true c.if-bytes-i-eq0.true) ∙ c.loop-i.invariant

pub loop-i-preserved : goal.loop-i-preserved
loop-i-preserved c = sym (before_nul-more c.args.bytes.now c.loop-i.i c.loop-i-test.true c.if-bytes-i-eq0.false) ∙ c.loop-i.invariant

pub returns : goal.returns
returns c = sym (before_nul-end c.args.bytes.now c.loop-i.i (omega arith)) ∙ c.loop-i.invariant
