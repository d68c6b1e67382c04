use Rattle.std.proofs.Common.{arith, sym, ◌∙◌}
use Rattle.ads_base.proofs.DecimalLemmas.{same_decimals}
use Rattle.ads_base.proofs.net_id.number_of_net.Goals as goal

pub returns-in_err-byte-clause-none : goal.returns-in_err-byte-clause-none
returns-in_err-byte-clause-none c = λ none n rest small e.
    let read = c.in_ok-n.ensures.some in
    let same = same_decimals 46 c.in_ok-n.n n c.in_ok-n.rest.now rest (omega arith) read.0 (omega arith) (sym read.1 ∙ e) in
    c.in_err-byte.ensures (omega (arith, same.0))

pub returns-clause-only : goal.returns-clause-only
returns-clause-only c = λ n other small e.
    let read = c.in_ok-n.ensures.some in
    (same_decimals 46 n c.in_ok-n.n other c.in_ok-n.rest.now (omega arith) (omega arith) read.0 (sym e ∙ read.1)).1
