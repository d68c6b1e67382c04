use Rattle.std.proofs.Common.{◌≡◌, arith, sym, ◌∙◌}
use Rattle.ads_base.proofs.DecimalLemmas.{decimal-injective}
use Rattle.ads_base.proofs.net_id.last_number_of_net.Goals as goal

pub returns-in_err-byte-clause-none : goal.returns-in_err-byte-clause-none
returns-in_err-byte-clause-none c = λ none n small e.
    let read = c.in_ok-n.ensures.some in
    let same : c.in_ok-n.n ≡ n = decimal-injective c.in_ok-n.n n read.0 (omega arith) (sym read.1 ∙ e) in
    c.in_err-byte.ensures (omega (arith, same))
