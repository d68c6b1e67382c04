-- A net of these texts has the address that was read, and so no more bits than that.
use Rattle.std.proofs.Common.{◌≤◌, refl, sym, subst}
use Rattle.daemon_words.proofs.NetLemmas.{not_so_many}
use Rattle.daemon_words.proofs.net_text.slashed.Goals as goal

pub returns-in_err-bits-clause-none : goal.returns-in_err-bits-clause-none
returns-in_err-bits-clause-none c = λ _ net plain parts.
    not_so_many c.args.address.now c.args.bits.now c.in_ok-address.address c.in_ok-address.ensures.some.1
    (λ n few. c.in_err-bits.ensures.none refl n (subst (λ w. n ≤ w) (sym c.width_of.ensures.width) few)) net parts
