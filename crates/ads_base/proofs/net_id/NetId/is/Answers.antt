use Rattle.std.proofs.Common.{rules, ◌∙◌, sym}
use Rattle.ads_base.proofs.SameNets.{same_nets}
use Rattle.ads_base.proofs.net_id.NetId.is.Goals as goal

pub returns-then-get32 : goal.returns-then-get32
returns-then-get32 c =
    let own = c.args.self.bytes in
    let other = c.args.other.bytes in
    rw c.get16.ensures (rw c.get16-then-get32.ensures
    (same_nets own other (search rules) (search rules) (search rules) (search rules)
    (sym c.get32.ensures ∙ c.if-get32.true ∙ c.get32-2.ensures)))
