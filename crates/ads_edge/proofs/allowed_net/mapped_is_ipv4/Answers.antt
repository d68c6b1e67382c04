use Rattle.ads_edge.proofs.NetLemmas.{mapped_number}
use Rattle.ads_edge.proofs.allowed_net.mapped_is_ipv4.Goals as goal

-- by the octets
pub returns : goal.returns
returns c = mapped_number
