-- The peers that were refused: how many they are, and the last of them.
use Rattle.std.specs.Prelude.{◌≡◌, ℕ, ◌-◌, ◌%◌, ◌&&◌, nat_lt, nat_le, Option, None, if◌then◌else◌, get_or}
use Rattle.std.specs.declared.net.socket_addr.SocketAddr.{SocketAddr}
use Rattle.ads_edge.specs.declared.refused_peers.RefusedPeers.{RefusedPeers}
use Rattle.ads_edge.specs.declared.refused_peers.TheConstants.{KNOWN}

-- no peer was refused
abbrev pub NoneRefused : RefusedPeers → Type 0
NoneRefused r = r.count ≡ 0

-- the n-th of them, counted from 0, where it is one of the last
abbrev pub refused_at : ℕ → RefusedPeers → Option SocketAddr
refused_at n r = if nat_lt n r.count && nat_le (r.count - n) KNOWN then get_or r.last (n % KNOWN) None else None
