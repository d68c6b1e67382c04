-- The peer of a connection that was found.
use Rattle.std.proofs.Common.{◌≡◌, ℕ, ◌<◌, List, length, get_or}
use Rattle.std.specs.declared.net.socket_addr.SocketAddr.{SocketAddr}
use Rattle.ads_edge.specs.declared.connection.Connection.{Connection}
use Rattle.ads_edge.specs.Peers.{IsPeerOf}

pub peer_found : (connections : List Connection) (number place : ℕ) (peer : SocketAddr) → place < length connections
    → ((d : Connection) → (get_or connections place d).number ≡ number)
    → ((d : Connection) → (get_or connections place d).peer ≡ peer)
    → IsPeerOf connections number peer
peer_found connections number place peer within numbered from = record { place = place; within = within; numbered = numbered; from = from }
