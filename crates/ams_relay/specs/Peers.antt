-- What is kept of connections beside their outlets, found by their numbers.
use Rattle.std.specs.Prelude.{◌≡◌, ◌≢◌, ℕ, ◌<◌, List, length, slice_get, Bool, false, not, if◌then◌else◌}
use Rattle.std.specs.Prelude.{Option, Some, None, option_map}
use Rattle.std.specs.Map.{keys_of}
use Rattle.ads_base.specs.declared.net_id.NetId.{NetId}
use Rattle.connections.specs.Entries.{IsEntry}
use Rattle.connections.specs.Outlets.{Outlets, beside, closing_at, read_among}
use Rattle.connections.specs.declared.outlet.Outlet.{Outlet}
use Rattle.ams_relay.specs.declared.peer.Peer.{Peer}
use Rattle.ams_relay.specs.declared.router.Router.{Router}
use Rattle.ams_relay.specs.declared.seat.Seat.{Seat}

-- of each number the peer that stands beside its outlet
abbrev pub Peers : Type 0
Peers = ℕ → Option Peer

abbrev pub peers_in : Router → Peers
peers_in r n = beside n r.outlets r.peers.items

-- the one of a number is this now, and no other changes
pub record Sets {X : Type 0} (n : ℕ) (q : X) (old new : ℕ → Option X) : Type 0 where
  pub others : (m : ℕ) → m ≢ n → new m ≡ old m
  pub own : new n ≡ Some q

-- the connection of a number stands at a place, in each column
pub record IsSeat (r : Router) (seat : Seat) : Type 0 where
  pub entry : IsEntry r.outlets seat.number seat.place
  pub within : seat.place < length r.peers.items

-- where connections stand, and how many peers there are
abbrev pub places_of : Router → List ℕ × ℕ
places_of r = (keys_of r.outlets, length r.peers.items)

-- a connection of this number is there, and not closing
abbrev pub is_open : Outlets → ℕ → Bool
is_open es n = read_among (λ (o : Outlet). not o.closing) false es n

abbrev pub net_of : Option NetId → Option (List ℕ)
net_of o = option_map (λ (net : NetId). net.bytes) o

abbrev pub owned_of : Option Peer → Option NetId
owned_of None = None
owned_of (Some p) = p.owned

-- what the connection at a place owns, unless it is closing
abbrev pub owned_at : Router → ℕ → Option NetId
owned_at r i = if closing_at r.outlets i then None else owned_of (slice_get r.peers.items i)
