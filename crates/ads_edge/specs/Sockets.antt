-- What is known of a wire over real sockets.
use Rattle.std.specs.Prelude.{ℕ, suc, zero, List, [], ◌∷◌, ◌++◌, Option, Some, None, Bool, ◌&&◌, ◌||◌, is_some, is_none, nat_lt, vec_len, if◌then◌else◌}
use Rattle.ads_edge.specs.Doors.{is_guarded, knocks}
use Rattle.ads_edge.specs.Peers.{IsPeerOf, is_busy as peers_are_busy}
use Rattle.ads_edge.specs.RefusedPeers.{refused_at}
use Rattle.std.specs.declared.net.socket_addr.SocketAddr.{SocketAddr}
use Rattle.ads_edge.specs.declared.sockets.Sockets.{Sockets}
use Rattle.ads_outside.specs.WireState.{WireState}

-- the numbers from 1 to this one
abbrev pub numbers_to : ℕ → List ℕ
numbers_to zero = []
numbers_to (suc n) = numbers_to n ++ suc n ∷ []

-- the numbers up to the last were opened; neither its log nor its streams nor what it was started with is told
abbrev pub state_of_sockets : ℕ → ℕ → ℕ → ℕ → ℕ → WireState
state_of_sockets last events stops faults wants = record {
  history = record {
    log = None;
    streams = None;
    starts = None;
    opened = numbers_to last;
    events = events;
    ends = 0;
    stops = stops;
  };
  faults = faults;
  wants = wants;
}

-- someone is to be accepted or refused without a wait: where there is a place, who knocks and who was asked in; where there is none,
-- who knocks at guarded doors, unless another waits for a place
abbrev pub has_guest_to_see : Sockets → Bool
has_guest_to_see s = if nat_lt (vec_len s.peers.connections) 64
    then knocks s.doors || is_some s.guest
    else knocks s.doors && is_guarded s.doors && is_none s.guest

-- something is to be done without a wait: for a connection, or someone is to be seen at a door
abbrev pub is_busy : Sockets → Bool
is_busy s = peers_are_busy s.peers || has_guest_to_see s

-- that is the peer of a connection that is there
abbrev pub IsPeerIn : Option Sockets → ℕ → SocketAddr → Type 0
IsPeerIn None number peer = ⊥
IsPeerIn (Some s) number peer = IsPeerOf s.peers.connections.items number peer

-- how many peers were refused since the start
abbrev pub refused_count : Option Sockets → ℕ
refused_count None = 0
refused_count (Some s) = s.doors.refused.count

-- the n-th of them, counted from 0, where it is one of the last
abbrev pub refused_peer : ℕ → Option Sockets → Option SocketAddr
refused_peer n None = None
refused_peer n (Some s) = refused_at n s.doors.refused

-- how many readings of the watched description failed since the start
abbrev pub failed_readings : Option Sockets → ℕ
failed_readings None = 0
failed_readings (Some s) = s.watch.failed

-- how often since the start nobody could be accepted since no descriptor was left
abbrev pub without_descriptor : Option Sockets → ℕ
without_descriptor None = 0
without_descriptor (Some s) = s.doors.without
