-- How a router takes the frames of a connection. No public clause cites this file.
use Rattle.std.specs.Prelude.{◌≡◌, ◌≢◌, ◌<◌, ℕ, List, [], length, Bool, true, false, not, ◌||◌, ◌==◌, is_some, Option, Some, None, option_map}
use Rattle.spec_plant.specs.Rights.{rights_of}
use Rattle.ams_tcp.specs.Held.{Held}
use Rattle.ads_base.specs.declared.net_id.NetId.{NetId}
use Rattle.spec_formats.specs.Header.{AmsHeader}
use Rattle.spec_machine.specs.Connection.{connection_of}
use Rattle.spec_machine.specs.Piece.{packets_left, after_rest}
use Rattle.spec_relay.specs.RelayState.{Request, RelayConnection, RelayState, is_heard}
use Rattle.spec_relay.specs.Requests.{requests_heard, is_answered_by, request_answered, without_first}
use Rattle.spec_relay.specs.Routing.{at_connection, with_requests}
use Rattle.spec_relay.specs.RelayMoves.{after_frames}
use Rattle.connections.specs.Carries.{IsStreamOf}
use Rattle.connections.specs.Outlets.{Outlets, closing_at}
use Rattle.ams_relay.specs.declared.asked.Asked.{Asked}
use Rattle.ams_relay.specs.declared.router.Relay.{Relay}
use Rattle.ams_relay.specs.declared.router.Router.{Router}
use Rattle.ams_relay.specs.declared.seat.Seat.{Seat}
use Rattle.ams_relay.specs.Holds.{Owners, owner_in, Holds}
use Rattle.ams_relay.specs.Peers.{IsSeat, is_open, net_of, owned_at}

-- a connection is there and not closing
pub record IsHeardAt (c : ℕ) (k : RelayConnection) (s : RelayState) : Type 0 where
  pub found : connection_of c s.connections ≡ Some k
  pub heard : is_heard k ≡ true

-- a connection of this number was opened
abbrev pub IsOpenedAt : ℕ → RelayState → Type 0
IsOpenedAt c s = connection_of c s.connections ≡ None → ⊥

abbrev pub number_of : RelayConnection → ℕ
number_of k = k.number

-- the connection of a number is there and not closing, and each column reaches to its place
pub record IsHeardSeat (relay : Relay) (n : ℕ) (at : Seat) : Type 0 where
  pub number : at.number ≡ n
  pub seat : IsSeat relay.router at
  pub stream : at.place < length relay.streams.items
  pub open_ : closing_at relay.router.outlets at.place ≡ false

-- a connection is not closing, and owns a NetId
pub record IsOwnerSeat (r : Router) (net : List ℕ) (at : Seat) : Type 0 where
  pub seat : IsSeat r at
  pub owned : net_of (owned_at r at.place) ≡ Some net

abbrev pub number_in : Option Seat → Option ℕ
number_in o = option_map (λ (seat : Seat). seat.number) o

-- the requests of connections that are closing or gone are dropped
abbrev pub IsSwept : RelayState → Type 0
IsSwept s = requests_heard s.connections s.world.requests ≡ s.world.requests

-- the request of a response is spent
pub record SpendsOne (asker c : ℕ) (h : AmsHeader) (new : Router) (b : List ℕ) (s : RelayState) : Type 0 where
  pub request : Request
  pub answered : request_answered c h s.world.requests ≡ Some request
  pub asked : request.asker ≡ asker
  pub holds : Holds new b (with_requests (without_first (is_answered_by c h) s.world.requests) s)

-- or there is none
pub record SpendsNone (c : ℕ) (h : AmsHeader) (new : Router) (b : List ℕ) (s : RelayState) : Type 0 where
  pub none : request_answered c h s.world.requests ≡ None
  pub holds : Holds new b s

abbrev pub Spends : Option ℕ → ℕ → AmsHeader → Router → List ℕ → RelayState → Type 0
Spends None c h new b s = SpendsNone c h new b s
Spends (Some asker) c h new b s = SpendsOne asker c h new b s

-- whether one of this asker was
abbrev pub SpendsAt : Bool → ℕ → ℕ → AmsHeader → Router → List ℕ → RelayState → Type 0
SpendsAt true asker c h new b s = SpendsOne asker c h new b s
SpendsAt false asker c h new b s = SpendsNone c h new b s

-- a request whose asked is there and not closing
abbrev pub is_asked_heard : Outlets → Asked → Bool
is_asked_heard es a = is_open es a.asked

-- a NetId is free
pub record Frees (net : List ℕ) (os ps : Owners) : Type 0 where
  pub free : owner_in net ps ≡ None
  pub others : (other : List ℕ) → other ≢ net → owner_in other ps ≡ owner_in other os

-- where one was owned
abbrev pub DisownsIn : Option NetId → Owners → Owners → Type 0
DisownsIn None os ps = ps ≡ os
DisownsIn (Some net) os ps = Frees net.bytes os ps

pub record Disowns (owned : Option NetId) (old new : Router) : Type 0 where
  pub same : new ≡ record old { owners = new.owners }
  pub disowned : DisownsIn owned old.owners.entries new.owners.entries

-- the first two checks of a packet
abbrev pub is_refused : List ℕ → AmsHeader → RelayState → Bool
is_refused payload h s = not (h.len == length payload) || not (is_some (rights_of h.source.net s.world.routes))

-- all frames of a connection that are left are taken, and a broken rest closes it
abbrev pub packets_of : Option RelayConnection → List (List ℕ)
packets_of None = []
packets_of (Some k) = packets_left k

abbrev pub end_of_piece : ℕ → RelayState → RelayState
end_of_piece c s = at_connection c after_rest (after_frames c (packets_of (connection_of c s.connections)) s)

-- a router stands for a state in which a connection is there, of which this is the stream
pub record HoldsWith (c : ℕ) (held : Held) (r : Router) (b : List ℕ) (s : RelayState) : Type 0 where
  pub holds : Holds r b s
  pub connection : RelayConnection
  pub found : connection_of c s.connections ≡ Some connection
  pub there : connection.gone ≡ false
  pub stream : IsStreamOf held connection

-- a frame was taken, and what is left leads to the same end
pub record TakesOne (c : ℕ) (held : Held) (new : Router) (b : List ℕ) (s : RelayState) : Type 0 where
  pub next : RelayState
  pub holds : HoldsWith c held new b next
  pub same_end : end_of_piece c next ≡ end_of_piece c s

-- more is to be taken, or the end is reached
abbrev pub Takes : Bool → ℕ → Held → Router → List ℕ → RelayState → Type 0
Takes true c held new b s = TakesOne c held new b s
Takes false c held new b s = HoldsWith c held new b (end_of_piece c s)
